-- A cell that is run again keeps the state valid, or it asks for a draw.
use Rattle.std.proofs.Common.{◌≡◌, ◌⊎◌, ℕ, ◌+◌, ◌-◌, ◌≤◌, List, [], refl, sym, subst, inl, inr, arith}
use Rattle.std.specs.Prelude.{All, Contains}
use Rattle.std.specs.Str.{IsUtf8}
use Rattle.std.proofs.lemmas.Option.{slice_get_within, get_or_from_slice_get}
use Rattle.py_heap.specs.declared.state.State.{State}
use Rattle.py_heap.proofs.Validity.{meter_valid}
use Rattle.py_meaning.specs.Cells.{Asks}
use Rattle.py_laws.proofs.Validity.{valid_after}
use Rattle.py_reader.specs.Verdict.{verdict}
use Rattle.reader_laws.specs.Texts.{IsItsText}
use Rattle.reader_laws.specs.Valid.{IsValidState}
use Rattle.reader_laws.proofs.Cells.{body_allowed}
use Rattle.graph_model.specs.declared.graph.CellRecord.{CellRecord}
use Rattle.graph_model.specs.Graphs.{CellAt}
use Rattle.run_graph.specs.Soundness.{statements, done_by}
use Rattle.every_history.specs.Reading.{read}
use Rattle.every_history.proofs.Valid.{allowed_in}
use Rattle.checkpoint_bytes.specs.Sessions.{IsWithinBounds}
use Rattle.checkpoint_reader.specs.declared.checkpoint.Checkpoint.{Checkpoint}
use Rattle.replay_laws.specs.Walks.{with_meter, done_again}
use Rattle.restore_run.specs.declared.fault.RestoreFault.{RestoreFault}
use Rattle.restore_run.specs.declared.fault.RestoreFault.TheVariants as fault
use Rattle.restore_run.specs.Restoring.{IsWalked, DrawsAgain}

pub again_valid : (code : List ℕ) (meter : ℕ) (t u : State) → IsUtf8 code → meter ≤ 16777216 → IsValidState t → u ≡ (done_by read code (with_meter t meter) []).1.state → IsValidState u
again_valid code meter t u utf8 within valid is =
    subst IsValidState (sym is) (valid_after IsItsText body_allowed (statements (read code)) [] (with_meter t meter) (allowed_in code utf8 (verdict code) refl) (meter_valid IsItsText t meter valid within))

-- a recorded cell began with a meter within the limit
pub began_within : (k : Checkpoint) → All IsWithinBounds k.graph.cells → (n : ℕ) (x : CellRecord) → CellAt k.graph n x → x.meter ≤ 16777216
began_within k bounds n x at =
    let cells : List CellRecord = k.graph.cells in
    let bound = bounds (n - 1) x (slice_get_within cells (n - 1) x at.1) in
    subst (λ (y : CellRecord). y.meter ≤ 16777216) (get_or_from_slice_get cells (n - 1) x x at.1) bound.meter

-- why the walk ends at the cell after cell c
pub stopped : (k : Checkpoint) (c : ℕ) (t : State) (x : CellRecord) (f : RestoreFault) → IsWalked k c t → CellAt k.graph (c + 1) x
    → (f ≡ fault.OutOfMemory) ⊎ ((f ≡ fault.DrewAgain (c + 1)) × Contains k.plan.rerun (c + 1) × Asks (done_again read x t)) → (f ≡ fault.OutOfMemory) ⊎ ((n : ℕ) × (f ≡ fault.DrewAgain n) × DrawsAgain k n)
stopped k c t x f walked at why = elim why [
  | inl e ↦ inl e
  | inr w ↦
      let back : c ≡ c + 1 - 1 = omega arith in
      inr (c + 1, w.0, record { before = t; walked = subst (λ n. IsWalked k n t) back walked; rerun = w.1; cell = x; at = at; asks = w.2 })
]
