-- The walk keeps the invariant from cell to cell, no cell that is run again asks for a draw, and so the walk comes to its end.
use Rattle.std.proofs.Common.{◌≡◌, ℕ, zero, suc, ◌<◌, ◌≤◌, List, [], ◌∷◌, refl, ◌⊎◌, inl, inr, arith}
use Rattle.std.specs.Prelude.{Contains}
use Rattle.std.specs.FinMap as finite
use Rattle.std.specs.Ordering.{nat_cmp}
use Rattle.std.specs.Cmp.Lexicographic.{slice_cmp}
use Rattle.std.proofs.lemmas.Bool.{cases_eq, cases_Bool}
use Rattle.py_heap.specs.declared.state.State.{State}
use Rattle.py_heap.specs.States.{empty, without_name}
use Rattle.py_heap.specs.References.{IsClosed}
use Rattle.py_heap.proofs.Closed.{empty_closed}
use Rattle.py_meaning.specs.Cells.{Asks}
use Rattle.py_laws.proofs.Partners.{first_in, later_in}
use Rattle.py_laws.proofs.Reached.{has_number}
use Rattle.graph_model.specs.declared.graph.CellRecord.{CellRecord}
use Rattle.graph_model.specs.declared.graph.Version.{Version}
use Rattle.graph_model.specs.declared.graph.Graph.{Graph}
use Rattle.graph_model.specs.declared.plan.Plan.{Plan}
use Rattle.graph_model.specs.Graphs.{CellAt, VersionAt}
use Rattle.graph_model.specs.Plans.{NamesOf, IsFeasible}
use Rattle.graph_model.proofs.Lookups.{cell_within}
use Rattle.run_graph.specs.Histories.{Run, IsHistory}
use Rattle.run_graph.specs.Soundness.{TreeReader, IsRun, Follows}
use Rattle.run_graph.proofs.Holding.{left_deleted}
use Rattle.replay_laws.specs.Walks.{done_again, Passes, GivesBack, GivesAllBack, Walked, begins, goes_on}
use Rattle.replay_laws.specs.Copies.{AreCopies, with_copy}
use Rattle.replay_laws.specs.Standing.{IsGivenBack, IsGood}
use Rattle.replay_laws.proofs.Copying.{copy_loaded}
use Rattle.replay_laws.proofs.Steps.{again, passed, after_loads, given_good}

module _ (read : TreeReader) (copy : ℕ → State) (r : Run) (g : Graph) (p : Plan) (run : IsRun r) (follows : Follows read r) (h : IsHistory r g) (names : NamesOf g p) (feasible : IsFeasible g p)
    (copies : AreCopies g p (r.state r.cells) copy) where
  abbrev Good : ℕ → State → Type 0
  Good c t = IsGood r g c (IsGivenBack p) t

  at_first : Good 0 empty
  at_first = record {
    closed = empty_closed;
    stands = λ v x k b.
        let w = h.versions v x k.at in
        let e = w.1 in
        let m = k.written in
        let none : ⊥ = omega (arith, e, m) in
        absurd none;
    never = λ name none. finite.get-empty (slice_cmp nat_cmp) name;
  }

  pub walk_good : (c : ℕ) (t : State) → Walked read copy g p c t → c ≤ r.cells → Good c t
  walk_good _ _ begins l = at_first
  walk_good _ _ (goes_on c t m u before passes gives) l =
      after_loads read r g p run follows h names feasible c (omega (arith, l)) copy copies m u gives
      (passed read r g p run follows h names feasible c (omega (arith, l)) t m passes (walk_good c t before (omega (arith, l))))

  below : (c : ℕ) (x : CellRecord) → CellAt g (suc c) x → c < r.cells
  below c x at = let w = (cell_within g (suc c) x at).1 in let e = h.cells in omega (arith, w, e)

  pub never_asks : (c : ℕ) (t : State) (x : CellRecord) → Walked read copy g p c t → Contains p.rerun (suc c) → CellAt g (suc c) x → ¬ Asks (done_again read x t)
  never_asks c t x w rerun at =
      let l : c < r.cells = below c x at in
      (again read r g p run follows h names feasible c l x at rerun t (walk_good c t w (omega (arith, l)))).ends

  -- ---- it comes to its end

  give_one : (c : ℕ) (v : ℕ) (x : Version) (t : State) → Contains p.copied v → VersionAt g v x → x.writer ≡ suc c → IsClosed t → (u : State) × GivesBack copy v x t u
  give_one c v x t copied vt writes closed = elim (cases_Bool x.absent) [
    | inl gone ↦ let d = left_deleted r run g h v x vt c writes gone in (without_name t d.0, inr (gone, d.0, d.1, refl))
    | inr there ↦ let w = copies v x copied vt there (feasible.no_handle v x copied vt) in (with_copy (copy v) x.names t, inl (there, copy_loaded (copy v) w.0 x.names t closed))
  ]

  give_all : (c : ℕ) → c < r.cells → (vs : List ℕ) → ((v : ℕ) → Contains vs v → Contains p.copied v) → (IsBack : ℕ → Version → Type 0) (t : State) → IsGood r g (suc c) IsBack t
      → (u : State) × GivesAllBack copy g (suc c) vs t u
  give_all c l [] within IsBack t good = (t, refl)
  give_all c l (v ∷ vs) within IsBack t good =
      let copied : Contains p.copied v = within v (first_in v vs) in
      let w = names.copied v copied in
      let x : Version = w.0 in
      let vt : VersionAt g v x = w.1.0 in
      let rest : (w : ℕ) → Contains vs w → Contains p.copied w = λ w n. within w (later_in v vs w n) in
      elim (cases_eq x.writer (suc c)) [
        | inl writes ↦
            let gives = give_one c v x t copied vt writes good.closed in
            let m : State = gives.0 in
            let one = given_good read r g p run follows h names feasible c l copy copies v x copied vt writes IsBack t m gives.1 good in
            let more = give_all c l vs rest (λ w y. IsBack w y ⊎ (w ≡ v)) m one in
            (more.0, (x, m, vt, inl (writes, gives.1), more.1))
        | inr differs ↦
            let more = give_all c l vs rest IsBack t good in
            (more.0, (x, t, vt, inr (differs, refl), more.1))
      ]

  pass_one : (c : ℕ) → c < r.cells → (t : State) → Good c t → (m : State) × Passes read g p (suc c) t m
  pass_one c l t good = elim (has_number p.rerun (suc c)) [
    | inl rerun ↦
        let w = names.rerun (suc c) rerun in
        ((done_again read w.0 t).1.state, inl (rerun, w.0, w.1, (again read r g p run follows h names feasible c l w.0 w.1 rerun t good).ends, refl))
    | inr not_rerun ↦ (t, inr (not_rerun, refl))
  ]

  pub walk_made : (c : ℕ) → c ≤ r.cells → (t : State) × Walked read copy g p c t
  walk_made zero l = (empty, begins)
  walk_made (suc c) l =
      let before = walk_made c (omega (arith, l)) in
      let t : State = before.0 in
      let less : c < r.cells = omega (arith, l) in
      let good : Good c t = walk_good c t before.1 (omega (arith, l)) in
      let on = pass_one c less t good in
      let now = passed read r g p run follows h names feasible c less t on.0 on.1 good in
      let given = give_all c less p.copied (λ v n. n) (λ v x. IsGivenBack p v x × ((x.writer ≤ c) ⊎ Contains p.rerun (suc c))) on.0 now in
      (given.0, goes_on c t on.0 given.0 before.1 on.1 given.1)
