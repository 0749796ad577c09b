-- A session that may go on may go on after a cell.
use Rattle.std.proofs.Common.{◌≡◌, ℕ, ◌≤◌, Bool, List, [], ◌∷◌, ◌++◌, length, sym, ap, ◌∙◌, subst, arith}
use Rattle.std.specs.Prelude.{All}
use Rattle.std.specs.Str.{IsUtf8}
use Rattle.std.proofs.lemmas.Str.{IsUtf8-from_is_utf8}
use Rattle.std.proofs.lemmas.List.Elements.{All-nil, All-cons, All-append}
use Rattle.nb_outside.specs.declared.feed.Drawn.{Drawn}
use Rattle.py_tree.specs.declared.statements.Stmt.{Stmt}
use Rattle.py_heap.specs.declared.state.State.{State}
use Rattle.py_machine.specs.declared.marks.Marks.{Marks}
use Rattle.py_machine.specs.Runs.{start}
use Rattle.py_meaning.specs.Cells.{outcome, end_state}
use Rattle.py_meaning.specs.Meaning.{cell}
use Rattle.py_meaning.proofs.Growing.{rises}
use Rattle.reader_laws.specs.Valid.{IsValidState}
use Rattle.graph_model.specs.declared.graph.CellRecord.{CellRecord}
use Rattle.run_graph.specs.RunLists.{ListedCell, raised, entry_done}
use Rattle.run_graph.specs.Soundness.{statements}
use Rattle.every_history.specs.Reading.{read}
use Rattle.every_history.proofs.Valid.{cell_valid}
use Rattle.every_history.proofs.Leading.{led_on}
use Rattle.checkpoint_bytes.specs.Sessions.{IsWithinBounds}
use Rattle.history_graph.specs.declared.history.History.{History}
use Rattle.history_graph.specs.Touched.{Records}
use Rattle.history_graph.specs.Ends.{LedTo}
use Rattle.history_graph.specs.Usable.{IsUsableHistory}
use Rattle.restore_run.specs.Usable.{IsUsableSession}
use Rattle.notebook_meaning.specs.Cells.{recorded}
use Rattle.notebook_meaning.proofs.Recorded.{is_code, reads_alike}

module _ (t s : State) (old now : History) (code : List ℕ) (utf8 : IsUtf8 code) (draws : List Drawn) (counted : Bool) (meter steps : ℕ) (marks : Marks) (usable : IsUsableSession t old) where
  abbrev E : ListedCell
  E = record { code = recorded code; draws = draws; counted = counted }

  abbrev Body : List Stmt
  Body = statements (read code)

  done_is : entry_done read E t ≡ outcome Body (raised E t) draws
  done_is = ap (λ tree. outcome (statements tree) (raised E t) draws) (reads_alike code utf8)

  few_steps : (entry_done read E t).1.steps ≤ 1000000
  few_steps = (rises (cell (statements (read E.code))) draws (start (raised E t))).few_steps (omega arith)

  -- the cell ended in s, with these steps and marks
  module _ (state : s ≡ end_state Body (raised E t) draws) (units : meter ≡ t.meter) (taken : steps ≡ (outcome Body (raised E t) draws).1.steps)
      (noted : marks ≡ (outcome Body (raised E t) draws).1.marks) where
    ended : (entry_done read E t).1.state ≡ s
    ended = ap (λ o. o.1.state) done_is ∙ sym state

    valid : IsValidState s
    valid = subst IsValidState ended (cell_valid E t (IsUtf8-from_is_utf8 (recorded code) (is_code code utf8).0) usable.valid)

    led : LedTo t meter marks s
    led =
        subst (LedTo t meter marks) ended
        (subst (λ (m : Marks). LedTo t meter m (entry_done read E t).1.state) (ap (λ o. o.1.marks) done_is ∙ sym noted)
        (subst (λ (n : ℕ). LedTo t n (entry_done read E t).1.marks (entry_done read E t).1.state) (sym units) (led_on E t usable.valid)))

    record_bounded : (x : CellRecord) → x.code ≡ recorded code → x.meter ≡ meter → x.steps ≡ steps → IsWithinBounds x
    record_bounded x code_is meter_is steps_is = record {
      code = subst (λ (text : List ℕ). length text ≤ 262148) (sym code_is) (is_code code utf8).1;
      meter = subst (λ (n : ℕ). n ≤ 16777216) (sym (meter_is ∙ units)) usable.valid.meter;
      steps = subst (λ (n : ℕ). n ≤ 1000000) (sym (steps_is ∙ (taken ∙ sym (ap (λ o. o.1.steps) done_is)))) few_steps;
    }

    pub lasts : ((before : State) → IsUsableHistory before old → LedTo before meter marks s → IsUsableHistory s now) → Records old.graph (recorded code) meter steps marks now.graph → IsUsableSession s now
    lasts stays recording = record {
      valid = valid;
      history = stays t usable.history led;
      cells = subst (λ (cells : List CellRecord). All IsWithinBounds cells) (sym recording.1)
          (All-append IsWithinBounds old.graph.cells (recording.0 ∷ []) usable.cells
          (All-cons IsWithinBounds recording.0 [] (record_bounded recording.0 recording.2.code recording.2.meter recording.2.steps) (All-nil IsWithinBounds)));
    }
