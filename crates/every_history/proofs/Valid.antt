-- A cell leaves a valid state valid, whatever it draws, and the empty state is valid.
use Rattle.std.proofs.Common.{◌≡◌, Ok, Err, refl, sym, ◌∙◌, List, ℕ, arith}
use Rattle.std.specs.Str.{IsUtf8}
use Rattle.std.specs.FinMap as finite
use Rattle.std.specs.Ordering.{nat_cmp}
use Rattle.std.specs.Cmp.Lexicographic.{slice_cmp}
use Rattle.std.proofs.lemmas.Option.{none-some}
use Rattle.std.proofs.lemmas.List.Elements.{All-nil}
use Rattle.py_heap.specs.declared.state.State.{State}
use Rattle.py_heap.specs.States.{empty}
use Rattle.py_heap.specs.Valid.{IsValidObject}
use Rattle.py_heap.proofs.Closed.{empty_closed}
use Rattle.py_laws.specs.Allowed.{IsAllowed, AreAllowed}
use Rattle.py_laws.proofs.Validity.{valid_after}
use Rattle.py_reader.specs.Verdict.{Judged, verdict}
use Rattle.reader_laws.specs.Texts.{IsItsText}
use Rattle.reader_laws.specs.Valid.{IsValidState}
use Rattle.reader_laws.proofs.Cells.{cell_allowed, body_allowed}
use Rattle.run_graph.specs.Soundness.{statements}
use Rattle.run_graph.specs.RunLists.{ListedCell, raised, entry_done}
use Rattle.every_history.specs.Reading.{tree_in, read}

pub empty_valid : IsValidState empty
empty_valid = record {
  closed = empty_closed;
  names = λ name held e. absurd (none-some held (sym (finite.get-empty (slice_cmp nat_cmp) name) ∙ e));
  objects = All-nil (IsValidObject IsItsText);
  meter = omega arith;
}

raised_valid : (e : ListedCell) (s : State) → IsValidState s → IsValidState (raised e s)
raised_valid e s v = record { closed = record { names = v.closed.names; objects = v.closed.objects }; names = v.names; objects = v.objects; meter = v.meter }

-- a code without a tree has no statements
pub allowed_in : (code : List ℕ) → IsUtf8 code → (o : Judged) → verdict code ≡ o → AreAllowed IsItsText (statements (tree_in o))
allowed_in code u (Ok body) e = cell_allowed code body u e
allowed_in code u (Err fault) e = All-nil (IsAllowed IsItsText)

pub cell_valid : (e : ListedCell) (s : State) → IsUtf8 e.code → IsValidState s → IsValidState (entry_done read e s).1.state
cell_valid e s u v = valid_after IsItsText body_allowed (statements (read e.code)) e.draws (raised e s) (allowed_in e.code u (verdict e.code) refl) (raised_valid e s v)
