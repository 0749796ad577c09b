-- A cell from a plain state.
use Rattle.std.proofs.Common.{◌≡◌, ℕ, ◌≤◌, List, Option, Some, sym, ◌∙◌, Result, Ok, Err, arith}
use Rattle.std.specs.FinMap as finite
use Rattle.std.specs.Ordering.{nat_cmp}
use Rattle.std.specs.Cmp.Lexicographic.{slice_cmp}
use Rattle.std.proofs.lemmas.Option.{none-some}
use Rattle.nb_outside.specs.declared.feed.Drawn.{Drawn}
use Rattle.py_tree.specs.declared.statements.Stmt.{Stmt}
use Rattle.py_value.specs.declared.value.Value.{Value}
use Rattle.py_heap.specs.declared.state.State.{State}
use Rattle.py_heap.specs.States.{empty}
use Rattle.py_machine.specs.declared.machine.Machine.{Machine}
use Rattle.py_machine.specs.Runs.{Stop, start}
use Rattle.py_meaning.specs.Cells.{outcome, end_state}
use Rattle.plain_states.specs.Constants.{constants_in}
use Rattle.plain_states.specs.Plain.{ArePlain, AreWords, IsPlainState}
use Rattle.plain_states.proofs.Judging.{none, IsPlainMachine, EndsWith, Any}
use Rattle.plain_states.proofs.Shapes.{runs_each}
use Rattle.plain_states.proofs.Constructs.{cell_plain}

-- ---- the start and the end of a cell

started : (s : State) → IsPlainState s → IsPlainMachine none (start s)
started s h = record {
  names = h.names;
  frame = tt;
  objects = λ at held e. let w = h.objects at held e in (w.0, let l = w.1 in omega (arith, l));
  few = let l = h.few in omega (arith, l);
  meter = h.meter;
  looked = let l = finite.len-empty (slice_cmp nat_cmp) (Unit {0}) in omega (arith, l);
}

ended : (r : Result (Option (List ℕ)) Stop) (m : Machine) → EndsWith none Any r m → IsPlainMachine none m
ended (Ok a) m h = h.0
ended (Err e) m h = h

module _ (body : List Stmt) (draws : List Drawn) (s : State) (constants : ArePlain (constants_in body)) (words : AreWords draws) (h : IsPlainState s) where
  at_end : IsPlainMachine none (outcome body s draws).1
  at_end = ended (outcome body s draws).0 (outcome body s draws).1 ((cell_plain body (runs_each body constants)).ends draws (start s) words (started s h))

  pub plain_after : IsPlainState (end_state body s draws)
  plain_after = record {
    names = at_end.names;
    objects = λ at held e. let w = at_end.objects at held e in (w.0, let l = w.1 in omega (arith, l));
    few = let l = at_end.few in omega (arith, l);
    meter = at_end.meter;
  }

  pub few_looked : finite.len (outcome body s draws).1.marks.looked ≤ (outcome body s draws).1.steps
  few_looked = let l = at_end.looked in omega (arith, l)

pub plain_empty : IsPlainState empty
plain_empty = record {
  names = λ name held e. absurd (nothing name held e);
  objects = λ at held e. absurd (none-some held e);
  few = omega arith;
  meter = omega arith;
}
  where
    nothing : (name : List ℕ) (held : Value) → finite.get empty.globals name ≡ Some held → ⊥
    nothing name held e = none-some held (sym (finite.get-empty (slice_cmp nat_cmp) name) ∙ e)
