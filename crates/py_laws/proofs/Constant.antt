-- No run changes a tuple, or marks one as changed.
use Rattle.std.proofs.Common.{◌≡◌, ℕ, ◌+◌, ◌<◌, Bool, true, false, cond, List, Option, Some, None, Ok, refl, sym, ap, ◌∙◌, subst, inl, inr}
use Rattle.std.specs.Prelude.{slice_get, nat_lt, nat_le}
use Rattle.std.proofs.lemmas.Bool.{cases_eq}
use Rattle.std.proofs.lemmas.Option.{none-some, slice_get_within}
use Rattle.py_value.specs.declared.value.Value.{Value}
use Rattle.py_heap.specs.declared.heap.Object.{Object}
use Rattle.py_heap.specs.declared.heap.Object.TheVariants as object
use Rattle.py_heap.specs.States.{with_object, with_object_at}
use Rattle.py_machine.specs.declared.frame.Change.{Change}
use Rattle.py_machine.specs.declared.machine.Machine.{Machine}
use Rattle.py_machine.specs.Changes.{changed_in}
use Rattle.py_machine.specs.Errors.{step_limit_error, memory_error}
use Rattle.py_machine.specs.Marked.{IsIn}
use Rattle.py_machine.specs.Marked as event
use Rattle.py_machine.specs.Runs.{Outcome, marked}
use Rattle.py_machine.specs.Runs as runs
use Rattle.py_meaning.specs.Acts.{Act, run}
use Rattle.py_meaning.specs.Kept.{Keeps, Leaves}
use Rattle.py_meaning.proofs.Keeping.{IsKept, run_keeps}
use Rattle.py_laws.proofs.Members.{number_before}
use Rattle.py_laws.proofs.Bindings.{get_kept, set_other}

-- at this address there is this tuple
abbrev Holds : Machine → ℕ → List Value → Type 0
Holds m at items = slice_get m.state.heap at ≡ Some (object.Tuple items)

-- each tuple stays, and is marked only if it was
pub record Constant (m n : Machine) : Type 0 where
  pub stay : (at : ℕ) (items : List Value) → Holds m at items → Holds n at items
  pub unmarked : (at : ℕ) (items : List Value) → Holds m at items → IsIn n.marks.changed at → IsIn m.marks.changed at

idle : (m n : Machine) → n.state.heap ≡ m.state.heap → n.marks.changed ≡ m.marks.changed → Constant m n
idle m n e f = record {
  stay = λ at items h. ap (λ (heap : List Object). slice_get heap at) e ∙ h;
  unmarked = λ at items h i. subst (λ s. IsIn s at) f i;
}

either : (m : Machine) (b : Bool) (o u : Outcome (Unit {0})) → Constant m o.1 → Constant m u.1 → Constant m (cond b o u).1
either m true o u h k = h
either m false o u h k = k

steps_keep : Leaves Constant runs.step
unfolding runs.step
steps_keep m =
    either m (nat_lt m.steps 1000000) (Ok tt, record m { steps = m.steps + 1 }) (runs.raise step_limit_error m)
    (idle m (record m { steps = m.steps + 1 }) refl refl) (idle m m refl refl)

charges_keep : (n : ℕ) → Leaves Constant (runs.charge n)
unfolding runs.charge
charges_keep n m =
    either m (nat_le (m.state.meter + n) 16777216) (Ok tt, record m { state = record m.state { meter = m.state.meter + n } }) (runs.raise memory_error m)
    (idle m (record m { state = record m.state { meter = m.state.meter + n } }) refl refl) (idle m m refl refl)

-- a change is for no tuple
no_change : (c : Change) (new : Object) (o : Option Object) (items : List Value) → changed_in c o ≡ Some new → o ≡ Some (object.Tuple items) → ⊥
no_change c new o items e h = none-some new (sym (ap (changed_in c) h) ∙ e)

changes_keep : (a : ℕ) (c : Change) (new : Object) (m : Machine) → changed_in c (slice_get m.state.heap a) ≡ Some new
    → Constant m (marked (event.Change a) (record m { state = with_object_at m.state a new }))
changes_keep a c new m e =
    let apart : (at : ℕ) (items : List Value) → Holds m at items → a ≡ at → ⊥ = λ at items h same.
    no_change c new (slice_get m.state.heap a) items e (ap (λ (k : ℕ). slice_get m.state.heap k) same ∙ h) in
    record {
      stay = λ at items h. set_other m.state.heap a at new (apart at items h) ∙ h;
      unmarked = λ at items h i. elim (number_before m.marks.changed a at i) [
        | inl same ↦ absurd (apart at items h (sym same))
        | inr before ↦ before
      ];
    }

constant_kept : IsKept Constant
constant_kept = record {
  same = λ m. idle m m refl refl;
  trans = λ a b c p q. record {
    stay = λ at items h. q.stay at items (p.stay at items h);
    unmarked = λ at items h i. p.unmarked at items h (q.unmarked at items (p.stay at items h) i);
  };
  steps = steps_keep;
  charges = charges_keep;
  looks = λ name m. idle m _ refl refl;
  binds = λ name held m. idle m _ refl refl;
  unbinds = λ name m. idle m _ refl refl;
  frames = λ frame m. idle m _ refl refl;
  adds = λ new m. record {
    stay = λ at items h. get_kept m.state.heap new at (slice_get_within m.state.heap at (object.Tuple items) h) ∙ h;
    unmarked = λ at items h i. i;
  };
  changes = changes_keep;
  writes = λ bytes m. idle m _ refl refl;
  draws = λ d m. idle m _ refl refl;
}

pub constant : {A : Type 0} (p : Act A) → Keeps Constant (run p)
constant p = run_keeps Constant constant_kept p
