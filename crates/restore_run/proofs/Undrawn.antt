-- A run that is given no draws takes none; so a cell that took some asks for one if it is given none.
use Rattle.std.proofs.Common.{◌≡◌, ℕ, Bool, true, false, cond, List, [], Option, Some, None, Result, Ok, Err, refl, sym, ap, ◌∙◌, ◌⊎◌, inl, inr}
use Rattle.std.specs.Prelude.{◌+◌, nat_lt, nat_le}
use Rattle.std.specs.FinMap as finite
use Rattle.nb_outside.specs.declared.feed.Drawn.{Drawn}
use Rattle.py_tree.specs.declared.statements.Stmt.{Stmt}
use Rattle.py_value.specs.declared.value.Builtin.{Builtin}
use Rattle.py_value.specs.declared.value.Value.{Value}
use Rattle.py_heap.specs.declared.heap.Object.{Object}
use Rattle.py_heap.specs.declared.state.State.{State}
use Rattle.py_machine.specs.declared.frame.FrameSlot.{FrameSlot}
use Rattle.py_machine.specs.declared.frame.FrameSlot.TheVariants.{Empty, Held}
use Rattle.py_machine.specs.declared.machine.Machine.{Machine}
use Rattle.py_machine.specs.Errors.{step_limit_error, memory_error}
use Rattle.py_machine.specs.Builtins.{builtin_named}
use Rattle.py_machine.specs.Runs.{Name, Outcome, Stop, raised, raise, draw_failed, asks, start, after, slot, built_in, found, looked, met, sought}
use Rattle.py_machine.specs.Runs as runs
use Rattle.py_meaning.specs.Acts.{Act, run, pure, fail, chain, step, charge, look, seek, bind, unbind, is_local, enter, leave, add, object_at, change, write, draw}
use Rattle.py_meaning.specs.Meaning.{cell}
use Rattle.py_meaning.specs.Cells.{outcome, Asks, UsesUp}
use Rattle.py_meaning.proofs.Telling.{more_draws}

-- it recorded no draw
record TookNone {A : Type 0} (m : Machine) (o : Outcome A) : Type 0 where
  pub same : o.1.drawn ≡ m.drawn

after_none : {A B : Type 0} (r : Result A Stop) (m n : Machine) (f : A → Machine → Outcome B) → TookNone m (r, n) → ((a : A) → TookNone n (f a n)) → TookNone m (after r n f)
after_none (Ok a) m n f h k = record { same = (k a).same ∙ h.same }
after_none (Err e) m n f h k = record { same = h.same }

cond_none : {A : Type 0} (b : Bool) (m : Machine) (o u : Outcome A) → TookNone m o → TookNone m u → TookNone m (cond b o u)
cond_none true m o u h k = h
cond_none false m o u h k = k

step_none : (m : Machine) → TookNone m (runs.step m)
unfolding runs.step
step_none m = cond_none (nat_lt m.steps 1000000) m (Ok tt, record m { steps = m.steps + 1 }) (raise step_limit_error m) (record { same = refl }) (record { same = refl })

charge_none : (n : ℕ) (m : Machine) → TookNone m (runs.charge n m)
unfolding runs.charge
charge_none n m = cond_none (nat_le (m.state.meter + n) 16777216) m (Ok tt, record m { state = record m.state { meter = m.state.meter + n } }) (raise memory_error m) (record { same = refl }) (record { same = refl })

built_in_none : (name : Name) (b : Option Builtin) (m n : Machine) → n.drawn ≡ m.drawn → TookNone m (built_in name b n)
built_in_none name (Some b) m n e = record { same = e }
built_in_none name None m n e = record { same = e }

found_none : (name : Name) (o : Option Value) (m n : Machine) → n.drawn ≡ m.drawn → TookNone m (found name o n)
found_none name (Some held) m n e = record { same = e }
found_none name None m n e = built_in_none name (builtin_named name) m n e

looked_none : (name : Name) (o : Option FrameSlot) (m : Machine) → TookNone m (looked name o m)
looked_none name (Some (Held held)) m = record { same = refl }
looked_none name (Some Empty) m = record { same = refl }
looked_none name None m = found_none name (finite.get m.state.globals name) m _ refl

look_none : (name : Name) (m : Machine) → TookNone m (runs.look name m)
unfolding runs.look
look_none name m = looked_none name (slot m.frame name) m

met_none : (name : Name) (o : Option Value) (m n : Machine) → n.drawn ≡ m.drawn → TookNone m (met name o n)
met_none name (Some held) m n e = record { same = e }
met_none name None m n e = record { same = e }

sought_none : (name : Name) (o : Option FrameSlot) (m : Machine) → TookNone m (sought name o m)
sought_none name (Some (Held held)) m = record { same = refl }
sought_none name (Some Empty) m = record { same = refl }
sought_none name None m = met_none name (finite.get m.state.globals name) m _ refl

seek_none : (name : Name) (m : Machine) → TookNone m (runs.seek name m)
unfolding runs.seek
seek_none name m = sought_none name (slot m.frame name) m

replaced_same : (at : ℕ) (o : Option Object) (m : Machine) → (runs.replaced at o m).drawn ≡ m.drawn
replaced_same at None m = refl
replaced_same at (Some new) m = refl

bound_same : (name : Name) (held : Value) (o : Option FrameSlot) (m : Machine) → (runs.bound name held o m).drawn ≡ m.drawn
bound_same name held (Some old) m = refl
bound_same name held None m = refl

unbound_same : (name : Name) (o : Option FrameSlot) (m : Machine) → (runs.unbound name o m).drawn ≡ m.drawn
unbound_same name (Some old) m = refl
unbound_same name None m = refl

draw_none : (m : Machine) → TookNone m (runs.draw [] m)
unfolding runs.draw
draw_none m = record { same = refl }

run_none : {A : Type 0} (p : Act A) (m : Machine) → TookNone m (run p [] m)
unfolding runs.bind runs.unbind runs.is_local runs.enter runs.leave runs.add runs.object_at runs.change runs.write
run_none (pure a) m = record { same = refl }
run_none (fail e) m = record { same = refl }
run_none (chain p f) m = after_none (run p [] m).0 m (run p [] m).1 (λ a. run (f a) []) (run_none p m) (λ a. run_none (f a) (run p [] m).1)
run_none step m = step_none m
run_none (charge n) m = charge_none n m
run_none (look name) m = look_none name m
run_none (seek name) m = seek_none name m
run_none (bind name held) m = record { same = bound_same name held (slot m.frame name) m }
run_none (unbind name) m = record { same = unbound_same name (slot m.frame name) m }
run_none (is_local name) m = record { same = refl }
run_none (enter new) m = record { same = refl }
run_none (leave outer) m = record { same = refl }
run_none (add new) m = record { same = refl }
run_none (object_at at) m = record { same = refl }
run_none (change at c) m = record { same = replaced_same at _ m }
run_none (write bytes) m = record { same = refl }
run_none draw m = draw_none m

asks_or_not : {A : Type 0} (r : Result A Stop) → (r ≡ Err asks) ⊎ (r ≡ Err asks → ⊥)
asks_or_not (Ok a) = inr (λ e. let no : ⊥ = cc e in no)
asks_or_not (Err (raised e)) = inr (λ x. let no : ⊥ = cc x in no)
asks_or_not (Err draw_failed) = inr (λ x. let no : ⊥ = cc x in no)
asks_or_not (Err asks) = inl refl

module _ (body : List Stmt) (s : State) (draws : List Drawn) (uses : UsesUp body s draws) where
  pub drew_asks : (draws ≡ [] → ⊥) → Asks (outcome body s [])
  drew_asks some = elim (asks_or_not (outcome body s []).0) [
    | inl e ↦ e
    | inr none ↦
        let same : outcome body s draws ≡ outcome body s [] = more_draws (cell body) [] draws (start s) none in
        let taken_none : (outcome body s []).1.drawn ≡ [] = (run_none (cell body) (start s)).same in
        absurd (some (sym uses.takes ∙ (ap (λ o. o.1.drawn) same ∙ taken_none)))
  ]
