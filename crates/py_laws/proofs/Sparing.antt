-- A cell changes nothing that its marks don't report, and no mark goes.
use Rattle.std.proofs.Common.{◌≡◌, ℕ, ◌+◌, ◌<◌, ◌≤◌, Bool, true, false, cond, List, [], ◌∷◌, length, Option, Ok, refl, sym, ap, ◌∙◌, arith, subst, length-append}
use Rattle.std.proofs.Math.ListN.{length-set}
use Rattle.std.specs.Prelude.{slice_get, nat_lt, nat_le}
use Rattle.std.specs.FinMap as finite
use Rattle.nb_outside.specs.declared.feed.Drawn.{Drawn}
use Rattle.py_value.specs.declared.value.Value.{Value}
use Rattle.py_heap.specs.declared.heap.Object.{Object}
use Rattle.py_heap.specs.States.{with_name, without_name, with_object, with_object_at}
use Rattle.py_machine.specs.declared.frame.Frame.{Frame}
use Rattle.py_machine.specs.declared.machine.Machine.{Machine}
use Rattle.py_machine.specs.declared.marks.Marks.{Marks}
use Rattle.py_machine.specs.Errors.{step_limit_error, memory_error}
use Rattle.py_machine.specs.Marked.{IsIn, has_member}
use Rattle.py_machine.specs.Marked as event
use Rattle.py_machine.specs.Runs.{Name, Outcome, marked, drawn}
use Rattle.py_machine.specs.Runs as runs
use Rattle.py_meaning.specs.Acts.{Act, run}
use Rattle.py_meaning.specs.Kept.{Keeps, Leaves}
use Rattle.py_meaning.proofs.Keeping.{IsKept, run_keeps}
use Rattle.py_laws.proofs.Members.{name_kept, name_newly, looked_kept, number_kept, number_newly}
use Rattle.py_laws.proofs.Bindings.{bound_other, unbound_other, get_kept, set_other}

-- no mark goes
pub record NoneGoes (k l : Marks) : Type 0 where
  pub bound : (x : Name) → IsIn k.bound x → IsIn l.bound x
  pub looked : (x : Name) → IsIn k.looked x → IsIn l.looked x
  pub changed : (a : ℕ) → IsIn k.changed a → IsIn l.changed a
  pub drew : k.drew ≡ true → l.drew ≡ true

pub record Spared (m n : Machine) : Type 0 where
  pub names : (x : Name) → (IsIn n.marks.bound x → ⊥) → finite.get n.state.globals x ≡ finite.get m.state.globals x
  pub objects : (a : ℕ) → a < length m.state.heap → (IsIn n.marks.changed a → ⊥) → slice_get n.state.heap a ≡ slice_get m.state.heap a
  pub marks : NoneGoes m.marks n.marks
  pub long : length m.state.heap ≤ length n.state.heap
  pub count : n.state.count ≡ m.state.count

none_goes : (k : Marks) → NoneGoes k k
none_goes k = record { bound = λ x i. i; looked = λ x i. i; changed = λ a i. i; drew = λ e. e }

then : (a b c : Machine) → Spared a b → Spared b c → Spared a c
then a b c p q = record {
  names = λ x none. q.names x none ∙ p.names x (λ h. none (q.marks.bound x h));
  objects = λ at lt none. q.objects at (omega (arith, lt, p.long)) none ∙ p.objects at lt (λ h. none (q.marks.changed at h));
  marks = record {
    bound = λ x h. q.marks.bound x (p.marks.bound x h);
    looked = λ x h. q.marks.looked x (p.marks.looked x h);
    changed = λ at h. q.marks.changed at (p.marks.changed at h);
    drew = λ e. q.marks.drew (p.marks.drew e);
  };
  long = omega (arith, p.long, q.long);
  count = q.count ∙ p.count;
}

either : (m : Machine) (b : Bool) (o u : Outcome (Unit {0})) → Spared m o.1 → Spared m u.1 → Spared m (cond b o u).1
either m true o u h k = h
either m false o u h k = k

-- a run that changes neither names nor objects
quiet : (m n : Machine) → n.state.globals ≡ m.state.globals → n.state.heap ≡ m.state.heap → NoneGoes m.marks n.marks → n.state.count ≡ m.state.count → Spared m n
quiet m n g h k c = record {
  names = λ x none. ap (λ z. finite.get z x) g;
  objects = λ a lt none. ap (λ z. slice_get z a) h;
  marks = k;
  long = let e : length n.state.heap ≡ length m.state.heap = ap (λ (xs : List Object). length xs) h in omega (arith, e);
  count = c;
}

idle : (m : Machine) → Spared m m
idle m = quiet m m refl refl (none_goes m.marks) refl

steps_spare : Leaves Spared runs.step
unfolding runs.step
steps_spare m =
    either m (nat_lt m.steps 1000000) (Ok tt, record m { steps = m.steps + 1 }) (runs.raise step_limit_error m)
    (quiet m (record m { steps = m.steps + 1 }) refl refl (none_goes m.marks) refl) (idle m)

charges_spare : (n : ℕ) → Leaves Spared (runs.charge n)
unfolding runs.charge
charges_spare n m =
    either m (nat_le (m.state.meter + n) 16777216) (Ok tt, record m { state = record m.state { meter = m.state.meter + n } }) (runs.raise memory_error m)
    (quiet m (record m { state = record m.state { meter = m.state.meter + n } }) refl refl (none_goes m.marks) refl) (idle m)

looks_spare : (x : Name) (m : Machine) → Spared m (marked (event.Look x) m)
looks_spare x m = quiet m (marked (event.Look x) m) refl refl
    (record { bound = λ y i. i; looked = λ y i. looked_kept (has_member m.marks.bound x) m.marks.looked x y i; changed = λ a i. i; drew = λ e. e }) refl

binds_spare : (x : Name) (v : Value) (m : Machine) → Spared m (marked (event.Bind x) (record m { state = with_name m.state x v }))
binds_spare x v m = record {
  names = λ y none. bound_other m.state.globals x y v (λ e. none (subst (λ z. IsIn (event.with_member m.marks.bound x) z) (sym e) (name_newly m.marks.bound x)));
  objects = λ a lt none. refl;
  marks = record { bound = λ y i. name_kept m.marks.bound x y i; looked = λ y i. i; changed = λ a i. i; drew = λ e. e };
  long = omega arith;
  count = refl;
}

unbinds_spare : (x : Name) (m : Machine) → Spared m (marked (event.Unbind x) (record m { state = without_name m.state x }))
unbinds_spare x m = record {
  names = λ y none. unbound_other m.state.globals x y (λ e. none (subst (λ z. IsIn (event.with_member m.marks.bound x) z) (sym e) (name_newly m.marks.bound x)));
  objects = λ a lt none. refl;
  marks = record { bound = λ y i. name_kept m.marks.bound x y i; looked = λ y i. i; changed = λ a i. i; drew = λ e. e };
  long = omega arith;
  count = refl;
}

frames_spare : (f : Option Frame) (m : Machine) → Spared m (record m { frame = f })
frames_spare f m = quiet m (record m { frame = f }) refl refl (none_goes m.marks) refl

adds_spare : (o : Object) (m : Machine) → Spared m (record m { state = with_object m.state o })
adds_spare o m = record {
  names = λ y none. refl;
  objects = λ a lt none. get_kept m.state.heap o a lt;
  marks = none_goes m.marks;
  long = omega (arith, length-append m.state.heap (o ∷ []));
  count = refl;
}

changes_spare : (at : ℕ) (o : Object) (m : Machine) → Spared m (marked (event.Change at) (record m { state = with_object_at m.state at o }))
changes_spare at o m = record {
  names = λ y none. refl;
  objects = λ a lt none. set_other m.state.heap at a o (λ e. none (subst (λ z. IsIn (event.with_member m.marks.changed at) z) e (number_newly m.marks.changed at)));
  marks = record { bound = λ y i. i; looked = λ y i. i; changed = λ a i. number_kept m.marks.changed at a i; drew = λ e. e };
  long = omega (arith, length-set m.state.heap at o);
  count = refl;
}

draws_spare : (d : Drawn) (m : Machine) → Spared m (drawn d m)
draws_spare d m = quiet m (drawn d m) refl refl (record { bound = λ y i. i; looked = λ y i. i; changed = λ a i. i; drew = λ e. refl }) refl

spared_kept : IsKept Spared
spared_kept = record {
  same = idle;
  trans = then;
  steps = steps_spare;
  charges = charges_spare;
  looks = looks_spare;
  binds = binds_spare;
  unbinds = unbinds_spare;
  frames = frames_spare;
  adds = adds_spare;
  changes = λ at c new m e. changes_spare at new m;
  writes = λ bytes m. quiet m _ refl refl (none_goes m.marks) refl;
  draws = draws_spare;
}

pub spared : {A : Type 0} (p : Act A) → Keeps Spared (run p)
spared p = run_keeps Spared spared_kept p
