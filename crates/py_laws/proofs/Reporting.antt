-- The marks that a run leaves are the report of its trace.
use Rattle.std.proofs.Common.{◌≡◌, ℕ, Bool, true, false, cond, List, [], ◌∷◌, ◌++◌, length, Option, Some, None, Result, Ok, Err, refl, sym, ap, subst, ◌∙◌, ◌⊎◌, inl, inr}
use Rattle.std.specs.Prelude.{slice_get, ◌↔◌}
use Rattle.std.specs.FinMap as finite
use Rattle.std.proofs.lemmas.List.{append-nil}
use Rattle.nb_outside.specs.declared.feed.Drawn.{Drawn}
use Rattle.nb_outside.specs.declared.feed.Drawn.TheVariants as answer
use Rattle.py_tree.specs.declared.statements.Stmt.{Stmt}
use Rattle.py_value.specs.declared.value.Builtin.{Builtin}
use Rattle.py_value.specs.declared.value.Value.{Value}
use Rattle.py_heap.specs.declared.heap.Object.{Object}
use Rattle.py_heap.specs.declared.state.State.{State}
use Rattle.py_machine.specs.declared.frame.FrameSlot.{FrameSlot}
use Rattle.py_machine.specs.declared.frame.FrameSlot.TheVariants.{Empty, Held}
use Rattle.py_machine.specs.declared.machine.Machine.{Machine}
use Rattle.py_machine.specs.declared.marks.Marks.{Marks}
use Rattle.py_machine.specs.Builtins.{builtin_named}
use Rattle.py_machine.specs.Changes.{changed_in}
use Rattle.py_machine.specs.Marked.{Event, Look, Bind, Unbind, Change, Drew, no_marks, noted, reported, with_member, has_member, IsIn, IsBound, IsLooked, IsChanged, IsDrew}
use Rattle.py_machine.specs.Runs.{Name, Outcome, Stop, start, after, marked, slot, built_in, found, looked, met, sought, replaced, taken}
use Rattle.py_machine.specs.Runs as runs
use Rattle.py_meaning.specs.Acts.{Act, run, pure, fail, chain, step, charge, look, seek, bind, unbind, is_local, enter, leave, add, object_at, change, write, draw, trace, later, if_global, if_changed, if_drawn}
use Rattle.py_meaning.specs.Cells.{outcome, traced}
use Rattle.py_meaning.specs.Meaning.{cell}
use Rattle.py_machine.proofs.Sets.{Names}
use Rattle.py_laws.proofs.Members.{name_kept, name_newly, name_before, looked_kept, number_kept, number_newly, number_before, no_name, no_number}

reported-append : (k : Marks) (a b : List Event) → reported k (a ++ b) ≡ reported (reported k a) b
reported-append k [] b = refl
reported-append k (e ∷ a) b = reported-append (noted e k) a b

after_reported : {A B : Type 0} (r : Result A Stop) (n : Machine) (f : A → Machine → Outcome B) (t : A → Machine → List Event) (k : Marks) (es : List Event)
    → n.marks ≡ reported k es → ((a : A) (l : Machine) → (f a l).1.marks ≡ reported l.marks (t a l)) → (after r n f).1.marks ≡ reported k (es ++ later r n t)
after_reported (Ok a) n f t k es e h = h a n ∙ ap (λ z. reported z (t a n)) e ∙ sym (reported-append k es (t a n))
after_reported (Err x) n f t k es e h = e ∙ ap (λ z. reported k z) (sym (append-nil es))

cond_marks : {A : Type 0} (k : Marks) (b : Bool) (o u : Outcome A) → o.1.marks ≡ k → u.1.marks ≡ k → (cond b o u).1.marks ≡ k
cond_marks k true o u e f = e
cond_marks k false o u e f = f

step_reported : (m : Machine) → (runs.step m).1.marks ≡ m.marks
unfolding runs.step
step_reported m = cond_marks m.marks _ _ _ refl refl

charge_reported : (n : ℕ) (m : Machine) → (runs.charge n m).1.marks ≡ m.marks
unfolding runs.charge
charge_reported n m = cond_marks m.marks _ _ _ refl refl

built_in_reported : (name : Name) (b : Option Builtin) (m : Machine) → (built_in name b m).1.marks ≡ m.marks
built_in_reported name (Some b) m = refl
built_in_reported name None m = refl

found_reported : (name : Name) (o : Option Value) (m : Machine) → (found name o m).1.marks ≡ m.marks
found_reported name (Some held) m = refl
found_reported name None m = built_in_reported name (builtin_named name) m

looked_reported : (name : Name) (o : Option FrameSlot) (m : Machine) → (looked name o m).1.marks ≡ reported m.marks (if_global o (Look name))
looked_reported name (Some (Held held)) m = refl
looked_reported name (Some Empty) m = refl
looked_reported name None m = found_reported name (finite.get m.state.globals name) (marked (Look name) m)

look_reported : (name : Name) (m : Machine) → (runs.look name m).1.marks ≡ reported m.marks (if_global (slot m.frame name) (Look name))
unfolding runs.look
look_reported name m = looked_reported name (slot m.frame name) m

met_reported : (name : Name) (o : Option Value) (m : Machine) → (met name o m).1.marks ≡ m.marks
met_reported name (Some held) m = refl
met_reported name None m = refl

sought_reported : (name : Name) (o : Option FrameSlot) (m : Machine) → (sought name o m).1.marks ≡ reported m.marks (if_global o (Look name))
sought_reported name (Some (Held held)) m = refl
sought_reported name (Some Empty) m = refl
sought_reported name None m = met_reported name (finite.get m.state.globals name) (marked (Look name) m)

seek_reported : (name : Name) (m : Machine) → (runs.seek name m).1.marks ≡ reported m.marks (if_global (slot m.frame name) (Look name))
unfolding runs.seek
seek_reported name m = sought_reported name (slot m.frame name) m

bound_reported : (name : Name) (held : Value) (o : Option FrameSlot) (m : Machine) → (runs.bound name held o m).marks ≡ reported m.marks (if_global o (Bind name))
bound_reported name held (Some old) m = refl
bound_reported name held None m = refl

bind_reported : (name : Name) (held : Value) (m : Machine) → (runs.bind name held m).1.marks ≡ reported m.marks (if_global (slot m.frame name) (Bind name))
unfolding runs.bind
bind_reported name held m = bound_reported name held (slot m.frame name) m

unbound_reported : (name : Name) (o : Option FrameSlot) (m : Machine) → (runs.unbound name o m).marks ≡ reported m.marks (if_global o (Unbind name))
unbound_reported name (Some old) m = refl
unbound_reported name None m = refl

unbind_reported : (name : Name) (m : Machine) → (runs.unbind name m).1.marks ≡ reported m.marks (if_global (slot m.frame name) (Unbind name))
unfolding runs.unbind
unbind_reported name m = unbound_reported name (slot m.frame name) m

replaced_reported : (at : ℕ) (o : Option Object) (m : Machine) → (replaced at o m).marks ≡ reported m.marks (if_changed o (Change at))
replaced_reported at None m = refl
replaced_reported at (Some new) m = refl

taken_reported : (o : Option Drawn) (m : Machine) → (taken o m).1.marks ≡ reported m.marks (if_drawn o)
taken_reported None m = refl
taken_reported (Some (answer.Word word)) m = refl
taken_reported (Some answer.Failed) m = refl

draw_reported : (draws : List Drawn) (m : Machine) → (runs.draw draws m).1.marks ≡ reported m.marks (if_drawn (slice_get draws (length m.drawn)))
unfolding runs.draw
draw_reported draws m = taken_reported (slice_get draws (length m.drawn)) m

pub run_reported : {A : Type 0} (p : Act A) (draws : List Drawn) (m : Machine) → (run p draws m).1.marks ≡ reported m.marks (trace p draws m)
unfolding runs.is_local runs.enter runs.leave runs.add runs.object_at runs.change runs.write
run_reported (pure a) draws m = refl
run_reported (fail e) draws m = refl
run_reported (chain p f) draws m =
    after_reported (run p draws m).0 (run p draws m).1 (λ a. run (f a) draws) (λ a. trace (f a) draws) m.marks (trace p draws m) (run_reported p draws m) (λ a l. run_reported (f a) draws l)
run_reported step draws m = step_reported m
run_reported (charge n) draws m = charge_reported n m
run_reported (look name) draws m = look_reported name m
run_reported (seek name) draws m = seek_reported name m
run_reported (bind name held) draws m = bind_reported name held m
run_reported (unbind name) draws m = unbind_reported name m
run_reported (is_local name) draws m = refl
run_reported (enter new) draws m = refl
run_reported (leave outer) draws m = refl
run_reported (add new) draws m = refl
run_reported (object_at at) draws m = refl
run_reported (change at c) draws m = replaced_reported at (changed_in c (slice_get m.state.heap at)) m
run_reported (write bytes) draws m = refl
run_reported draw draws m = draw_reported draws m

-- ---- the marks in the words of the trace: names looked up

abbrev pub LookedFrom : Marks → Name → List Event → Type 0
LookedFrom k x t = IsIn k.looked x ⊎ ((IsIn k.bound x → ⊥) × IsLooked x t)

look_to : (b : Bool) (k : Marks) (x y : Name) (t : List Event) → has_member k.bound y ≡ b → IsIn (cond b k.looked (with_member k.looked y)) x → LookedFrom k x (Look y ∷ t)
look_to true k x y t e i = inl i
look_to false k x y t e i = elim (name_before k.looked y x i) [
  | inl same ↦ inr ((λ n. let h : IsIn k.bound y = subst (λ z. IsIn k.bound z) same n in let f = h.is in let none : ⊥ = cc (e, f) in none), inl same)
  | inr old ↦ inl old
]

-- the name is bound or unbound by now, and a look at it isn't noted any more
bind_to : (k : Marks) (x y : Name) (t : List Event) → IsIn k.looked x ⊎ ((IsIn (with_member k.bound y) x → ⊥) × IsLooked x t) → LookedFrom k x (Bind y ∷ t)
bind_to k x y t (inl there) = inl there
bind_to k x y t (inr w) = inr ((λ n. w.0 (name_kept k.bound y x n)), ((λ e. w.0 (subst (λ z. IsIn (with_member k.bound y) z) (sym e) (name_newly k.bound y))), w.1))

pub looked_to : (k : Marks) (x : Name) (t : List Event) → IsIn (reported k t).looked x → LookedFrom k x t
looked_to k x [] i = inl i
looked_to k x (Look y ∷ t) i = elim (looked_to (noted (Look y) k) x t i) [
  | inl there ↦ look_to (has_member k.bound y) k x y t refl there
  | inr w ↦ inr (w.0, inr w.1)
]
looked_to k x (Bind y ∷ t) i = bind_to k x y t (looked_to (noted (Bind y) k) x t i)
looked_to k x (Unbind y ∷ t) i = bind_to k x y t (looked_to (noted (Unbind y) k) x t i)
looked_to k x (Change at ∷ t) i = looked_to (noted (Change at) k) x t i
looked_to k x (Drew ∷ t) i = looked_to (noted Drew k) x t i

look_from : (b : Bool) (k : Marks) (x y : Name) → has_member k.bound y ≡ b → (IsIn k.bound x → ⊥) → x ≡ y → IsIn (cond b k.looked (with_member k.looked y)) x
look_from true k x y e n same = absurd (n (subst (λ z. IsIn k.bound z) (sym same) (record { is = e })))
look_from false k x y e n same = subst (λ z. IsIn (with_member k.looked y) z) (sym same) (name_newly k.looked y)

not_bound : (k : Marks) (x y : Name) → (IsIn k.bound x → ⊥) → (x ≡ y → ⊥) → IsIn (with_member k.bound y) x → ⊥
not_bound k x y n d i = elim (name_before k.bound y x i) [ inl e ↦ d e | inr old ↦ n old ]

looked_from : (k : Marks) (x : Name) (t : List Event) → LookedFrom k x t → IsIn (reported k t).looked x
looked_from k x [] (inl there) = there
looked_from k x [] (inr w) = absurd w.1
looked_from k x (Look y ∷ t) (inl there) = looked_from (noted (Look y) k) x t (inl (looked_kept (has_member k.bound y) k.looked y x there))
looked_from k x (Look y ∷ t) (inr (n, inl same)) = looked_from (noted (Look y) k) x t (inl (look_from (has_member k.bound y) k x y refl n same))
looked_from k x (Look y ∷ t) (inr (n, inr more)) = looked_from (noted (Look y) k) x t (inr (n, more))
looked_from k x (Bind y ∷ t) (inl there) = looked_from (noted (Bind y) k) x t (inl there)
looked_from k x (Bind y ∷ t) (inr w) = looked_from (noted (Bind y) k) x t (inr (not_bound k x y w.0 w.1.0, w.1.1))
looked_from k x (Unbind y ∷ t) (inl there) = looked_from (noted (Unbind y) k) x t (inl there)
looked_from k x (Unbind y ∷ t) (inr w) = looked_from (noted (Unbind y) k) x t (inr (not_bound k x y w.0 w.1.0, w.1.1))
looked_from k x (Change at ∷ t) w = looked_from (noted (Change at) k) x t w
looked_from k x (Drew ∷ t) w = looked_from (noted Drew k) x t w

-- ---- names bound or unbound

one_more : (s : Names) (x y : Name) (P : Type 0) → IsIn (with_member s y) x ⊎ P → IsIn s x ⊎ ((x ≡ y) ⊎ P)
one_more s x y P (inl i) = elim (name_before s y x i) [ inl e ↦ inr (inl e) | inr old ↦ inl old ]
one_more s x y P (inr p) = inr (inr p)

one_less : (s : Names) (x y : Name) (P : Type 0) → IsIn s x ⊎ ((x ≡ y) ⊎ P) → IsIn (with_member s y) x ⊎ P
one_less s x y P (inl i) = inl (name_kept s y x i)
one_less s x y P (inr (inl e)) = inl (subst (λ z. IsIn (with_member s y) z) (sym e) (name_newly s y))
one_less s x y P (inr (inr p)) = inr p

bound_to : (k : Marks) (x : Name) (t : List Event) → IsIn (reported k t).bound x → IsIn k.bound x ⊎ IsBound x t
bound_to k x [] i = inl i
bound_to k x (Look y ∷ t) i = bound_to (noted (Look y) k) x t i
bound_to k x (Bind y ∷ t) i = one_more k.bound x y (IsBound x t) (bound_to (noted (Bind y) k) x t i)
bound_to k x (Unbind y ∷ t) i = one_more k.bound x y (IsBound x t) (bound_to (noted (Unbind y) k) x t i)
bound_to k x (Change at ∷ t) i = bound_to (noted (Change at) k) x t i
bound_to k x (Drew ∷ t) i = bound_to (noted Drew k) x t i

bound_from : (k : Marks) (x : Name) (t : List Event) → IsIn k.bound x ⊎ IsBound x t → IsIn (reported k t).bound x
bound_from k x [] (inl i) = i
bound_from k x [] (inr none) = absurd none
bound_from k x (Look y ∷ t) w = bound_from (noted (Look y) k) x t w
bound_from k x (Bind y ∷ t) w = bound_from (noted (Bind y) k) x t (one_less k.bound x y (IsBound x t) w)
bound_from k x (Unbind y ∷ t) w = bound_from (noted (Unbind y) k) x t (one_less k.bound x y (IsBound x t) w)
bound_from k x (Change at ∷ t) w = bound_from (noted (Change at) k) x t w
bound_from k x (Drew ∷ t) w = bound_from (noted Drew k) x t w

-- ---- addresses changed

changed_to : (k : Marks) (a : ℕ) (t : List Event) → IsIn (reported k t).changed a → IsIn k.changed a ⊎ IsChanged a t
changed_to k a [] i = inl i
changed_to k a (Look y ∷ t) i = changed_to (noted (Look y) k) a t i
changed_to k a (Bind y ∷ t) i = changed_to (noted (Bind y) k) a t i
changed_to k a (Unbind y ∷ t) i = changed_to (noted (Unbind y) k) a t i
changed_to k a (Change at ∷ t) i = elim (changed_to (noted (Change at) k) a t i) [
  | inl j ↦ elim (number_before k.changed at a j) [ inl e ↦ inr (inl e) | inr old ↦ inl old ]
  | inr c ↦ inr (inr c)
]
changed_to k a (Drew ∷ t) i = changed_to (noted Drew k) a t i

changed_from : (k : Marks) (a : ℕ) (t : List Event) → IsIn k.changed a ⊎ IsChanged a t → IsIn (reported k t).changed a
changed_from k a [] (inl i) = i
changed_from k a [] (inr none) = absurd none
changed_from k a (Look y ∷ t) w = changed_from (noted (Look y) k) a t w
changed_from k a (Bind y ∷ t) w = changed_from (noted (Bind y) k) a t w
changed_from k a (Unbind y ∷ t) w = changed_from (noted (Unbind y) k) a t w
changed_from k a (Change at ∷ t) (inl i) = changed_from (noted (Change at) k) a t (inl (number_kept k.changed at a i))
changed_from k a (Change at ∷ t) (inr (inl e)) = changed_from (noted (Change at) k) a t (inl (subst (λ z. IsIn (with_member k.changed at) z) (sym e) (number_newly k.changed at)))
changed_from k a (Change at ∷ t) (inr (inr c)) = changed_from (noted (Change at) k) a t (inr c)
changed_from k a (Drew ∷ t) w = changed_from (noted Drew k) a t w

-- ---- draws

drew_to : (k : Marks) (t : List Event) → (reported k t).drew ≡ true → (k.drew ≡ true) ⊎ IsDrew t
drew_to k [] e = inl e
drew_to k (Look y ∷ t) e = drew_to (noted (Look y) k) t e
drew_to k (Bind y ∷ t) e = drew_to (noted (Bind y) k) t e
drew_to k (Unbind y ∷ t) e = drew_to (noted (Unbind y) k) t e
drew_to k (Change at ∷ t) e = drew_to (noted (Change at) k) t e
drew_to k (Drew ∷ t) e = inr tt

drew_on : (k : Marks) (t : List Event) → k.drew ≡ true → (reported k t).drew ≡ true
drew_on k [] e = e
drew_on k (Look y ∷ t) e = drew_on (noted (Look y) k) t e
drew_on k (Bind y ∷ t) e = drew_on (noted (Bind y) k) t e
drew_on k (Unbind y ∷ t) e = drew_on (noted (Unbind y) k) t e
drew_on k (Change at ∷ t) e = drew_on (noted (Change at) k) t e
drew_on k (Drew ∷ t) e = drew_on (noted Drew k) t refl

drew_from : (k : Marks) (t : List Event) → IsDrew t → (reported k t).drew ≡ true
drew_from k [] none = absurd none
drew_from k (Look y ∷ t) d = drew_from (noted (Look y) k) t d
drew_from k (Bind y ∷ t) d = drew_from (noted (Bind y) k) t d
drew_from k (Unbind y ∷ t) d = drew_from (noted (Unbind y) k) t d
drew_from k (Change at ∷ t) d = drew_from (noted (Change at) k) t d
drew_from k (Drew ∷ t) d = drew_on (noted Drew k) t refl

-- ---- a cell's

module _ (body : List Stmt) (draws : List Drawn) (s : State) where
  marks_are : (outcome body s draws).1.marks ≡ reported no_marks (traced body s draws)
  marks_are = run_reported (cell body) draws (start s)

  pub cell_looked : (x : Name) → IsIn (outcome body s draws).1.marks.looked x ↔ IsLooked x (traced body s draws)
  cell_looked x = (
    λ i. elim (looked_to no_marks x (traced body s draws) (subst (λ k. IsIn k.looked x) marks_are i)) [ inl none ↦ absurd (no_name x none) | inr w ↦ w.1 ],
    λ l. subst (λ k. IsIn k.looked x) (sym marks_are) (looked_from no_marks x (traced body s draws) (inr (no_name x, l))),
  )

  pub cell_bound : (x : Name) → IsIn (outcome body s draws).1.marks.bound x ↔ IsBound x (traced body s draws)
  cell_bound x = (
    λ i. elim (bound_to no_marks x (traced body s draws) (subst (λ k. IsIn k.bound x) marks_are i)) [ inl none ↦ absurd (no_name x none) | inr b ↦ b ],
    λ b. subst (λ k. IsIn k.bound x) (sym marks_are) (bound_from no_marks x (traced body s draws) (inr b)),
  )

  pub cell_changed : (a : ℕ) → IsIn (outcome body s draws).1.marks.changed a ↔ IsChanged a (traced body s draws)
  cell_changed a = (
    λ i. elim (changed_to no_marks a (traced body s draws) (subst (λ k. IsIn k.changed a) marks_are i)) [ inl none ↦ absurd (no_number a none) | inr c ↦ c ],
    λ c. subst (λ k. IsIn k.changed a) (sym marks_are) (changed_from no_marks a (traced body s draws) (inr c)),
  )

  pub cell_drew : ((outcome body s draws).1.marks.drew ≡ true) ↔ IsDrew (traced body s draws)
  cell_drew = (
    λ e. elim (drew_to no_marks (traced body s draws) (subst (λ k. k.drew ≡ true) marks_are e)) [ inl none ↦ absurd (let no : ⊥ = cc none in no) | inr d ↦ d ],
    λ d. subst (λ k. k.drew ≡ true) (sym marks_are) (drew_from no_marks (traced body s draws) d),
  )
