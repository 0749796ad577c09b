-- The least acts respect alikeness.
use Rattle.std.proofs.Common.{◌≡◌, ℕ, zero, suc, ◌+◌, ◌<◌, Bool, true, false, cond, List, [], ◌∷◌, ◌++◌, length, Option, Some, None, refl, sym, ap, ap₂, ◌⊎◌, ◌∙◌, inl, inr, subst, set, length-append, arith}
use Rattle.std.proofs.Math.ListN.{length-set}
use Rattle.std.proofs.lemmas.Bool.{cases_eq, cases_order}
use Rattle.std.proofs.lemmas.Option.{slice_get_within, slice_get_past, none-some}
use Rattle.std.proofs.lemmas.List.Elements.{AllZip-push}
use Rattle.std.specs.Prelude.{slice_get, is_some, nat_lt, nat_le, insert as inserted, remove as removed}
use Rattle.std.specs.List.{AllZip}
use Rattle.std.specs.FinMap as finite
use Rattle.nb_outside.specs.declared.feed.Drawn.{Drawn}
use Rattle.nb_outside.specs.declared.feed.Drawn.TheVariants as answer
use Rattle.py_value.specs.declared.value.Builtin.{Builtin}
use Rattle.py_value.specs.declared.value.Value.{Value}
use Rattle.py_value.specs.declared.value.Value.TheVariants as value
use Rattle.py_heap.specs.declared.heap.Object.{Object}
use Rattle.py_heap.specs.declared.heap.Object.TheVariants as object
use Rattle.py_heap.specs.Dicts.{Pairs}
use Rattle.py_heap.specs.References.{value_refs}
use Rattle.py_heap.specs.States.{raised}
use Rattle.py_machine.specs.declared.frame.Change.{Change}
use Rattle.py_machine.specs.declared.frame.Frame.{Frame}
use Rattle.py_machine.specs.declared.frame.FrameSlot.{FrameSlot}
use Rattle.py_machine.specs.declared.frame.FrameSlot.TheVariants.{Empty, Held}
use Rattle.py_machine.specs.declared.machine.Machine.{Machine}
use Rattle.py_machine.specs.declared.marks.Marks.{Marks}
use Rattle.py_machine.specs.Builtins.{builtin_named}
use Rattle.py_machine.specs.Changes.{changed_in, changed_items, changed_pairs, changed_handle, list_in, object_kind}
use Rattle.py_machine.specs.Changes as of
use Rattle.py_machine.specs.Marked.{IsIn, with_member, has_member, noted}
use Rattle.py_machine.specs.Marked as event
use Rattle.py_machine.specs.Runs.{Name, marked, slot, with_slot, built_in, found, looked, met, sought, replaced, taken}
use Rattle.py_machine.specs.Runs as runs
use Rattle.py_meaning.specs.Acts.{step, charge, look, seek, bind, unbind, is_local, enter, leave, add, object_at, change, list_at, kind_of, write, draw}
use Rattle.py_laws.specs.Same.{ValuesMatch, equal, refs, PairsMatch, ObjectsMatch, BothOrNone}
use Rattle.py_laws.proofs.Members.{same_name, name_itself, name_cases, name_before, looked_newly, number_kept, number_newly, number_before}
use Rattle.py_laws.proofs.Bindings.{Named, bound, unbound, bound_other, unbound_other, get_kept, get_new, set_same, set_other}
use Rattle.py_laws.proofs.Zipped.{zip_length, zip_append, zip_insert, zip_set, zip_remove, put_match, drop_match}
use Rattle.py_laws.proofs.Rules.{IfThere}
use Rattle.py_laws.proofs.Respecting.{Setting, Paired, SlotsMatch, empty, held, FramesMatch, ChangesMatch, push, extends, insert, setting, remove, put, drop, clear, use_, MarksMatch, MayHold, AreFit, AreKnown, Alike, Ends, Stays, Respects, Any, Equal, cond_ends, next, pure_respects}

module _ (c : Setting) where
  abbrev pub Values : Value → Value → Type 0
  Values = ValuesMatch (Paired c)

  abbrev pub Slots : Option Object → Option Object → Type 0
  Slots = BothOrNone (ObjectsMatch (Paired c))

  abbrev pub Frames : Option Frame → Option Frame → Type 0
  Frames = BothOrNone (FramesMatch (Paired c))

  abbrev Locals : Option FrameSlot → Option FrameSlot → Type 0
  Locals = BothOrNone (SlotsMatch (Paired c))

  -- ---- steps, the meter and output

  plain : (m n : Machine) → Alike c m n → Ends c Any (runs.give tt m) (runs.give tt n)
  plain m n h = record { alike = h; result = tt }

  pub step_respects : Respects c Any step step
  unfolding runs.step
  step_respects = record {
    ends = λ draws m n h stay. cond_ends c Any _ _ _ _ _ _ (ap (λ x. nat_lt x 1000000) h.counts.steps)
        (plain _ _ (record { counts = record { steps = ap (λ x. x + 1) h.counts.steps; printed = h.counts.printed; meter = h.counts.meter; drawn = h.counts.drawn }; marks = h.marks; frame = h.frame; names = h.names; heaps = h.heaps; may = h.may; known = h.known; fit = h.fit }))
        (record { alike = h; result = refl });
  }

  pub charge_respects : (k l : ℕ) → k ≡ l → Respects c Any (charge k) (charge l)
  unfolding runs.charge
  charge_respects k l e = record {
    ends = λ draws m n h stay. cond_ends c Any _ _ _ _ _ _ (ap₂ (λ x y. nat_le (x + y) 16777216) h.counts.meter e)
        (plain _ _ (record { counts = record { steps = h.counts.steps; printed = h.counts.printed; meter = ap₂ (λ x y. x + y) h.counts.meter e; drawn = h.counts.drawn }; marks = h.marks; frame = h.frame; names = h.names; heaps = h.heaps; may = h.may; known = h.known; fit = h.fit }))
        (record { alike = h; result = refl });
  }

  pub write_respects : (a b : List ℕ) → a ≡ b → Respects c Any (write a) (write b)
  unfolding runs.write
  write_respects a b e = record {
    ends = λ draws m n h stay. plain _ _ (record {
      counts = record { steps = h.counts.steps; printed = ap₂ (λ xs ys. xs ++ ys) h.counts.printed e; meter = h.counts.meter; drawn = h.counts.drawn };
      marks = h.marks;
      frame = h.frame;
      names = h.names;
      heaps = h.heaps;
      may = h.may;
      known = h.known;
      fit = h.fit;
    });
  }

  -- ---- names

  -- a look that is noted, or not
  noted_known : (b : Bool) (x y : Name) (k : Marks) → c.rules.known x → AreKnown c k → IsIn (cond b k.looked (with_member k.looked x)) y ⊎ IsIn k.bound y → c.rules.known y
  noted_known true x y k r h w = h y w
  noted_known false x y k r h (inl i) = elim (name_before k.looked x y i) [ inl e ↦ subst c.rules.known (sym e) r | inr old ↦ h y (inl old) ]
  noted_known false x y k r h (inr i) = h y (inr i)

  bound_known : (x y : Name) (k : Marks) → c.rules.known x → AreKnown c k → IsIn k.looked y ⊎ IsIn (with_member k.bound x) y → c.rules.known y
  bound_known x y k r h (inl i) = h y (inl i)
  bound_known x y k r h (inr i) = elim (name_before k.bound x y i) [ inl e ↦ subst c.rules.known (sym e) r | inr old ↦ h y (inr old) ]

  looked_alike : (x : Name) (m n : Machine) → c.rules.known x → Alike c m n → Alike c (marked (event.Look x) m) (marked (event.Look x) n)
  looked_alike x m n r h = record {
    counts = record { steps = h.counts.steps; printed = h.counts.printed; meter = h.counts.meter; drawn = h.counts.drawn };
    marks = record {
      looked = ap₂ (λ s t. cond (has_member s x) t (with_member t x)) h.marks.bound h.marks.looked;
      bound = h.marks.bound;
      changed = h.marks.changed;
      changed_back = h.marks.changed_back;
      drew = h.marks.drew;
    };
    frame = h.frame;
    names = h.names;
    heaps = h.heaps;
    may = h.may;
    known = λ y w. noted_known (has_member m.marks.bound x) x y m.marks r h.known w;
    fit = h.fit;
  }

  built_in_ends : (name : Name) (b : Option Builtin) (m n : Machine) → Alike c m n → Ends c Values (built_in name b m) (built_in name b n)
  built_in_ends name (Some builtin) m n h = record { alike = h; result = equal (value.Builtin builtin) refl }
  built_in_ends name None m n h = record { alike = h; result = refl }

  found_ends : (name : Name) (o u : Option Value) (m n : Machine) → Alike c m n → BothOrNone Values o u → Ends c Values (found name o m) (found name u n)
  found_ends name (Some v) (Some w) m n h k = record { alike = h; result = k }
  found_ends name None None m n h k = built_in_ends name (builtin_named name) m n h
  found_ends name (Some v) None m n h k = absurd k
  found_ends name None (Some w) m n h k = absurd k

  met_ends : (name : Name) (o u : Option Value) (m n : Machine) → Alike c m n → BothOrNone Values o u → Ends c Any (met name o m) (met name u n)
  met_ends name (Some v) (Some w) m n h k = plain m n h
  met_ends name None None m n h k = record { alike = h; result = refl }
  met_ends name (Some v) None m n h k = absurd k
  met_ends name None (Some w) m n h k = absurd k

  built_in_same : (name : Name) (b : Option Builtin) (m : Machine) → (built_in name b m).1 ≡ m
  built_in_same name (Some b) m = refl
  built_in_same name None m = refl

  found_same : (name : Name) (o : Option Value) (m : Machine) → (found name o m).1 ≡ m
  found_same name (Some v) m = refl
  found_same name None m = built_in_same name (builtin_named name) m

  met_same : (name : Name) (o : Option Value) (m : Machine) → (met name o m).1 ≡ m
  met_same name (Some v) m = refl
  met_same name None m = refl

  -- a name that may be looked up matches
  may_by : (x : Name) (b : Bool) (m n : Machine) → has_member m.marks.bound x ≡ b → Alike c m n → Stays c (marked (event.Look x) m) → BothOrNone Values (finite.get m.state.globals x) (finite.get n.state.globals x)
  may_by x true m n e h stay = h.names x (inr (record { is = e }))
  may_by x false m n e h stay = h.names x (inl (stay.looks x (looked_newly (has_member m.marks.bound x) m.marks.looked x e)))

  may_look : (x : Name) (m n : Machine) → Alike c m n → Stays c (marked (event.Look x) m) → BothOrNone Values (finite.get m.state.globals x) (finite.get n.state.globals x)
  may_look x m n h stay = may_by x (has_member m.marks.bound x) m n refl h stay

  slots_match : (x : Name) (f g : Option Frame) → Frames f g → Locals (slot f x) (slot g x)
  slots_match x None None h = tt
  slots_match x (Some f) (Some g) h = h.slots x
  slots_match x (Some f) None h = absurd h
  slots_match x None (Some g) h = absurd h

  looked_ends : (x : Name) (o u : Option FrameSlot) (m n : Machine) → c.rules.known x → Alike c m n → Locals o u → Stays c (looked x o m).1 → Ends c Values (looked x o m) (looked x u n)
  looked_ends x (Some _) (Some _) m n r h (held v w k) stay = record { alike = h; result = k }
  looked_ends x (Some _) (Some _) m n r h empty stay = record { alike = h; result = refl }
  looked_ends x None None m n r h k stay =
      found_ends x _ _ _ _ (looked_alike x m n r h) (may_look x m n h (subst (Stays c) (found_same x (finite.get m.state.globals x) (marked (event.Look x) m)) stay))
  looked_ends x (Some o) None m n r h k stay = absurd k
  looked_ends x None (Some u) m n r h k stay = absurd k

  pub look_respects : (x : Name) → c.rules.known x → Respects c Values (look x) (look x)
  unfolding runs.look
  look_respects x r = record { ends = λ draws m n h stay. looked_ends x _ _ m n r h (slots_match x m.frame n.frame h.frame) stay }

  sought_ends : (x : Name) (o u : Option FrameSlot) (m n : Machine) → c.rules.known x → Alike c m n → Locals o u → Stays c (sought x o m).1 → Ends c Any (sought x o m) (sought x u n)
  sought_ends x (Some _) (Some _) m n r h (held v w k) stay = plain m n h
  sought_ends x (Some _) (Some _) m n r h empty stay = record { alike = h; result = refl }
  sought_ends x None None m n r h k stay =
      met_ends x _ _ _ _ (looked_alike x m n r h) (may_look x m n h (subst (Stays c) (met_same x (finite.get m.state.globals x) (marked (event.Look x) m)) stay))
  sought_ends x (Some o) None m n r h k stay = absurd k
  sought_ends x None (Some u) m n r h k stay = absurd k

  pub seek_respects : (x : Name) → c.rules.known x → Respects c Any (seek x) (seek x)
  unfolding runs.seek
  seek_respects x r = record { ends = λ draws m n h stay. sought_ends x _ _ m n r h (slots_match x m.frame n.frame h.frame) stay }

  -- ---- names bound and unbound

  module _ {A : Type 0} (M : A → A → Type 0) where
    cond_match : (b : Bool) (o o' u u' : Option A) → BothOrNone M o u → BothOrNone M o' u' → BothOrNone M (cond b o o') (cond b u u')
    cond_match true o o' u u' h k = h
    cond_match false o o' u u' h k = k

    pub bound_match : (g k : Named A) (name x : Name) (v w : A) → M v w → BothOrNone M (finite.get g x) (finite.get k x)
        → BothOrNone M (finite.get (finite.insert g name v) x) (finite.get (finite.insert k name w) x)
    bound_match g k name x v w h old = rw (bound g name x v, bound k name x w) (cond_match (same_name x name) (Some v) (finite.get g x) (Some w) (finite.get k x) h old)

    bound_there : (g k : Named A) (name x : Name) (v w : A) → M v w → x ≡ name → BothOrNone M (finite.get (finite.insert g name v) x) (finite.get (finite.insert k name w) x)
    bound_there g k name x v w h e = rw (bound g name x v, bound k name x w, e, name_itself name) h

    unbound_match : (g k : Named A) (name x : Name) → BothOrNone M (finite.get g x) (finite.get k x) → BothOrNone M (finite.get (finite.remove g name) x) (finite.get (finite.remove k name) x)
    unbound_match g k name x old = rw (unbound g name x, unbound k name x) (cond_match (same_name x name) None (finite.get g x) None (finite.get k x) tt old)

    unbound_there : (g k : Named A) (name x : Name) → x ≡ name → BothOrNone M (finite.get (finite.remove g name) x) (finite.get (finite.remove k name) x)
    unbound_there g k name x e = rw (unbound g name x, unbound k name x, e, name_itself name) tt

  with_slots_match : (x : Name) (p q : FrameSlot) (f g : Option Frame) → SlotsMatch (Paired c) p q → Frames f g → Frames (with_slot x p f) (with_slot x q g)
  with_slots_match x p q None None k h = tt
  with_slots_match x p q (Some f) (Some g) k h = record { slots = λ y. bound_match (SlotsMatch (Paired c)) f.slots g.slots x y p q k (h.slots y) }
  with_slots_match x p q (Some f) None k h = absurd h
  with_slots_match x p q None (Some g) k h = absurd h

  framed_alike : (m n : Machine) (f g : Option Frame) → Alike c m n → Frames f g → Alike c (record m { frame = f }) (record n { frame = g })
  framed_alike m n f g h k = record {
    counts = record { steps = h.counts.steps; printed = h.counts.printed; meter = h.counts.meter; drawn = h.counts.drawn };
    marks = h.marks;
    frame = k;
    names = h.names;
    heaps = h.heaps;
    may = h.may;
    known = h.known;
    fit = h.fit;
  }

  bound_marks : (x : Name) (k l : Marks) → MarksMatch (Paired c) k l → MarksMatch (Paired c) (noted (event.Bind x) k) (noted (event.Bind x) l)
  bound_marks x k l h = record { looked = h.looked; bound = ap (λ s. with_member s x) h.bound; changed = h.changed; changed_back = h.changed_back; drew = h.drew }

  bound_may : (g : Named Value) (name x : Name) (v w : Value) → c.rules.may name → MayHold c g → finite.get (finite.insert g name v) x ≡ Some w → c.rules.may x
  bound_may g name x v w r h e = elim (name_cases x name) [
    | inl same ↦ subst c.rules.may (sym same) r
    | inr other ↦ h x w (sym (bound_other g name x v other) ∙ e)
  ]

  unbound_may : (g : Named Value) (name x : Name) (w : Value) → MayHold c g → finite.get (finite.remove g name) x ≡ Some w → c.rules.may x
  unbound_may g name x w h e = elim (name_cases x name) [
    | inl same ↦
        let gone : finite.get (finite.remove g name) x ≡ None = rw (unbound g name x, same, name_itself name) refl in
        absurd (none-some w (sym gone ∙ e))
    | inr other ↦ h x w (sym (unbound_other g name x other) ∙ e)
  ]

  bound_alike : (x : Name) (v w : Value) (o u : Option FrameSlot) (m n : Machine) → Values v w → c.rules.may x × c.rules.known x → Alike c m n → Locals o u → Alike c (runs.bound x v o m) (runs.bound x w u n)
  bound_alike x v w (Some o) (Some u) m n k r h s = framed_alike m n _ _ h (with_slots_match x (Held v) (Held w) m.frame n.frame (held v w k) h.frame)
  bound_alike x v w None None m n k r h s = record {
    counts = record { steps = h.counts.steps; printed = h.counts.printed; meter = h.counts.meter; drawn = h.counts.drawn };
    marks = bound_marks x m.marks n.marks h.marks;
    frame = h.frame;
    names = λ y t. elim t [
      | inl a ↦ bound_match Values m.state.globals n.state.globals x y v w k (h.names y (inl a))
      | inr b ↦ elim (name_before m.marks.bound x y b) [
        | inl e ↦ bound_there Values m.state.globals n.state.globals x y v w k e
        | inr old ↦ bound_match Values m.state.globals n.state.globals x y v w k (h.names y (inr old))
      ]
    ];
    heaps = h.heaps;
    may = λ y d e. bound_may m.state.globals x y v d r.0 h.may e;
    known = λ y w. bound_known x y m.marks r.1 h.known w;
    fit = h.fit;
  }
  bound_alike x v w (Some o) None m n k r h s = absurd s
  bound_alike x v w None (Some u) m n k r h s = absurd s

  pub bind_respects : (name : Name) (v w : Value) → Values v w → c.rules.may name × c.rules.known name → Respects c Any (bind name v) (bind name w)
  unfolding runs.bind
  bind_respects name v w k r = record { ends = λ draws m n h stay. plain _ _ (bound_alike name v w _ _ m n k r h (slots_match name m.frame n.frame h.frame)) }

  unbound_alike : (x : Name) (o u : Option FrameSlot) (m n : Machine) → c.rules.known x → Alike c m n → Locals o u → Alike c (runs.unbound x o m) (runs.unbound x u n)
  unbound_alike x (Some o) (Some u) m n r h s = framed_alike m n _ _ h (with_slots_match x Empty Empty m.frame n.frame empty h.frame)
  unbound_alike x None None m n r h s = record {
    counts = record { steps = h.counts.steps; printed = h.counts.printed; meter = h.counts.meter; drawn = h.counts.drawn };
    marks = bound_marks x m.marks n.marks h.marks;
    frame = h.frame;
    names = λ y t. elim t [
      | inl a ↦ unbound_match Values m.state.globals n.state.globals x y (h.names y (inl a))
      | inr b ↦ elim (name_before m.marks.bound x y b) [
        | inl e ↦ unbound_there Values m.state.globals n.state.globals x y e
        | inr old ↦ unbound_match Values m.state.globals n.state.globals x y (h.names y (inr old))
      ]
    ];
    heaps = h.heaps;
    may = λ y d e. unbound_may m.state.globals x y d h.may e;
    known = λ y w. bound_known x y m.marks r h.known w;
    fit = h.fit;
  }
  unbound_alike x (Some o) None m n r h s = absurd s
  unbound_alike x None (Some u) m n r h s = absurd s

  pub unbind_respects : (name : Name) → c.rules.known name → Respects c Any (unbind name) (unbind name)
  unfolding runs.unbind
  unbind_respects name r = record { ends = λ draws m n h stay. plain _ _ (unbound_alike name _ _ m n r h (slots_match name m.frame n.frame h.frame)) }

  same_slot : (o u : Option FrameSlot) → Locals o u → is_some o ≡ is_some u
  same_slot (Some o) (Some u) h = refl
  same_slot None None h = refl
  same_slot (Some o) None h = absurd h
  same_slot None (Some u) h = absurd h

  pub is_local_respects : (x : Name) → Respects c Equal (is_local x) (is_local x)
  unfolding runs.is_local
  is_local_respects x = record { ends = λ draws m n h stay. record { alike = h; result = same_slot _ _ (slots_match x m.frame n.frame h.frame) } }

  -- ---- frames

  pub enter_respects : (f g : Frame) → FramesMatch (Paired c) f g → Respects c Frames (enter f) (enter g)
  unfolding runs.enter
  enter_respects f g k = record { ends = λ draws m n h stay. record { alike = framed_alike m n (Some f) (Some g) h k; result = h.frame } }

  pub leave_respects : (f g : Option Frame) → Frames f g → Respects c Any (leave f) (leave g)
  unfolding runs.leave
  leave_respects f g k = record { ends = λ draws m n h stay. plain _ _ (framed_alike m n f g h k) }

  -- ---- the pairs are one to one

  pub left_one : (a b d : ℕ) → Paired c a b → Paired c a d → b ≡ d
  left_one a b d (inl p) (inl q) = c.one.left a b d p q
  left_one a b d (inl p) (inr q) = let none : ⊥ = omega (arith, (c.old a b p).0, q.2) in absurd none
  left_one a b d (inr p) (inl q) = let none : ⊥ = omega (arith, (c.old a d q).0, p.2) in absurd none
  left_one a b d (inr p) (inr q) = omega (arith, p.2, p.3, q.2, q.3)

  pub right_one : (a b d : ℕ) → Paired c a d → Paired c b d → a ≡ b
  right_one a b d (inl p) (inl q) = c.one.right a b d p q
  right_one a b d (inl p) (inr q) = let none : ⊥ = omega (arith, (c.old a d p).1, q.3) in absurd none
  right_one a b d (inr p) (inl q) = let none : ⊥ = omega (arith, (c.old b d q).1, p.3) in absurd none
  right_one a b d (inr p) (inr q) = omega (arith, p.2, p.3, q.2, q.3)

  -- ---- a new object

  kept_slots : (m n : Machine) (o u : Object) → Alike c m n → (a b : ℕ) → Paired c a b → (a < length m.state.heap) × (b < length n.state.heap)
      → Slots (slice_get (m.state.heap ++ o ∷ []) a) (slice_get (n.state.heap ++ u ∷ []) b)
  kept_slots m n o u h a b p w = rw (get_kept m.state.heap o a w.0, get_kept n.state.heap u b w.1) (h.heaps.objects a b p)

  -- the objects that are added at one turn: before this one, this one and after it
  turn_slots : (m n : Machine) (o u : Object) (h : Alike c m n) → ObjectsMatch (Paired c) o u → (a b i : ℕ) → Paired c a b → a ≡ c.lefts + i → b ≡ c.rights + i
      → (i ≡ h.heaps.added) ⊎ ((i < h.heaps.added) ⊎ (h.heaps.added < i)) → Slots (slice_get (m.state.heap ++ o ∷ []) a) (slice_get (n.state.heap ++ u ∷ []) b)
  turn_slots m n o u h k a b i p e f (inl same) =
      let x : a ≡ length m.state.heap = omega (arith, e, same, h.heaps.left_size) in
      let y : b ≡ length n.state.heap = omega (arith, f, same, h.heaps.right_size) in
      rw (x, y, get_new m.state.heap o, get_new n.state.heap u) k
  turn_slots m n o u h k a b i p e f (inr (inl less)) = kept_slots m n o u h a b p (omega (arith, e, less, h.heaps.left_size), omega (arith, f, less, h.heaps.right_size))
  turn_slots m n o u h k a b i p e f (inr (inr more)) =
      let x : length (m.state.heap ++ o ∷ []) ≡ length m.state.heap + 1 = length-append m.state.heap (o ∷ []) in
      let y : length (n.state.heap ++ u ∷ []) ≡ length n.state.heap + 1 = length-append n.state.heap (u ∷ []) in
      rw (slice_get_past (m.state.heap ++ o ∷ []) a (omega (arith, e, more, h.heaps.left_size, x)), slice_get_past (n.state.heap ++ u ∷ []) b (omega (arith, f, more, h.heaps.right_size, y))) tt

  added_slots : (m n : Machine) (o u : Object) → Alike c m n → ObjectsMatch (Paired c) o u → (a b : ℕ) → Paired c a b → Slots (slice_get (m.state.heap ++ o ∷ []) a) (slice_get (n.state.heap ++ u ∷ []) b)
  added_slots m n o u h k a b (inl p) = kept_slots m n o u h a b (inl p) (omega (arith, (c.old a b p).0, h.heaps.left_size), omega (arith, (c.old a b p).1, h.heaps.right_size))
  added_slots m n o u h k a b (inr p) = turn_slots m n o u h k a b p.0 (inr p) p.2 p.3 (cases_order p.0 h.heaps.added)

  added_fit : (heap : List Object) (o : Object) → c.rules.fit o → AreFit c heap → (a : ℕ) (x : Object) → slice_get (heap ++ o ∷ []) a ≡ Some x → c.rules.fit x
  added_fit [] o k h zero x e = let same : o ≡ x = cc in subst c.rules.fit same k
  added_fit [] o k h (suc a) x e = absurd (none-some x e)
  added_fit (y ∷ heap) o k h zero x e = h zero x e
  added_fit (y ∷ heap) o k h (suc a) x e = added_fit heap o k (λ b z f. h (suc b) z f) a x e

  pub add_respects : (o u : Object) → ObjectsMatch (Paired c) o u → c.rules.fit o → Respects c (Paired c) (add o) (add u)
  unfolding runs.add
  add_respects o u k fit = record {
    ends = λ draws m n h stay.
        let x : length (m.state.heap ++ o ∷ []) ≡ length m.state.heap + 1 = length-append m.state.heap (o ∷ []) in
        let y : length (n.state.heap ++ u ∷ []) ≡ length n.state.heap + 1 = length-append n.state.heap (u ∷ []) in
        let z = stay.size in
        record {
          alike = record {
            counts = record { steps = h.counts.steps; printed = h.counts.printed; meter = h.counts.meter; drawn = h.counts.drawn };
            marks = h.marks;
            frame = h.frame;
            names = h.names;
            heaps = record { objects = added_slots m n o u h k; added = h.heaps.added + 1; left_size = omega (arith, x, h.heaps.left_size); right_size = omega (arith, y, h.heaps.right_size) };
            may = h.may;
            known = h.known;
            fit = added_fit m.state.heap o fit h.fit;
          };
          result = inr (h.heaps.added, omega (arith, x, z, h.heaps.left_size), h.heaps.left_size, h.heaps.right_size);
        };
  }

  -- ---- a changed object

  changed_slots : (m n : Machine) (a b : ℕ) (o u : Object) → Alike c m n → Paired c a b → a < length m.state.heap → b < length n.state.heap → ObjectsMatch (Paired c) o u
      → (x y : ℕ) → Paired c x y → Slots (slice_get (set m.state.heap a o) x) (slice_get (set n.state.heap b u) y)
  changed_slots m n a b o u h p live live' k x y q =
      elim (cases_eq a x) [
        | inl e ↦
            let f : b ≡ y = left_one a b y p (subst (λ z. Paired c z y) (sym e) q) in
            subst (λ z. Slots (slice_get (set m.state.heap a o) z) (slice_get (set n.state.heap b u) y)) e
            (subst (λ z. Slots (slice_get (set m.state.heap a o) a) (slice_get (set n.state.heap b u) z)) f (rw (set_same m.state.heap a o live, set_same n.state.heap b u live') k))
        | inr differ ↦
            let off : b ≡ y → ⊥ = λ f. differ (right_one a x y (subst (λ z. Paired c a z) f p) q) in
            rw (set_other m.state.heap a x o differ, set_other n.state.heap b y u off) (h.heaps.objects x y q)
      ]

  if_there : (b d : Bool) (o u : Object) → b ≡ d → ObjectsMatch (Paired c) o u → Slots (cond b (Some o) None) (cond d (Some u) None)
  if_there true true o u e k = k
  if_there false false o u e k = tt
  if_there true false o u e k = let no : ⊥ = cc in absurd no
  if_there false true o u e k = let no : ⊥ = cc in absurd no

  items_changed : (p q : Change) (vs ws : List Value) → ChangesMatch (Paired c) p q → AllZip Values vs ws → Slots (changed_items p vs) (changed_items q ws)
  items_changed _ _ vs ws (push v w k) h = AllZip-push Values vs ws v w h k
  items_changed _ _ vs ws (extends xs ys k) h = zip_append Values vs ws xs ys h k
  items_changed _ _ vs ws (insert at v w k) h = if_there _ _ (object.List (inserted vs at v)) (object.List (inserted ws at w)) (ap (λ n. nat_le at n) (zip_length Values vs ws h)) (zip_insert Values at vs ws v w k h)
  items_changed _ _ vs ws (setting at v w k) h = if_there _ _ (object.List (set vs at v)) (object.List (set ws at w)) (ap (λ n. nat_lt at n) (zip_length Values vs ws h)) (zip_set Values at vs ws v w k h)
  items_changed _ _ vs ws (remove at) h = if_there _ _ (object.List (removed vs at)) (object.List (removed ws at)) (ap (λ n. nat_lt at n) (zip_length Values vs ws h)) (zip_remove Values at vs ws h)
  items_changed _ _ vs ws (put key v w k) h = tt
  items_changed _ _ vs ws (drop key) h = tt
  items_changed _ _ vs ws clear h = tt
  items_changed _ _ vs ws use_ h = tt

  pairs_changed : (p q : Change) (vs ws : Pairs) → ChangesMatch (Paired c) p q → AllZip (PairsMatch (Paired c)) vs ws → Slots (changed_pairs p vs) (changed_pairs q ws)
  pairs_changed _ _ vs ws (put key v w k) h = put_match (Paired c) vs ws key v w k h
  pairs_changed _ _ vs ws (drop key) h = drop_match (Paired c) vs ws key h
  pairs_changed _ _ vs ws clear h = tt
  pairs_changed _ _ vs ws (push v w k) h = tt
  pairs_changed _ _ vs ws (extends xs ys k) h = tt
  pairs_changed _ _ vs ws (insert at v w k) h = tt
  pairs_changed _ _ vs ws (setting at v w k) h = tt
  pairs_changed _ _ vs ws (remove at) h = tt
  pairs_changed _ _ vs ws use_ h = tt

  handle_changed : (p q : Change) (name other : List ℕ) (uses others : ℕ) → ChangesMatch (Paired c) p q → name ≡ other → uses ≡ others → Slots (changed_handle p name uses) (changed_handle q other others)
  handle_changed _ _ name other uses others use_ e f = (e, ap raised f)
  handle_changed _ _ name other uses others (put key v w k) e f = tt
  handle_changed _ _ name other uses others (drop key) e f = tt
  handle_changed _ _ name other uses others clear e f = tt
  handle_changed _ _ name other uses others (push v w k) e f = tt
  handle_changed _ _ name other uses others (extends xs ys k) e f = tt
  handle_changed _ _ name other uses others (insert at v w k) e f = tt
  handle_changed _ _ name other uses others (setting at v w k) e f = tt
  handle_changed _ _ name other uses others (remove at) e f = tt

  changed_match : (p q : Change) (o u : Object) → ChangesMatch (Paired c) p q → ObjectsMatch (Paired c) o u → Slots (of.changed p o) (of.changed q u)
  changed_match p q (object.List vs) (object.List ws) k h = items_changed p q vs ws k h
  changed_match p q (object.Tuple vs) (object.Tuple ws) k h = tt
  changed_match p q (object.Dict vs) (object.Dict ws) k h = pairs_changed p q vs ws k h
  changed_match p q (object.Function def) (object.Function other) k h = tt
  changed_match p q (object.Handle name uses) (object.Handle other others) k h = handle_changed p q name other uses others k h.0 h.1
  changed_match p q _ _ k h = absurd h

  changed_marks : (a b : ℕ) (k l : Marks) → Paired c a b → MarksMatch (Paired c) k l → MarksMatch (Paired c) (noted (event.Change a) k) (noted (event.Change b) l)
  changed_marks a b k l p h = record {
    looked = h.looked;
    bound = h.bound;
    changed = λ x i. elim (number_before k.changed a x i) [
      | inl e ↦ (b, subst (λ z. Paired c z b) (sym e) p, number_newly l.changed b)
      | inr old ↦ let w = h.changed x old in (w.0, w.1, number_kept l.changed b w.0 w.2)
    ];
    changed_back = λ y i. elim (number_before l.changed b y i) [
      | inl e ↦ (a, subst (λ z. Paired c a z) (sym e) p, number_newly k.changed a)
      | inr old ↦ let w = h.changed_back y old in (w.0, w.1, number_kept k.changed a w.0 w.2)
    ];
    drew = h.drew;
  }

  set_fit : (heap : List Object) (b : ℕ) (o : Object) → c.rules.fit o → AreFit c heap → (a : ℕ) (x : Object) → slice_get (set heap b o) a ≡ Some x → c.rules.fit x
  set_fit [] b o k h a x e = h a x e
  set_fit (y ∷ heap) zero o k h zero x e = let same : o ≡ x = cc in subst c.rules.fit same k
  set_fit (y ∷ heap) zero o k h (suc a) x e = h (suc a) x e
  set_fit (y ∷ heap) (suc b) o k h zero x e = h zero x e
  set_fit (y ∷ heap) (suc b) o k h (suc a) x e = set_fit heap b o k (λ d z f. h (suc d) z f) a x e

  replaced_alike : (a b : ℕ) (new other : Option Object) (m n : Machine) → Alike c m n → Paired c a b → a < length m.state.heap → b < length n.state.heap → Slots new other → IfThere c.rules.fit new
      → Alike c (replaced a new m) (replaced b other n)
  replaced_alike a b None None m n h p l l' k f = h
  replaced_alike a b (Some o) (Some u) m n h p l l' k f = record {
    counts = record { steps = h.counts.steps; printed = h.counts.printed; meter = h.counts.meter; drawn = h.counts.drawn };
    marks = changed_marks a b m.marks n.marks p h.marks;
    frame = h.frame;
    names = h.names;
    heaps = record {
      objects = changed_slots m n a b o u h p l l' k;
      added = h.heaps.added;
      left_size = length-set m.state.heap a o ∙ h.heaps.left_size;
      right_size = length-set n.state.heap b u ∙ h.heaps.right_size;
    };
    may = h.may;
    known = h.known;
    fit = set_fit m.state.heap a o f h.fit;
  }
  replaced_alike a b (Some o) None m n h p l l' k f = absurd k
  replaced_alike a b None (Some u) m n h p l l' k f = absurd k

  change_alike : (a b : ℕ) (p q : Change) (o u : Option Object) (m n : Machine) → Alike c m n → Paired c a b → ChangesMatch (Paired c) p q → slice_get m.state.heap a ≡ o → slice_get n.state.heap b ≡ u → Slots o u
      → Alike c (replaced a (changed_in p o) m) (replaced b (changed_in q u) n)
  change_alike a b p q None None m n h r k e f s = h
  change_alike a b p q (Some o) (Some u) m n h r k e f s =
      replaced_alike a b (of.changed p o) (of.changed q u) m n h r (slice_get_within m.state.heap a o e) (slice_get_within n.state.heap b u f) (changed_match p q o u k s) (c.rules.change_fit p o (h.fit a o e))
  change_alike a b p q (Some o) None m n h r k e f s = absurd s
  change_alike a b p q None (Some u) m n h r k e f s = absurd s

  pub change_respects : (a b : ℕ) (p q : Change) → Paired c a b → ChangesMatch (Paired c) p q → Respects c Any (change a p) (change b q)
  unfolding runs.change
  change_respects a b p q r k = record { ends = λ draws m n h stay. plain _ _ (change_alike a b p q _ _ m n h r k refl refl (h.heaps.objects a b r)) }

  -- ---- draws

  drawn_alike : (d : Drawn) (m n : Machine) → Alike c m n → Alike c (runs.drawn d m) (runs.drawn d n)
  drawn_alike d m n h = record {
    counts = record { steps = h.counts.steps; printed = h.counts.printed; meter = h.counts.meter; drawn = ap (λ xs. xs ++ d ∷ []) h.counts.drawn };
    marks = record { looked = h.marks.looked; bound = h.marks.bound; changed = h.marks.changed; changed_back = h.marks.changed_back; drew = refl };
    frame = h.frame;
    names = h.names;
    heaps = h.heaps;
    may = h.may;
    known = h.known;
    fit = h.fit;
  }

  taken_ends : (o u : Option Drawn) (m n : Machine) → o ≡ u → Alike c m n → Ends c Equal (taken o m) (taken u n)
  taken_ends None u m n e h = rw (← e) (record { alike = h; result = refl })
  taken_ends (Some (answer.Word word)) u m n e h = rw (← e) (record { alike = drawn_alike (answer.Word word) m n h; result = refl })
  taken_ends (Some answer.Failed) u m n e h = rw (← e) (record { alike = drawn_alike answer.Failed m n h; result = refl })

  pub draw_respects : Respects c Equal draw draw
  unfolding runs.draw
  draw_respects = record { ends = λ draws m n h stay. taken_ends _ _ m n (ap (λ (xs : List Drawn). slice_get draws (length xs)) h.counts.drawn) h }

  -- ---- what an object holds, and kinds

  pub object_at_respects : (a b : ℕ) → Paired c a b → Respects c Slots (object_at a) (object_at b)
  unfolding runs.object_at
  object_at_respects a b p = record { ends = λ draws m n h stay. record { alike = h; result = h.heaps.objects a b p } }

  -- the same, and that the object is fit
  abbrev pub Found : Option Object → Option Object → Type 0
  Found o u = Slots o u × IfThere c.rules.fit o

  fit_there : (o : Option Object) → ((x : Object) → o ≡ Some x → c.rules.fit x) → IfThere c.rules.fit o
  fit_there None h = tt
  fit_there (Some x) h = h x refl

  pub object_found : (a b : ℕ) → Paired c a b → Respects c Found (object_at a) (object_at b)
  unfolding runs.object_at
  object_found a b p = record { ends = λ draws m n h stay. record { alike = h; result = (h.heaps.objects a b p, fit_there (slice_get m.state.heap a) (λ x e. h.fit a x e)) } }

  abbrev pub Listed : Option (List Value) → Option (List Value) → Type 0
  Listed = BothOrNone (AllZip Values)

  pub listed : (o u : Option Object) → Slots o u → Listed (list_in o) (list_in u)
  listed (Some (object.List vs)) (Some (object.List ws)) h = h
  listed (Some (object.Tuple vs)) (Some (object.Tuple ws)) h = tt
  listed (Some (object.Dict vs)) (Some (object.Dict ws)) h = tt
  listed (Some (object.Function def)) (Some (object.Function other)) h = tt
  listed (Some (object.Handle name uses)) (Some (object.Handle other others)) h = tt
  listed (Some _) (Some _) h = absurd h
  listed None None h = tt
  listed (Some o) None h = absurd h
  listed None (Some u) h = absurd h

  pub list_at_respects : (a b : ℕ) → Paired c a b → Respects c Listed (list_at a) (list_at b)
  unfolding list_at
  list_at_respects a b p = next c (object_at_respects a b p) λ o u h. pure_respects c Listed (list_in o) (list_in u) (listed o u h)

  pub object_kinds : (o u : Option Object) → Slots o u → object_kind o ≡ object_kind u
  object_kinds (Some (object.List vs)) (Some (object.List ws)) h = refl
  object_kinds (Some (object.Tuple vs)) (Some (object.Tuple ws)) h = refl
  object_kinds (Some (object.Dict vs)) (Some (object.Dict ws)) h = refl
  object_kinds (Some (object.Function def)) (Some (object.Function other)) h = refl
  object_kinds (Some (object.Handle name uses)) (Some (object.Handle other others)) h = refl
  object_kinds (Some _) (Some _) h = absurd h
  object_kinds None None h = refl
  object_kinds (Some o) None h = absurd h
  object_kinds None (Some u) h = absurd h

  plain_kind_respects : (v : Value) → value_refs v ≡ [] → Respects c Equal (kind_of v) (kind_of v)
  unfolding kind_of
  plain_kind_respects (value.Ref at) none = cc
  plain_kind_respects value.Nothing none = pure_respects c Equal _ _ refl
  plain_kind_respects (value.Bool truth) none = pure_respects c Equal _ _ refl
  plain_kind_respects (value.Number number) none = pure_respects c Equal _ _ refl
  plain_kind_respects (value.Text text) none = pure_respects c Equal _ _ refl
  plain_kind_respects (value.Builtin builtin) none = pure_respects c Equal _ _ refl

  pub kind_of_respects : (v w : Value) → Values v w → Respects c Equal (kind_of v) (kind_of w)
  unfolding kind_of
  kind_of_respects _ _ (equal v none) = plain_kind_respects v none
  kind_of_respects _ _ (refs a b p) = next c (object_at_respects a b p) λ o u h. pure_respects c Equal (object_kind o) (object_kind u) (object_kinds o u h)
