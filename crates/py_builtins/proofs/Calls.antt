-- The locals of a call.
use Rattle.std.proofs.Common.{◌≡◌, ℕ, ◌+◌, Bool, true, false, cond, List, [], ◌∷◌, ◌++◌, length, not, filter, Option, Some, None, refl, sym, ap, subst, ◌∙◌, drop, get_or, ◌<◌, inl, inr, true≢false, All, ◌-◌, ◌≤◌, suc, take, take_all, drop-cons}
use Rattle.std.specs.Prelude.{is_some, option_map, nat_eq, slice_get, Contains, ◌⊎◌}
use Rattle.std.specs.List.{AllByRecursion}
use native.Mathlib.Omega.{arith}
use Rattle.std.proofs.lemmas.List.Elements.{All-from_recursion, All-weaker, Contains-get_or, Contains-append_right}
use Rattle.std.proofs.lemmas.Map.Made.{Contains-tail}
use Rattle.std.proofs.lemmas.Option.{slice_get_within, get_or_from_slice_get}
use Rattle.std.specs.Ordering.{nat_cmp}
use Rattle.std.specs.Cmp.Lexicographic.{slice_cmp, nat_list_cmp_total, pointwise, bytes_decides}
use Rattle.std.specs.FinMap as finite
use Rattle.py_tree.specs.declared.statements.Def.{Def, out-Def}
use Rattle.py_tree.specs.Locals.{is_among, distinct_after, locals, locals_of, bound_in, globals_in}
use Rattle.py_heap.specs.Numbering.{Numbers, AreNumbersOf}
use Rattle.py_machine.specs.declared.frame.Frame.{Frame}
use Rattle.py_machine.specs.declared.frame.FrameSlot.{FrameSlot}
use Rattle.py_machine.specs.declared.frame.FrameSlot.TheVariants.{Empty, Held}
use Rattle.py_machine.specs.Slots.{Locals, emptied, HasSlot}
use Rattle.py_machine.proofs.Sets.{itself, from_same, names_antisymmetric}
use Rattle.py_machine.proofs.Slotted.{get_mapped, is_same}
use Rattle.py_value.specs.declared.value.Value.{Value}
use Rattle.py_meaning.specs.Meaning.{with_empty, with_held, frame_of}

abbrev Name : Type 0
Name = List ℕ

-- ---- the empty slots

emptied_get : (m : Numbers) (q : Name) → finite.get (emptied m) q ≡ option_map (λ i. Empty) (finite.get m q)
emptied_get m q = get_mapped (λ i. Empty) m q

abbrev framed : Locals → Frame
framed slots = record { slots = slots }

-- a name of the list is unbound, and any other is as before
module _ (q : Name) where
  abbrev IsEmptied : List Name → Locals → Locals → Type 0
  IsEmptied names before after = ((finite.get after q ≡ Some Empty) × Contains names q) ⊎ ((finite.get after q ≡ finite.get before q) × (Contains names q → ⊥))

  one_emptied : (names : List Name) (name : Name) (before after : Locals) (b : Bool) → is_same q name ≡ b → IsEmptied names (finite.insert before name Empty) after → IsEmptied (name ∷ names) before after
  one_emptied names name before after b e (inl h) = inl (h.0, Contains-append_right (name ∷ []) names q h.1)
  one_emptied names name before after true e (inr h) =
      let here : q ≡ name = from_same nat_list_cmp_total names_antisymmetric q name e in
      inl (h.0 ∙ finite.get-insert nat_list_cmp_total before name Empty q ∙ ap (λ (c : Bool). cond c (Some Empty) (finite.get before q)) e, (0, omega arith, sym here))
  one_emptied names name before after false e (inr h) =
      let other : name ≡ q → ⊥ = λ here. true≢false (sym (subst (λ (x : Name). is_same x name ≡ true) here (itself nat_list_cmp_total names_antisymmetric name)) ∙ e) in
      inr (h.0 ∙ finite.get-insert nat_list_cmp_total before name Empty q ∙ ap (λ (c : Bool). cond c (Some Empty) (finite.get before q)) e, λ c. h.1 (Contains-tail name names q other c))

  all_emptied : (names : List Name) (slots : Locals) → IsEmptied names slots (with_empty (framed slots) names).slots
  all_emptied [] slots = inr (refl, λ c. let less : c.0 < 0 = c.1 in omega (arith, less))
  all_emptied (name ∷ names) slots =
      one_emptied names name slots (with_empty (framed slots) (name ∷ names)).slots (is_same q name) refl (all_emptied names (finite.insert slots name Empty))

  emptied_some : (o : Option ℕ) → is_some o ≡ true → option_map (λ i. Empty) o ≡ Some Empty
  emptied_some (Some i) h = refl
  emptied_some None h = cc

  emptied_none : (names : List Name) (o : Option ℕ) → ((at : ℕ) → o ≡ Some at → slice_get names at ≡ Some q) → (Contains names q → ⊥) → option_map (λ i. Empty) o ≡ None
  emptied_none names None h lacks = refl
  emptied_none names (Some at) h lacks =
      let there : slice_get names at ≡ Some q = h at refl in
      absurd (lacks (at, slice_get_within names at q there, get_or_from_slice_get names at q q there))

  emptied_by : (names : List Name) (m : Numbers) (after : Locals) → AreNumbersOf names m → IsEmptied names finite.empty after → finite.get (emptied m) q ≡ finite.get after q
  emptied_by names m after h (inl e) = emptied_get m q ∙ emptied_some (finite.get m q) (h.each q e.1) ∙ sym e.0
  emptied_by names m after h (inr e) = emptied_get m q ∙ emptied_none names (finite.get m q) (h.position q) e.1 ∙ sym (e.0 ∙ finite.get-empty (slice_cmp nat_cmp) q)

pub empty_frame : (names : List Name) (m : Numbers) → AreNumbersOf names m → framed (emptied m) ≡ with_empty (framed finite.empty) names
empty_frame names m h =
    let after : Locals = (with_empty (framed finite.empty) names).slots in
    ap framed (finite.same_map nat_list_cmp_total names_antisymmetric (emptied m) after λ q. emptied_by q names m after h (all_emptied q names finite.empty))

-- ---- each parameter has a slot

module _ (P : Name → Type 0) where
  among_by : (b : Bool) (seen : List Name) (other name : Name) → pointwise nat_eq other name ≡ b → P other → AllByRecursion P seen
      → (is_among seen name ≡ true → AllByRecursion P seen → P name) → is_among (other ∷ seen) name ≡ true → P name
  among_by true seen other name e p h next i = subst P ((bytes_decides other name).0 e) p
  among_by false seen other name e p h next i = next (rw e at i) h

  among : (seen : List Name) (name : Name) → is_among seen name ≡ true → AllByRecursion P seen → P name
  among [] name i h = cc
  among (other ∷ seen) name i h = among_by (pointwise nat_eq other name) seen other name refl h.0 h.1 (among seen name) i

  pushed : (seen : List Name) (name : Name) → AllByRecursion P seen → P name → AllByRecursion P (seen ++ name ∷ [])
  pushed [] name h p = (p, tt)
  pushed (other ∷ seen) name h p = (h.0, pushed seen name h.1 p)

  fronts : (names more : List Name) → AllByRecursion P (names ++ more) → AllByRecursion P names
  fronts [] more h = tt
  fronts (name ∷ names) more h = (h.0, fronts names more h.1)

  distinct_by : (b : Bool) (seen names : List Name) (name : Name) → is_among seen name ≡ b → AllByRecursion P seen
      → ((seen : List Name) → AllByRecursion P seen → AllByRecursion P (distinct_after seen names) → AllByRecursion P names)
      → AllByRecursion P (cond b (distinct_after seen names) (name ∷ distinct_after (seen ++ name ∷ []) names)) → AllByRecursion P (name ∷ names)
  distinct_by true seen names name e s next h = (among seen name e s, next seen s h)
  distinct_by false seen names name e s next h = (h.0, next (seen ++ name ∷ []) (pushed seen name s h.0) h.1)

  distinct_all : (names seen : List Name) → AllByRecursion P seen → AllByRecursion P (distinct_after seen names) → AllByRecursion P names
  distinct_all [] seen s h = tt
  distinct_all (name ∷ names) seen s h = distinct_by (is_among seen name) seen names name refl s (λ after. distinct_all names after) h

  pub params_all : (def : Def) → AllByRecursion P (locals_of def) → AllByRecursion P (out-Def def).params
  unfolding locals
  params_all def h = fronts (out-Def def).params (filter (λ name. not (is_among (globals_in (out-Def def).body) name)) (bound_in (out-Def def).body)) (distinct_all _ [] tt h)

still_some : (o : Option ℕ) → is_some (option_map (λ i. Empty) o) ≡ is_some o
still_some (Some i) = refl
still_some None = refl

has_slot : (m : Numbers) (name : Name) → is_some (finite.get m name) ≡ true → HasSlot (emptied m) name
has_slot m name h = ap (λ (o : Option FrameSlot). is_some o) (emptied_get m name) ∙ still_some (finite.get m name) ∙ h

each_slot : (m : Numbers) (names : List Name) → ((name : Name) → Contains names name → is_some (finite.get m name) ≡ true) → AllByRecursion (HasSlot (emptied m)) names
each_slot m [] h = tt
each_slot m (name ∷ names) h = (has_slot m name (h name (Contains-get_or (name ∷ names) 0 name (omega arith))), each_slot m names (λ other c. h other (Contains-append_right (name ∷ []) names other c)))

pub params_slots : (def : Def) (m : Numbers) → AreNumbersOf (locals_of def) m → All (HasSlot (emptied m)) (out-Def def).params
params_slots def m h =
    All-from_recursion (HasSlot (emptied m)) (out-Def def).params (params_all (HasSlot (emptied m)) def (each_slot m (locals_of def) h.each))

-- ---- slots stay

kept_by : (b : Bool) (slot : FrameSlot) (o : Option FrameSlot) → is_some o ≡ true → is_some (cond b (Some slot) o) ≡ true
kept_by true slot o h = refl
kept_by false slot o h = h

pub slots_kept : (slots : Locals) (name : Name) (slot : FrameSlot) (names : List Name) → All (HasSlot slots) names → All (HasSlot (finite.insert slots name slot)) names
slots_kept slots name slot names h =
    All-weaker (HasSlot slots) (HasSlot (finite.insert slots name slot)) (λ other k. ap (λ (o : Option FrameSlot). is_some o) (finite.get-insert nat_list_cmp_total slots name slot other) ∙ kept_by (is_same other name) slot (finite.get slots other) k) names h

-- ---- the locals of a call

pub made : (def : Def) (args : List Value) (m : Numbers) (slots : Locals) (names : List Name) → AreNumbersOf (locals_of def) m → slots ≡ emptied m → names ≡ def.params
    → with_held (framed slots) names args ≡ frame_of def args
unfolding frame_of
made def args m slots names h e p = (λ i. with_held (framed (e i)) (p i) args) ∙ ap (λ (f : Frame). with_held f def.params args) (empty_frame (locals_of def) m h)

-- ---- one local more that holds a value

abbrev holding : Frame → Name → Value → Frame
holding frame name held = record { slots = finite.insert frame.slots name (Held held) }

rest_of : (w : Value) (ws : List Value) → ws ≡ take (length (w ∷ ws) - 1) (drop 1 (w ∷ ws))
rest_of w ws = sym (take_all (length (w ∷ ws) - 1) ws (omega arith))

pub held_step : (frame new : Frame) (names : List Name) (values : List Value) (i : ℕ) (name : Name) (held copy : Value) → i < length names → name ≡ get_or names i name → 1 ≤ length values
    → held ≡ get_or values 0 held → copy ≡ held → new ≡ holding frame name copy → with_held frame (drop i names) values ≡ with_held new (drop (i + 1) names) (take (length values - 1) (drop 1 values))
held_step frame new names [] i name held copy h p l q c e = absurd (omega (arith, l))
held_step frame new names (w ∷ ws) i name held copy h p l q c e =
    let next : suc i ≡ i + 1 = omega arith in
    let more = rest_of w ws in
    let value : w ≡ copy = sym (c ∙ q) in
    ap (λ (ns : List Name). with_held frame ns (w ∷ ws)) (drop-cons names i name h)
    ∙ (λ k. with_held (holding frame (sym p k) (value k)) (drop (next k) names) (more k))
    ∙ ap (λ (f : Frame). with_held f (drop (i + 1) names) (take (length (w ∷ ws) - 1) (drop 1 (w ∷ ws)))) (sym e)
