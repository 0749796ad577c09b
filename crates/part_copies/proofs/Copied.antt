-- The part of a state with some names, as a state of its own.
use Rattle.std.proofs.Common.{◌≡◌, ◌≢◌, ℕ, ◌<◌, List, [], ◌∷◌, map, length, get_or, Option, Some, None, option_map, refl, sym, ap, ◌∙◌, inl, inr, subst, arith}
use Rattle.std.specs.Prelude.{Contains, AllPairs, slice_get, ◌⊎◌}
use Rattle.std.specs.FinMap as finite
use Rattle.std.specs.Ordering.{nat_cmp}
use Rattle.std.specs.Cmp.Lexicographic.{slice_cmp}
use Rattle.std.proofs.lemmas.Bool.{cases_eq, cases_lt}
use Rattle.std.proofs.lemmas.Option.{none-some, same_Some, slice_get-get_or, slice_get_within, get_or_from_slice_get}
use Rattle.std.proofs.lemmas.List.Elements.{Contains-get_or}
use Rattle.py_value.specs.declared.value.Value.{Value}
use Rattle.py_heap.specs.declared.heap.Object.{Object}
use Rattle.py_heap.specs.declared.heap.Object.TheVariants as object
use Rattle.py_heap.specs.declared.state.State.{State}
use Rattle.py_heap.specs.References.{value_refs, object_refs, IsClosed}
use Rattle.py_heap.specs.Reaching.{held_refs, Reach, IsListOf, met}
use Rattle.py_heap.specs.Reaching as reaching
use Rattle.py_heap.proofs.Numbers.{firsts_apart}
use Rattle.py_machine.specs.Runs.{Name}
use Rattle.py_laws.specs.Same.{HasPair, ValuesMatch, ObjectsMatch, BothOrNone, Both, SameBy, Same}
use Rattle.py_laws.proofs.Matching.{Turned}
use Rattle.py_laws.proofs.Members.{name_cases, name_itself}
use Rattle.py_laws.proofs.Partners.{none_in, first_in, later_in}
use Rattle.py_laws.proofs.Bindings.{bound, bound_other}
use Rattle.py_laws.proofs.Reached.{reached_live}
use Rattle.py_laws.proofs.Sameness.{same_by_agreeing, same_by_turned}
use Rattle.run_graph.proofs.Lists.{cons_cases, has_name}
use Rattle.run_graph.proofs.Reached.{has_value}
use Rattle.part_bytes.specs.Parts.{order, number_in, numbered, numbered_object, held_of, part_of}
use Rattle.part_bytes.proofs.Orders.{order_lists, order_first}
use Rattle.part_bytes.proofs.Pieces.{as_many}
use Rattle.part_loader.specs.Loading.{Globals, globals_of, state_of}
use Rattle.replay_laws.specs.Tidied.{AtPosition}
use Rattle.replay_laws.proofs.Renumbering.{value_moved, object_moved, moved_at}
use Rattle.replay_laws.proofs.Tidying.{from_position, to_zero, from_zero, held_live, object_live}

-- ---- the names

value_or_none : (o : Option Value) → ((v : Value) × (o ≡ Some v)) ⊎ (o ≡ None)
value_or_none (Some v) = inl (v, refl)
value_or_none None = inr refl

bound_here : (g : Globals) (y : Name) (v : Value) → finite.get (finite.insert g y v) y ≡ Some v
bound_here g y v = rw (bound g y y v, name_itself y) refl

put_none : (y : Name) (ys : List Name) (o : Option Value) (held : List (Option Value)) → o ≡ None → globals_of (y ∷ ys) (o ∷ held) ≡ globals_of ys held
put_none y ys None held e = refl
put_none y ys (Some v) held e = absurd (none-some v (sym e))

put_some : (y : Name) (ys : List Name) (o : Option Value) (held : List (Option Value)) (v : Value) → o ≡ Some v → globals_of (y ∷ ys) (o ∷ held) ≡ finite.insert (globals_of ys held) y v
put_some y ys None held v e = absurd (none-some v e)
put_some y ys (Some w) held v e = ap (λ z. finite.insert (globals_of ys held) y z) (same_Some w v e)

module _ (held : Name → Option Value) where
  abbrev Put : List Name → Globals
  Put xs = globals_of xs (map held xs)

  step_none : (y x : Name) (ys : List Name) → held y ≡ None → finite.get (Put (y ∷ ys)) x ≡ finite.get (Put ys) x
  step_none y x ys e = ap (λ g. finite.get g x) (put_none y ys (held y) (map held ys) e)

  step_some : (y x : Name) (ys : List Name) (v : Value) → held y ≡ Some v → finite.get (Put (y ∷ ys)) x ≡ finite.get (finite.insert (Put ys) y v) x
  step_some y x ys v e = ap (λ g. finite.get g x) (put_some y ys (held y) (map held ys) v e)

  -- what a name has, or nothing
  either : (x : Name) → ((v : Value) × (held x ≡ Some v)) ⊎ (held x ≡ None)
  either x = value_or_none (held x)

  put_out : (xs : List Name) (x : Name) → ¬ Contains xs x → finite.get (Put xs) x ≡ None
  put_out [] x out = finite.get-empty (slice_cmp nat_cmp) x
  put_out (y ∷ ys) x out =
      let rest : finite.get (Put ys) x ≡ None = put_out ys x (λ c. out (later_in y ys x c)) in
      elim (either y) [
        | inl v ↦ step_some y x ys v.0 v.1 ∙ (bound_other (Put ys) y x v.0 (λ e. out (subst (Contains (y ∷ ys)) (sym e) (first_in y ys))) ∙ rest)
        | inr none ↦ step_none y x ys none ∙ rest
      ]

  put_nothing : (xs : List Name) (x : Name) → held x ≡ None → finite.get (Put xs) x ≡ None
  put_nothing [] x e = finite.get-empty (slice_cmp nat_cmp) x
  put_nothing (y ∷ ys) x e = elim (either y) [
    | inl v ↦ step_some y x ys v.0 v.1 ∙ (bound_other (Put ys) y x v.0 (λ same. none-some v.0 (sym e ∙ (ap held same ∙ v.1))) ∙ put_nothing ys x e)
    | inr none ↦ step_none y x ys none ∙ put_nothing ys x e
  ]

  put_value : (xs : List Name) (x : Name) (v : Value) → Contains xs x → held x ≡ Some v → finite.get (Put xs) x ≡ Some v
  put_value [] x v c e = absurd (none_in x c)
  put_value (y ∷ ys) x v c e = elim (name_cases y x) [
    | inl same ↦
        let f : held y ≡ Some v = ap held same ∙ e in
        step_some y x ys v f ∙ subst (λ z. finite.get (finite.insert (Put ys) y v) z ≡ Some v) same (bound_here (Put ys) y v)
    | inr other ↦
        let rest : finite.get (Put ys) x ≡ Some v = elim (cons_cases y ys x c) [
          | inl same ↦ absurd (other same)
          | inr more ↦ put_value ys x v more e
        ] in
        elim (either y) [
          | inl w ↦ step_some y x ys w.0 w.1 ∙ (bound_other (Put ys) y x w.0 (λ same. other (sym same)) ∙ rest)
          | inr none ↦ step_none y x ys none ∙ rest
        ]
  ]

  put_in : (xs : List Name) (x : Name) → Contains xs x → finite.get (Put xs) x ≡ held x
  put_in xs x c = elim (either x) [
    | inl v ↦ put_value xs x v.0 c v.1 ∙ sym v.1
    | inr none ↦ put_nothing xs x none ∙ sym none
  ]

-- ---- the state

module _ (s : State) (names : List Name) (closed : IsClosed s) where
  abbrev Found : List ℕ
  Found = order s names

  abbrev Mapped : Value → Value
  Mapped = numbered (number_in Found)

  abbrev Alone : State
  Alone = state_of (part_of s names)

  reached : IsListOf s names Found
  reached = order_lists s names closed

  apart : AllPairs (λ a b. a ≢ b) Found
  apart = subst (AllPairs (λ a b. a ≢ b)) (sym (order_first s names closed)) (firsts_apart (met s names Found))

  not_twice : (a b c : ℕ) → b < c → slice_get Found b ≡ Some a → slice_get Found c ≡ Some a → ⊥
  not_twice a b c l e f = apart b c a l (slice_get_within Found c a f) (get_or_from_slice_get Found b a a e ∙ sym (get_or_from_slice_get Found c a a f))

  one_position : (a b c : ℕ) → AtPosition Found a b → AtPosition Found a c → b ≡ c
  one_position a b c e f = elim (cases_eq b c) [
    | inl same ↦ same
    | inr other ↦ elim (cases_lt b c) [ inl l ↦ absurd (not_twice a b c l e f) | inr l ↦ absurd (not_twice a c b (omega (arith, l, other)) f e) ]
  ]

  live : (a : ℕ) → Contains Found a → a < length s.heap
  live a c = reached_live s closed names a ((reached a).0 c)

  value_there : (x : Name) (v : Value) → Contains names x → finite.get s.globals x ≡ Some v → (a : ℕ) → Contains (value_refs v) a → Contains Found a
  value_there x v here e a c = (reached a).1 (reaching.named x a here (subst (λ o. Contains (held_refs value_refs o) a) (sym e) c))

  named_in : (x : Name) → Contains names x → finite.get Alone.globals x ≡ option_map Mapped (finite.get s.globals x)
  named_in x c = put_in (held_of s (number_in Found)) names x c

  named_out : (x : Name) → ¬ Contains names x → finite.get Alone.globals x ≡ None
  named_out x out = put_out (held_of s (number_in Found)) names x out

  names_match : (x : Name) → Contains names x → BothOrNone (ValuesMatch (AtPosition Found)) (finite.get s.globals x) (finite.get Alone.globals x)
  names_match x here = elim (has_value s x) [
    | inl v ↦
        let e : finite.get Alone.globals x ≡ Some (Mapped v.0) = named_in x here ∙ ap (option_map Mapped) v.1 in
        rw (v.1, e) (value_moved Found v.0 (value_there x v.0 here v.1))
    | inr none ↦
        let e : finite.get Alone.globals x ≡ None = named_in x here ∙ ap (option_map Mapped) none in
        rw (none, e) tt
  ]

  objects_match : (a k : ℕ) → AtPosition Found a k → Both (ObjectsMatch (AtPosition Found)) (slice_get s.heap a) (slice_get Alone.heap k)
  objects_match a k e =
      let d : Object = object.List [] in
      let there : Contains Found a = (k, slice_get_within Found k a e, get_or_from_slice_get Found k a a e) in
      let near : Reach s names a = (reached a).0 there in
      let f : slice_get s.heap a ≡ Some (get_or s.heap a d) = slice_get-get_or s.heap a d (live a there) in
      let h : slice_get Alone.heap k ≡ Some (numbered_object (number_in Found) (get_or s.heap a d)) = moved_at Found s Found live k a (get_or s.heap a d) e f in
      rw (f, h) (object_moved Found (get_or s.heap a d) (λ b c. (reached b).1 (reaching.held a b near (subst (λ o. Contains (held_refs object_refs o) b) (sym f) c))))

  by_position : SameBy (AtPosition Found) (Contains names) s Alone
  by_position = record {
    pairs = record { left = one_position; right = λ a b c e f. same_Some a b (sym e ∙ f) };
    names = names_match;
    objects = objects_match;
  }

  pub copy_same : Same (Contains names) s Alone
  copy_same = record { by = from_position 0 Found; same = same_by_agreeing (AtPosition Found) (HasPair (from_position 0 Found)) (Contains names) s Alone (to_zero Found) (from_zero Found) by_position }

  abbrev Positions : ℕ → ℕ → Type 0
  Positions = Turned (AtPosition Found)

  turned : SameBy Positions (Contains names) Alone s
  turned = same_by_turned (AtPosition Found) (Contains names) s Alone by_position

  size : length Alone.heap ≡ length Found
  size = as_many s (number_in Found) Found (λ i d l. live (get_or Found i d) (Contains-get_or Found i d l))

  below : (a b : ℕ) → Positions a b → a < length Alone.heap
  below a b p = let l = slice_get_within Found a b p in let z = size in omega (arith, l, z)

  pub copy_closed : IsClosed Alone
  copy_closed = record {
    names = λ name held e. elim (has_name names name) [
      | inl c ↦ held_live Positions (length Alone.heap) below held (finite.get s.globals name)
          (subst (λ o. BothOrNone (ValuesMatch Positions) o (finite.get s.globals name)) e (turned.names name c))
      | inr out ↦ absurd (none-some held (sym (named_out name out) ∙ e))
    ];
    objects = λ k d l.
        let at : ℕ = get_or Found k 0 in
        let z = size in
        let position : AtPosition Found at k = slice_get-get_or Found k 0 (omega (arith, l, z)) in
        object_live Positions (length Alone.heap) below (get_or Alone.heap k d) (slice_get s.heap at)
        (subst (λ o. Both (ObjectsMatch Positions) o (slice_get s.heap at)) (slice_get-get_or Alone.heap k d l) (turned.objects k at position));
  }
