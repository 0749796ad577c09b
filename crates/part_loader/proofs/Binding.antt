-- Names that are bound one by one to their values with new addresses.
use Rattle.std.proofs.Common.{◌≡◌, ℕ, ◌+◌, ◌<◌, List, [], ◌∷◌, ◌++◌, ◌⊎◌, length, get_or, take, Some, None, option_map, refl, sym, ap, ◌∙◌, subst, inl, inr}
use Rattle.std.specs.Prelude.{Contains}
use Rattle.std.specs.FinMap as finite
use Rattle.std.specs.Ordering.{nat_cmp}
use Rattle.std.specs.Cmp.Lexicographic.{slice_cmp}
use Rattle.std.specs.List.{flat_map}
use Rattle.std.proofs.lemmas.List.{take_more}
use Rattle.std.proofs.lemmas.List.Elements.{Contains-append_left, Contains-append_right, Contains-append_cases}
use Rattle.py_value.specs.declared.value.Value.{Value}
use Rattle.py_heap.specs.declared.state.State.{State}
use Rattle.py_heap.specs.References.{IsClosed}
use Rattle.py_heap.specs.States.{empty, with_name}
use Rattle.py_machine.specs.Runs.{Name}
use Rattle.py_laws.proofs.Members.{name_cases, name_itself}
use Rattle.py_laws.proofs.Partners.{none_in, one_in, first_in}
use Rattle.py_laws.proofs.Bindings.{bound, bound_other}
use Rattle.run_graph.proofs.Lists.{has_name}
use Rattle.run_graph.proofs.Reached.{has_value}
use Rattle.part_bytes.specs.Parts.{order, number_in, numbered, objects_of}
use Rattle.replay_laws.specs.Tidied.{IsTidied}
use Rattle.replay_laws.proofs.Renumbering.{keys_have, moved_is_tidied}
use Rattle.part_loader.specs.Loading.{Globals, AreMovedNames}

module _ (t : State) (number : ℕ → ℕ) where
  abbrev Moved : Value → Value
  Moved = numbered number

  pub no_names : (now : Globals) → now ≡ finite.empty → AreMovedNames t number [] now
  no_names now e = λ x. (λ c. absurd (none_in x c), λ out. ap (λ (g : Globals). finite.get g x) e ∙ finite.get-empty (slice_cmp nat_cmp) x)

  module _ (names : List Name) (i : ℕ) (name : Name) (l : i < length names) (is : name ≡ get_or names i name) where
    longer : take i names ++ name ∷ [] ≡ take (i + 1) names
    longer = sym (take_more names i name l ∙ ap (λ (z : Name). take i names ++ z ∷ []) (sym is))

    earlier : (x : Name) → Contains (take i names) x → Contains (take (i + 1) names) x
    earlier x c = subst (λ ns. Contains ns x) longer (Contains-append_left (take i names) (name ∷ []) x c)

    last_there : Contains (take (i + 1) names) name
    last_there = subst (λ ns. Contains ns name) longer (Contains-append_right (take i names) (name ∷ []) name (first_in name []))

    either : (x : Name) → Contains (take (i + 1) names) x → Contains (take i names) x ⊎ (name ≡ x)
    either x c = elim (Contains-append_cases (take i names) (name ∷ []) x (subst (λ ns. Contains ns x) (sym longer) c)) [ inl old ↦ inl old | inr new ↦ inr (one_in name x new) ]

    pub bound_more : (before now : Globals) (key : Name) (v w : Value) → finite.get t.globals name ≡ Some v → key ≡ name → w ≡ Moved v → now ≡ finite.insert before key w
        → AreMovedNames t number (take i names) before → AreMovedNames t number (take (i + 1) names) now
    bound_more before now key v w at same moved put h =
        let is_put : now ≡ finite.insert before name (Moved v) = put ∙ (ap (λ (z : Name). finite.insert before z w) same ∙ ap (finite.insert before name) moved) in
        λ x. elim (name_cases x name) [
          | inl e ↦ (
            λ c. ap (λ (g : Globals). finite.get g x) is_put
                ∙ (subst (λ z. finite.get (finite.insert before name (Moved v)) z ≡ Some (Moved v)) (sym e) (rw (bound before name name (Moved v), name_itself name) refl)
                ∙ sym (ap (option_map Moved) (ap (finite.get t.globals) e ∙ at))),
            λ out. absurd (out (subst (Contains (take (i + 1) names)) (sym e) last_there)),
          )
          | inr other ↦
              let kept : finite.get now x ≡ finite.get before x = ap (λ (g : Globals). finite.get g x) is_put ∙ bound_other before name x (Moved v) other in (
                λ c. kept ∙ (h x).0 (elim (either x c) [ inl old ↦ old | inr e ↦ absurd (other (sym e)) ]),
                λ out. kept ∙ (h x).1 (λ c. out (earlier x c)),
              )
        ]

    pub bound_rest : (old before now put : State) (key : Name) (w : Value) → before ≡ record old { globals = before.globals } → put ≡ with_name before key w → now ≡ put → now ≡ record old { globals = now.globals }
    bound_rest old before now put key w b p n =
        let put_same : put ≡ record before { globals = put.globals } = p ∙ ap (λ (g : Globals). record before { globals = g }) (sym (ap (λ (s : State). s.globals) p)) in
        n ∙ (put_same ∙ (ap (λ (s : State). record s { globals = put.globals }) b ∙ ap (λ (s : State). record old { globals = s.globals }) (sym n)))

    pub skipped_more : (now : Globals) → finite.get t.globals name ≡ None → AreMovedNames t number (take i names) now → AreMovedNames t number (take (i + 1) names) now
    skipped_more now none h = λ x. (
      λ c. elim (has_name (take i names) x) [
        | inl old ↦ (h x).0 old
        | inr out ↦ elim (either x c) [
          | inl old ↦ absurd (out old)
          | inr e ↦ (h x).1 out ∙ sym (ap (option_map Moved) (ap (finite.get t.globals) (sym e) ∙ none))
        ]
      ],
      λ out. (h x).1 (λ c. out (earlier x c)),
    )

-- all names were bound, and all objects put
made_tidied : (t u : State) (names : List Name) → IsClosed t → names ≡ finite.keys t.globals → u.heap ≡ flat_map (objects_of t (number_in (order t names))) (order t names)
    → AreMovedNames t (number_in (order t names)) names u.globals → u.count ≡ t.count → u.meter ≡ t.meter → IsTidied t u
made_tidied t u names closed is heap moved count meter =
    let keys : List Name = finite.keys t.globals in
    let objects : u.heap ≡ flat_map (objects_of t (number_in (order t keys))) (order t keys) = heap ∙ ap (λ (ns : List Name). flat_map (objects_of t (number_in (order t ns))) (order t ns)) is in
    let values : AreMovedNames t (number_in (order t keys)) keys u.globals = subst (λ (ns : List Name). AreMovedNames t (number_in (order t ns)) ns u.globals) is moved in
    moved_is_tidied t closed u (record {
      names = λ x. elim (has_value t x) [
        | inl v ↦ (values x).0 ((keys_have t x).1 v)
        | inr none ↦ (values x).1 (λ c. let v = (keys_have t x).0 c in absurd (let no : ⊥ = cc (none, v.1) in no)) ∙ sym (ap (option_map (numbered (number_in (order t keys)))) none)
      ];
      heap = objects;
      count = count;
      meter = meter;
    })

-- the values and objects that were put, one after the other
pub made_of : (t none added bound counted u : State) (names told those : List Name) (numbers : List ℕ) (count meter : ℕ) → IsClosed t → names ≡ finite.keys t.globals → told ≡ names → those ≡ names
    → numbers ≡ order t told → none ≡ empty → added ≡ record none { heap = none.heap ++ flat_map (objects_of t (number_in numbers)) numbers } → AreMovedNames t (number_in numbers) those bound.globals
    → bound ≡ record added { globals = bound.globals } → counted ≡ record bound { count = count } → u ≡ record counted { meter = meter } → count ≡ t.count → meter ≡ t.meter → IsTidied t u
made_of t none added bound counted u names told those numbers count meter closed is a b found begins adds moved binds counts meters as_count as_meter =
    let ordered : numbers ≡ order t names = found ∙ ap (order t) a in
    let heap : u.heap ≡ flat_map (objects_of t (number_in numbers)) numbers =
    ap (λ (s : State). s.heap) meters
    ∙ (ap (λ (s : State). s.heap) counts
    ∙ (ap (λ (s : State). s.heap) binds ∙ (ap (λ (s : State). s.heap) adds ∙ ap (λ (s : State). s.heap ++ flat_map (objects_of t (number_in numbers)) numbers) begins))) in
    let globals : bound.globals ≡ u.globals = sym (ap (λ (s : State). s.globals) meters ∙ ap (λ (s : State). s.globals) counts) in
    let values : AreMovedNames t (number_in numbers) names u.globals = subst (AreMovedNames t (number_in numbers) names) globals (subst (λ (ns : List Name). AreMovedNames t (number_in numbers) ns bound.globals) b moved) in
    made_tidied t u names closed is
    (subst (λ (ns : List ℕ). u.heap ≡ flat_map (objects_of t (number_in ns)) ns) ordered heap)
    (subst (λ (ns : List ℕ). AreMovedNames t (number_in ns) names u.globals) ordered values)
    (ap (λ (s : State). s.count) meters ∙ (ap (λ (s : State). s.count) counts ∙ as_count))
    (ap (λ (s : State). s.meter) meters ∙ as_meter)
