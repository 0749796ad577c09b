-- A search: what it has found when the first of the objects that it found were looked into.
use Rattle.std.proofs.Common.{◌≡◌, ◌≢◌, ℕ, ◌+◌, ◌<◌, ◌≤◌, ◌↔◌, true, List, [], ◌∷◌, ◌++◌, length, get_or, take, sym, ap, ◌∙◌, subst, arith}
use Rattle.std.specs.Prelude.{Contains, All, AllPairs, Some, slice_get}
use Rattle.std.specs.List.{flat_map}
use Rattle.std.proofs.lemmas.Bool.{or_left, or_right}
use Rattle.std.proofs.lemmas.List.{append-nil, append_assoc, take_all, take_more}
use Rattle.std.proofs.lemmas.List.Elements.{All-nil, All-contains, Contains-get_or}
use Rattle.std.proofs.lemmas.Grind.{fold-append, flat_map-append}
use Rattle.std.proofs.lemmas.Option.{slice_get_within, get_or_from_slice_get}
use Rattle.py_value.specs.declared.key.Key.{Key}
use Rattle.py_value.specs.declared.value.Value.{Value}
use Rattle.py_heap.specs.declared.state.State.{State}
use Rattle.py_heap.specs.Dicts.{Pairs}
use Rattle.py_heap.specs.References.{value_refs, pair_refs}
use Rattle.py_heap.specs.Reaching.{name_refs, refs_at, Reach, firsts, met}
use Rattle.py_heap.specs.Reaching.Reach.{named, held}
use Rattle.py_heap.specs.Searches.{has, noted, all_noted}
use Rattle.py_heap.proofs.Numbers.{has_of_contains, contains_of_has, has-append, has-firsts, firsts_are, front_stays, All-all_noted, firsts_apart, All-flat_map, All-flat_map_at, has-flat_map}

-- what was found is what is met first in the names and in the first `next` of the objects found
pub record FoundSo (s : State) (names : List (List ℕ)) (found : List ℕ) (next : ℕ) : Type 0 where
  pub within : next ≤ length found
  pub order : found ≡ all_noted [] (met s names (take next found))
  pub sound : All (Reach s names) found

named_all : (s : State) (names : List (List ℕ)) → All (Reach s names) (flat_map (name_refs s) names)
named_all s names = All-flat_map (Reach s names) (name_refs s) names (λ name c k d l.
    named name (get_or (name_refs s name) k d) c (Contains-get_or (name_refs s name) k d l))

pub found_first : (s : State) (names : List (List ℕ)) (found : List ℕ) → found ≡ all_noted [] (flat_map (name_refs s) names) → FoundSo s names found 0
found_first s names found e =
    let roots : List ℕ = flat_map (name_refs s) names in
    let same : roots ≡ roots ++ [] = sym (append-nil roots) in
    record {
      within = omega arith;
      order = e ∙ ap (λ (ns : List ℕ). all_noted [] ns) same;
      sound = subst (All (Reach s names)) (sym e) (All-all_noted (Reach s names) [] roots (All-nil (Reach s names)) (named_all s names));
    }

-- a look into the next object found meets its references after the others
met_more : (s : State) (names : List (List ℕ)) (found : List ℕ) (next : ℕ) → next < length found
    → met s names (take next found) ++ refs_at s (get_or found next 0) ≡ met s names (take (next + 1) found)
met_more s names found next l =
    let roots : List ℕ = flat_map (name_refs s) names in
    let front : List ℕ = take next found in
    let from : ℕ = get_or found next 0 in
    let refs : List ℕ = refs_at s from in
    let last : flat_map (refs_at s) (from ∷ []) ≡ refs = append-nil refs in
    let more : flat_map (refs_at s) (take (next + 1) found) ≡ flat_map (refs_at s) front ++ refs =
    ap (flat_map (refs_at s)) (take_more found next 0 l) ∙ (flat_map-append (refs_at s) front (from ∷ []) ∙ ap (λ ns. flat_map (refs_at s) front ++ ns) last) in
    append_assoc roots (flat_map (refs_at s) front) refs ∙ ap (λ ns. roots ++ ns) (sym more)

pub found_more : (s : State) (names : List (List ℕ)) (found more : List ℕ) (next : ℕ) → FoundSo s names found next → next < length found
    → more ≡ all_noted found (refs_at s (get_or found next 0)) → FoundSo s names more (next + 1)
found_more s names found more next f l e =
    let from : ℕ = get_or found next 0 in
    let refs : List ℕ = refs_at s from in
    let stays = front_stays found refs (next + 1) (omega arith) in
    let front : take (next + 1) more ≡ take (next + 1) found = ap (take (next + 1)) e ∙ stays.0 in
    let longer : length found ≤ length more = rw e stays.1 in
    let P : ℕ → Type 0 = Reach s names in
    let reached : All P refs = λ k d k_in. held from (get_or refs k d) (f.sound next 0 l) (Contains-get_or refs k d k_in) in
    record {
      within = omega arith;
      order = e ∙ (ap (λ (ns : List ℕ). all_noted ns refs) f.order ∙ (sym (fold-append noted [] (met s names (take next found)) refs)
          ∙ (ap (λ (ns : List ℕ). all_noted [] ns) (met_more s names found next l) ∙ ap (λ (ns : List ℕ). all_noted [] (met s names ns)) (sym front))));
      sound = subst (All P) (sym e) (All-all_noted P found refs f.sound reached);
    }

pub found_order : (s : State) (names : List (List ℕ)) (found : List ℕ) (next : ℕ) → length found ≤ next → FoundSo s names found next → found ≡ firsts (met s names found)
found_order s names found next l f = f.order ∙ (ap (λ (ns : List ℕ). all_noted [] (met s names ns)) (take_all next found l) ∙ firsts_are (met s names found))

-- a list that has all that is met with it has all that is reached
pub whole : (s : State) (names : List (List ℕ)) (found : List ℕ) → ((at : ℕ) → has (met s names found) at ≡ true → has found at ≡ true)
    → (at : ℕ) → Reach s names at → has found at ≡ true
whole s names found has_met n (named name at c r) = has_met at
    (has-append (flat_map (name_refs s) names) (flat_map (refs_at s) found) at
    ∙ or_left _ _ (has-flat_map (name_refs s) names at name c (has_of_contains (name_refs s name) at r)))
whole s names found has_met n (held from at r c) =
    let before = contains_of_has found from (whole s names found has_met from r) in
    has_met at
    (has-append (flat_map (name_refs s) names) (flat_map (refs_at s) found) at
    ∙ or_right _ _ (has-flat_map (refs_at s) found at from before (has_of_contains (refs_at s from) at c)))

-- what is met is found
found_if_met : (s : State) (names : List (List ℕ)) (found : List ℕ) → found ≡ firsts (met s names found) → (at : ℕ) → has (met s names found) at ≡ true → has found at ≡ true
found_if_met s names found e at h = ap (λ (ns : List ℕ). has ns at) e ∙ (has-firsts (met s names found) at ∙ h)

pub found_members : (s : State) (names : List (List ℕ)) (found : List ℕ) (next : ℕ) → length found ≤ next → FoundSo s names found next
    → (at : ℕ) → Contains found at ↔ Reach s names at
found_members s names found next l f at = (
  (λ c. All-contains (Reach s names) found at f.sound c),
  (λ r. contains_of_has found at (whole s names found (found_if_met s names found (found_order s names found next l f)) at r)),
)

pub found_apart : (s : State) (names : List (List ℕ)) (found : List ℕ) (next : ℕ) → FoundSo s names found next → AllPairs (λ a b. a ≢ b) found
found_apart s names found next f = subst (AllPairs (λ a b. a ≢ b)) (sym (f.order ∙ firsts_are (met s names (take next found)))) (firsts_apart (met s names (take next found)))

-- ---- the pairs of a dict, one after the other

module _ (pairs : Pairs) (index : ℕ) (key : Key) (value : Value) (there : slice_get pairs index ≡ Some (key, value)) where
  pair_there : get_or pairs index (key, value) ≡ (key, value)
  pair_there = get_or_from_slice_get pairs index (key, value) (key, value) there

  within : index < length pairs
  within = slice_get_within pairs index (key, value) there

  pub value_has : (P : ℕ → Type 0) → All P (flat_map pair_refs pairs) → All P (value_refs value)
  value_has P a = subst (λ pair. All P (pair_refs pair)) pair_there (All-flat_map_at P pair_refs pairs index (key, value) within a)

  pub one_pair_more : (found : List ℕ)
      → all_noted (all_noted found (flat_map pair_refs (take index pairs))) (value_refs value) ≡ all_noted found (flat_map pair_refs (take (index + 1) pairs))
  one_pair_more found =
      let front : Pairs = take index pairs in
      let pair : Key × Value = (key, value) in
      let more : take (index + 1) pairs ≡ front ++ pair ∷ [] = take_more pairs index pair within ∙ ap (λ last. front ++ last ∷ []) pair_there in
      let last : flat_map pair_refs (pair ∷ []) ≡ value_refs value = append-nil (value_refs value) in
      sym (fold-append noted found (flat_map pair_refs front) (value_refs value))
      ∙ ap (all_noted found) (ap (λ (refs : List ℕ). flat_map pair_refs front ++ refs) (sym last) ∙ (sym (flat_map-append pair_refs front (pair ∷ [])) ∙ ap (flat_map pair_refs) (sym more)))
