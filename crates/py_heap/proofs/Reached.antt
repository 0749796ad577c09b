-- In a closed state what names reach is live, and a list has it.
use Rattle.std.proofs.Common.{◌≡◌, ℕ, zero, suc, ◌+◌, ◌<◌, ◌≤◌, ◌==◌, true, List, [], ◌∷◌, length, get_or, Option, Some, None, refl, sym, inl, inr, subst, arith}
use Rattle.std.specs.Prelude.{Contains, slice_get}
use Rattle.std.specs.List.{flat_map, list_any}
use Rattle.std.specs.FinMap as finite
use Rattle.std.proofs.lemmas.Bool.{cases_lt, false≢true, or_cases, eqb-true}
use Rattle.std.proofs.lemmas.Bool.Decides.{Decides-eqb}
use Rattle.std.proofs.lemmas.Option.{slice_get_within, get_or_from_slice_get}
use Rattle.std.proofs.lemmas.List.Elements.{All-contains}
use Rattle.std.proofs.lemmas.Map.Steps.{length-le_from_distinct_below}
use Rattle.std.proofs.lemmas.Map.Made.{IsDistinct-from_AllPairs}
use Rattle.py_value.specs.declared.value.Value.{Value}
use Rattle.py_heap.specs.declared.heap.Object.{Object}
use Rattle.py_heap.specs.declared.state.State.{State}
use Rattle.py_heap.specs.References.{value_refs, object_refs, AreLive, IsClosed}
use Rattle.py_heap.specs.Reaching.{held_refs, name_refs, refs_at, Reach, IsListOf}
use Rattle.py_heap.specs.Reaching.Reach.{named, held}
use Rattle.py_heap.specs.Searches.{all_noted}
use Rattle.py_heap.proofs.Searching.{FoundSo, found_first, found_more, found_members, found_apart}

none_in : (at : ℕ) → Contains [] at → ⊥
none_in at h = let l : h.0 < length {A = ℕ} [] = h.1 in omega arith

live_name : (s : State) → IsClosed s → (name : List ℕ) (o : Option Value) → finite.get s.globals name ≡ o → (at : ℕ) → Contains (held_refs value_refs o) at → at < length s.heap
live_name s c name (Some value) e at h = All-contains (λ a. a < length s.heap) (value_refs value) at (c.names name value e) h
live_name s c name None e at h = absurd (none_in at h)

live_object : (s : State) → IsClosed s → (from : ℕ) (o : Option Object) → slice_get s.heap from ≡ o → (at : ℕ) → Contains (held_refs object_refs o) at → at < length s.heap
live_object s c from (Some object) e at h =
    let l : AreLive s.heap (object_refs object) = subst (λ o. AreLive s.heap (object_refs o)) (get_or_from_slice_get s.heap from object object e) (c.objects from object (slice_get_within s.heap from object e)) in
    All-contains (λ a. a < length s.heap) (object_refs object) at l h
live_object s c from None e at h = absurd (none_in at h)

pub reached_live : (s : State) → IsClosed s → (names : List (List ℕ)) (at : ℕ) → Reach s names at → at < length s.heap
reached_live s c names n (named name at k r) = live_name s c name (finite.get s.globals name) refl at r
reached_live s c names n (held from at r k) = live_object s c from (slice_get s.heap from) refl at k

member : (ns : List ℕ) (n : ℕ) → list_any (λ m. n == m) ns ≡ true → Contains ns n
member [] n h = absurd (false≢true h)
member (m ∷ ns) n h = elim (or_cases (n == m) (list_any (λ m. n == m) ns) h) [
  | inl e ↦ (0, omega arith, sym (eqb-true n m e))
  | inr k ↦ let c = member ns n k in (suc c.0, let l : c.0 < length ns = c.1 in omega arith, c.2)
]

-- a search ends, since it finds no more than there is
module _ (s : State) (closed : IsClosed s) (names : List (List ℕ)) where
  found_few : (found : List ℕ) (next : ℕ) → FoundSo s names found next → length found ≤ length s.heap
  found_few found next f =
      length-le_from_distinct_below found (length s.heap) (IsDistinct-from_AllPairs Decides-eqb found (found_apart s names found next f))
      (λ n h. reached_live s closed names n (All-contains (Reach s names) found n f.sound (member found n h)))

  search_on : (fuel next : ℕ) (found : List ℕ) → FoundSo s names found next → length s.heap ≤ next + fuel → (all : List ℕ) × IsListOf s names all
  search_on zero next found f l = (found, found_members s names found next (let few = found_few found next f in omega (arith, few, l)) f)
  search_on (suc fuel) next found f l = elim (cases_lt next (length found)) [
    | inl more ↦
        let refs : List ℕ = refs_at s (get_or found next 0) in
        search_on fuel (next + 1) (all_noted found refs) (found_more s names found (all_noted found refs) next f more refl) (omega (arith, l))
    | inr done ↦ (found, found_members s names found next done f)
  ]

  pub reach_list : (all : List ℕ) × IsListOf s names all
  reach_list =
      let roots : List ℕ = all_noted [] (flat_map (name_refs s) names) in
      search_on (length s.heap) 0 roots (found_first s names roots refl) (omega arith)
