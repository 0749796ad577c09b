-- What names reach: over more names, in a closed state, and as a list.
use Rattle.std.proofs.Common.{◌≡◌, ℕ, zero, suc, ◌+◌, ◌<◌, ◌≤◌, ◌==◌, true, List, [], ◌∷◌, length, get_or, Option, Some, None, refl, sym, ◌⊎◌, inl, inr, subst, arith}
use Rattle.std.specs.Prelude.{Contains, slice_get}
use Rattle.std.specs.List.{flat_map, list_any}
use Rattle.std.specs.FinMap as finite
use Rattle.std.proofs.lemmas.Bool.{cases_eq, cases_lt, false≢true, or_cases, eqb-true}
use Rattle.std.proofs.lemmas.Bool.Decides.{Decides-eqb}
use Rattle.std.proofs.lemmas.Option.{slice_get_within, get_or_from_slice_get}
use Rattle.std.proofs.lemmas.List.Elements.{All-contains}
use Rattle.std.proofs.lemmas.Map.Steps.{length-le_from_distinct_below}
use Rattle.std.proofs.lemmas.Map.Made.{IsDistinct-from_AllPairs}
use Rattle.py_value.specs.declared.value.Value.{Value}
use Rattle.py_heap.specs.declared.heap.Object.{Object}
use Rattle.py_heap.specs.declared.state.State.{State}
use Rattle.py_heap.specs.References.{value_refs, object_refs, AreLive, IsClosed}
use Rattle.py_heap.specs.Reaching.{held_refs, name_refs, refs_at, Reach}
use Rattle.py_heap.specs.Reaching as reaching
use Rattle.py_heap.specs.Searches.{all_noted}
use Rattle.py_heap.proofs.Searching.{FoundSo, found_first, found_more, found_members, found_apart}
use Rattle.py_machine.specs.Runs.{Name}
use Rattle.py_laws.specs.Same.{IsListOf}
use Rattle.py_laws.proofs.Partners.{none_in, first_in, later_in}

-- ---- over more names

pub reach_more : (s : State) (names more : List Name) → ((x : Name) → Contains names x → Contains more x) → (at : ℕ) → Reach s names at → Reach s more at
reach_more s names more k n (reaching.named x at c r) = reaching.named x at (k x c) r
reach_more s names more k n (reaching.held from at r c) = reaching.held from at (reach_more s names more k from r) c

-- ---- in a closed state it is live

live_name : (s : State) → IsClosed s → (x : Name) (o : Option Value) → finite.get s.globals x ≡ o → (at : ℕ) → Contains (held_refs value_refs o) at → at < length s.heap
live_name s c x (Some held) e at h = All-contains (λ a. a < length s.heap) (value_refs held) at (c.names x held e) h
live_name s c x None e at h = absurd (none_in at h)

live_object : (s : State) → IsClosed s → (from : ℕ) (o : Option Object) → slice_get s.heap from ≡ o → (at : ℕ) → Contains (held_refs object_refs o) at → at < length s.heap
live_object s c from (Some held) e at h =
    let l : AreLive s.heap (object_refs held) = subst (λ o. AreLive s.heap (object_refs o)) (get_or_from_slice_get s.heap from held held e) (c.objects from held (slice_get_within s.heap from held e)) in
    All-contains (λ a. a < length s.heap) (object_refs held) at l h
live_object s c from None e at h = absurd (none_in at h)

pub reached_live : (s : State) → IsClosed s → (names : List Name) (at : ℕ) → Reach s names at → at < length s.heap
reached_live s c names n (reaching.named x at k r) = live_name s c x (finite.get s.globals x) refl at r
reached_live s c names n (reaching.held from at r k) = live_object s c from (slice_get s.heap from) refl at k

-- ---- a number is in a list, or it isn't

cons_by : (m n : ℕ) (ns : List ℕ) (k : ℕ) → k < length (m ∷ ns) → get_or (m ∷ ns) k n ≡ n → (m ≡ n) ⊎ Contains ns n
cons_by m n ns zero l e = inl e
cons_by m n ns (suc k) l e = inr (k, omega arith, e)

pub has_number : (ns : List ℕ) (n : ℕ) → Contains ns n ⊎ (Contains ns n → ⊥)
has_number [] n = inr (none_in n)
has_number (m ∷ ns) n = elim (cases_eq m n) [
  | inl e ↦ inl (subst (λ z. Contains (m ∷ ns) z) e (first_in m ns))
  | inr other ↦ elim (has_number ns n) [
    | inl h ↦ inl (later_in m ns n h)
    | inr none ↦ inr (λ h. elim (cons_by m n ns h.0 h.1 h.2) [ inl e ↦ other e | inr h ↦ none h ])
  ]
]

-- ---- as a list: a search ends, since it finds no more than there is

member : (ns : List ℕ) (q : ℕ) → list_any (λ m. q == m) ns ≡ true → Contains ns q
member [] q h = absurd (false≢true h)
member (m ∷ ns) q h = elim (or_cases (q == m) (list_any (λ m. q == m) ns) h) [
  | inl e ↦ subst (λ z. Contains (m ∷ ns) z) (sym (eqb-true q m e)) (first_in m ns)
  | inr k ↦ later_in m ns q (member ns q k)
]

module _ (s : State) (closed : IsClosed s) (names : List Name) where
  found_few : (found : List ℕ) (next : ℕ) → FoundSo s names found next → length found ≤ length s.heap
  found_few found next f =
      length-le_from_distinct_below found (length s.heap) (IsDistinct-from_AllPairs Decides-eqb found (found_apart s names found next f))
      (λ q h. reached_live s closed names q (All-contains (Reach s names) found q f.sound (member found q h)))

  search_on : (fuel next : ℕ) (found : List ℕ) → FoundSo s names found next → length s.heap ≤ next + fuel → (all : List ℕ) × IsListOf s names all
  search_on zero next found f l = (found, found_members s names found next (let few = found_few found next f in omega (arith, few, l)) f)
  search_on (suc fuel) next found f l = elim (cases_lt next (length found)) [
    | inl more ↦
        let refs : List ℕ = refs_at s (get_or found next 0) in
        search_on fuel (next + 1) (all_noted found refs) (found_more s names found (all_noted found refs) next f more refl) (omega (arith, l))
    | inr done ↦ (found, found_members s names found next done f)
  ]

  pub reach_list : (all : List ℕ) × IsListOf s names all
  reach_list =
      let roots : List ℕ = all_noted [] (flat_map (name_refs s) names) in
      search_on (length s.heap) 0 roots (found_first s names roots refl) (omega arith)
