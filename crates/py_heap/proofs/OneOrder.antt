-- One list alone has what is reached, in the order in which it is met first.
use Rattle.std.proofs.Common.{◌≡◌, ◌≢◌, ℕ, zero, suc, ◌+◌, ◌<◌, ◌≤◌, true, List, ◌++◌, length, get_or, take, drop, refl, sym, ap, ◌∙◌, subst, inl, inr, arith, add-one}
use Rattle.std.specs.Prelude.{Contains, AllPairs}
use Rattle.std.specs.List.{flat_map}
use Rattle.std.proofs.lemmas.Bool.{cases_lt}
use Rattle.std.proofs.lemmas.List.{append_assoc, take_all, take-take, take-append-drop, length-take-le, get_or-take, get_or_default}
use Rattle.std.proofs.lemmas.List.Elements.{Contains-get_or}
use Rattle.std.proofs.lemmas.Grind.{flat_map-append}
use Rattle.py_heap.specs.declared.state.State.{State}
use Rattle.py_heap.specs.Reaching.{name_refs, refs_at, Reach, firsts, met}
use Rattle.py_heap.specs.Searches.{has, all_noted}
use Rattle.py_heap.proofs.Numbers.{contains_of_has, has_of_front, has-firsts, front_stays, firsts_apart, firsts-append}
use Rattle.py_heap.proofs.Searching.{whole}

module _ (s : State) (names : List (List ℕ)) where
  met-append : (front rest : List ℕ) → met s names (front ++ rest) ≡ met s names front ++ flat_map (refs_at s) rest
  met-append front rest =
      let roots : List ℕ = flat_map (name_refs s) names in
      ap (λ (ns : List ℕ). roots ++ ns) (flat_map-append (refs_at s) front rest)
      ∙ sym (append_assoc roots (flat_map (refs_at s) front) (flat_map (refs_at s) rest))

  -- what is met first with the first k of the list
  abbrev early : List ℕ → ℕ → List ℕ
  early found k = firsts (met s names (take k found))

  begins : (found : List ℕ) (k : ℕ) → found ≡ firsts (met s names found) → found ≡ all_noted (early found k) (flat_map (refs_at s) (drop k found))
  begins found k e = e ∙ (ap (λ (ns : List ℕ). firsts (met s names ns)) (sym (take-append-drop k found))
      ∙ (ap firsts (met-append (take k found) (drop k found)) ∙ firsts-append (met s names (take k found)) (flat_map (refs_at s) (drop k found))))

  -- the list begins with that
  begins_so : (found : List ℕ) (k i : ℕ) → found ≡ firsts (met s names found) → i ≤ length (early found k) → take i found ≡ take i (early found k)
  begins_so found k i e l = ap (take i) (begins found k e) ∙ (front_stays (early found k) (flat_map (refs_at s) (drop k found)) i l).0

  in_front : (found : List ℕ) (k at : ℕ) → found ≡ firsts (met s names found) → length (early found k) ≤ k → has (met s names (take k found)) at ≡ true → has (take k found) at ≡ true
  in_front found k at e l h =
      let m : ℕ = length (early found k) in
      let same : take m (take k found) ≡ early found k = take-take m k found l ∙ (begins_so found k m e (omega arith) ∙ take_all m (early found k) (omega arith)) in
      has_of_front (take k found) m at (ap (λ (ns : List ℕ). has ns at) same ∙ (has-firsts (met s names (take k found)) at ∙ h))

  -- no number of a front comes again after it
  not_again : (found : List ℕ) (k : ℕ) → found ≡ firsts (met s names found) → k < length found → has (take k found) (get_or found k 0) ≡ true → ⊥
  not_again found k e l h =
      let x : ℕ = get_or found k 0 in
      let c = contains_of_has (take k found) x h in
      let n : length (take k found) ≡ k = length-take-le k found (omega arith) in
      let less : c.0 < k = let w : c.0 < length (take k found) = c.1 in omega arith in
      let apart : AllPairs (λ a b. a ≢ b) found = subst (AllPairs (λ a b. a ≢ b)) (sym e) (firsts_apart (met s names found)) in
      apart c.0 k 0 less l (get_or_default found c.0 0 x (omega arith) ∙ (sym (get_or-take k found c.0 x less) ∙ c.2))

  ended : (found : List ℕ) (k : ℕ) → ((at : ℕ) → Contains found at → Reach s names at) → found ≡ firsts (met s names found) → length (early found k) ≤ k → length found ≤ k
  ended found k sound e l = elim (cases_lt k (length found)) [
    | inr done ↦ done
    | inl more ↦
        let x : ℕ = get_or found k 0 in
        let r : Reach s names x = sound x (Contains-get_or found k 0 more) in
        absurd (not_again found k e more (whole s names (take k found) (λ at h. in_front found k at e l h) x r))
  ]

  module _ (a b : List ℕ) (sound_a : (at : ℕ) → Contains a at → Reach s names at) (sound_b : (at : ℕ) → Contains b at → Reach s names at)
      (order_a : a ≡ firsts (met s names a)) (order_b : b ≡ firsts (met s names b)) where
    one_more : (k : ℕ) → take k a ≡ take k b → take (k + 1) a ≡ take (k + 1) b
    one_more k e =
        let same : early a k ≡ early b k = ap (λ (ns : List ℕ). firsts (met s names ns)) e in
        let size : length (early a k) ≡ length (early b k) = ap (λ (ns : List ℕ). length ns) same in
        elim (cases_lt k (length (early a k))) [
          | inl l ↦ begins_so a k (k + 1) order_a (omega arith) ∙ (ap (take (k + 1)) same ∙ sym (begins_so b k (k + 1) order_b (omega arith)))
          | inr l ↦
              let end_a : length a ≤ k = ended a k sound_a order_a l in
              let end_b : length b ≤ k = ended b k sound_b order_b (omega arith) in
              take_all (k + 1) a (omega arith) ∙ (sym (take_all k a end_a) ∙ (e ∙ (take_all k b end_b ∙ sym (take_all (k + 1) b (omega arith)))))
        ]

    fronts : (k : ℕ) → take k a ≡ take k b
    fronts zero = refl
    fronts (suc k) = subst (λ n. take n a ≡ take n b) (add-one k) (one_more k (fronts k))

    pub one_list : a ≡ b
    one_list =
        let n : ℕ = length a + length b in
        sym (take_all n a (omega arith)) ∙ (fronts n ∙ take_all n b (omega arith))
