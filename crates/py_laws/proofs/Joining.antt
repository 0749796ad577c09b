-- Sameness over some names is by the pairs of what they reach alone, and it joins over names that reach nothing in common.
use Rattle.std.proofs.Common.{◌≡◌, ℕ, List, [], ◌∷◌, ◌++◌, sym, ◌⊎◌, inl, inr, subst}
use Rattle.std.specs.Prelude.{Contains}
use Rattle.std.proofs.lemmas.List.Elements.{Contains-append_left, Contains-append_right, Contains-append_cases}
use Rattle.py_heap.specs.declared.state.State.{State}
use Rattle.py_heap.specs.References.{IsClosed}
use Rattle.py_heap.specs.Reaching.{Reach}
use Rattle.py_machine.specs.Runs.{Name}
use Rattle.py_laws.specs.Same.{Pairs, HasPair, ValuesMatch, ObjectsMatch, Same, SameWithin}
use Rattle.py_laws.proofs.Matching.{BothOrNone-more, Both-more, more_value, more_object}
use Rattle.py_laws.proofs.Pairing.{pair_cases, no_pair, first_pair, later_pair}
use Rattle.py_laws.proofs.Sameness.{same_by_agreeing}
use Rattle.py_laws.proofs.Narrowing.{Narrow, reached_same}
use Rattle.py_laws.proofs.Reached.{reach_more, reach_list, has_number}

-- ---- by pairs that the names reach alone

both_within : (ls rs : List ℕ) (p : ℕ × ℕ) → (Contains ls p.0 × Contains rs p.1) ⊎ (Contains ls p.0 → ¬ Contains rs p.1)
both_within ls rs p = elim (has_number ls p.0) [
  | inl l ↦ elim (has_number rs p.1) [ inl m ↦ inl (l, m) | inr none ↦ inr (λ l m. none m) ]
  | inr none ↦ inr (λ l m. none l)
]

taken : {P Q : Type 0} → P ⊎ Q → ℕ × ℕ → Pairs → Pairs
taken (inl in_both) p ps = p ∷ ps
taken (inr out) p ps = ps

pub pairs_within : List ℕ → List ℕ → Pairs → Pairs
pairs_within ls rs [] = []
pairs_within ls rs (p ∷ ps) = taken (both_within ls rs p) p (pairs_within ls rs ps)

to_within_one : (ls rs : List ℕ) (p : ℕ × ℕ) (ps : Pairs) (w : (Contains ls p.0 × Contains rs p.1) ⊎ (Contains ls p.0 → ¬ Contains rs p.1)) (a b : ℕ)
    → ((a ≡ p.0) × (b ≡ p.1)) ⊎ HasPair ps a b → Contains ls a → Contains rs b → HasPair (taken w p ps) a b
unfolding taken
to_within_one ls rs p ps (inl k) a b (inl e) l m = subst (λ z. HasPair (p ∷ ps) z b) (sym e.0) (subst (λ z. HasPair (p ∷ ps) p.0 z) (sym e.1) (first_pair p.0 p.1 ps))
to_within_one ls rs p ps (inl k) a b (inr q) l m = later_pair p ps a b q
to_within_one ls rs p ps (inr out) a b (inl e) l m = absurd (out (subst (λ z. Contains ls z) e.0 l) (subst (λ z. Contains rs z) e.1 m))
to_within_one ls rs p ps (inr out) a b (inr q) l m = q

pub to_within : (ls rs : List ℕ) (ps : Pairs) (a b : ℕ) → HasPair ps a b → Contains ls a → Contains rs b → HasPair (pairs_within ls rs ps) a b
unfolding pairs_within
to_within ls rs [] a b h l m = absurd (no_pair a b h)
to_within ls rs (p ∷ ps) a b h l m = to_within_one ls rs p (pairs_within ls rs ps) (both_within ls rs p) a b
    (elim (pair_cases p ps a b h) [ inl e ↦ inl e | inr k ↦ inr (to_within ls rs ps a b k l m) ]) l m

from_within_one : (ls rs : List ℕ) (p : ℕ × ℕ) (ps qs : Pairs) (w : (Contains ls p.0 × Contains rs p.1) ⊎ (Contains ls p.0 → ¬ Contains rs p.1)) (a b : ℕ)
    → (HasPair qs a b → HasPair ps a b × Contains ls a × Contains rs b) → HasPair (taken w p qs) a b → HasPair (p ∷ ps) a b × Contains ls a × Contains rs b
unfolding taken
from_within_one ls rs p ps qs (inl k) a b rest h = elim (pair_cases p qs a b h) [
  | inl e ↦ (
    subst (λ z. HasPair (p ∷ ps) z b) (sym e.0) (subst (λ z. HasPair (p ∷ ps) p.0 z) (sym e.1) (first_pair p.0 p.1 ps)),
    subst (λ z. Contains ls z) (sym e.0) k.0,
    subst (λ z. Contains rs z) (sym e.1) k.1,
  )
  | inr q ↦ let w = rest q in (later_pair p ps a b w.0, w.1, w.2)
]
from_within_one ls rs p ps qs (inr out) a b rest h = let w = rest h in (later_pair p ps a b w.0, w.1, w.2)

pub from_within : (ls rs : List ℕ) (ps : Pairs) (a b : ℕ) → HasPair (pairs_within ls rs ps) a b → HasPair ps a b × Contains ls a × Contains rs b
unfolding pairs_within
from_within ls rs [] a b h = absurd (no_pair a b h)
from_within ls rs (p ∷ ps) a b h = from_within_one ls rs p ps (pairs_within ls rs ps) (both_within ls rs p) a b (from_within ls rs ps a b) h

pub reached_only : (names : List Name) (s t : State) → IsClosed s → IsClosed t → Same (Contains names) s t → SameWithin names s t
reached_only names s t closed_s closed_t h =
    let ls = reach_list s closed_s names in
    let rs = reach_list t closed_t names in
    let ps : (ℕ → ℕ → Type 0) = HasPair h.by in
    let list : Pairs = pairs_within ls.0 rs.0 h.by in
    let N : (ℕ → ℕ → Type 0) = Narrow ps (Reach s names) (Reach t names) in
    record {
      by = list;
      same = same_by_agreeing N (HasPair list) (Contains names) s t
          (λ a b p. to_within ls.0 rs.0 h.by a b p.0 ((ls.1 a).1 p.1) ((rs.1 b).1 p.2))
          (λ a b p. let w = from_within ls.0 rs.0 h.by a b p in (w.0, (ls.1 a).0 w.1, (rs.1 b).0 w.2))
          (reached_same ps names s t h.same);
      left = λ a b p. (ls.1 a).0 (from_within ls.0 rs.0 h.by a b p).1;
      right = λ a b p. (rs.1 b).0 (from_within ls.0 rs.0 h.by a b p).2;
    }

-- ---- over two lists of names that reach nothing in common

module _ (s t : State) (ns ms : List Name) (h : SameWithin ns s t) (k : SameWithin ms s t)
    (lefts : (at : ℕ) → Reach s ns at → ¬ Reach s ms at) (rights : (at : ℕ) → Reach t ns at → ¬ Reach t ms at) where
  list : Pairs
  list = h.by ++ k.by

  abbrev By : ℕ → ℕ → Type 0
  By = HasPair list

  first : (a b : ℕ) → HasPair h.by a b → By a b
  unfolding list
  first a b p = Contains-append_left h.by k.by (a, b) p

  second : (a b : ℕ) → HasPair k.by a b → By a b
  unfolding list
  second a b p = Contains-append_right h.by k.by (a, b) p

  either : (a b : ℕ) → By a b → HasPair h.by a b ⊎ HasPair k.by a b
  unfolding list
  either a b p = Contains-append_cases h.by k.by (a, b) p

  one_left : (a b c : ℕ) → By a b → By a c → b ≡ c
  one_left a b c p q = elim (either a b p) [
    | inl i ↦ elim (either a c q) [ inl j ↦ h.same.pairs.left a b c i j | inr j ↦ absurd (lefts a (h.left a b i) (k.left a c j)) ]
    | inr i ↦ elim (either a c q) [ inl j ↦ absurd (lefts a (h.left a c j) (k.left a b i)) | inr j ↦ k.same.pairs.left a b c i j ]
  ]

  one_right : (a b c : ℕ) → By a c → By b c → a ≡ b
  one_right a b c p q = elim (either a c p) [
    | inl i ↦ elim (either b c q) [ inl j ↦ h.same.pairs.right a b c i j | inr j ↦ absurd (rights c (h.right a c i) (k.right b c j)) ]
    | inr i ↦ elim (either b c q) [ inl j ↦ absurd (rights c (h.right b c j) (k.right a c i)) | inr j ↦ k.same.pairs.right a b c i j ]
  ]

  pub joined : SameWithin (ns ++ ms) s t
  joined = record {
    by = list;
    same = record {
      pairs = record { left = one_left; right = one_right };
      names = λ x n. elim (Contains-append_cases ns ms x n) [
        | inl i ↦ BothOrNone-more (ValuesMatch (HasPair h.by)) (ValuesMatch By) (more_value (HasPair h.by) By first) _ _ (h.same.names x i)
        | inr j ↦ BothOrNone-more (ValuesMatch (HasPair k.by)) (ValuesMatch By) (more_value (HasPair k.by) By second) _ _ (k.same.names x j)
      ];
      objects = λ a b p. elim (either a b p) [
        | inl i ↦ Both-more (ObjectsMatch (HasPair h.by)) (ObjectsMatch By) (more_object (HasPair h.by) By first) _ _ (h.same.objects a b i)
        | inr j ↦ Both-more (ObjectsMatch (HasPair k.by)) (ObjectsMatch By) (more_object (HasPair k.by) By second) _ _ (k.same.objects a b j)
      ];
    };
    left = λ a b p. elim (either a b p) [
      | inl i ↦ reach_more s ns (ns ++ ms) (λ x n. Contains-append_left ns ms x n) a (h.left a b i)
      | inr j ↦ reach_more s ms (ns ++ ms) (λ x n. Contains-append_right ns ms x n) a (k.left a b j)
    ];
    right = λ a b p. elim (either a b p) [
      | inl i ↦ reach_more t ns (ns ++ ms) (λ x n. Contains-append_left ns ms x n) b (h.right a b i)
      | inr j ↦ reach_more t ms (ns ++ ms) (λ x n. Contains-append_right ns ms x n) b (k.right a b j)
    ];
  }
