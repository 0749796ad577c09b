-- Lists of pairs of addresses: one pair more, the turned pairs, pairs that lead on, and each of the first addresses with itself.
use Rattle.std.proofs.Common.{◌≡◌, ℕ, zero, suc, ◌+◌, ◌<◌, ◌==◌, cond, [], ◌∷◌, ◌++◌, length, get_or, refl, sym, ap, ◌∙◌, ◌⊎◌, inl, inr, subst, arith}
use Rattle.std.proofs.lemmas.Bool.{cases_Bool, cases_lt, eqb-true, eq-eqb}
use Rattle.std.proofs.lemmas.List.Elements.{Contains-append_left, Contains-append_right, Contains-append_cases}
use Rattle.py_laws.specs.Same.{Pairs, HasPair}
use Rattle.py_laws.proofs.Matching.{Through}

-- ---- one pair more

at_position : (p : ℕ × ℕ) (ps : Pairs) (a b k : ℕ) → k < length (p ∷ ps) → get_or (p ∷ ps) k (a, b) ≡ (a, b) → ((a ≡ p.0) × (b ≡ p.1)) ⊎ HasPair ps a b
at_position p ps a b zero l e = inl (ap (λ (q : ℕ × ℕ). q.0) (sym e), ap (λ (q : ℕ × ℕ). q.1) (sym e))
at_position p ps a b (suc k) l e = inr (k, omega arith, e)

pub pair_cases : (p : ℕ × ℕ) (ps : Pairs) (a b : ℕ) → HasPair (p ∷ ps) a b → ((a ≡ p.0) × (b ≡ p.1)) ⊎ HasPair ps a b
pair_cases p ps a b h = at_position p ps a b h.0 h.1 h.2

pub no_pair : (a b : ℕ) → HasPair [] a b → ⊥
no_pair a b h = let l : h.0 < length {A = ℕ × ℕ} [] = h.1 in omega arith

pub first_pair : (a b : ℕ) (ps : Pairs) → HasPair ((a, b) ∷ ps) a b
first_pair a b ps = (0, omega arith, refl)

pub later_pair : (p : ℕ × ℕ) (ps : Pairs) (a b : ℕ) → HasPair ps a b → HasPair (p ∷ ps) a b
later_pair p ps a b h = (suc h.0, let l : h.0 < length ps = h.1 in omega arith, h.2)

-- ---- turned pairs

pub turned_pairs : Pairs → Pairs
turned_pairs [] = []
turned_pairs (p ∷ ps) = (p.1, p.0) ∷ turned_pairs ps

pub to_turned : (ps : Pairs) (a b : ℕ) → HasPair ps a b → HasPair (turned_pairs ps) b a
unfolding turned_pairs
to_turned [] a b h = absurd (no_pair a b h)
to_turned (p ∷ ps) a b h = elim (pair_cases p ps a b h) [
  | inl e ↦ subst (λ c. HasPair ((p.1, p.0) ∷ turned_pairs ps) c a) (sym e.1) (subst (λ c. HasPair ((p.1, p.0) ∷ turned_pairs ps) p.1 c) (sym e.0) (first_pair p.1 p.0 (turned_pairs ps)))
  | inr q ↦ later_pair (p.1, p.0) (turned_pairs ps) b a (to_turned ps a b q)
]

pub from_turned : (ps : Pairs) (a b : ℕ) → HasPair (turned_pairs ps) b a → HasPair ps a b
unfolding turned_pairs
from_turned [] a b h = absurd (no_pair b a h)
from_turned (p ∷ ps) a b h = elim (pair_cases (p.1, p.0) (turned_pairs ps) b a h) [
  | inl e ↦ subst (λ c. HasPair (p ∷ ps) c b) (sym e.1) (subst (λ c. HasPair (p ∷ ps) p.0 c) (sym e.0) (first_pair p.0 p.1 ps))
  | inr q ↦ later_pair p ps a b (from_turned ps a b q)
]

-- ---- pairs that lead on from the second address of a pair

onward : ℕ × ℕ → Pairs → Pairs
onward p [] = []
onward p (q ∷ qs) = cond (p.1 == q.0) ((p.0, q.1) ∷ onward p qs) (onward p qs)

to_onward : (a b c : ℕ) (qs : Pairs) → HasPair qs b c → HasPair (onward (a, b) qs) a c
unfolding onward
to_onward a b c [] h = absurd (no_pair b c h)
to_onward a b c (q ∷ qs) h = elim (pair_cases q qs b c h) [
  | inl e ↦ rw (eq-eqb b q.0 e.0) (subst (λ d. HasPair ((a, q.1) ∷ onward (a, b) qs) a d) (sym e.1) (first_pair a q.1 (onward (a, b) qs)))
  | inr k ↦ elim (cases_Bool (b == q.0)) [
    | inl t ↦ rw t (later_pair (a, q.1) (onward (a, b) qs) a c (to_onward a b c qs k))
    | inr f ↦ rw f (to_onward a b c qs k)
  ]
]

from_onward : (a b x c : ℕ) (qs : Pairs) → HasPair (onward (a, b) qs) x c → (x ≡ a) × HasPair qs b c
unfolding onward
from_onward a b x c [] h = absurd (no_pair x c h)
from_onward a b x c (q ∷ qs) h = elim (cases_Bool (b == q.0)) [
  | inl t ↦ elim (pair_cases (a, q.1) (onward (a, b) qs) x c (rw t at h)) [
    | inl e ↦ (e.0, subst (λ d. HasPair (q ∷ qs) b d) (sym e.1) (subst (λ d. HasPair (q ∷ qs) d q.1) (sym (eqb-true b q.0 t)) (first_pair q.0 q.1 qs)))
    | inr k ↦ let r = from_onward a b x c qs k in (r.0, later_pair q qs b c r.1)
  ]
  | inr f ↦ let r = from_onward a b x c qs (rw f at h) in (r.0, later_pair q qs b c r.1)
]

pub pairs_through : Pairs → Pairs → Pairs
pairs_through [] qs = []
pairs_through (p ∷ ps) qs = onward p qs ++ pairs_through ps qs

pub to_through : (ps qs : Pairs) (a c : ℕ) → Through (HasPair ps) (HasPair qs) a c → HasPair (pairs_through ps qs) a c
unfolding pairs_through
to_through [] qs a c h = absurd (no_pair a h.0 h.1)
to_through (p ∷ ps) qs a c h = elim (pair_cases p ps a h.0 h.1) [
  | inl e ↦ Contains-append_left (onward p qs) (pairs_through ps qs) (a, c)
      (subst (λ x. HasPair (onward p qs) x c) (sym e.0) (to_onward p.0 p.1 c qs (subst (λ x. HasPair qs x c) e.1 h.2)))
  | inr k ↦ Contains-append_right (onward p qs) (pairs_through ps qs) (a, c) (to_through ps qs a c (h.0, k, h.2))
]

pub from_through : (ps qs : Pairs) (a c : ℕ) → HasPair (pairs_through ps qs) a c → Through (HasPair ps) (HasPair qs) a c
unfolding pairs_through
from_through [] qs a c h = absurd (no_pair a c h)
from_through (p ∷ ps) qs a c h = elim (Contains-append_cases (onward p qs) (pairs_through ps qs) (a, c) h) [
  | inl k ↦ let r = from_onward p.0 p.1 a c qs k in (p.1, subst (λ x. HasPair (p ∷ ps) x p.1) (sym r.0) (first_pair p.0 p.1 ps), r.1)
  | inr k ↦ let r = from_through ps qs a c k in (r.0, later_pair p ps a r.0 r.1, r.2)
]

-- ---- each of the first addresses with itself

pub with_themselves : ℕ → Pairs
with_themselves zero = []
with_themselves (suc n) = (n, n) ∷ with_themselves n

pub to_themselves : (n a : ℕ) → a < n → HasPair (with_themselves n) a a
unfolding with_themselves
to_themselves zero a l = absurd (omega arith)
to_themselves (suc n) a l = elim (cases_lt a n) [
  | inl less ↦ later_pair (n, n) (with_themselves n) a a (to_themselves n a less)
  | inr past ↦ let e : n ≡ a = omega arith in subst (λ b. HasPair ((n, n) ∷ with_themselves n) b b) e (first_pair n n (with_themselves n))
]

pub from_themselves : (n a b : ℕ) → HasPair (with_themselves n) a b → (a ≡ b) × (a < n)
unfolding with_themselves
from_themselves zero a b h = absurd (no_pair a b h)
from_themselves (suc n) a b h = elim (pair_cases (n, n) (with_themselves n) a b h) [
  | inl e ↦ (e.0 ∙ sym e.1, omega (arith, e.0))
  | inr k ↦ let r = from_themselves n a b k in (r.0, omega (arith, r.1))
]

-- ---- the new addresses of two runs, in their order

pub new_pairs : ℕ → ℕ → ℕ → Pairs
new_pairs lefts rights zero = []
new_pairs lefts rights (suc k) = (lefts + k, rights + k) ∷ new_pairs lefts rights k

pub to_new : (lefts rights k i a b : ℕ) → i < k → a ≡ lefts + i → b ≡ rights + i → HasPair (new_pairs lefts rights k) a b
unfolding new_pairs
to_new lefts rights zero i a b l e f = absurd (omega arith)
to_new lefts rights (suc k) i a b l e f = elim (cases_lt i k) [
  | inl less ↦ later_pair (lefts + k, rights + k) (new_pairs lefts rights k) a b (to_new lefts rights k i a b less e f)
  | inr past ↦
      let x : lefts + k ≡ a = omega (arith, e, l, past) in
      let y : rights + k ≡ b = omega (arith, f, l, past) in
      subst (λ z. HasPair ((lefts + k, rights + k) ∷ new_pairs lefts rights k) z b) x (subst (λ z. HasPair ((lefts + k, rights + k) ∷ new_pairs lefts rights k) (lefts + k) z) y
      (first_pair (lefts + k) (rights + k) (new_pairs lefts rights k)))
]

pub from_new : (lefts rights k a b : ℕ) → HasPair (new_pairs lefts rights k) a b → (i : ℕ) × (i < k) × (a ≡ lefts + i) × (b ≡ rights + i)
unfolding new_pairs
from_new lefts rights zero a b h = absurd (no_pair a b h)
from_new lefts rights (suc k) a b h = elim (pair_cases (lefts + k, rights + k) (new_pairs lefts rights k) a b h) [
  | inl e ↦ (k, omega arith, e.0, e.1)
  | inr q ↦ let r = from_new lefts rights k a b q in (r.0, omega (arith, r.1), r.2, r.3)
]
