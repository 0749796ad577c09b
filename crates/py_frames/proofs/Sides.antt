-- Places side by side, as they are kept: the deepest first.
use Rattle.std.proofs.Common.{◌≡◌, ℕ, zero, suc, ◌+◌, ◌-◌, ◌<◌, ◌≤◌, ◌⊎◌, inl, inr, max, List, [], ◌∷◌, length, get_or, reverse, refl, ap, ◌∙◌, sym, arith, subst}
use Rattle.std.proofs.lemmas.List.{get_or-reverse, ext_get_or, length-reverse}
use Rattle.py_frames.specs.Values.{beside}

pub beside-comm : (p q : List ℕ) → beside p q ≡ beside q p
beside-comm [] [] = refl
beside-comm [] (y ∷ q) = refl
beside-comm (x ∷ p) [] = refl
beside-comm (x ∷ p) (y ∷ q) = let m : max x y ≡ max y x = omega arith in let e = beside-comm p q in cc

length-beside : (p q : List ℕ) → length (beside p q) ≡ max (length p) (length q)
length-beside [] q = omega arith
length-beside (x ∷ p) [] = omega arith
length-beside (x ∷ p) (y ∷ q) = let e = length-beside p q in omega (arith, e)

get_or-beside : (p q : List ℕ) (k : ℕ) → get_or (beside p q) k 0 ≡ max (get_or p k 0) (get_or q k 0)
get_or-beside [] q k = omega arith
get_or-beside (x ∷ p) [] k = omega arith
get_or-beside (x ∷ p) (y ∷ q) zero = refl
get_or-beside (x ∷ p) (y ∷ q) (suc k) = get_or-beside p q k

-- the shorter has been taken into the longer, up to an index
pub record Raised (old short new : List ℕ) (gap upto : ℕ) : Type 0 where
  pub long : length new ≡ length old
  pub done : (j : ℕ) → j < upto → get_or new (gap + j) 0 ≡ max (get_or old (gap + j) 0) (get_or short j 0)
  pub front : (k : ℕ) → k < gap → get_or new k 0 ≡ get_or old k 0
  pub rest : (j : ℕ) → upto ≤ j → get_or new (gap + j) 0 ≡ get_or old (gap + j) 0

below-or : (k n : ℕ) → (k < n) ⊎ (n ≤ k)
below-or k zero = inr (omega arith)
below-or zero (suc n) = inl (omega arith)
below-or (suc k) (suc n) = elim (below-or k n) [ inl f ↦ inl (omega (arith, f)) | inr f ↦ inr (omega (arith, f)) ]

past : (xs : List ℕ) (k : ℕ) → length xs ≤ k → get_or xs k 0 ≡ 0
past [] k h = refl
past (x ∷ xs) zero h = absurd (omega (arith, h))
past (x ∷ xs) (suc k) h = past xs k (omega (arith, h))

-- the place is in the shorter, or before it
raised-in : (old short new : List ℕ) (gap : ℕ) → gap + length short ≡ length old → Raised old short new gap (length short) → (k : ℕ) → k < length short
    → get_or new (length old - 1 - k) 0 ≡ max (get_or old (length old - 1 - k) 0) (get_or (reverse short) k 0)
raised-in old short new gap e r k h =
    let x : gap + (length short - 1 - k) ≡ length old - 1 - k = omega (arith, e, h) in
    let d = r.done (length short - 1 - k) (omega (arith, h)) in
    ap (λ i. get_or new i 0) (sym x) ∙ d ∙ ap (λ i. max (get_or old i 0) (get_or short (length short - 1 - k) 0)) x ∙ ap (max (get_or old (length old - 1 - k) 0)) (sym (get_or-reverse short k 0 h))

raised-before : (old short new : List ℕ) (gap : ℕ) → gap + length short ≡ length old → Raised old short new gap (length short) → (k : ℕ) → k < length old → length short ≤ k
    → get_or new (length old - 1 - k) 0 ≡ max (get_or old (length old - 1 - k) 0) (get_or (reverse short) k 0)
raised-before old short new gap e r k h f =
    let p = past (reverse short) k (subst (λ n. n ≤ k) (sym (length-reverse short)) f) in
    r.front (length old - 1 - k) (omega (arith, e, h, f)) ∙ omega (arith, p)

raised-at : (old short new : List ℕ) (gap : ℕ) → gap + length short ≡ length old → Raised old short new gap (length short) → (k : ℕ) → k < length old
    → get_or new (length old - 1 - k) 0 ≡ max (get_or old (length old - 1 - k) 0) (get_or (reverse short) k 0)
raised-at old short new gap e r k h = elim (below-or k (length short)) [ inl f ↦ raised-in old short new gap e r k f | inr f ↦ raised-before old short new gap e r k h f ]

place-raised : (old short new : List ℕ) (gap : ℕ) → gap + length short ≡ length old → Raised old short new gap (length short) → (k : ℕ) → k < length old
    → get_or (reverse new) k 0 ≡ get_or (beside (reverse old) (reverse short)) k 0
place-raised old short new gap e r k h =
    let n : get_or (reverse new) k 0 ≡ get_or new (length new - 1 - k) 0 = get_or-reverse new k 0 (omega (arith, r.long, h)) in
    let a : get_or (reverse old) k 0 ≡ get_or old (length old - 1 - k) 0 = get_or-reverse old k 0 h in
    let b = get_or-beside (reverse old) (reverse short) k in
    n ∙ ap (λ x. get_or new (x - 1 - k) 0) r.long ∙ raised-at old short new gap e r k h ∙ ap (λ x. max x (get_or (reverse short) k 0)) (sym a) ∙ sym b

pub raised : (old short new : List ℕ) (gap : ℕ) → gap + length short ≡ length old → Raised old short new gap (length short) → reverse new ≡ beside (reverse old) (reverse short)
raised old short new gap e r = ext_get_or 0 _ _ (length-reverse new ∙ r.long ∙ sym (length-beside (reverse old) (reverse short) ∙ ap (λ n. max n (length (reverse short))) (length-reverse old) ∙ ap (max (length old)) (length-reverse short) ∙ omega (arith, e)))
    (λ k h. place-raised old short new gap e r k (subst (λ n. k < n) (length-reverse new ∙ r.long) h))
