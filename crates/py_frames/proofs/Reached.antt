-- The first place that deep or deeper, where the deepest stand first.
use Rattle.std.proofs.Common.{◌≡◌, ℕ, zero, suc, ◌+◌, ◌-◌, ◌≤◌, max, List, [], ◌∷◌, ◌++◌, length, take, drop, reverse, refl, ap, ◌∙◌, sym, arith}
use Rattle.std.proofs.lemmas.List.{take-append-drop, reverse-append, length-reverse, length-drop}
use Rattle.py_frames.specs.Forced.{reach, greatest}

greatest-joined : (xs ys : List ℕ) → greatest (xs ++ ys) ≡ max (greatest xs) (greatest ys)
greatest-joined [] ys = omega arith
greatest-joined (x ∷ xs) ys = let e = greatest-joined xs ys in omega (arith, e)

greatest-reverse : (xs : List ℕ) → greatest (reverse xs) ≡ greatest xs
greatest-reverse [] = refl
greatest-reverse (x ∷ xs) =
    let e = greatest-reverse xs in
    let j = greatest-joined (reverse xs) (x ∷ []) in
    ap greatest (reverse-append (x ∷ []) xs) ∙ omega (arith, e, j)

reach-first : (xs : List ℕ) → reach xs 0 ≡ greatest xs
reach-first [] = refl
reach-first (x ∷ xs) = let e = reach-first xs in omega (arith, e)

reach-past : (xs ys : List ℕ) (d : ℕ) → length xs ≡ d → reach (xs ++ ys) d ≡ greatest ys
reach-past [] ys zero h = reach-first ys
reach-past [] ys (suc d) h = absurd (omega (arith, h))
reach-past (x ∷ xs) ys zero h = absurd (omega (arith, h))
reach-past (x ∷ xs) ys (suc d) h = reach-past xs ys d (omega (arith, h))

reach-none : (xs : List ℕ) (d : ℕ) → length xs ≤ d → reach xs d ≡ 0
reach-none [] d h = refl
reach-none (x ∷ xs) zero h = absurd (omega (arith, h))
reach-none (x ∷ xs) (suc d) h = reach-none xs d (omega (arith, h))

split : (xs : List ℕ) (n : ℕ) → reverse xs ≡ reverse (drop n xs) ++ reverse (take n xs)
split xs n = ap reverse (sym (take-append-drop n xs)) ∙ reverse-append (take n xs) (drop n xs)

dropped : (xs : List ℕ) (n d : ℕ) → length xs ≡ n + d → length (reverse (drop n xs)) ≡ d
dropped xs n d h = let r = length-reverse (drop n xs) in let l = length-drop n xs in omega (arith, r, l, h)

reach-split : (xs : List ℕ) (n d : ℕ) → length xs ≡ n + d → reach (reverse xs) d ≡ greatest (take n xs)
reach-split xs n d h = ap (λ p. reach p d) (split xs n) ∙ reach-past (reverse (drop n xs)) (reverse (take n xs)) d (dropped xs n d h) ∙ greatest-reverse (take n xs)

reach-short : (xs : List ℕ) (d : ℕ) → length xs ≤ d → reach (reverse xs) d ≡ greatest (take 0 xs)
reach-short xs d h = let r = length-reverse xs in reach-none (reverse xs) d (omega (arith, r, h))

pub reach_reversed : (xs : List ℕ) (d n : ℕ) → n ≡ length xs - d → reach (reverse xs) d ≡ greatest (take n xs)
reach_reversed xs d zero h = reach-short xs d (omega (arith, h))
reach_reversed xs d (suc n) h = reach-split xs (suc n) d (omega (arith, h))
