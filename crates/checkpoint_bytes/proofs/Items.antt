-- What numbered items give, one after the other.
use Rattle.std.proofs.Common.{◌≡◌, ℕ, ◌+◌, ◌<◌, List, [], ◌∷◌, ◌++◌, length, get_or, take, drop, sym, ap, ◌∙◌, subst, inl, inr, arith}
use Rattle.std.proofs.lemmas.List.{append-nil, append_assoc, length-take, take_more, take-append-drop}
use Rattle.std.proofs.lemmas.Bool.{cases_eq}
use Rattle.part_bytes.proofs.Pieces.{at_any}
use Rattle.checkpoint_bytes.specs.Texts.{each_from}

from_more : {A B : Type 0} (bytes : ℕ → A → List B) (n : ℕ) (xs : List A) (y : A) → each_from bytes n (xs ++ y ∷ []) ≡ each_from bytes n xs ++ bytes (n + length xs) y
from_more {B = B} bytes n [] y = append-nil (bytes n y) ∙ ap (λ (k : ℕ). bytes k y) (let e : n ≡ n + 0 = omega arith in e)
from_more {B = B} bytes n (x ∷ xs) y =
    let k : n + 1 + length xs ≡ n + length (x ∷ xs) = omega arith in
    ap (λ (zs : List B). bytes n x ++ zs) (from_more bytes (n + 1) xs y)
    ∙ (sym (append_assoc (bytes n x) (each_from bytes (n + 1) xs) (bytes (n + 1 + length xs) y))
    ∙ ap (λ (m : ℕ). (bytes n x ++ each_from bytes (n + 1) xs) ++ bytes m y) k)

-- those of one item more
pub next_from : {A B : Type 0} (bytes : ℕ → A → List B) (xs : List A) (i : ℕ) (x : A) → i < length xs → x ≡ get_or xs i x
    → each_from bytes 1 (take (i + 1) xs) ≡ each_from bytes 1 (take i xs) ++ bytes (i + 1) x
next_from {A = A} {B = B} bytes xs i x l is =
    let front : List A = take i xs in
    let size : 1 + length front ≡ i + 1 = let t = length-take i xs in omega arith in
    let whole : take (i + 1) xs ≡ front ++ x ∷ [] = take_more xs i x l ∙ ap (λ (y : A). front ++ y ∷ []) (sym is) in
    ap (each_from bytes 1) whole ∙ (from_more bytes 1 front x ∙ ap (λ (m : ℕ). each_from bytes 1 front ++ bytes m x) size)

from_both : {A B : Type 0} (bytes : ℕ → A → List B) (n : ℕ) (xs ys : List A) → each_from bytes n (xs ++ ys) ≡ each_from bytes n xs ++ each_from bytes (n + length xs) ys
from_both {B = B} bytes n [] ys = ap (λ (k : ℕ). each_from bytes k ys) (let e : n ≡ n + 0 = omega arith in e)
from_both {B = B} bytes n (x ∷ xs) ys =
    let k : n + 1 + length xs ≡ n + length (x ∷ xs) = omega arith in
    ap (λ (zs : List B). bytes n x ++ zs) (from_both bytes (n + 1) xs ys)
    ∙ (sym (append_assoc (bytes n x) (each_from bytes (n + 1) xs) (each_from bytes (n + 1 + length xs) ys))
    ∙ ap (λ (m : ℕ). (bytes n x ++ each_from bytes (n + 1) xs) ++ each_from bytes m ys) k)

-- those of the first items, of the next, and of the others
pub parts_from : {A B : Type 0} (bytes : ℕ → A → List B) (xs : List A) (i : ℕ) (x : A) → i < length xs → x ≡ get_or xs i x
    → (more : List B) × (each_from bytes 1 xs ≡ (each_from bytes 1 (take i xs) ++ bytes (i + 1) x) ++ more)
parts_from {A = A} {B = B} bytes xs i x l is =
    let front : List A = take (i + 1) xs in
    let others = each_from bytes (1 + length front) (drop (i + 1) xs) in
    (others, ap (each_from bytes 1) (sym (take-append-drop (i + 1) xs)) ∙ (from_both bytes 1 front (drop (i + 1) xs) ∙ ap (λ (zs : List B). zs ++ others) (next_from bytes xs i x l is)))

-- what holds of the first items by their indexes, and of the next, holds of one more
pub each_more : {A : Type 0} (P : ℕ → A → Type 0) (xs : List A) (i : ℕ) (x : A) → i < length xs → x ≡ get_or xs i x → ((k : ℕ) (d : A) → k < i → P k (get_or xs k d)) → P i x
    → (k : ℕ) (d : A) → k < i + 1 → P k (get_or xs k d)
each_more P xs i x l is front here k d high = elim (cases_eq k i) [
  | inl e ↦ subst (λ (j : ℕ). P j (get_or xs j d)) (sym e) (subst (P i) (is ∙ at_any xs i x d l) here)
  | inr n ↦ front k d (omega (arith, high, n))
]
