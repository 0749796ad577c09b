-- How long the beginning of a text is.
use Rattle.std.proofs.Common.{◌≡◌, ℕ, zero, suc, ◌+◌, ◌-◌, ◌<◌, ◌≤◌, true, ◌||◌, List, [], ◌∷◌, length, take, drop, ap, sym, ◌∙◌, subst, inl, inr, arith}
use Rattle.std.specs.Prelude.{nat_lt, nat_le, slice_index, encode_utf8_all}
use Rattle.std.specs.Str.{IsUtf8, IsCharBoundary}
use Rattle.std.proofs.lemmas.Bool.{cases_Bool, cases_eq, cases_lt, and_parts, false≢true, leb-true}
use Rattle.std.proofs.lemmas.Bool.Decides.{nat_tests}
use Rattle.std.proofs.lemmas.List.{length-take, length-drop, take_all}
use Rattle.std.proofs.lemmas.Str.{IsCharBoundary-start, IsCharBoundary-end, IsCharBoundary-past_char, IsUtf8-drop, len_utf8_bounds}
use Rattle.plain_data.specs.Cuts.{is_between, cut_within, prefix_within}
use Rattle.plain_data.proofs.CutLaws.{between_from, cut_within-is}

begins_from : (b : ℕ) → (nat_lt b 128 || nat_le 192 b) ≡ true → 128 ≤ b → 192 ≤ b
begins_from b h a = grind (arith, nat_tests)

boundary_from : (text : List ℕ) (n : ℕ) → is_between text n ≡ true → IsCharBoundary text n
boundary_from text n h = let p = and_parts _ _ h in (leb-true n (length text) p.0, λ l a. begins_from (slice_index text n) p.1 a)

-- ---- the cut is the last place within that many bytes at which a character begins

pub cut_le : (n : ℕ) (text : List ℕ) → cut_within n text ≤ n
unfolding cut_within
cut_le zero text = omega arith
cut_le (suc n) text = elim (cases_Bool (is_between text (suc n))) [
  | inl t ↦ rw t (omega arith)
  | inr f ↦ rw f (let l = cut_le n text in omega (arith, l))
]

pub cut_at_boundary : (n : ℕ) (text : List ℕ) → IsUtf8 text → IsCharBoundary text (cut_within n text)
unfolding cut_within
cut_at_boundary zero text u = IsCharBoundary-start text u
cut_at_boundary (suc n) text u = elim (cases_Bool (is_between text (suc n))) [
  | inl t ↦ rw t (boundary_from text (suc n) t)
  | inr f ↦ rw f (cut_at_boundary n text u)
]

-- none comes after it
cut_last : (n : ℕ) (text : List ℕ) (j : ℕ) → cut_within n text < j → j ≤ n → IsCharBoundary text j → ⊥
unfolding cut_within
cut_last zero text j a b at = omega (arith, a, b)
cut_last (suc n) text j a b at = elim (cases_Bool (is_between text (suc n))) [
  | inl t ↦ let l : suc n < j = rw t at a in absurd (omega (arith, l, b))
  | inr f ↦ elim (cases_eq j (suc n)) [
    | inl e ↦ false≢true (sym f ∙ between_from text (suc n) (subst (IsCharBoundary text) e at))
    | inr d ↦ let l : cut_within n text < j = rw f at a in cut_last n text j l (omega (arith, b, d)) at
  ]
]

-- ---- its length

pub cut_size : (n : ℕ) (text : List ℕ) → length (prefix_within n text) ≤ n
cut_size n text = let t = length-take (cut_within n text) text in let l = cut_le n text in omega (arith, t, l)

pub cut_whole : (n : ℕ) (text : List ℕ) → length text ≤ n → prefix_within n text ≡ text
cut_whole n text l =
    let at : cut_within n text ≡ length text = cut_within-is n (length text) text l (IsCharBoundary-end text) (λ j a b h. let w = h.0 in omega (arith, a, w)) in
    ap (λ k. take k text) at ∙ take_all (length text) text (omega arith)

next_boundary : (text cs : List ℕ) (k : ℕ) → k < length text → IsUtf8 (drop k text) → encode_utf8_all cs ≡ drop k text → (w : ℕ) × (0 < w) × (w ≤ 4) × IsCharBoundary text (k + w)
next_boundary text [] k l u e = absurd (let d : length (drop k text) ≡ length text - k = length-drop k text in let z : 0 ≡ length (drop k text) = ap (λ (zs : List ℕ). length zs) e in omega (arith, l, d, z))
next_boundary text (c ∷ cs) k l u e =
    let b = len_utf8_bounds c in
    let lo = b.0 in
    (_, omega (arith, lo), b.1, IsCharBoundary-past_char text (encode_utf8_all cs) k c (omega (arith, l)) u (sym e))

pub cut_near : (n : ℕ) (text : List ℕ) → IsUtf8 text → n < length text → n < length (prefix_within n text) + 4
cut_near n text u l =
    let k : ℕ = cut_within n text in
    let le = cut_le n text in
    let at = cut_at_boundary n text u in
    let rest = IsUtf8-drop text k u at in
    let next = next_boundary text rest.0 k (omega (arith, l, le)) rest rest.1.1 in
    let more = next.1 in
    let few = next.2 in
    let size = length-take k text in
    elim (cases_lt n (k + next.0)) [
      | inl past ↦ omega (arith, past, few, size, le, l)
      | inr within ↦ absurd (cut_last n text (k + next.0) (omega (arith, more)) within next.3)
    ]
