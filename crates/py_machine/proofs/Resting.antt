-- What is left of a text after its first character.
use Rattle.std.proofs.Common.{◌≡◌, ℕ, ◌+◌, ◌-◌, ◌≤◌, List, ◌++◌, length, take, drop, Some, sym, ap, ◌∙◌, subst, arith}
use Rattle.std.specs.Prelude.{encode_utf8, slice_range}
use Rattle.std.specs.Char.{len_utf8}
use Rattle.std.specs.Str.{IsUtf8, IsCharBoundary}
use Rattle.std.proofs.lemmas.List.{length-drop, take_at}
use Rattle.std.proofs.lemmas.Str.{IsCharBoundary-past_char, IsUtf8-past_char, chars_past_char, encodes-chars, drop_past_char, length-encode}
use Rattle.py_machine.specs.Rests.{cut_of, first_cut}

-- rest is what is left of text from place on: it begins with the character first, of width bytes, and goes on with after
module _ (text rest after : List ℕ) (place first width : ℕ) (is_width : width ≡ len_utf8 first) (is_rest : rest ≡ drop place text)
    (utf8 : IsUtf8 rest) (split : rest ≡ encode_utf8 first ++ after) where
  encoded : length (encode_utf8 first) ≡ width
  encoded = length-encode first ∙ sym is_width

  pub cut_after_first : IsCharBoundary rest width
  cut_after_first =
      let same : 0 + len_utf8 first ≡ width = let e = is_width in omega arith in
      subst (IsCharBoundary rest) same (IsCharBoundary-past_char rest after 0 first (omega arith) utf8 split)

  pub first_fits : width ≤ length rest
  first_fits = cut_after_first.0

  first_is : slice_range rest 0 width ≡ encode_utf8 first
  first_is =
      let same : width - 0 ≡ width = omega arith in
      ap (λ (k : ℕ). take k rest) same ∙ (ap (take width) split ∙ take_at (encode_utf8 first) after width encoded)

  module _ (size : ℕ) (is_size : size ≡ length text) (within : place ≤ length text) where
    pub left_fits : length rest - width ≤ size
    left_fits = let s = is_size in let e = ap (λ (bs : List ℕ). length bs) is_rest in let n = length-drop place text in omega arith

    next_place : size - (length rest - width) ≡ place + len_utf8 first
    next_place = let s = is_size in let e = ap (λ (bs : List ℕ). length bs) is_rest in let n = length-drop place text in let f = first_fits in let w = is_width in omega arith

    pub cut_there : IsCharBoundary text (size - (length rest - width))
    cut_there = subst (IsCharBoundary text) (sym next_place) (IsCharBoundary-past_char text after place first within (subst IsUtf8 is_rest utf8) (sym is_rest ∙ split))

    after_is : drop (size - (length rest - width)) text ≡ after
    after_is = ap (λ (k : ℕ). drop k text) next_place ∙ drop_past_char text after place first (sym is_rest ∙ split)

    pub cut_is : Some (slice_range rest 0 width, drop (size - (length rest - width)) text) ≡ first_cut rest
    cut_is =
        ap (λ (bs : List ℕ). Some (bs, drop (size - (length rest - width)) text)) first_is
        ∙ (ap (λ (bs : List ℕ). Some (encode_utf8 first, bs)) (after_is ∙ sym (encodes-chars after (IsUtf8-past_char rest after first utf8 split)))
        ∙ ap cut_of (sym (chars_past_char rest after first utf8 split)))
