-- The characters of a text, one after the other, and cut between two of them.
use Rattle.std.proofs.Common.{◌≡◌, ℕ, ◌+◌, ◌-◌, ◌≤◌, List, ◌++◌, length, take, drop, Option, Some, None, sym, ap, ◌∙◌, subst, arith}
use Rattle.std.specs.Prelude.{encode_utf8, slice_range}
use Rattle.std.specs.Option.{MatchOption}
use Rattle.std.specs.Str.{chars, encode_utf8_all, IsAscii, IsUtf8, IsCharBoundary}
use Rattle.std.specs.declared.str.Chars.{Chars}
use Rattle.std.proofs.lemmas.List.{drop-drop, drop_all, length-append, length-drop, take-append-drop, take_at}
use Rattle.std.proofs.lemmas.Str.{length-le-encodes, cons_from_encodes, encodes-append, encodes-IsAscii, chars-IsAscii, chars_from_encodes, IsAscii-take, IsAscii-drop, IsCharBoundary-at_seam}

past_none : (cs : List ℕ) (i : ℕ) → length (encode_utf8_all (drop i cs)) ≡ 0 → encode_utf8_all (drop i cs) ≡ encode_utf8_all (drop (i + 1) cs)
past_none cs i e =
    let few : length (drop i cs) ≤ length (encode_utf8_all (drop i cs)) = length-le-encodes (drop i cs) in
    let rest : length (drop i cs) ≡ length cs - i = length-drop i cs in
    ap encode_utf8_all (drop_all i cs (omega arith) ∙ sym (drop_all (i + 1) cs (omega arith)))

-- what is after one character more
pub past_one : (cs : List ℕ) (i : ℕ) (old new : Chars) (r : Option ℕ) → old.rest.now ≡ encode_utf8_all (drop i cs)
    → MatchOption r ((length old.rest.now ≡ 0) × (new ≡ old)) (λ c. old.rest.now ≡ encode_utf8 c ++ new.rest.now)
    → new.rest.now ≡ encode_utf8_all (drop (i + 1) cs)
past_one cs i old new None e h = ap (λ (s : Chars). s.rest.now) h.1 ∙ (e ∙ past_none cs i (ap (λ (bs : List ℕ). length bs) (sym e) ∙ h.0))
past_one cs i old new (Some c) e h =
    let split = cons_from_encodes (drop i cs) new.rest.now c (sym e ∙ h) in
    sym split.2 ∙ ap encode_utf8_all (sym (sym (drop-drop 1 i cs) ∙ ap (drop 1) split.1))

module _ (text : List ℕ) (from to : ℕ) (ordered : from ≤ to) (within : to ≤ length (chars text)) where
  module _ (ascii : IsAscii text) where
    pub within_ascii : to ≤ length text
    within_ascii = subst (λ (cs : List ℕ). to ≤ length cs) (chars-IsAscii text ascii) within

    pub ascii_slice : slice_range text from to ≡ encode_utf8_all (slice_range (chars text) from to)
    ascii_slice =
        sym (encodes-IsAscii (slice_range text from to) (IsAscii-take (drop from text) (to - from) (IsAscii-drop text from ascii)))
        ∙ ap (λ (cs : List ℕ). encode_utf8_all (slice_range cs from to)) (sym (chars-IsAscii text ascii))

-- characters in front, and what is after them
module _ (ds : List ℕ) (n : ℕ) (rest after : List ℕ) (is_rest : rest ≡ encode_utf8_all ds) (is_after : after ≡ encode_utf8_all (drop n ds)) where
  pub seam : rest ≡ encode_utf8_all (take n ds) ++ after
  seam = is_rest ∙ (ap encode_utf8_all (sym (take-append-drop n ds)) ∙ (encodes-append (take n ds) (drop n ds) ∙ ap (λ (bs : List ℕ). encode_utf8_all (take n ds) ++ bs) (sym is_after)))

  pub shorter : length rest ≡ length (encode_utf8_all (take n ds)) + length after
  shorter = ap (λ (bs : List ℕ). length bs) seam ∙ length-append (encode_utf8_all (take n ds)) after

  pub front_len : length rest - length after ≡ length (encode_utf8_all (take n ds))
  front_len = let e = shorter in omega arith

  pub front : slice_range rest 0 (length rest - length after) ≡ encode_utf8_all (take n ds)
  front =
      let m : ℕ = length rest - length after in
      let same : m - 0 ≡ m = omega arith in
      ap (λ (k : ℕ). take k rest) same ∙ (ap (take m) seam ∙ take_at (encode_utf8_all (take n ds)) after m (sym front_len))

  pub front_boundary : IsUtf8 after → IsCharBoundary rest (length rest - length after)
  front_boundary u = subst (IsCharBoundary rest) (sym front_len) (IsCharBoundary-at_seam rest (encode_utf8_all (take n ds)) after seam u)

-- a walk over characters and then over more is a walk over the characters of the text
pub walked : (cs : List ℕ) (n : ℕ) (rest after : List ℕ) → IsUtf8 rest → rest ≡ encode_utf8_all cs → after ≡ encode_utf8_all (drop n (chars rest)) → after ≡ encode_utf8_all (drop n cs)
walked cs n rest after u r a = a ∙ ap (λ (ds : List ℕ). encode_utf8_all (drop n ds)) (sym (chars_from_encodes cs rest u (sym r)))
