-- Texts that are UTF-8: those that are put together of others, cut out of them, or shown.
use Rattle.std.proofs.Common.{◌≡◌, ℕ, zero, suc, ℤ, pos, negsuc, ◌+◌, ◌-◌, ◌<◌, ◌≤◌, ◌^◌, Bool, true, false, cond, ◌&&◌, ◌==◌, nat_lt, List, [], ◌∷◌, ◌++◌, length, get_or, map, take, drop, Option, Some, None, IsUtf8, inl, inr, refl, sym, ap, ◌∙◌, subst, arith, append_assoc, append-nil, ltb-true, length-append}
use Rattle.std.specs.Prelude.{codes, not, encode_utf8, slice_range, slice_index, FitsSigned}
use Rattle.std.specs.Int.{w128}
use Rattle.std.specs.List.{AllByRecursion, flat_map, repeat, join_by}
use Rattle.std.specs.Str.{chars, encode_utf8_all, IsCharBoundary}
use Rattle.std.specs.Fmt.{signed_decimal}
use Rattle.std.proofs.lemmas.Bool.{and_parts, cases_lt, cases_eq}
use Rattle.std.proofs.lemmas.Fmt.{IsAscii-decimal_wide}
use Rattle.std.proofs.lemmas.Str.{IsUtf8-append, IsUtf8-nil, IsUtf8-encode, IsUtf8-from_ascii, IsUtf8-from_is_utf8, is_utf8-from_IsUtf8, IsUtf8-take, IsUtf8-drop, IsCharBoundary-start, IsCharBoundary-from_take, encode_ascii, scalars-chars, encodes-chars, length-le-encodes}
use lib.Utf8.{scalar, scalars, low_scalar}
use Rattle.py_value.specs.declared.key.Key.{Key}
use Rattle.py_value.specs.declared.key.Key.TheVariants as key
use Rattle.py_value.specs.declared.value.Value.TheVariants as value
use Rattle.py_value.specs.Keys.{value_of}
use Rattle.py_value.specs.Reprs.{escaped, between, quoted, key_text, has}
use Rattle.py_value.proofs.Escapes.{escaped_character}
use Rattle.py_machine.specs.Rests.{cut_of, first_cut}
use Rattle.py_meaning.specs.Texts.{begins, pieces, split_at}
use Rattle.part_bytes.specs.Plain.{IsText, IsPlain}

-- ---- ASCII

ascii_then : (x : ℕ) (xs : List ℕ) → x < 128 → IsUtf8 xs → IsUtf8 (x ∷ xs)
ascii_then x xs small u = IsUtf8-append (x ∷ []) xs (subst IsUtf8 (encode_ascii x small) (IsUtf8-encode x (low_scalar x (omega arith)))) u

abbrev pub are_ascii : List ℕ → Bool
are_ascii [] = true
are_ascii (x ∷ xs) = nat_lt x 128 && are_ascii xs

pub ascii : (xs : List ℕ) → are_ascii xs ≡ true → IsUtf8 xs
ascii [] e = IsUtf8-nil
ascii (x ∷ xs) e = let p = and_parts _ _ e in ascii_then x xs (ltb-true _ _ p.0) (ascii xs p.1)

-- ---- texts made of texts

pub repeated_text : (n : ℕ) (t : List ℕ) → IsUtf8 t → IsUtf8 (repeat n t)
repeated_text zero t u = IsUtf8-nil
repeated_text (suc n) t u = IsUtf8-append t (repeat n t) u (repeated_text n t u)

after_each : (sep : List ℕ) (ts : List (List ℕ)) → IsUtf8 sep → AllByRecursion IsUtf8 ts → IsUtf8 (flat_map (λ t. sep ++ t) ts)
after_each sep [] u h = IsUtf8-nil
after_each sep (t ∷ ts) u h = IsUtf8-append (sep ++ t) _ (IsUtf8-append sep t u h.0) (after_each sep ts u h.1)

pub joined_text : (sep : List ℕ) (ts : List (List ℕ)) → IsUtf8 sep → AllByRecursion IsUtf8 ts → IsUtf8 (join_by (λ text. text) sep ts)
joined_text sep [] u h = IsUtf8-nil
joined_text sep (t ∷ ts) u h = IsUtf8-append t _ h.0 (after_each sep ts u h.1)

-- ---- characters

scalar_at : (cs : List ℕ) (i : ℕ) → scalars cs ≡ true → scalar (slice_index cs i) ≡ true
scalar_at [] i e = refl
scalar_at (c ∷ cs) zero e = (and_parts _ _ e).0
scalar_at (c ∷ cs) (suc i) e = scalar_at cs i (and_parts _ _ e).1

and_true : (b d : Bool) → b ≡ true → d ≡ true → b && d ≡ true
and_true true d e f = f
and_true false d e f = e

scalars_take : (n : ℕ) (cs : List ℕ) → scalars cs ≡ true → scalars (take n cs) ≡ true
scalars_take zero cs e = refl
scalars_take (suc n) [] e = refl
scalars_take (suc n) (c ∷ cs) e = let p = and_parts _ _ e in and_true _ _ p.0 (scalars_take n cs p.1)

scalars_drop : (n : ℕ) (cs : List ℕ) → scalars cs ≡ true → scalars (drop n cs) ≡ true
scalars_drop zero cs e = e
scalars_drop (suc n) [] e = e
scalars_drop (suc n) (c ∷ cs) e = scalars_drop n cs (and_parts _ _ e).1

pub character_text : (text : List ℕ) (i : ℕ) → IsUtf8 text → IsUtf8 (encode_utf8 (slice_index (chars text) i))
character_text text i u = IsUtf8-encode _ (scalar_at (chars text) i (scalars-chars text u))

pub cut_text : (text : List ℕ) (a b : ℕ) → IsUtf8 text → IsUtf8 (encode_utf8_all (slice_range (chars text) a b))
cut_text text a b u = (slice_range (chars text) a b, (scalars_take (b - a) (drop a (chars text)) (scalars_drop a (chars text) (scalars-chars text u)), refl))

pub few_chars : (text : List ℕ) → IsUtf8 text → length (chars text) ≤ length text
few_chars text u = subst (λ (t : List ℕ). length (chars text) ≤ length t) (encodes-chars text u) (length-le-encodes (chars text))

pub text_of : (text : List ℕ) → IsUtf8 text → length text < 2 ^ 32 → IsText text
text_of text u l = (is_utf8-from_IsUtf8 text u, l)

pub is_text : (text : List ℕ) → IsText text → IsUtf8 text
is_text text h = IsUtf8-from_is_utf8 text h.0

-- the first character of a text, and what comes after it
abbrev pub AreCut : Option (List ℕ × List ℕ) → Type 0
AreCut None = Unit {0}
AreCut (Some cut) = IsText cut.0 × IsText cut.1

cut_parts : (cs text : List ℕ) → scalars cs ≡ true → encode_utf8_all cs ≡ text → length text < 2 ^ 32 → AreCut (cut_of cs)
cut_parts [] text s e l = tt
cut_parts (c ∷ cs) text s e l =
    let p = and_parts _ _ s in
    let long : length (encode_utf8 c ++ encode_utf8_all cs) ≡ length (encode_utf8 c) + length (encode_utf8_all cs) = length-append (encode_utf8 c) (encode_utf8_all cs) in
    let whole : length (encode_utf8 c ++ encode_utf8_all cs) ≡ length text = ap (λ (t : List ℕ). length t) e in
    (text_of (encode_utf8 c) (IsUtf8-encode c p.0) (omega (arith, long, whole, l)), text_of (encode_utf8_all cs) (cs, (p.1, refl)) (omega (arith, long, whole, l)))

pub first_text : (text : List ℕ) → IsText text → AreCut (first_cut text)
first_text text h = let u = is_text text h in cut_parts (chars text) text (scalars-chars text u) (encodes-chars text u) h.1

-- the characters of a text, each as a text
pub characters_plain : (cs text : List ℕ) → scalars cs ≡ true → encode_utf8_all cs ≡ text → length text < 2 ^ 32 → AllByRecursion IsPlain (map (λ c. value.Text (encode_utf8 c)) cs)
characters_plain [] text s e l = tt
characters_plain (c ∷ cs) text s e l =
    let parts = cut_parts (c ∷ cs) text s e l in
    let w : length (encode_utf8_all cs) < 2 ^ 32 = parts.1.1 in
    (parts.0, characters_plain cs (encode_utf8_all cs) (and_parts _ _ s).1 refl w)

-- ---- pieces between the occurrences of a separator

begins_with : (piece text : List ℕ) → begins piece text ≡ true → (rest : List ℕ) × (text ≡ piece ++ rest)
begins_with [] text h = (text, refl)
begins_with (x ∷ piece) [] h = let no : ⊥ = cc in absurd no
begins_with (x ∷ piece) (y ∷ text) h =
    let p = and_parts (x == y) _ h in
    let q = begins_with piece text p.1 in
    let e : x ≡ y = equal x y p.0 in
    (q.0, ap (λ z. z ∷ text) (sym e) ∙ ap (λ t. x ∷ t) q.1)
  where
    equal : (a b : ℕ) → (a == b) ≡ true → a ≡ b
    equal a b e = grind arith

drop_front : (front back : List ℕ) → drop (length front) (front ++ back) ≡ back
drop_front [] back = refl
drop_front (x ∷ front) back = drop_front front back

take_front : (front back : List ℕ) → take (length front) (front ++ back) ≡ front
take_front [] back = refl
take_front (x ∷ front) back = ap (λ t. x ∷ t) (take_front front back)

first_byte : (piece : List ℕ) (x : ℕ) (text : List ℕ) → get_or (piece ++ x ∷ text) (length piece) 0 ≡ x
first_byte [] x text = refl
first_byte (y ∷ piece) x text = first_byte piece x text

-- where a separator begins, the text may be cut
cut_before : (s : ℕ) (ss piece more : List ℕ) → IsUtf8 (s ∷ ss) → IsCharBoundary (piece ++ ((s ∷ ss) ++ more)) (length piece)
cut_before s ss piece more u =
    let start = IsCharBoundary-start (s ∷ ss) u in
    let long : length (piece ++ (s ∷ (ss ++ more))) ≡ length piece + length (s ∷ (ss ++ more)) = length-append piece (s ∷ (ss ++ more)) in
    (omega (arith, long), λ l high. subst (λ (b : ℕ). 192 ≤ b) (sym (first_byte piece s (ss ++ more))) (start.1 (omega arith) (subst (λ (b : ℕ). 128 ≤ b) (first_byte piece s (ss ++ more)) high)))

cut_after : (sep more : List ℕ) → IsUtf8 sep → IsUtf8 (sep ++ more) → IsUtf8 more
cut_after sep more u whole =
    let long : length (sep ++ more) ≡ length sep + length more = length-append sep more in
    subst IsUtf8 (drop_front sep more) (IsUtf8-drop (sep ++ more) (length sep) whole (IsCharBoundary-from_take (sep ++ more) (length sep) whole (omega (arith, long)) (subst IsUtf8 (sym (take_front sep more)) u)))

abbrev IsPiece : ℕ → List ℕ → Type 0
IsPiece most t = IsUtf8 t × (length t ≤ most)

no_more : (n : ℕ) → drop {A = ℕ} n [] ≡ []
no_more zero = refl
no_more (suc n) = refl

module _ (s : ℕ) (ss : List ℕ) (u : IsUtf8 (s ∷ ss)) (most : ℕ) where
  abbrev Fits : List ℕ → List ℕ → Type 0
  Fits piece text = length piece + length text ≤ most

  at_separator : (b : Bool) (piece : List ℕ) (x : ℕ) (text : List ℕ) → begins (s ∷ ss) (x ∷ text) ≡ b → IsUtf8 (piece ++ (x ∷ text)) → Fits piece (x ∷ text)
      → (IsUtf8 (drop (length ss) text) → AllByRecursion (IsPiece most) (pieces (s ∷ ss) [] (length ss) text))
      → (IsUtf8 ((piece ++ x ∷ []) ++ text) → AllByRecursion (IsPiece most) (pieces (s ∷ ss) (piece ++ x ∷ []) zero text))
      → AllByRecursion (IsPiece most) (cond b (piece ∷ pieces (s ∷ ss) [] (length (s ∷ ss) - 1) text) (pieces (s ∷ ss) (piece ++ x ∷ []) zero text))
  at_separator true piece x text e whole l here there =
      let w = begins_with (s ∷ ss) (x ∷ text) e in
      let all : piece ++ (x ∷ text) ≡ piece ++ ((s ∷ ss) ++ w.0) = ap (λ t. piece ++ t) w.1 in
      let here_utf8 : IsUtf8 (piece ++ ((s ∷ ss) ++ w.0)) = subst IsUtf8 all whole in
      let cut = cut_before s ss piece w.0 u in
      let front : IsUtf8 piece = subst IsUtf8 (take_front piece ((s ∷ ss) ++ w.0)) (IsUtf8-take (piece ++ ((s ∷ ss) ++ w.0)) (length piece) here_utf8 cut) in
      let back : IsUtf8 ((s ∷ ss) ++ w.0) = subst IsUtf8 (drop_front piece ((s ∷ ss) ++ w.0)) (IsUtf8-drop (piece ++ ((s ∷ ss) ++ w.0)) (length piece) here_utf8 cut) in
      let rest : text ≡ ss ++ w.0 = ap (λ t. drop 1 t) w.1 in
      let one : length (s ∷ ss) - 1 ≡ length ss = omega arith in (
        (front, omega (arith, l)),
        subst (λ (k : ℕ). AllByRecursion (IsPiece most) (pieces (s ∷ ss) [] k text)) (sym one)
            (here (subst IsUtf8 (sym (ap (λ t. drop (length ss) t) rest ∙ drop_front ss w.0)) (cut_after (s ∷ ss) w.0 u back))),
      )
  at_separator false piece x text e whole l here there = there (subst IsUtf8 (sym (append_assoc piece (x ∷ []) text)) whole)

  all_pieces : (piece : List ℕ) (over : ℕ) (text : List ℕ) → IsUtf8 (piece ++ drop over text) → Fits piece text → AllByRecursion (IsPiece most) (pieces (s ∷ ss) piece over text)
  all_pieces piece over [] h l = ((subst IsUtf8 (ap (λ t. piece ++ t) (no_more over) ∙ append-nil piece) h, omega (arith, l)), tt)
  all_pieces piece (suc over) (x ∷ text) h l = all_pieces piece over text h (omega (arith, l))
  all_pieces piece zero (x ∷ text) h l =
      let long : length (piece ++ x ∷ []) ≡ length piece + 1 = length-append piece (x ∷ []) in
      at_separator (begins (s ∷ ss) (x ∷ text)) piece x text refl h l (λ rest. all_pieces [] (length ss) text rest (omega (arith, l))) (λ more. all_pieces (piece ++ x ∷ []) zero text more (omega (arith, l, long)))

piece_text : (most : ℕ) (ts : List (List ℕ)) → most < 2 ^ 32 → AllByRecursion (IsPiece most) ts → AllByRecursion IsText ts
piece_text most [] l h = tt
piece_text most (t ∷ ts) l h = (let k = h.0.1 in text_of t h.0.0 (omega (arith, k, l)), piece_text most ts l h.1)

pub split_texts : (s : ℕ) (ss text : List ℕ) → IsText (s ∷ ss) → IsText text → AllByRecursion IsText (split_at (s ∷ ss) text)
split_texts s ss text u h = piece_text (length text) (split_at (s ∷ ss) text) h.1 (all_pieces s ss (is_text (s ∷ ss) u) (length text) [] 0 text (is_text text h) (omega arith))

-- ---- what a key shows

-- the escapes of the bytes below n are ASCII
abbrev escapes_below : ℕ → ℕ → Bool
escapes_below quote zero = true
escapes_below quote (suc n) = are_ascii (escaped quote n) && escapes_below quote n

escape_below : (quote n : ℕ) → escapes_below quote n ≡ true → (x : ℕ) → x < n → are_ascii (escaped quote x) ≡ true
escape_below quote zero e x h = absurd (omega arith)
escape_below quote (suc n) e x h =
    let p = and_parts _ _ e in
    elim (cases_eq x n) [ inl same ↦ rw same p.0 | inr other ↦ escape_below quote n p.1 x (omega arith) ]

single : escapes_below 39 128 ≡ true
unfolding escaped
single = refl

double : escapes_below 34 128 ≡ true
unfolding escaped
double = refl

escapes-append : (quote : ℕ) (xs ys : List ℕ) → flat_map (escaped quote) (xs ++ ys) ≡ flat_map (escaped quote) xs ++ flat_map (escaped quote) ys
escapes-append quote [] ys = refl
escapes-append quote (x ∷ xs) ys = ap (λ l. escaped quote x ++ l) (escapes-append quote xs ys) ∙ sym (append_assoc (escaped quote x) _ _)

module _ (quote : ℕ) (low : quote < 128) (below : escapes_below quote 128 ≡ true) where
  one_escaped : (c : ℕ) → scalar c ≡ true → IsUtf8 (flat_map (escaped quote) (encode_utf8 c))
  one_escaped c ok = elim (cases_lt c 128) [
    | inl small ↦ rw (encode_ascii c small, append-nil) (ascii _ (escape_below quote 128 below c small))
    | inr big ↦ subst IsUtf8 (sym (escaped_character quote c low big)) (IsUtf8-encode c ok)
  ]

  all_escaped : (cs : List ℕ) → scalars cs ≡ true → IsUtf8 (flat_map (escaped quote) (encode_utf8_all cs))
  all_escaped [] e = IsUtf8-nil
  all_escaped (c ∷ cs) e =
      let p = and_parts _ _ e in
      subst IsUtf8 (sym (escapes-append quote (encode_utf8 c) (encode_utf8_all cs))) (IsUtf8-append _ _ (one_escaped c p.0) (all_escaped cs p.1))

  between_quotes : (text : List ℕ) → IsUtf8 text → IsUtf8 (between quote text)
  unfolding between
  between_quotes text u =
      ascii_then quote _ low (IsUtf8-append _ (quote ∷ []) (subst (λ t. IsUtf8 (flat_map (escaped quote) t)) u.1.1 (all_escaped u.0 u.1.0)) (ascii_then quote [] low IsUtf8-nil))

by_quote : (b : Bool) (text : List ℕ) → IsUtf8 text → IsUtf8 (between (cond b 34 39) text)
by_quote true text u = between_quotes 34 (omega arith) double text u
by_quote false text u = between_quotes 39 (omega arith) single text u

pub quoted_text : (text : List ℕ) → IsUtf8 text → IsUtf8 (quoted text)
quoted_text text u = by_quote (has 39 text && not (has 34 text)) text u

number_text : (n : ℤ) → FitsSigned w128 n → IsUtf8 (signed_decimal n)
number_text (pos n) h = let l = h.sfits in IsUtf8-from_ascii _ (IsAscii-decimal_wide n (omega (arith, l)))
number_text (negsuc n) h = let l = h.sfits in ascii_then 45 _ (omega arith) (IsUtf8-from_ascii _ (IsAscii-decimal_wide (suc n) (omega (arith, l))))

pub shown_key : (k : Key) → IsPlain (value_of k) → IsUtf8 (key_text k)
shown_key key.Nothing h = ascii (codes "None") refl
shown_key (key.Bool true) h = ascii (codes "True") refl
shown_key (key.Bool false) h = ascii (codes "False") refl
shown_key (key.Number n) h = number_text n h
shown_key (key.Text t) h = quoted_text t (is_text t h)
