-- Each lexeme is spelled by the bytes that it takes.
use Rattle.std.proofs.Common.{◌≡◌, ◌≢◌, ◌⊎◌, inl, inr, ⊎_elim, ℕ, zero, suc, ◌+◌, ◌-◌, ◌*◌, ◌<◌, ◌^◌, Bool, true, false, cond, eqb, leb, ◌&&◌, ◌||◌, not, List, [], ◌∷◌, ◌++◌, length, take, Option, Some, None, Ok, fold, refl, sym, ap, ◌∙◌, subst, append_assoc, arith}
use Rattle.std.specs.Prelude.{nat_eq, find, map, encode_utf8}
use Rattle.std.specs.List.{starts_with, prefix_len, list_all, list_any}
use Rattle.std.specs.Char.{is_ascii_digit}
use Rattle.std.proofs.lemmas.Bool.Decides.{nat_tests}
use Rattle.std.proofs.lemmas.List.Folds.{length-prefix_len}
use Rattle.std.proofs.Math.Seq.{take-append_seam}
use Rattle.std.proofs.Math.Numerals.{one-add}
use Rattle.py_names.specs.Names.{begins_name, continues_name, same_text, is_spelled_as_name, is_identifier, is_keyword}
use Rattle.py_names.specs.Names as names
use Rattle.py_token.specs.declared.kinds.Keyword as keyword
use Rattle.py_token.specs.declared.lines.Lexeme.{Lexeme}
use Rattle.py_token.specs.declared.pieces.Escape.{Escape}
use Rattle.py_token.specs.declared.pieces.Piece.{Piece}
use Rattle.py_token.specs.declared.pieces.Piece.TheVariants.{Quote, LineEnd, Bad, Plain, Escaped}
use Rattle.py_token.specs.declared.pieces.Body.{Body}
use Rattle.py_token.specs.declared.pieces.Body.TheVariants.{Closed, Unclosed, Spoiled}
use Rattle.py_token.specs.Spellings.{word, keywords, sign, operators, are_digits, decimal, is_quote, escape, is_plain, Writes, nothing, plain, escaped, Spells}
use Rattle.py_token.specs.Lexemes.{keyword_of, named, name_at, belongs, digits_after, number_at, piece, after, spoil, follow, body, text_at, operator_at, lexeme_at}
use Rattle.py_token.proofs.Escapes.{eqb_is, IsEscape, piece_escaped, piece_plain, piece_quote}
use Rattle.py_token.proofs.Bounds.{same_bytes, found_passes, name_longer}
use Rattle.py_token.proofs.Inverted.{name_ok, number_ok, text_ok, operator_ok, lexeme_ok, no_lexeme}

-- ---- names and keywords

pub front_passes : (p : ℕ → Bool) (xs : List ℕ) → list_all p (take (prefix_len p xs) xs) ≡ true
front_passes p [] = refl
front_passes p (x ∷ xs) = by_first (p x) refl (front_passes p xs)
  where
    by_first : (b : Bool) → p x ≡ b → list_all p (take (prefix_len p xs) xs) ≡ true → list_all p (take (cond b (1 + prefix_len p xs) 0) (x ∷ xs)) ≡ true
    by_first true e inner = rw one-add (ap (λ b. b && list_all p (take (prefix_len p xs) xs)) e ∙ inner)
    by_first false e inner = refl

none_found : {X Y : Type 0} (f : X → Y) (q : Y → Bool) (xs : List X) → find (λ x. q (f x)) xs ≡ None → list_any q (map f xs) ≡ false
none_found f q [] h = refl
none_found f q (x ∷ xs) h = by_first (q (f x)) refl h (none_found f q xs)
  where
    by_first : (b : Bool) → q (f x) ≡ b → cond b (Some x) (find (λ x. q (f x)) xs) ≡ None → (find (λ x. q (f x)) xs ≡ None → list_any q (map f xs) ≡ false)
        → (b || list_any q (map f xs)) ≡ false
    by_first true e h inner = cc
    by_first false e h inner = inner h

words : map word keywords ≡ names.keywords
unfolding keywords names.keywords
words = refl

both : (a b c : Bool) → a ≡ true → b ≡ true → c ≡ false → ((a && b) && not c) ≡ true
both true true false ha hb hc = refl
both true true true ha hb hc = cc
both true false c ha hb hc = cc
both false b c ha hb hc = cc

named_spells : (name : List ℕ) (o : Option keyword.Keyword) → keyword_of name ≡ o → is_identifier name ≡ true → Spells (named o name) name
named_spells name None h id =
    let free : is_keyword name ≡ false = ap (list_any (λ w. same_text w name)) (sym words) ∙ none_found word (λ w. same_text w name) keywords h in
    (refl, ap (λ b. b && not (is_keyword name)) id ∙ ap not free)
named_spells name (Some k) h id = sym (same_bytes (word k) name (found_passes (λ k. same_text (word k) name) keywords k h))

name_spells : (at c : ℕ) (rest : List ℕ) (l : Lexeme) → begins_name c ≡ true → name_at at (c ∷ rest) ≡ Ok l → Spells l.kind (take l.width (c ∷ rest))
name_spells at c rest l first h =
    let n = name_ok at (c ∷ rest) l h in
    let width = prefix_len continues_name (c ∷ rest) in
    let longer = name_longer c rest first in
    let short : leb (length (take width (c ∷ rest))) 255 ≡ true = ap (λ k. leb k 255) (length-prefix_len continues_name (c ∷ rest)) ∙ (let few = n.0 in grind (arith, nat_tests)) in
    let spelled : is_spelled_as_name (take width (c ∷ rest)) ≡ true = ap (λ k. is_spelled_as_name (take k (c ∷ rest))) longer ∙ rw one-add (ap (λ b. b && list_all continues_name (take (prefix_len continues_name rest) rest)) first ∙ front_passes continues_name rest) in
    let id : is_identifier (take width (c ∷ rest)) ≡ true = ap (λ b. b && leb (length (take width (c ∷ rest))) 255) spelled ∙ short in
    subst (λ (k : Lexeme). Spells k.kind (take k.width (c ∷ rest))) n.1 (named_spells (take width (c ∷ rest)) _ refl id)

-- ---- numbers

digit_or : (b : Bool) (c : ℕ) → cond b (eqb c 48) (is_ascii_digit c) ≡ true → is_ascii_digit c ≡ true
digit_or true c h = let e = eqb_is c 48 h in ap is_ascii_digit e
digit_or false c h = h

digit_belongs : (first c : ℕ) → belongs first c ≡ true → is_ascii_digit c ≡ true
digit_belongs first c h = digit_or (eqb first 48) c h

no_underscore : (c : ℕ) → is_ascii_digit c ≡ true → eqb c 95 ≡ false
no_underscore c h = grind (arith, nat_tests)

then_second : (a t x y : Bool) → a ≡ true → t ≡ false → y ≡ true → (a && cond t x y) ≡ true
then_second true false x y ha ht hy = hy
then_second true true x y ha ht hy = cc
then_second false t x y ha ht hy = cc

then_first : (a t x y : Bool) → a ≡ true → t ≡ true → x ≡ true → (a && cond t x y) ≡ true
then_first true true x y ha ht hx = hx
then_first true false x y ha ht hx = cc
then_first false t x y ha ht hx = cc

and_first : (a b : Bool) → (a && b) ≡ true → a ≡ true
and_first true b h = refl
and_first false b h = h

and_second : (a b : Bool) → (a && b) ≡ true → b ≡ true
and_second true b h = h
and_second false b h = cc

one_taken : (b : Bool) (d c : ℕ) → is_ascii_digit d ≡ true → (b ≡ true → is_ascii_digit c ≡ true) → are_digits (d ∷ take (cond b 1 0) (c ∷ [])) ≡ true
one_taken true d c hd hc = then_second (is_ascii_digit d) (eqb c 95) _ _ hd (no_underscore c (hc refl)) (hc refl)
one_taken false d c hd hc = hd

two_taken : (b u : Bool) (d c e : ℕ) (n m : ℕ) (rest : List ℕ) → is_ascii_digit d ≡ true → (b ≡ true → is_ascii_digit c ≡ true) → (u ≡ true → (eqb c 95 ≡ true) × (is_ascii_digit e ≡ true))
    → (is_ascii_digit c ≡ true → are_digits (c ∷ take n (e ∷ rest)) ≡ true) → (is_ascii_digit e ≡ true → are_digits (e ∷ take m rest) ≡ true)
    → are_digits (d ∷ take (cond b (suc n) (cond u (suc (suc m)) 0)) (c ∷ e ∷ rest)) ≡ true
two_taken true u d c e n m rest hd hb hu one two = then_second (is_ascii_digit d) (eqb c 95) _ _ hd (no_underscore c (hb refl)) (one (hb refl))
two_taken false true d c e n m rest hd hb hu one two = then_first (is_ascii_digit d) (eqb c 95) _ _ hd (hu refl).0 (two (hu refl).1)
two_taken false false d c e n m rest hd hb hu one two = hd

digits_taken : (first d : ℕ) (rest : List ℕ) → is_ascii_digit d ≡ true → are_digits (d ∷ take (digits_after first rest) rest) ≡ true
digits_taken first d [] h = h
digits_taken first d (c ∷ []) h = one_taken (belongs first c) d c h (digit_belongs first c)
digits_taken first d (c ∷ e ∷ rest) h =
    two_taken (belongs first c) (eqb c 95 && belongs first e) d c e (digits_after first (e ∷ rest)) (digits_after first rest) rest h (digit_belongs first c)
    (λ u. (and_first _ _ u, digit_belongs first e (and_second (eqb c 95) _ u))) (digits_taken first c (e ∷ rest)) (digits_taken first e rest)

abbrev written : ℕ → ℕ → ℕ
written n c = cond (eqb c 95) n (n * 10 + (c - 48))

zero_written : (c : ℕ) → eqb c 48 ≡ true → written 0 c ≡ 0
zero_written c h = ap (written 0) (eqb_is c 48 h)

none_written : (c : ℕ) → eqb c 95 ≡ true → written 0 c ≡ 0
none_written c h = ap (λ b. cond b 0 (0 * 10 + (c - 48))) h

one_zero : (b : Bool) (c : ℕ) → eqb c 48 ≡ b → decimal (take (cond b 1 0) (c ∷ [])) ≡ 0
one_zero true c h = zero_written c h
one_zero false c h = refl

two_zeros : (b u : Bool) (c e n m : ℕ) (rest : List ℕ) → eqb c 48 ≡ b → (eqb c 95 && eqb e 48) ≡ u → decimal (take n (e ∷ rest)) ≡ 0 → decimal (take m rest) ≡ 0
    → decimal (take (cond b (suc n) (cond u (suc (suc m)) 0)) (c ∷ e ∷ rest)) ≡ 0
two_zeros true u c e n m rest hb hu one two = ap (λ k. fold written k (take n (e ∷ rest))) (zero_written c hb) ∙ one
two_zeros false true c e n m rest hb hu one two =
    ap (λ k. fold written (written k e) (take m rest)) (none_written c (and_first _ _ hu)) ∙ ap (λ k. fold written k (take m rest)) (zero_written e (and_second (eqb c 95) _ hu)) ∙ two
two_zeros false false c e n m rest hb hu one two = refl

zeros_taken : (rest : List ℕ) → decimal (take (digits_after 48 rest) rest) ≡ 0
zeros_taken [] = refl
zeros_taken (c ∷ []) = one_zero (eqb c 48) c refl
zeros_taken (c ∷ e ∷ rest) = two_zeros (eqb c 48) (eqb c 95 && eqb e 48) c e (digits_after 48 (e ∷ rest)) (digits_after 48 rest) rest refl refl (zeros_taken (e ∷ rest)) (zeros_taken rest)

leads_by : (b : Bool) (c : ℕ) (rest : List ℕ) → eqb c 48 ≡ b → (c ≢ 48) ⊎ (decimal (take (digits_after c rest) rest) ≡ 0)
leads_by true c rest h = inr (ap (λ k. decimal (take (digits_after k rest) rest)) (eqb_is c 48 h) ∙ zeros_taken rest)
leads_by false c rest h = inl (λ e. let same = ap (λ k. eqb k 48) e in cc)

below : (m v : ℕ) → leb m v ≡ false → v < m
below m v h = grind (arith, nat_tests)

number_spells : (at c : ℕ) (rest : List ℕ) (l : Lexeme) → is_ascii_digit c ≡ true → number_at at (c ∷ rest) ≡ Ok l → Spells l.kind (take l.width (c ∷ rest))
number_spells at c rest l first h =
    let n = number_ok at (c ∷ rest) l h in
    subst (λ (k : Lexeme). Spells k.kind (take k.width (c ∷ rest))) n.1 (record {
      digits = digits_taken c c rest first;
      leads = leads_by (eqb c 48) c rest refl;
      value = refl;
      fits = below (2 ^ 127) _ n.0;
    })

-- ---- texts

-- those bytes, and then the closing quote after what writes the value
abbrev IfWritten : ℕ → List ℕ → List ℕ → Body → Type 0
IfWritten quote front bytes Unclosed = Unit {0}
IfWritten quote front bytes (Spoiled n) = Unit {0}
IfWritten quote front bytes (Closed value width) = (inner : List ℕ) × (take width bytes ≡ front ++ (inner ++ quote ∷ [])) × Writes quote inner value

skip_written : (quote c : ℕ) (front rest : List ℕ) (b : Body) → IfWritten quote front rest b → IfWritten quote (c ∷ front) (c ∷ rest) (after [] b)
skip_written quote c front rest Unclosed h = tt
skip_written quote c front rest (Spoiled n) h = tt
skip_written quote c front rest (Closed value width) h = (h.0, ap (λ r. c ∷ r) h.1, h.2)

plain_written : (quote c d : ℕ) (rest : List ℕ) (b : Body) → d ≡ c → is_plain quote c ≡ true → IfWritten quote [] rest b → IfWritten quote [] (c ∷ rest) (after (d ∷ []) b)
plain_written quote c d rest Unclosed e p h = tt
plain_written quote c d rest (Spoiled n) e p h = tt
plain_written quote c d rest (Closed value width) e p h = (c ∷ h.0, ap (λ r. c ∷ r) h.1, subst (λ k. Writes quote (c ∷ h.0) (k ∷ value)) (sym e) (plain p h.2))

escape_written : (quote c : ℕ) (rest : List ℕ) (e : Escape) (b : Body) → c ≡ 92 → IsEscape rest e → IfWritten quote (take e.width rest) rest b
    → IfWritten quote [] (c ∷ rest) (after (encode_utf8 e.character) b)
escape_written quote c rest e Unclosed at is h = tt
escape_written quote c rest e (Spoiled n) at is h = tt
escape_written quote c rest e (Closed value width) at is h =
    let front : take e.width rest ≡ is.front = ap (λ k. take k rest) is.width ∙ ap (take (length is.front)) is.parts ∙ take-append_seam is.front is.back in
    let spelled : escape is.front ≡ Some (record { character = e.character; width = length is.front }) = is.spelled ∙ ap (λ w. Some (record { character = e.character; width = w })) is.width in (
      92 ∷ (is.front ++ h.0),
      ap (λ r. c ∷ r) (h.1 ∙ ap (λ f. f ++ (h.0 ++ quote ∷ [])) front ∙ sym (append_assoc is.front h.0 (quote ∷ []))) ∙ ap (λ k. k ∷ ((is.front ++ h.0) ++ quote ∷ [])) at,
      escaped is.front spelled h.2,
    )

bad_written : (quote : ℕ) (front bytes : List ℕ) (b : Body) → IfWritten quote front bytes (spoil b)
bad_written quote front bytes Unclosed = tt
bad_written quote front bytes (Spoiled n) = tt
bad_written quote front bytes (Closed value width) = tt

piece_written : (quote c : ℕ) (rest : List ℕ) (p : Piece) → p ≡ piece quote c rest → ((n : ℕ) → IfWritten quote (take n rest) rest (body quote n rest))
    → IfWritten quote [] (c ∷ rest) (follow p (λ n. body quote n rest))
piece_written quote c rest Quote is inner = ([], ap (λ k. k ∷ []) (piece_quote quote c rest is), nothing)
piece_written quote c rest LineEnd is inner = tt
piece_written quote c rest Bad is inner = bad_written quote [] (c ∷ rest) (body quote zero rest)
piece_written quote c rest (Plain d) is inner = let w = piece_plain quote c d rest is in plain_written quote c d rest (body quote zero rest) w.0 w.1 (inner zero)
piece_written quote c rest (Escaped e) is inner = let w = piece_escaped quote c rest e is in escape_written quote c rest e (body quote e.width rest) w.0 w.1 (inner e.width)

body_written : (quote n : ℕ) (bytes : List ℕ) → IfWritten quote (take n bytes) bytes (body quote n bytes)
unfolding body
body_written quote n [] = tt
body_written quote (suc n) (c ∷ rest) = skip_written quote c (take n rest) rest (body quote n rest) (body_written quote n rest)
body_written quote zero (c ∷ rest) = piece_written quote c rest (piece quote c rest) refl (λ n. body_written quote n rest)

text_spells : (at c : ℕ) (rest : List ℕ) (l : Lexeme) → is_quote c ≡ true → text_at at c rest ≡ Ok l → Spells l.kind (take l.width (c ∷ rest))
text_spells at c rest l first h =
    let w = text_ok at c rest l h in
    let inside = subst (IfWritten c [] rest) w.2 (body_written c zero rest) in
    subst (λ (k : Lexeme). Spells k.kind (take k.width (c ∷ rest))) w.3
    (record { quote = c; inner = inside.0; quoted = ap (λ r. c ∷ r) inside.1; is_quote = first; writes = inside.2 })

-- ---- operators

operator_spells : (at : ℕ) (bytes : List ℕ) (l : Lexeme) → operator_at at bytes ≡ Ok l → Spells l.kind (take l.width bytes)
operator_spells at bytes l h =
    let w = operator_ok at bytes l h in
    subst (λ (k : Lexeme). Spells k.kind (take k.width bytes)) w.2 (sym (same_bytes _ _ (found_passes (λ o. starts_with nat_eq bytes (sign o)) operators w.0 w.1)))

-- ---- any of them

pub lexeme_spells : (at : ℕ) (bytes : List ℕ) (l : Lexeme) → lexeme_at at bytes ≡ Ok l → Spells l.kind (take l.width bytes)
lexeme_spells at [] l h = absurd (no_lexeme at l h)
lexeme_spells at (c ∷ rest) l h =
    ⊎_elim (λ e. name_spells at c rest l e.0 e.1)
    (⊎_elim (λ e. number_spells at c rest l e.0 e.1) (⊎_elim (λ e. text_spells at c rest l e.0 e.1) (operator_spells at (c ∷ rest) l)))
    (lexeme_ok at c rest l h)
