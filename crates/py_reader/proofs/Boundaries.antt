-- Each token of a code begins and ends between characters.
use Rattle.std.proofs.Common.{◌≡◌, ⊎_elim, ℕ, zero, suc, ◌+◌, ◌-◌, ◌<◌, ◌≤◌, Bool, true, false, IsTrue, List, [], ◌∷◌, ◌++◌, length, take, drop, get_or, Option, Some, None, refl, sym, ap, ◌∙◌, subst, arith, length-append, length-drop, length-take, append_assoc}
use Rattle.std.proofs.lemmas.List.{take-append-drop, drop-drop, drop_at, get_or-drop, get_or-take, reverse-append}
use Rattle.std.proofs.lemmas.Bool.Decides.{nat_tests}
use Rattle.std.proofs.Math.Seq.{get_or-append_seam}
use Rattle.std.proofs.lemmas.Str.{IsCharBoundary-start, IsCharBoundary-end, IsCharBoundary-before_ascii, IsCharBoundary-after_ascii, IsUtf8-between}
use Rattle.std.specs.Prelude.{pos, negsuc, reverse, find, not, nat_eq, nat_lt, ◌&&◌, slice_range, IsUtf8, if◌then◌else◌}
use Rattle.std.specs.List.{list_all}
use Rattle.std.specs.Str.{IsCharBoundary}
use Rattle.std.specs.Char.{is_ascii_digit}
use Rattle.py_names.specs.Names.{begins_name, continues_name, is_variable}
use Rattle.py_token.specs.declared.kinds.Kind.{Kind}
use Rattle.py_token.specs.declared.kinds.Kind.TheVariants as t
use Rattle.py_token.specs.declared.kinds.Keyword as keyword
use Rattle.py_token.specs.declared.kinds.Keyword.TheVariants as k
use Rattle.py_token.specs.declared.kinds.Symbol as operator
use Rattle.py_token.specs.declared.kinds.Symbol.TheVariants as o
use Rattle.py_token.specs.declared.kinds.Token.{Token}
use Rattle.py_token.specs.Spellings.{word, sign, are_digits, is_quote, SpellsText, Spells}
use Rattle.py_token.specs.Lexemes.{next_is}
use Rattle.py_token.specs.Lines.{in_comment}
use Rattle.py_blocks.specs.Source.{last_word, text_up_to, text_from, source_of}
use Rattle.py_blocks.proofs.Texts.{text_of-utf8}
use Rattle.py_reader.specs.Sources.{bytes_up_to, bytes_from, bytes_of}
use Rattle.py_token.specs.Laws.{is_white, Blank, nothing, white, carriage, comment, Stands, Cover}

-- ---- bytes of ASCII

abbrev is_ascii : ℕ → Bool
is_ascii c = nat_lt c 128

ascii_below : (c : ℕ) → is_ascii c ≡ true → c < 128
ascii_below c h = grind (arith, nat_tests)

both_left : (a b : Bool) → (a && b) ≡ true → a ≡ true
both_left true b h = refl
both_left false b h = cc

both_right : (a b : Bool) → (a && b) ≡ true → b ≡ true
both_right true b h = h
both_right false b h = cc

ascii_at : (bytes : List ℕ) → list_all is_ascii bytes ≡ true → (i : ℕ) → get_or bytes i 0 < 128
ascii_at [] h i = omega arith
ascii_at (c ∷ cs) h zero = ascii_below c (both_left _ _ h)
ascii_at (c ∷ cs) h (suc i) = ascii_at cs (both_right (is_ascii c) _ h) i

white_ascii : (c : ℕ) → IsTrue (is_white c) → c < 128
white_ascii c h = grind (arith, nat_tests)

ends_ascii : (c : ℕ) → IsTrue (not (in_comment c)) → c < 128
ends_ascii c h = grind (arith, nat_tests)

continues_ascii : (c : ℕ) → continues_name c ≡ true → c < 128
continues_ascii c h = grind (arith, nat_tests)

digit_ascii : (c : ℕ) → is_ascii_digit c ≡ true → c < 128
digit_ascii c h = grind (arith, nat_tests)

quote_ascii : (c : ℕ) → IsTrue (is_quote c) → c < 128
quote_ascii c h = grind (arith, nat_tests)

-- ---- the last byte of a spelling

-- the byte before the end, if there is one, is ASCII
abbrev LastAscii : List ℕ → Type 0
LastAscii bytes = get_or bytes (length bytes - 1) 0 < 128

ascii_last : (bytes : List ℕ) → list_all is_ascii bytes ≡ true → LastAscii bytes
ascii_last bytes h = ascii_at bytes h (length bytes - 1)

nil_last : (bytes : List ℕ) → bytes ≡ [] → LastAscii bytes
nil_last bytes is = rw is (omega arith)

word_ascii : (k : keyword.Keyword) → list_all is_ascii (word k) ≡ true
word_ascii k.False = refl
word_ascii k.None = refl
word_ascii k.True = refl
word_ascii k.And = refl
word_ascii k.As = refl
word_ascii k.Assert = refl
word_ascii k.Async = refl
word_ascii k.Await = refl
word_ascii k.Break = refl
word_ascii k.Class = refl
word_ascii k.Continue = refl
word_ascii k.Def = refl
word_ascii k.Del = refl
word_ascii k.Elif = refl
word_ascii k.Else = refl
word_ascii k.Except = refl
word_ascii k.Finally = refl
word_ascii k.For = refl
word_ascii k.From = refl
word_ascii k.Global = refl
word_ascii k.If = refl
word_ascii k.Import = refl
word_ascii k.In = refl
word_ascii k.Is = refl
word_ascii k.Lambda = refl
word_ascii k.Nonlocal = refl
word_ascii k.Not = refl
word_ascii k.Or = refl
word_ascii k.Pass = refl
word_ascii k.Raise = refl
word_ascii k.Return = refl
word_ascii k.Try = refl
word_ascii k.While = refl
word_ascii k.With = refl
word_ascii k.Yield = refl

sign_ascii : (o : operator.Symbol) → list_all is_ascii (sign o) ≡ true
sign_ascii o.FloorAssign = refl
sign_ascii o.PlusAssign = refl
sign_ascii o.MinusAssign = refl
sign_ascii o.TimesAssign = refl
sign_ascii o.ModAssign = refl
sign_ascii o.Equal = refl
sign_ascii o.NotEqual = refl
sign_ascii o.AtMost = refl
sign_ascii o.AtLeast = refl
sign_ascii o.Floor = refl
sign_ascii o.Plus = refl
sign_ascii o.Minus = refl
sign_ascii o.Times = refl
sign_ascii o.Mod = refl
sign_ascii o.Less = refl
sign_ascii o.More = refl
sign_ascii o.Assign = refl
sign_ascii o.OpenParenthesis = refl
sign_ascii o.CloseParenthesis = refl
sign_ascii o.OpenBracket = refl
sign_ascii o.CloseBracket = refl
sign_ascii o.OpenBrace = refl
sign_ascii o.CloseBrace = refl
sign_ascii o.Colon = refl
sign_ascii o.Comma = refl
sign_ascii o.Dot = refl

ascii_head : (c : ℕ) (cs : List ℕ) → is_ascii c ≡ true → list_all is_ascii cs ≡ true → list_all is_ascii (c ∷ cs) ≡ true
ascii_head c cs h rest = rw h rest

is_ascii_of : (c : ℕ) → c < 128 → is_ascii c ≡ true
is_ascii_of c h = grind (arith, nat_tests)

all_ascii : (cs : List ℕ) → list_all continues_name cs ≡ true → list_all is_ascii cs ≡ true
all_ascii [] h = refl
all_ascii (c ∷ cs) h = ascii_head c cs (is_ascii_of c (continues_ascii c (both_left _ _ h))) (all_ascii cs (both_right (continues_name c) _ h))

begins_ascii : (c : ℕ) → begins_name c ≡ true → c < 128
begins_ascii c h = grind (arith, nat_tests)

name_last : (name : List ℕ) → is_variable name ≡ true → LastAscii name
name_last [] h = omega arith
name_last (c ∷ cs) h =
    let spelled = both_left _ _ (both_left _ _ h) in
    ascii_last (c ∷ cs) (ascii_head c cs (is_ascii_of c (begins_ascii c (both_left _ _ spelled))) (all_ascii cs (both_right (begins_name c) _ spelled)))

digits_ascii : (bytes : List ℕ) → are_digits bytes ≡ true → list_all is_ascii bytes ≡ true
digits_ascii [] h = refl
digits_ascii (d ∷ []) h = ascii_head d [] (is_ascii_of d (digit_ascii d h)) refl
digits_ascii (d ∷ c ∷ rest) h = ascii_head d (c ∷ rest) (is_ascii_of d (digit_ascii d (both_left _ _ h))) (behind_digit (nat_eq c 95) c rest refl (both_right (is_ascii_digit d) _ h) (digits_ascii rest) (digits_ascii (c ∷ rest)))
  where
    behind_digit : (b : Bool) (c : ℕ) (rest : List ℕ) → nat_eq c 95 ≡ b → (if b then are_digits rest else are_digits (c ∷ rest)) ≡ true → (are_digits rest ≡ true → list_all is_ascii rest ≡ true)
        → (are_digits (c ∷ rest) ≡ true → list_all is_ascii (c ∷ rest) ≡ true) → list_all is_ascii (c ∷ rest) ≡ true
    behind_digit true c rest is h one two = ascii_head c rest (is_ascii_of c (grind (arith, nat_tests))) (one h)
    behind_digit false c rest is h one two = two h

text_last : (bytes value : List ℕ) → SpellsText bytes value → LastAscii bytes
text_last bytes value s =
    let long : length bytes - 1 ≡ length (s.quote ∷ s.inner) = omega (arith, ap length s.quoted, length-append (s.quote ∷ s.inner) (s.quote ∷ [])) in
    let last : get_or bytes (length bytes - 1) 0 ≡ s.quote = ap (λ b. get_or b (length bytes - 1) 0) s.quoted ∙ ap (λ n. get_or ((s.quote ∷ s.inner) ++ s.quote ∷ []) n 0) long ∙ get_or-append_seam (s.quote ∷ s.inner) s.quote [] 0 in
    let below = quote_ascii s.quote s.is_quote in
    rw last below

spelled_last : (kind : Kind) (bytes : List ℕ) → Spells kind bytes → LastAscii bytes
spelled_last (t.Name name) bytes s = rw (s.0) (name_last name s.1)
spelled_last (t.Keyword k) bytes s = rw s (ascii_last (word k) (word_ascii k))
spelled_last (t.Number (pos n)) bytes s = ascii_last bytes (digits_ascii bytes s.digits)
spelled_last (t.Number (negsuc n)) bytes s = absurd s
spelled_last (t.Text value) bytes s = text_last bytes value s
spelled_last (t.Symbol o) bytes s = rw s (ascii_last (sign o) (sign_ascii o))
spelled_last t.Newline bytes s = ⊎_elim (λ is. rw is (omega arith)) (nil_last bytes) s
spelled_last t.Indent bytes s = nil_last bytes s
spelled_last t.Dedent bytes s = nil_last bytes s
spelled_last t.End bytes s = nil_last bytes s

-- ---- between tokens

-- what is at a place
record At (code : List ℕ) (p c : ℕ) (rest : List ℕ) : Type 0 where
  within : p < length code
  byte : get_or code p 0 ≡ c
  behind : drop (p + 1) code ≡ rest

at_place : (code : List ℕ) (p c : ℕ) (rest : List ℕ) → drop p code ≡ c ∷ rest → At code p c rest
at_place code p c rest is =
    let first : get_or (drop p code) 0 0 ≡ get_or code (p + 0) 0 = get_or-drop p code 0 0 in
    let here : p + 0 ≡ p = omega arith in
    record {
      within = omega (arith, ap length is, length-drop p code);
      byte = sym (first ∙ ap (λ q. get_or code q 0) here) ∙ ap (λ b. get_or b 0 0) is;
      behind = sym (drop-drop 1 p code) ∙ ap (drop 1) is;
    }

cut_behind : (code : List ℕ) (p c : ℕ) (rest : List ℕ) → IsUtf8 code → drop p code ≡ c ∷ rest → c < 128 → IsCharBoundary code (p + 1)
cut_behind code p c rest utf8 is low = let at = at_place code p c rest is in let below : get_or code p 0 < 128 = rw (at.byte) low in IsCharBoundary-after_ascii code p utf8 at.within below

-- before a line's end, or at the end
cut_before : (code : List ℕ) (p : ℕ) (rest : List ℕ) → p ≤ length code → drop p code ≡ rest → IsTrue (not (next_is in_comment rest)) → IsCharBoundary code p
cut_before code p [] fits is stop = let end : p ≡ length code = omega (arith, ap length is, length-drop p code) in subst (IsCharBoundary code) (sym end) (IsCharBoundary-end code)
cut_before code p (c ∷ rest) fits is stop = let at = at_place code p c rest is in let below : get_or code p 0 < 128 = rw (at.byte) (ends_ascii c stop) in IsCharBoundary-before_ascii code p at.within below

moved : (code : List ℕ) (p q : ℕ) → p ≡ q → IsCharBoundary code p → IsCharBoundary code q
moved code p q is cut = subst (IsCharBoundary code) is cut

blank_cut : (code : List ℕ) (p : ℕ) {gap rest : List ℕ} → IsUtf8 code → Blank gap rest → p ≤ length code → drop p code ≡ gap ++ rest → IsCharBoundary code p → IsCharBoundary code (p + length gap)
blank_cut code p utf8 nothing fits is cut = moved code p _ (omega arith) cut
blank_cut code p utf8 (white {c} {gap} {rest} w b) fits is cut =
    let at = at_place code p c (gap ++ rest) is in
    moved code (p + 1 + length gap) _ (omega arith) (blank_cut code (p + 1) utf8 b (let h = at.within in omega arith) at.behind (cut_behind code p c (gap ++ rest) utf8 is (white_ascii c w)))
blank_cut code p utf8 (carriage {gap} {rest} w b) fits is cut =
    let at = at_place code p 13 (gap ++ rest) is in
    moved code (p + 1 + length gap) _ (omega arith) (blank_cut code (p + 1) utf8 b (let h = at.within in omega arith) at.behind (cut_behind code p 13 (gap ++ rest) utf8 is (omega arith)))
blank_cut code p utf8 (comment words {gap} {rest} all stop b) fits is cut =
    let split : drop p code ≡ (35 ∷ words) ++ (gap ++ rest) = is ∙ append_assoc (35 ∷ words) gap rest in
    let behind : drop (p + suc (length words)) code ≡ gap ++ rest = sym (drop-drop (suc (length words)) p code) ∙ ap (drop (suc (length words))) split ∙ drop_at (35 ∷ words) (gap ++ rest) (suc (length words)) refl in
    let whole : length code - p ≡ suc (length words) + length (gap ++ rest) = sym (length-drop p code) ∙ ap length split ∙ length-append (35 ∷ words) (gap ++ rest) in
    let wide = length-append (35 ∷ words) gap in
    let fits_more : p + suc (length words) ≤ length code = omega arith in
    moved code (p + suc (length words) + length gap) _ (omega arith) (blank_cut code (p + suc (length words)) utf8 b fits_more behind (cut_before code _ (gap ++ rest) fits_more behind stop))

-- after bytes whose last is ASCII
spelling_cut : (code : List ℕ) (i j : ℕ) → IsUtf8 code → i ≤ j → j ≤ length code → LastAscii (slice_range code i j) → IsCharBoundary code i → IsCharBoundary code j
spelling_cut code i j utf8 ordered within last cut = choose (nat_lt i j) refl
  where
    wide : length (slice_range code i j) ≡ j - i
    wide = simp (length-take, length-drop) (omega arith)

    byte : i < j → get_or code (j - 1) 0 < 128
    byte h =
        let place : i + (length (slice_range code i j) - 1) ≡ j - 1 = let w = wide in omega arith in
        let same : get_or (slice_range code i j) (length (slice_range code i j) - 1) 0 ≡ get_or code (i + (length (slice_range code i j) - 1)) 0
        = get_or-take (j - i) (drop i code) (length (slice_range code i j) - 1) 0 (let w = wide in omega arith) ∙ get_or-drop i code (length (slice_range code i j) - 1) 0 in
        let here = ap (λ q. get_or code q 0) place in
        omega (arith, last, same, here)

    choose : (b : Bool) → nat_lt i j ≡ b → IsCharBoundary code j
    choose true h = let less : i < j = grind (arith, nat_tests) in moved code (j - 1 + 1) j (omega arith) (IsCharBoundary-after_ascii code (j - 1) utf8 (omega arith) (byte less))
    choose false h = moved code i j (let same : i ≡ j = grind (arith, nat_tests) in same) cut

-- ---- the tokens of a code

-- a token begins and ends between characters if what is before it does
pub record Cut (code : List ℕ) (t : Token) : Type 0 where
  pub before : IsCharBoundary code t.start
  pub after : IsCharBoundary code t.end

pub token_cut : (code : List ℕ) (from : ℕ) (t : Token) → IsUtf8 code → Stands code from t → IsCharBoundary code from → Cut code t
token_cut code from t utf8 s cut =
    let split : drop from code ≡ slice_range code from t.start ++ drop t.start code = sym (take-append-drop (t.start - from) (drop from code)) ∙ ap (λ b. slice_range code from t.start ++ b) (drop-drop (t.start - from) from code ∙ ap (λ n. drop n code) (let h = s.after in omega arith)) in
    let fits : from ≤ length code = (let h = s.after in let k = s.ordered in let m = s.within in omega arith) in
    let gap : length (slice_range code from t.start) ≡ t.start - from = (let h = s.after in let k = s.ordered in let m = s.within in simp (length-take, length-drop) (omega arith)) in
    let start : IsCharBoundary code t.start = moved code _ _ (let h = s.after in omega arith) (blank_cut code from utf8 s.blank fits split cut) in
    record { before = start; after = spelling_cut code t.start t.end utf8 s.ordered s.within (spelled_last t.kind _ s.spelled) start }

-- tokens that begin and end between characters, one after the other
abbrev pub Along : List ℕ → ℕ → List Token → Type 0
Along code at [] = Unit {0}
Along code at (t ∷ ts) = (at ≤ t.start) × (t.start ≤ t.end) × IsCharBoundary code t.start × IsCharBoundary code t.end × Along code t.end ts

pub covered : (code : List ℕ) (at : ℕ) (ts : List Token) → IsUtf8 code → Cover code at ts → IsCharBoundary code at → Along code at ts
covered code at [] utf8 c cut = tt
covered code at (t ∷ ts) utf8 c cut = let both = token_cut code at t utf8 c.0 cut in (c.0.after, c.0.ordered, both.before, both.after, covered code t.end ts utf8 c.1 both.after)

along_take : (n : ℕ) (code : List ℕ) (at : ℕ) (ts : List Token) → Along code at ts → Along code at (take n ts)
along_take zero code at ts a = tt
along_take (suc n) code at [] a = tt
along_take (suc n) code at (t ∷ ts) a = (a.0, a.1, a.2, a.3, along_take n code t.end ts a.4)

along_drop : (n : ℕ) (code : List ℕ) (at : ℕ) (ts : List Token) → Along code at ts → (from : ℕ) × Along code from (drop n ts)
along_drop zero code at ts a = (at, a)
along_drop (suc n) code at [] a = (at, tt)
along_drop (suc n) code at (t ∷ ts) a = along_drop n code t.end ts a.4

-- ---- what holds of each token

abbrev Each : (Token → Type 0) → List Token → Type 0
Each P [] = Unit {0}
Each P (t ∷ ts) = P t × Each P ts

each_append : (P : Token → Type 0) (xs ys : List Token) → Each P xs → Each P ys → Each P (xs ++ ys)
each_append P [] ys hx hy = hy
each_append P (x ∷ xs) ys hx hy = (hx.0, each_append P xs ys hx.1 hy)

each_reverse : (P : Token → Type 0) (xs : List Token) → Each P xs → Each P (reverse xs)
each_reverse P [] h = tt
each_reverse P (x ∷ xs) h = subst (Each P) (sym (reverse-append (x ∷ []) xs)) (each_append P (reverse xs) (x ∷ []) (each_reverse P xs h.1) (h.0, tt))

each_found : (P : Token → Type 0) (test : Token → Bool) (xs : List Token) (t : Token) → Each P xs → find test xs ≡ Some t → P t
each_found P test [] t h is = cc
each_found P test (x ∷ xs) t h is = found (test x) is (each_found P test xs t h.1)
  where
    found : (b : Bool) → (if b then Some x else find test xs) ≡ Some t → (find test xs ≡ Some t → P t) → P t
    found true e inner = let same : x ≡ t = cc in subst P same h.0
    found false e inner = inner e

-- a token after a place ends between characters
record Ends (code : List ℕ) (from : ℕ) (t : Token) : Type 0 where
  pub later : from ≤ t.end
  pub after : IsCharBoundary code t.end

each_ends : (code : List ℕ) (from at : ℕ) (ts : List Token) → from ≤ at → Along code at ts → Each (Ends code from) ts
each_ends code from at [] low a = tt
each_ends code from at (t ∷ ts) low a = let h = a.0 in let k = a.1 in (record { later = omega arith; after = a.3 }, each_ends code from t.end ts (omega arith) a.4)

-- the bytes from one of the tokens to the last word are a text
pub span_utf8 : (code : List ℕ) (at : ℕ) (first : Token) (ts : List Token) (last : Token) → IsUtf8 code → Along code at (first ∷ ts) → last_word (first ∷ ts) ≡ Some last → IsUtf8 (slice_range code first.start last.end)
span_utf8 code at first ts last utf8 a is =
    let h = a.1 in
    let ends = each_found (Ends code first.start) _ (reverse (first ∷ ts)) last (each_reverse (Ends code first.start) (first ∷ ts) (record { later = a.1; after = a.3 }, each_ends code first.start first.end ts a.1 a.4)) is in
    IsUtf8-between code first.start last.end utf8 ends.later a.2 ends.after

from_cases : (code : List ℕ) (at : ℕ) (ts : List Token) → IsUtf8 code → Along code at ts → text_from code ts ≡ bytes_from code ts
from_cases code at [] utf8 a = refl
from_cases code at (first ∷ ts) utf8 a = last_cases (last_word (first ∷ ts)) refl
  where
    last_cases : (o : Option Token) → last_word (first ∷ ts) ≡ o → text_up_to code first.start o ≡ bytes_up_to code first.start o
    last_cases None is = refl
    last_cases (Some last) is = text_of-utf8 _ (span_utf8 code at first ts last utf8 a is)

-- if the tokens are those of the code, the text of some of them is all the bytes of it
pub whole_text : (code : List ℕ) (tokens : List Token) (from to : ℕ) → IsUtf8 code → Cover code 0 tokens → source_of code tokens from to ≡ bytes_of code tokens from to
whole_text code tokens from to utf8 cover =
    let part = along_drop from code 0 tokens (covered code 0 tokens utf8 cover (IsCharBoundary-start code utf8)) in
    from_cases code part.0 (slice_range tokens from to) utf8 (along_take (to - from) code part.0 (drop from tokens) part.1)
