-- The names, numbers and texts among the tokens of a text are plain, and so are the constants in its tree.
use Rattle.std.proofs.Common.{◌≡◌, ℕ, zero, suc, pos, negsuc, ◌+◌, ◌-◌, ◌<◌, ◌≤◌, Bool, true, false, List, [], ◌∷◌, ◌++◌, length, take, drop, get_or, Option, Some, None, Ok, IsUtf8, ◌*◌, refl, sym, ap, ◌∙◌, subst, arith, append_assoc, append-nil, length-append}
use Rattle.std.specs.Prelude.{encode_utf8, nat_le, slice_range, if◌then◌else◌}
use Rattle.std.specs.List.{list_all}
use Rattle.std.specs.Str.{IsAscii, is_utf8}
use Rattle.std.proofs.lemmas.Bool.{and_parts, leb-true}
use Rattle.std.proofs.lemmas.Bool.Decides.{nat_tests}
use Rattle.std.proofs.lemmas.Str.Ascii.{IsAscii-nil, IsAscii-cons}
use Rattle.std.proofs.lemmas.Str.{IsUtf8-append, IsUtf8-nil, IsUtf8-encode, IsUtf8-take, IsUtf8-drop, IsUtf8-from_ascii, is_utf8-from_IsUtf8, IsCharBoundary-before_ascii, IsCharBoundary-after_ascii, length-encode, len_utf8_bounds}
use lib.Utf8.{low_scalar}
use Rattle.py_names.specs.Names.{begins_name, continues_name, is_spelled_as_name, is_identifier, is_variable}
use Rattle.py_token.specs.declared.kinds.Kind.{Kind}
use Rattle.py_token.specs.declared.kinds.Kind.TheVariants as t
use Rattle.py_token.specs.declared.kinds.Token.{Token}
use Rattle.py_token.specs.Spellings.{Spells, Writes, nothing, plain, escaped, escape, is_quote}
use Rattle.py_token.specs.Lines.{tokens_of}
use Rattle.py_token.specs.Laws.{Cover}
use Rattle.py_token.proofs.Covers.{covers}
use Rattle.py_token.proofs.Escapes.{Ascii, escape_is}
use Rattle.py_tree.specs.declared.statements.Stmt.{Stmt}
use Rattle.py_grammar.specs.Statements.{Cell, IsCell}
use Rattle.py_grammar.specs.Trees.{tree_cell}
use Rattle.py_blocks.specs.Source.{text_up_to, text_from, source_of, last_word}
use Rattle.py_reader.specs.Verdicts.{Verdict}
use Rattle.py_reader.specs.Verdicts as cells
use Rattle.py_reader.specs.Verdict.{verdict}
use Rattle.py_reader.proofs.Meant.{means}
use Rattle.reader_laws.specs.Kinds.{kinds}
use Rattle.part_bytes.specs.Plain.{IsText}
use Rattle.plain_states.specs.Constants.{constants_by, constants_in}
use Rattle.plain_states.specs.Plain.{ArePlain}
use Rattle.session_texts.proofs.Made.{Stateds, all_gathered}
use Rattle.session_texts.proofs.Forms.{IsPlainKind, ArePlainKinds, top}

-- ---- what is between the quotes of a text

at_seam : (front rest : List ℕ) (c : ℕ) → get_or (front ++ c ∷ rest) (length front) 0 ≡ c
at_seam [] rest c = refl
at_seam (x ∷ front) rest c = at_seam front rest c

take_seam : (front rest : List ℕ) → take (length front) (front ++ rest) ≡ front
take_seam [] rest = refl
take_seam (x ∷ front) rest = ap (λ t. x ∷ t) (take_seam front rest)

past_seam : (front rest : List ℕ) (c : ℕ) → drop (suc (length front)) (front ++ c ∷ rest) ≡ rest
past_seam [] rest c = refl
past_seam (x ∷ front) rest c = past_seam front rest c

drop_seam : (front rest : List ℕ) (c : ℕ) → drop (length front + 1) (front ++ c ∷ rest) ≡ rest
drop_seam front rest c = let e : length front + 1 ≡ suc (length front) = omega arith in ap (λ (n : ℕ). drop n (front ++ c ∷ rest)) e ∙ past_seam front rest c

-- a text is cut at an ASCII byte
cut_front : (front rest : List ℕ) (c : ℕ) → c < 128 → IsUtf8 (front ++ c ∷ rest) → IsUtf8 front
cut_front front rest c low text =
    let here = at_seam front rest c in
    let longer : length (front ++ c ∷ rest) ≡ length front + suc (length rest) = length-append front (c ∷ rest) in
    subst IsUtf8 (take_seam front (c ∷ rest)) (IsUtf8-take (front ++ c ∷ rest) (length front) text (IsCharBoundary-before_ascii (front ++ c ∷ rest) (length front) (omega (arith, longer)) (omega (arith, here, low))))

cut_rest : (front rest : List ℕ) (c : ℕ) → c < 128 → IsUtf8 (front ++ c ∷ rest) → IsUtf8 rest
cut_rest front rest c low text =
    let here = at_seam front rest c in
    let longer : length (front ++ c ∷ rest) ≡ length front + suc (length rest) = length-append front (c ∷ rest) in
    subst IsUtf8 (drop_seam front rest c)
    (IsUtf8-drop (front ++ c ∷ rest) (length front + 1) text (IsCharBoundary-after_ascii (front ++ c ∷ rest) (length front) text (omega (arith, longer)) (omega (arith, here, low))))

past_ascii : (front rest : List ℕ) → Ascii front → IsUtf8 (front ++ rest) → IsUtf8 rest
past_ascii [] rest h text = text
past_ascii (c ∷ front) rest h text = past_ascii front rest h.1 (cut_rest [] (front ++ rest) c h.0 text)

no_back : (front whole back : List ℕ) → whole ≡ front ++ back → length whole ≡ length front → Ascii front → Ascii whole
no_back front whole [] e l h = subst Ascii (sym (e ∙ append-nil front)) h
no_back front whole (x ∷ back) e l h =
    let long : length (front ++ x ∷ back) ≡ length front + suc (length back) = length-append front (x ∷ back) in
    let same : length whole ≡ length (front ++ x ∷ back) = ap (λ (t : List ℕ). length t) e in
    absurd (omega (arith, long, same, l))

-- an escape is ASCII, and its character is below 256
whole_escape : (front : List ℕ) (c : ℕ) → escape front ≡ Some (record { character = c; width = length front }) → Ascii front × (c < 256)
whole_escape front c e =
    let w = escape_is front (record { character = c; width = length front }) e in
    (no_back w.front front w.back w.parts w.width w.ascii, w.small)

-- what is written after some bytes is UTF-8 if what spells it is
written_utf8 : (quote : ℕ) (before spelling value : List ℕ) → Writes quote spelling value → IsUtf8 (before ++ spelling) → IsUtf8 (before ++ value)
written_utf8 quote before _ _ nothing u = u
written_utf8 quote before _ _ (plain {c} {spelling} {value} p w) u =
    subst IsUtf8 (append_assoc before (c ∷ []) value) (written_utf8 quote (before ++ c ∷ []) spelling value w (subst IsUtf8 (sym (append_assoc before (c ∷ []) spelling)) u))
written_utf8 quote before _ _ (escaped front {c} {spelling} {value} e w) u =
    let is = whole_escape front c e in
    let rest : IsUtf8 spelling = past_ascii front spelling is.0 (cut_rest before (front ++ spelling) 92 (omega arith) u) in
    IsUtf8-append before (encode_utf8 c ++ value) (cut_front before (front ++ spelling) 92 (omega arith) u)
    (IsUtf8-append (encode_utf8 c) value (IsUtf8-encode c (low_scalar c (let l = is.1 in omega (arith, l)))) (written_utf8 quote [] spelling value w rest))

-- and it is not more than four times as long
written_length : (quote : ℕ) (spelling value : List ℕ) → Writes quote spelling value → length value ≤ 4 * length spelling
written_length quote _ _ nothing = omega arith
written_length quote _ _ (plain {c} {spelling} {value} p w) = let l = written_length quote spelling value w in omega (arith, l)
written_length quote _ _ (escaped front {c} {spelling} {value} e w) =
    let l = written_length quote spelling value w in
    let one : length (encode_utf8 c) ≤ 4 = let n = length-encode c in let b = (len_utf8_bounds c).1 in omega (arith, n, b) in
    let value_long : length (encode_utf8 c ++ value) ≡ length (encode_utf8 c) + length value = length-append (encode_utf8 c) value in
    let spelling_long : length (front ++ spelling) ≡ length front + length spelling = length-append front spelling in
    omega (arith, l, one, value_long, spelling_long)

-- ---- tokens

-- the bytes are in a text
pub record IsIn (bytes : List ℕ) : Type 0 where
  pub before : List ℕ
  pub after : List ℕ
  pub text : IsUtf8 (before ++ (bytes ++ after))
  pub few : length bytes ≤ 262144

low_quote : (c : ℕ) → is_quote c ≡ true → c < 128
low_quote c e = grind (arith, nat_tests)

quoted_utf8 : (before inner after : List ℕ) (quote : ℕ) → quote < 128 → IsUtf8 (before ++ ((quote ∷ inner ++ quote ∷ []) ++ after)) → IsUtf8 inner
quoted_utf8 before inner after quote low text =
    let rest : IsUtf8 ((inner ++ quote ∷ []) ++ after) = cut_rest before ((inner ++ quote ∷ []) ++ after) quote low text in
    cut_front inner after quote low (subst IsUtf8 (append_assoc inner (quote ∷ []) after) rest)

text_plain : (quote : ℕ) (inner value bytes : List ℕ) → IsIn bytes → bytes ≡ quote ∷ inner ++ quote ∷ [] → is_quote quote ≡ true → Writes quote inner value → IsText value
text_plain quote inner value bytes at e is w =
    let u = quoted_utf8 at.before inner at.after quote (low_quote quote is) (subst (λ (b : List ℕ). IsUtf8 (at.before ++ (b ++ at.after))) e at.text) in
    let l = written_length quote inner value w in
    let long : length (inner ++ quote ∷ []) ≡ length inner + 1 = length-append inner (quote ∷ []) in
    let same : length bytes ≡ suc (length (inner ++ quote ∷ [])) = ap (λ (t : List ℕ). length t) e in
    let few = at.few in
    (is_utf8-from_IsUtf8 value (written_utf8 quote [] inner value w u), omega (arith, l, long, same, few))

continues-ascii : (c : ℕ) → continues_name c ≡ true → c < 128
continues-ascii c e = grind (arith, nat_tests)

begins-ascii : (c : ℕ) → begins_name c ≡ true → c < 128
begins-ascii c e = grind (arith, nat_tests)

all_ascii : (cs : List ℕ) → list_all continues_name cs ≡ true → IsAscii cs
all_ascii [] e = IsAscii-nil
all_ascii (c ∷ cs) e = let both = and_parts _ _ e in IsAscii-cons c cs (continues-ascii c both.0) (all_ascii cs both.1)

name_ascii : (cs : List ℕ) → is_spelled_as_name cs ≡ true → IsAscii cs
name_ascii [] e = IsAscii-nil
name_ascii (c ∷ cs) e = let both = and_parts _ _ e in IsAscii-cons c cs (begins-ascii c both.0) (all_ascii cs both.1)

name_plain : (name : List ℕ) → is_variable name ≡ true → IsText name
name_plain name e =
    let i : is_identifier name ≡ true = (and_parts _ _ e).0 in
    (is_utf8-from_IsUtf8 name (IsUtf8-from_ascii name (name_ascii name (and_parts _ _ i).0)), let l : length name ≤ 255 = leb-true (length name) 255 (and_parts (is_spelled_as_name name) (nat_le (length name) 255) i).1 in omega (arith, l))

spelled : (k : Kind) (bytes : List ℕ) → IsIn bytes → Spells k bytes → IsPlainKind k
spelled (t.Name name) bytes at h = name_plain name h.1
spelled (t.Number (pos n)) bytes at h = record { sfits = h.fits }
spelled (t.Number (negsuc n)) bytes at h = absurd h
spelled (t.Text value) bytes at h = text_plain h.quote h.inner value bytes at h.quoted h.is_quote h.writes
spelled (t.Keyword k) bytes at h = tt
spelled (t.Symbol o) bytes at h = tt
spelled t.Newline bytes at h = tt
spelled t.Indent bytes at h = tt
spelled t.Dedent bytes at h = tt
spelled t.End bytes at h = tt

split_at_place : (n : ℕ) (xs : List ℕ) → take n xs ++ drop n xs ≡ xs
split_at_place zero xs = refl
split_at_place (suc n) [] = refl
split_at_place (suc n) (x ∷ xs) = ap (λ t. x ∷ t) (split_at_place n xs)

short_take : (n : ℕ) (xs : List ℕ) → length (take n xs) ≤ length xs
short_take zero xs = omega arith
short_take (suc n) [] = omega arith
short_take (suc n) (x ∷ xs) = let l = short_take n xs in omega (arith, l)

short_drop : (n : ℕ) (xs : List ℕ) → length (drop n xs) ≤ length xs
short_drop zero xs = omega arith
short_drop (suc n) [] = omega arith
short_drop (suc n) (x ∷ xs) = let l = short_drop n xs in omega (arith, l)

module _ (code : List ℕ) (utf8 : IsUtf8 code) (short : length code ≤ 262144) where
  few_between : (i j : ℕ) → length (slice_range code i j) ≤ 262144
  few_between i j = let a = short_take (j - i) (drop i code) in let b = short_drop i code in omega (arith, a, b, short)

  in_code : (i j : ℕ) → IsIn (slice_range code i j)
  in_code i j = record {
    before = take i code;
    after = drop (j - i) (drop i code);
    text = subst IsUtf8 (sym (ap (λ t. take i code ++ t) (split_at_place (j - i) (drop i code)) ∙ split_at_place i code)) utf8;
    few = few_between i j;
  }

  covered : (at : ℕ) (ts : List Token) → Cover code at ts → ArePlainKinds (kinds ts)
  covered at [] c = tt
  covered at (x ∷ xs) c = (spelled x.kind _ (in_code x.start x.end) c.0.spelled, covered x.end xs c.1)

  if_text : (b : Bool) (bytes : List ℕ) → is_utf8 bytes ≡ b → length bytes ≤ 262144 → IsText (if b then bytes else [])
  if_text true bytes e l = (e, omega (arith, l))
  if_text false bytes e l = (is_utf8-from_IsUtf8 [] IsUtf8-nil, omega arith)

  up_to_text : (start : ℕ) (last : Option Token) → IsText (text_up_to code start last)
  up_to_text start None = (is_utf8-from_IsUtf8 [] IsUtf8-nil, omega arith)
  up_to_text start (Some last) = if_text (is_utf8 (slice_range code start last.end)) (slice_range code start last.end) refl (few_between start last.end)

  from_text : (tokens : List Token) → IsText (text_from code tokens)
  from_text [] = (is_utf8-from_IsUtf8 [] IsUtf8-nil, omega arith)
  from_text (first ∷ tokens) = up_to_text first.start (last_word (first ∷ tokens))

  cell_plain : (tokens : List Token) (c : Cell) → tokens_of code ≡ Ok tokens → IsCell (kinds tokens) c → Stateds (tree_cell (source_of code tokens) c)
  cell_plain tokens None e is = tt
  cell_plain tokens (Some xs) e is =
      (top (source_of code tokens) xs (t.End ∷ []) (λ i j. from_text (slice_range tokens i j)) (subst ArePlainKinds is.spelled (covered 0 tokens (covers code tokens e)))).0

judged : (code : List ℕ) (body : List Stmt) → IsUtf8 code → Verdict code (Ok body) → ArePlain (constants_in body)
judged _ _ utf8 (cells.whole {code} {tokens} {cell} l e is shallow) = all_gathered constants_by (tree_cell (source_of code tokens) cell) (cell_plain code utf8 l tokens cell e is)

pub constants_plain : (code : List ℕ) (body : List Stmt) → IsUtf8 code → verdict code ≡ Ok body → ArePlain (constants_in body)
constants_plain code body utf8 e = judged code body utf8 (subst (Verdict code) e (means code))
