-- The tokens of a text are indented lines.
use Rattle.std.proofs.Common.{◌≡◌, inl, ℕ, zero, suc, pred, ◌+◌, ◌<◌, Bool, true, false, cond, eqb, List, [], ◌∷◌, ◌++◌, drop, Some, None, Result, Ok, refl, sym, ap, ◌∙◌, subst, append_assoc, arith}
use Rattle.std.specs.List.{prefix_len, AllByRecursion}
use Rattle.py_token.specs.declared.kinds.Kind.{Kind}
use Rattle.py_token.specs.declared.kinds.Kind.TheVariants.{Newline, Indent, Dedent, End}
use Rattle.py_token.specs.declared.kinds.Token.{Token}
use Rattle.py_token.specs.declared.faults.TokenFault.{TokenFault}
use Rattle.py_token.specs.declared.lines.Depths.{Depths}
use Rattle.py_token.specs.declared.lines.Lexeme.{Lexeme}
use Rattle.py_token.specs.declared.lines.Line.{Line}
use Rattle.py_token.specs.declared.lines.Spot.{Spot}
use Rattle.py_token.specs.declared.lines.Spot.TheVariants.{Start, Inside}
use Rattle.py_token.specs.declared.lines.Turn.{Turn}
use Rattle.py_token.specs.Lexemes.{lexeme_at}
use Rattle.py_token.specs.Lines.{token, brackets_after, begun, closing, last_newline, without_tab, in_comment, turn, read, start, tokens_of}
use Rattle.py_token.specs.Cuts.{kinds, is_word}
use Rattle.py_token.specs.Indentation as indentation
use Rattle.py_token.specs.Indentation.{IsDepth, Shifts, brackets, Closes, Lines}
use Rattle.py_token.proofs.Ends.{followed_ok}
use Rattle.py_token.proofs.Escapes.{eqb_is}
use Rattle.py_token.proofs.CutBlocks.{IsStack, steps_of, kinds-append}
use Rattle.py_token.proofs.CutTurning.{AreLayout, IsLine, is_start, IsFirstByte, Turns, blank, tabbed, comment, feed, return, word, turned, Feeds, passes, ends, within, fed, tells, lexeme_word, start_with_tab, start_without_tab}
use Rattle.py_token.proofs.CutReading.{same_list}
use Rattle.py_token.proofs.Depths.{StandAt, begun_shifts, closing_shifts, at_byte, IsAt, at_blank, at_tab, at_comment, at_feed, at_return, word_depth}

-- ---- the rest of a line

pub data Tail (code left after : List ℕ) (n : ℕ) (ts : List Token) : Type 0 where
  newline : (t : Token) (more : List Token) → ts ≡ t ∷ more → t.kind ≡ Newline → n ≡ 0 → Lines code after more left → Tail code left after n ts
  unended : 0 < n → Closes after ts → after ≡ left → Tail code left after n ts

-- words, and then the line's end or the text's
pub record Rest (code left after : List ℕ) (n : ℕ) (ts : List Token) : Type 0 where
  pub words : List Token
  pub others : List Token
  pub parts : ts ≡ words ++ others
  pub are_words : AllByRecursion (λ w. is_word w.kind ≡ true) words
  pub tail : Tail code left after (brackets n (kinds words)) others

word_more : (code left after : List ℕ) (n : ℕ) (w : Token) (ts : List Token) → is_word w.kind ≡ true → Rest code left after (brackets_after w.kind n) ts → Rest code left after n (w ∷ ts)
word_more code left after n w ts h r = record { words = w ∷ r.words; others = r.others; parts = ap (◌∷◌ w) r.parts; are_words = (h, r.are_words); tail = r.tail }

pub layout_after : (k : Kind) (n : ℕ) → is_word k ≡ false → brackets_after k n ≡ n
layout_after Newline n h = refl
layout_after Indent n h = refl
layout_after Dedent n h = refl
layout_after End n h = refl
layout_after _ n h = cc

layout_brackets : (n : ℕ) (markers ts : List Token) → AreLayout markers → brackets n (kinds (markers ++ ts)) ≡ brackets n (kinds ts)
layout_brackets n [] ts h = refl
layout_brackets n (m ∷ ms) ts h = ap (λ k. brackets k (kinds (ms ++ ts))) (layout_after m.kind n h.0) ∙ layout_brackets n ms ts h.1

line_ends : (code left stack after : List ℕ) (line others : List Token) → indentation.IsLine code stack after line → Tail code left after (brackets 0 (kinds line)) others → Lines code stack (line ++ others) left
line_ends code left stack after line others is (newline t more e k z rest) = subst (λ ts. Lines code stack (line ++ ts) left) (sym e) (indentation.line line more t is z k rest)
line_ends code left stack after line others is (unended p c e) = subst (Lines code stack (line ++ others)) e (indentation.unended line others is p c)

first_line : (code left stack after : List ℕ) (depth : ℕ) (markers : List Token) (first : Token) (ts : List Token) → IsDepth code first.start depth → StandAt first.start markers
    → Shifts depth stack (kinds markers) after → AreLayout markers → is_word first.kind ≡ true → Rest code left after (brackets_after first.kind 0) ts → Lines code stack (markers ++ first ∷ ts) left
first_line code left stack after depth markers first ts stands places shifts layout is r =
    let is_line : indentation.IsLine code stack after (markers ++ first ∷ r.words)
    = record { depth = depth; markers = markers; first = first; words = r.words; parts = refl; are_words = (is, r.are_words); stands = stands; at_first = places; shifts = shifts } in
    let count : brackets 0 (kinds (markers ++ first ∷ r.words)) ≡ brackets (brackets_after first.kind 0) (kinds r.words) = layout_brackets 0 markers (first ∷ r.words) layout in
    let whole : (markers ++ first ∷ r.words) ++ r.others ≡ markers ++ first ∷ ts = append_assoc markers (first ∷ r.words) r.others ∙ ap (λ xs. markers ++ first ∷ xs) (sym r.parts) in
    subst (λ xs. Lines code stack xs left) whole (line_ends code left stack after (markers ++ first ∷ r.words) r.others is_line (subst (λ n. Tail code left after n r.others) (sym count) r.tail))

-- ---- from a place on

abbrev pub Goes : List ℕ → List ℕ → Bool → List ℕ → ℕ → List Token → Type 0
Goes code left true stack n ts = Lines code stack ts left
Goes code left false stack n ts = Rest code left stack n ts

abbrev pub GoesOn : List ℕ → List ℕ → Line → List Token → Type 0
GoesOn code left line ts = Goes code left (is_start line.spot) line.depths line.brackets ts

closes : (at : ℕ) (ds : List ℕ) → IsStack ds → Closes ds (closing at ds ++ token End at 0 ∷ [])
closes at ds h = (kinds (closing at ds), closing_shifts at ds h, kinds-append (closing at ds) (token End at 0 ∷ []))

above : (n : ℕ) → eqb n 0 ≡ false → 0 < n
above zero e = cc e
above (suc n) e = omega arith

pub ended_goes : (code : List ℕ) (at : ℕ) (spot : Spot) (ds : List ℕ) (n : ℕ) → IsStack ds → Goes code ds (is_start spot) ds n (last_newline at spot n ++ (closing at ds ++ token End at 0 ∷ []))
ended_goes code at (Start from tab) ds n h = indentation.end (closes at ds h)
ended_goes code at Inside ds n h = on (eqb n 0) refl
  where
    on : (b : Bool) → eqb n 0 ≡ b → Rest code ds ds n (cond b (token Newline at 0 ∷ []) [] ++ (closing at ds ++ token End at 0 ∷ []))
    on true e = record {
      words = [];
      others = token Newline at 0 ∷ (closing at ds ++ token End at 0 ∷ []);
      parts = refl;
      are_words = tt;
      tail = newline (token Newline at 0) _ refl refl (eqb_is n 0 e) (indentation.end (closes at ds h));
    }
    on false e = record { words = []; others = closing at ds ++ token End at 0 ∷ []; parts = refl; are_words = tt; tail = unended (above n e) (closes at ds h) refl }

-- ---- one turn

abbrev Steps : List ℕ → List ℕ → Line → List Token → Turn → Type 0
Steps code left line ts t = GoesOn code left t.line ts → GoesOn code left line (t.tokens ++ ts)

feed_goes : (code left : List ℕ) (at : ℕ) (line : Line) (t : Turn) (ts : List Token) → Feeds at line t → Steps code left line ts t
feed_goes code left at line t ts (passes s e) =
    subst (Steps code left line ts) (sym e) (λ k. subst (λ b. Goes code left b line.depths line.brackets ts) (sym s) k)
feed_goes code left at line t ts (ends s b e) =
    subst (Steps code left line ts) (sym e) (λ k. subst (λ x. Goes code left (is_start x) line.depths line.brackets (token Newline at 1 ∷ ts)) (sym s)
    (record { words = []; others = token Newline at 1 ∷ ts; parts = refl; are_words = tt; tail = newline (token Newline at 1) ts refl refl b k }))
feed_goes code left at line t ts (within s b e) = subst (Steps code left line ts) (sym e) (λ k. k)

word_goes : (code left : List ℕ) (at : ℕ) (spot : Spot) (ds : List ℕ) (n : ℕ) (c : ℕ) (rest : List ℕ) (d : Depths) (l : Lexeme) (ts : List Token) → drop at code ≡ c ∷ rest → IsAt code at spot
    → IsStack ds → (is_start spot ≡ true → n ≡ 0) → IsFirstByte c rest → begun at spot ds ≡ Ok d → lexeme_at at (c ∷ rest) ≡ Ok l → Rest code left d.depths (brackets_after l.kind n) ts
    → Goes code left (is_start spot) ds n ((d.given ++ token l.kind at l.width ∷ []) ++ ts)
unfolding begun
word_goes code left at (Start from None) ds n c rest d l ts here is deep free b e f r =
    let w = word_depth code rest c at from l here is b f in
    let s = begun_shifts at from w.0 ds d w.1 e in
    let split : (d.given ++ token l.kind at l.width ∷ []) ++ ts ≡ d.given ++ token l.kind at l.width ∷ ts = append_assoc d.given (token l.kind at l.width ∷ []) ts in
    subst (λ xs. Lines code ds xs left) (sym split)
    (first_line code left ds d.depths w.0 d.given (token l.kind at l.width) ts w.2 s.places s.shifts (steps_of at (Start from None) ds d deep e).layout (lexeme_word at c rest l f)
    (subst (λ m. Rest code left d.depths (brackets_after l.kind m) ts) (free refl) r))
word_goes code left at (Start from (Some tab)) ds n c rest d l ts here is deep free b e f r = cc e
word_goes code left at Inside ds n c rest d l ts here is deep free b e f r =
    subst (λ (x : Depths). Rest code left x.depths (brackets_after l.kind n) ts → Rest code left ds n ((x.given ++ token l.kind at l.width ∷ []) ++ ts)) (same _ d e)
    (word_more code left ds n (token l.kind at l.width) ts (lexeme_word at c rest l f)) r
  where
    same : (x y : Depths) → ◌≡◌ {A = Result Depths TokenFault} (Ok x) (Ok y) → x ≡ y
    same x y h = cc

pub turn_goes : (code left : List ℕ) (at : ℕ) (line : Line) (c : ℕ) (rest : List ℕ) (t : Turn) (ts : List Token) → drop at code ≡ c ∷ rest → IsAt code at line.spot → IsLine line → Turns at line c rest t → Steps code left line ts t
turn_goes code left at line c rest t ts here is i (blank e by) = subst (Steps code left line ts) (sym by) (λ k. k)
turn_goes code left at line c rest t ts here is i (tabbed e by) =
    subst (Steps code left line ts) (sym by) (λ k. subst (λ b. Goes code left b line.depths line.brackets ts) (start_with_tab at line.spot) k)
turn_goes code left at line c rest t ts here is i (comment e by) =
    subst (Steps code left line ts) (sym by) (λ k. subst (λ b. Goes code left b line.depths line.brackets ts) (start_without_tab line.spot) k)
turn_goes code left at line c rest t ts here is i (feed e h) = feed_goes code left at line t ts (fed at line t h)
turn_goes code left at line c rest t ts here is i (return e f by) = subst (Steps code left line ts) (sym by) (λ k. k)
turn_goes code left at line c rest t ts here is i (word d l b e f by) =
    subst (Steps code left line ts) (sym by) (word_goes code left at line.spot line.depths line.brackets c rest d l ts here is i.stack i.free b e f)

-- ---- the place after it

abbrev NextAt : List ℕ → ℕ → Turn → Type 0
NextAt code at t = IsAt code (suc at + pred t.width) t.line.spot

feed_at : (code rest : List ℕ) (at : ℕ) (line : Line) (t : Turn) → drop at code ≡ 10 ∷ rest → Feeds at line t → NextAt code at t
feed_at code rest at line t h (passes s e) = subst (NextAt code at) (sym e) (one_on (Start (at + 1) None) (at_feed code rest at h))
  where
    one_on : (spot : Spot) → IsAt code (suc at) spot → IsAt code (suc at + 0) spot
    one_on spot k = subst (λ p. IsAt code p spot) (omega arith) k
feed_at code rest at line t h (ends s b e) = subst (NextAt code at) (sym e) (one_on (Start (at + 1) None) (at_feed code rest at h))
  where
    one_on : (spot : Spot) → IsAt code (suc at) spot → IsAt code (suc at + 0) spot
    one_on spot k = subst (λ p. IsAt code p spot) (omega arith) k
feed_at code rest at line t h (within s b e) = subst (NextAt code at) (sym e) (subst (IsAt code (suc at + 0)) (sym s) tt)

one_byte : (code : List ℕ) (at : ℕ) (spot : Spot) → IsAt code (suc at) spot → IsAt code (suc at + 0) spot
one_byte code at spot k = subst (λ p. IsAt code p spot) (omega arith) k

pub turn_at : (code : List ℕ) (at : ℕ) (line : Line) (c : ℕ) (rest : List ℕ) (t : Turn) → drop at code ≡ c ∷ rest → IsAt code at line.spot → Turns at line c rest t → NextAt code at t
turn_at code at line c rest t here is (blank e by) =
    subst (NextAt code at) (sym by) (one_byte code at line.spot (at_blank code rest at line.spot (here ∙ ap (λ k. k ∷ rest) e) is))
turn_at code at line c rest t here is (tabbed e by) = subst (NextAt code at) (sym by) (at_tab code (suc at + 0) at line.spot)
turn_at code at line c rest t here is (comment e by) =
    let n = prefix_len in_comment rest in
    let place : suc at + n ≡ suc at + pred (1 + n) = omega arith in
    subst (NextAt code at) (sym by) (subst (λ p. IsAt code p (without_tab line.spot)) place (at_comment code rest c at line.spot here))
turn_at code at line c rest t here is (feed e h) = feed_at code rest at line t (here ∙ ap (λ k. k ∷ rest) e) (fed at line t h)
turn_at code at line c rest t here is (return e f by) =
    subst (NextAt code at) (sym by) (one_byte code at line.spot (at_return code rest at line.spot (here ∙ ap (λ k. k ∷ rest) e) f))
turn_at code at line c rest t here is (word d l b e f by) = subst (NextAt code at) (sym by) tt

-- ---- the whole

read_goes : (code : List ℕ) (skip at : ℕ) (line : Line) (bytes : List ℕ) (ts : List Token) → drop at code ≡ bytes → IsAt code (at + skip) line.spot → IsLine line
    → read skip at line bytes ≡ Ok ts → (left : List ℕ) × GoesOn code left line ts
unfolding read
read_goes code skip at line [] ts here is i h = (line.depths, subst (GoesOn code line.depths line) (same_list _ ts h) (ended_goes code at line.spot line.depths line.brackets i.stack))
read_goes code (suc n) at line (c ∷ rest) ts here is i h =
    let sum : at + suc n ≡ suc at + n = omega arith in
    read_goes code n (suc at) line rest ts (at_byte code rest c at here).1 (subst (λ p. IsAt code p line.spot) sum is) i h
read_goes code zero at line (c ∷ rest) ts here is i h =
    let f = followed_ok (turn at line (c ∷ rest)) (λ n next. read n (suc at) next rest) ts h in
    let near : at + 0 ≡ at = omega arith in
    let there = subst (λ p. IsAt code p line.spot) near is in
    let by = turned at line c rest f.0 f.2 in
    let told = tells at line c rest f.0 i by in
    let more = read_goes code (pred f.0.width) (suc at) f.0.line rest f.1 (at_byte code rest c at here).1 (turn_at code at line c rest f.0 here there by) told.is f.3 in
    (more.0, subst (GoesOn code more.0 line) f.4 (turn_goes code more.0 at line c rest f.0 f.1 here there i by more.1))

pub are_indented : (code : List ℕ) (ts : List Token) → tokens_of code ≡ Ok ts → (left : List ℕ) × Lines code (0 ∷ []) ts left
unfolding tokens_of
are_indented code ts h =
    let top : IsLine start = record { stack = refl; free = λ h. refl } in
    let begins : IsDepth code 0 0 = record { above = []; spaces = refl; begins = inl refl } in
    read_goes code 0 0 start code ts refl (inl (0, refl, begins)) top h
