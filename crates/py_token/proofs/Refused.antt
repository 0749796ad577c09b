-- Where a text is refused for a wrong indent: the line, and the text above it.
use Rattle.std.proofs.Common.{◌≡◌, ◌&&◌, ⊎_elim, inl, inr, ◌⊎◌, ℕ, zero, suc, pred, ◌+◌, ◌-◌, ◌<◌, Bool, true, false, cond, eqb, List, [], ◌∷◌, ◌++◌, length, take, drop, get_or, Option, Some, None, Result, Ok, Err, refl, sym, ap, ◌∙◌, subst, append_assoc, arith, length-append, length-take-le, take-append-drop}
use Rattle.std.specs.Prelude.{◌≢◌}
use Rattle.std.specs.List.{prefix_len, list_all, slice_range, AllByRecursion}
use Rattle.std.proofs.lemmas.List.{drop_at, get_or-drop}
use Rattle.std.proofs.Math.Seq.{take-append_seam, drop-append_seam}
use Rattle.std.proofs.Math.Numerals.{one-add}
use Rattle.py_token.specs.declared.faults.TokenFault.{TokenFault}
use Rattle.py_token.specs.declared.faults.TokenFault.TheVariants.{BadIndent}
use Rattle.py_token.specs.declared.kinds.Kind.{Kind}
use Rattle.py_token.specs.declared.kinds.Token.{Token}
use Rattle.py_token.specs.declared.lines.Depths.{Depths}
use Rattle.py_token.specs.declared.lines.Lexeme.{Lexeme}
use Rattle.py_token.specs.declared.lines.Line.{Line}
use Rattle.py_token.specs.declared.lines.Spot.{Spot}
use Rattle.py_token.specs.declared.lines.Spot.TheVariants.{Start, Inside}
use Rattle.py_token.specs.declared.lines.Turn.{Turn}
use Rattle.py_token.specs.Lexemes.{ends_line}
use Rattle.py_token.specs.Lines.{token, brackets_after, placed, passed, at_spot, next_line, line_ended, with_tab, without_tab, in_comment, ended, followed, turn, read, start, tokens_of}
use Rattle.py_token.specs.Laws.{is_white, Blank, nothing}
use Rattle.py_token.specs.Cuts.{kinds}
use Rattle.py_token.specs.Indentation.{IsDepth, IsMisfit, Descends, InOneLine, brackets, Lines, Misfits}
use Rattle.py_token.proofs.Bytes.{prefix_len-le}
use Rattle.py_token.proofs.Ends.{before_fault, line_fault}
use Rattle.py_token.proofs.Covers.{white_more, carriage_more, comment_more}
use Rattle.py_token.proofs.Spelled.{front_passes}
use Rattle.py_token.proofs.CutBlocks.{steps_of, kinds-append}
use Rattle.py_token.proofs.CutLexemes.{prefix_cut, lexeme_cut}
use Rattle.py_token.proofs.CutTurning.{AreLayout, IsLine, is_start, first_byte_cut, Turns, blank, tabbed, comment, feed, return, word, turned, turn_word, Feeds, passes, ends, within, fed, tells, ends_line_cut, blank_turn, tab_turn, comment_turn, feed_turn, return_turn}
use Rattle.py_token.proofs.CutReading.{ended_layout, next_read}
use Rattle.py_token.proofs.Depths.{at_byte, IsAt}
use Rattle.py_token.proofs.Indented.{layout_after, GoesOn, ended_goes, turn_goes, turn_at}
use Rattle.py_token.proofs.Misfit.{begun_descends, begun_fault, no_bad_indent}

-- ---- the same turn of bytes that are cut after it

pub turn_cut : (at : ℕ) (line : Line) (c : ℕ) (xs ys : List ℕ) (t : Turn) → pred t.width < length xs → Turns at line c (xs ++ ys) t → turn at line (c ∷ xs) ≡ Ok t
turn_cut at line c xs ys t more (blank e is) = ap (λ k. turn at line (k ∷ xs)) e ∙ blank_turn at line xs ∙ ap Ok (sym is)
turn_cut at line c xs ys t more (tabbed e is) = ap (λ k. turn at line (k ∷ xs)) e ∙ tab_turn at line xs ∙ ap Ok (sym is)
turn_cut at line c xs ys t more (comment e is) =
    let width : t.width ≡ 1 + prefix_len in_comment (xs ++ ys) = ap (λ (u : Turn). u.width) is in
    let cut : prefix_len in_comment xs ≡ prefix_len in_comment (xs ++ ys) = prefix_cut in_comment xs ys (omega (arith, width, more)) in
    ap (λ k. turn at line (k ∷ xs)) e ∙ comment_turn at line xs ∙ ap (λ n. passed (1 + n) (at_spot (without_tab line.spot) line)) cut ∙ ap Ok (sym is)
turn_cut at line c xs ys t more (feed e h) = ap (λ k. turn at line (k ∷ xs)) e ∙ feed_turn at line xs ∙ h
turn_cut at line c xs ys t more (return e f is) =
    ap (λ k. turn at line (k ∷ xs)) e ∙ return_turn at line xs (sym (ends_line_cut xs ys (omega (arith, more))) ∙ f) ∙ ap Ok (sym is)
turn_cut at line c xs ys t more (word d l b e f is) =
    let width : t.width ≡ l.width = ap (λ (u : Turn). u.width) is in
    turn_word at line c xs d l (first_byte_cut c xs ys b) e (lexeme_cut at at c xs ys l f (omega (arith, width, more))) ∙ ap Ok (sym is)

-- ---- brackets and depths after a turn

brackets-append : (n : ℕ) (ks ls : List Kind) → brackets n (ks ++ ls) ≡ brackets (brackets n ks) ls
brackets-append n [] ls = refl
brackets-append n (k ∷ ks) ls = brackets-append (brackets_after k n) ks ls

layout_brackets : (n : ℕ) (ts : List Token) → AreLayout ts → brackets n (kinds ts) ≡ n
layout_brackets n [] h = refl
layout_brackets n (t ∷ ts) h = ap (λ k. brackets k (kinds ts)) (layout_after t.kind n h.0) ∙ layout_brackets n ts h.1

-- what a turn leaves
record Leaves (line : Line) (t : Turn) : Type 0 where
  count : brackets line.brackets (kinds t.tokens) ≡ t.line.brackets
  descends : Descends line.depths → Descends t.line.depths

leaves_same : (line : Line) (t u : Turn) → t ≡ u → Leaves line u → Leaves line t
leaves_same line t u e h = subst (Leaves line) (sym e) h

feed_leaves : (at : ℕ) (line : Line) (t : Turn) → Feeds at line t → Leaves line t
feed_leaves at line t (passes s e) = leaves_same line t _ e (record { count = refl; descends = λ h. h })
feed_leaves at line t (ends s b e) = leaves_same line t _ e (record { count = refl; descends = λ h. h })
feed_leaves at line t (within s b e) = leaves_same line t _ e (record { count = refl; descends = λ h. h })

turn_leaves : (at : ℕ) (line : Line) (c : ℕ) (rest : List ℕ) (t : Turn) → IsLine line → Turns at line c rest t → Leaves line t
turn_leaves at line c rest t i (blank e is) = leaves_same line t _ is (record { count = refl; descends = λ h. h })
turn_leaves at line c rest t i (tabbed e is) = leaves_same line t _ is (record { count = refl; descends = λ h. h })
turn_leaves at line c rest t i (comment e is) = leaves_same line t _ is (record { count = refl; descends = λ h. h })
turn_leaves at line c rest t i (feed e h) = feed_leaves at line t (fed at line t h)
turn_leaves at line c rest t i (return e f is) = leaves_same line t _ is (record { count = refl; descends = λ h. h })
turn_leaves at line c rest t i (word d l b e f is) = leaves_same line t _ is (record {
  count = ap (brackets line.brackets) (kinds-append d.given (token l.kind at l.width ∷ [])) ∙ brackets-append line.brackets (kinds d.given) (l.kind ∷ [])
      ∙ ap (brackets_after l.kind) (layout_brackets line.brackets d.given (steps_of at line.spot line.depths d i.stack e).layout);
  descends = begun_descends at line.spot line.depths d e;
})

-- ---- the fault in the line that is read

-- from a place in a line on: blanks of this line, and then a place whose depth isn't open
record Here (at from : ℕ) (stack bytes : List ℕ) (p : ℕ) : Type 0 where
  gap : List ℕ
  rest : List ℕ
  parts : bytes ≡ gap ++ rest
  place : p ≡ at + length gap
  blank : Blank gap rest
  one_line : AllByRecursion (λ c. c ≢ 10) gap
  misfit : IsMisfit (p - from) stack

all_append : (xs ys : List ℕ) → AllByRecursion (λ c. c ≢ 10) xs → AllByRecursion (λ c. c ≢ 10) ys → AllByRecursion (λ c. c ≢ 10) (xs ++ ys)
all_append [] ys h k = k
all_append (x ∷ xs) ys h k = (h.0, all_append xs ys h.1 k)

here_more : (at n from p : ℕ) (stack more bytes whole : List ℕ) → Here (at + n) from stack bytes p → length more ≡ n → whole ≡ more ++ bytes
    → ((gap rest : List ℕ) → bytes ≡ gap ++ rest → Blank gap rest → Blank (more ++ gap) rest) → AllByRecursion (λ c. c ≢ 10) more → Here at from stack whole p
here_more at n from p stack more bytes whole h long is gaps line = record {
  gap = more ++ h.gap;
  rest = h.rest;
  parts = is ∙ ap (λ b. more ++ b) h.parts ∙ sym (append_assoc more h.gap h.rest);
  place = h.place ∙ (let wide = length-append more h.gap in omega arith);
  blank = gaps h.gap h.rest h.parts h.blank;
  one_line = all_append more h.gap line h.one_line;
  misfit = h.misfit;
}

no_feed : (c n : ℕ) → c ≡ n → eqb n 10 ≡ false → c ≢ 10
no_feed c n e h f = let no : true ≡ false = sym (ap (λ k. eqb k 10) (sym e ∙ f)) ∙ h in cc no

comment_line : (xs : List ℕ) → list_all in_comment xs ≡ true → AllByRecursion (λ c. c ≢ 10) xs
comment_line [] h = tt
comment_line (x ∷ xs) h = on (in_comment x) refl h (comment_line xs)
  where
    on : (b : Bool) → in_comment x ≡ b → (b && list_all in_comment xs) ≡ true → (list_all in_comment xs ≡ true → AllByRecursion (λ c. c ≢ 10) xs) → AllByRecursion (λ c. c ≢ 10) (x ∷ xs)
    on true e k inner = (λ f. let no : false ≡ true = sym (ap in_comment f) ∙ e in cc no, inner k)
    on false e k inner = cc

-- ---- where the fault is

-- the fault is in a later line: the bytes above it read alone, and then that line
record Later (skip at : ℕ) (line : Line) (bytes : List ℕ) (p : ℕ) : Type 0 where
  cut : List ℕ
  rest : List ℕ
  parts : bytes ≡ cut ++ rest
  feed : (lines : List ℕ) × (cut ≡ lines ++ 10 ∷ [])
  inside : skip < length cut
  stack : List ℕ
  tokens : List Token
  alone : read skip at line cut ≡ Ok tokens
  goes : (code : List ℕ) → drop at code ≡ cut → IsAt code (at + skip) line.spot → GoesOn code stack line tokens
  count : brackets line.brackets (kinds tokens) ≡ 0
  here : Here (at + length cut) (at + length cut) stack rest p

-- it is in the line that is read, or in a later one
abbrev Found : ℕ → ℕ → Line → List ℕ → ℕ → Type 0
Found skip at line bytes p = ((from : ℕ) × (tab : Option ℕ) × (line.spot ≡ Start from tab) × Here (at + skip) from line.depths (drop skip bytes) p) ⊎ Later skip at line bytes p

-- a byte more that is passed over
skip_found : (n at : ℕ) (line : Line) (c : ℕ) (rest : List ℕ) (p : ℕ) → Found n (suc at) line rest p → Found (suc n) at line (c ∷ rest) p
unfolding read
skip_found n at line c rest p (inl w) =
    let sum : suc at + n ≡ at + suc n = omega arith in
    inl (w.0, w.1, w.2, subst (λ k. Here k w.0 line.depths (drop n rest) p) sum w.3)
skip_found n at line c rest p (inr k) =
    let sum : suc at + length k.cut ≡ at + suc (length k.cut) = omega arith in
    inr (record {
      cut = c ∷ k.cut;
      rest = k.rest;
      parts = ap (◌∷◌ c) k.parts;
      feed = (c ∷ k.feed.0, ap (◌∷◌ c) k.feed.1);
      inside = omega (arith, k.inside);
      stack = k.stack;
      tokens = k.tokens;
      alone = k.alone;
      goes = λ code h is. k.goes code (at_byte code k.cut c at h).1 (subst (λ q. IsAt code q line.spot) (swap at n) is);
      count = k.count;
      here = subst (λ q. Here q q k.stack k.rest p) sum k.here;
    })
  where
    swap : (at n : ℕ) → at + suc n ≡ suc at + n
    swap at n = omega arith

-- a turn, and then a later line
turn_later : (at : ℕ) (line : Line) (c : ℕ) (rest : List ℕ) (t : Turn) (p : ℕ) → IsLine line → Turns at line c rest t → Later (pred t.width) (suc at) t.line rest p → Later zero at line (c ∷ rest) p
turn_later at line c rest t p i by k =
    let same : turn at line (c ∷ k.cut) ≡ Ok t = turn_cut at line c k.cut k.rest t k.inside (subst (λ b. Turns at line c b t) k.parts by) in
    let again : Turns at line c k.cut t = turned at line c k.cut t same in
    let sum : suc at + length k.cut ≡ at + suc (length k.cut) = omega arith in
    let near : at + 0 ≡ at = omega arith in
    record {
      cut = c ∷ k.cut;
      rest = k.rest;
      parts = ap (◌∷◌ c) k.parts;
      feed = (c ∷ k.feed.0, ap (◌∷◌ c) k.feed.1);
      inside = omega arith;
      stack = k.stack;
      tokens = t.tokens ++ k.tokens;
      alone = next_read at line c k.cut t k.tokens same k.alone;
      goes = λ code h is.
          let here = subst (λ q. IsAt code q line.spot) near is in
          turn_goes code k.stack at line c k.cut t k.tokens h here i again (k.goes code (at_byte code k.cut c at h).1 (turn_at code at line c k.cut t h here again));
      count = ap (brackets line.brackets) (kinds-append t.tokens k.tokens) ∙ brackets-append line.brackets (kinds t.tokens) (kinds k.tokens)
          ∙ ap (λ n. brackets n (kinds k.tokens)) (turn_leaves at line c k.cut t i again).count ∙ k.count;
      here = subst (λ q. Here q q k.stack k.rest p) sum k.here;
    }

-- the line that is refused begins after this line feed
feed_later : (at : ℕ) (line : Line) (rest : List ℕ) (t : Turn) (p : ℕ) → IsLine line → line_ended at line line.spot ≡ Ok t → t.width ≡ 1 → t.line ≡ next_line at line
    → Here (suc at) (at + 1) line.depths rest p → Later zero at line (10 ∷ rest) p
unfolding read
feed_later at line rest t p i h width is k =
    let same : turn at line (10 ∷ []) ≡ Ok t = feed_turn at line [] ∙ h in
    let again : Turns at line 10 [] t = turned at line 10 [] t same in
    let told = tells at line 10 [] t i again in
    let near : at + 0 ≡ at = omega arith in
    let one : suc at ≡ at + 1 = omega arith in
    let last : List Token = ended (suc at) (next_line at line) in
    record {
      cut = 10 ∷ [];
      rest = rest;
      parts = refl;
      feed = ([], refl);
      inside = omega arith;
      stack = line.depths;
      tokens = t.tokens ++ last;
      alone = next_read at line 10 [] t last same (ap (λ l. Ok (ended (suc at) l)) is);
      goes = λ code g at_it.
          turn_goes code line.depths at line 10 [] t last g (subst (λ q. IsAt code q line.spot) near at_it) i again
          (subst (λ l. GoesOn code line.depths l last) (sym is) (ended_goes code (suc at) (Start (at + 1) None) line.depths line.brackets i.stack));
      count = ap (brackets line.brackets) (kinds-append t.tokens last) ∙ brackets-append line.brackets (kinds t.tokens) (kinds last)
          ∙ layout_brackets (brackets line.brackets (kinds t.tokens)) last (ended_layout (suc at) (next_line at line))
          ∙ (turn_leaves at line 10 [] t i again).count ∙ free t.line (told.is) (ap (λ l. l.spot) is);
      here = subst (λ q. Here q (at + 1) line.depths rest p) one k;
    }
  where
    free : (l : Line) → IsLine l → l.spot ≡ Start (at + 1) None → l.brackets ≡ 0
    free l i e = i.free (ap is_start e)

-- a turn in the line that is refused, or up to its beginning
abbrev InLine : ℕ → Line → ℕ → List ℕ → ℕ → Turn → Type 0
InLine at line c rest p t = (from : ℕ) (tab : Option ℕ) → t.line.spot ≡ Start from tab → Here (suc at + pred t.width) from t.line.depths (drop (pred t.width) rest) p → Found zero at line (c ∷ rest) p

one_more : (at from p c : ℕ) (stack rest : List ℕ) → Here (suc at + 0) from stack rest p → ((gap more : List ℕ) → rest ≡ gap ++ more → Blank gap more → Blank ((c ∷ []) ++ gap) more) → c ≢ 10
    → Here (at + 0) from stack (c ∷ rest) p
one_more at from p c stack rest h gaps other =
    let sum : suc at + 0 ≡ (at + 0) + 1 = omega arith in
    here_more (at + 0) 1 from p stack (c ∷ []) rest (c ∷ rest) (subst (λ n. Here n from stack rest p) sum h) refl refl gaps (other, tt)

comment_here : (at from p c : ℕ) (stack rest : List ℕ) → c ≡ 35 → Here (suc at + pred (1 + prefix_len in_comment rest)) from stack (drop (pred (1 + prefix_len in_comment rest)) rest) p
    → Here (at + 0) from stack (c ∷ rest) p
comment_here at from p c stack rest e h =
    let n = prefix_len in_comment rest in
    let long : length (c ∷ take n rest) ≡ 1 + n = ap suc (length-take-le n rest (prefix_len-le in_comment rest)) ∙ sym (one-add n) in
    let is : c ∷ rest ≡ (c ∷ take n rest) ++ drop n rest = ap (◌∷◌ c) (sym (take-append-drop n rest)) in
    let sum : suc at + pred (1 + n) ≡ (at + 0) + (1 + n) = omega arith in
    let width : pred (1 + n) ≡ n = omega arith in
    here_more (at + 0) (1 + n) from p stack (c ∷ take n rest) (drop n rest) (c ∷ rest)
    (subst (λ k. Here k from stack (drop n rest) p) sum (subst (λ k. Here (suc at + pred (1 + n)) from stack (drop k rest) p) width h)) long is (comment_more c rest e)
    (no_feed c 35 e refl, comment_line (take n rest) (front_passes in_comment rest))

tab_spot : (at from : ℕ) (tab : Option ℕ) (spot : Spot) → with_tab at spot ≡ Start from tab → (u : Option ℕ) × (spot ≡ Start from u)
tab_spot at from tab (Start f None) h = (None, cc)
tab_spot at from tab (Start f (Some u)) h = (Some u, cc)
tab_spot at from tab Inside h = cc

comment_spot : (from : ℕ) (tab : Option ℕ) (spot : Spot) → without_tab spot ≡ Start from tab → (u : Option ℕ) × (spot ≡ Start from u)
comment_spot from tab (Start f u) h = (u, cc)
comment_spot from tab Inside h = cc

same_start : (a b : ℕ) (t u : Option ℕ) → Start a t ≡ Start b u → b ≡ a
same_start a b t u h = cc

feed_here : (at : ℕ) (line : Line) (rest : List ℕ) (t : Turn) (p : ℕ) → IsLine line → line_ended at line line.spot ≡ Ok t → t.width ≡ 1 → t.line ≡ next_line at line → InLine at line 10 rest p t
feed_here at line rest t p i h width is from tab e k =
    let starts : from ≡ at + 1 = same_start (at + 1) from None tab (sym (ap (λ (l : Line). l.spot) is) ∙ e) in
    let place : suc at + pred t.width ≡ suc at = ap (λ n. suc at + pred n) width ∙ omega arith in
    let one = subst (λ n. Here (suc at + pred t.width) from t.line.depths (drop (pred n) rest) p) width k in
    let two = subst (λ (l : Line). Here (suc at + pred t.width) from l.depths rest p) is one in
    let three = subst (λ n. Here n from line.depths rest p) place two in
    inr (feed_later at line rest t p i h width is (subst (λ n. Here (suc at) n line.depths rest p) starts three))

fed_here : (at : ℕ) (line : Line) (rest : List ℕ) (t : Turn) (p : ℕ) → IsLine line → line_ended at line line.spot ≡ Ok t → Feeds at line t → InLine at line 10 rest p t
fed_here at line rest t p i h (passes s e) = feed_here at line rest t p i h (ap (λ (u : Turn). u.width) e) (ap (λ (u : Turn). u.line) e)
fed_here at line rest t p i h (ends s b e) = feed_here at line rest t p i h (ap (λ (u : Turn). u.width) e) (ap (λ (u : Turn). u.line) e)
fed_here at line rest t p i h (within s b e) = λ from tab f k. absurd (not_start line.spot from tab s (sym (ap (λ (u : Turn). u.line.spot) e) ∙ f))
  where
    not_start : (spot : Spot) (from : ℕ) (tab : Option ℕ) → spot ≡ Inside → spot ≡ Start from tab → ⊥
    not_start spot from tab h k = cc

turn_here : (at : ℕ) (line : Line) (c : ℕ) (rest : List ℕ) (t : Turn) (p : ℕ) → IsLine line → Turns at line c rest t → InLine at line c rest p t
turn_here at line c rest t p i (blank e is) =
    subst (InLine at line c rest p) (sym is) (λ from tab f h. inl (from, tab, f, one_more at from p c line.depths rest h (white_more c rest (ap is_white e)) (no_feed c 32 e refl)))
turn_here at line c rest t p i (tabbed e is) =
    subst (InLine at line c rest p) (sym is) (λ from tab f h.
    let w = tab_spot at from tab line.spot f in
    inl (from, w.0, w.1, one_more at from p c line.depths rest h (white_more c rest (ap is_white e)) (no_feed c 9 e refl)))
turn_here at line c rest t p i (comment e is) =
    subst (InLine at line c rest p) (sym is) (λ from tab f h.
    let w = comment_spot from tab line.spot f in
    inl (from, w.0, w.1, comment_here at from p c line.depths rest e h))
turn_here at line c rest t p i (feed e h) = subst (λ k. InLine at line k rest p t) (sym e) (fed_here at line rest t p i h (fed at line t h))
turn_here at line c rest t p i (return e f is) =
    subst (InLine at line c rest p) (sym is) (λ from tab g h. inl (from, tab, g, one_more at from p c line.depths rest h (carriage_more c rest e f) (no_feed c 13 e refl)))
turn_here at line c rest t p i (word d l b e f is) = subst (InLine at line c rest p) (sym is) (λ from tab g h. cc g)

-- ---- the fault itself

refused_by : (P : Type 0) (b1 b2 b3 b4 b5 e : Bool) (l1 l2 l3 : Line) (w : ℕ) (r4 r6 : Result Turn TokenFault) (f : TokenFault) → (r4 ≡ Err f → ⊥) → (r6 ≡ Err f → P)
    → cond b1 (passed 1 l1) (cond b2 (passed 1 l2) (cond b3 (passed w l3) (cond b4 r4 (cond (b5 && e) (passed 1 l1) r6)))) ≡ Err f → P
refused_by P true b2 b3 b4 b5 e l1 l2 l3 w r4 r6 f p4 p6 h = cc
refused_by P false true b3 b4 b5 e l1 l2 l3 w r4 r6 f p4 p6 h = cc
refused_by P false false true b4 b5 e l1 l2 l3 w r4 r6 f p4 p6 h = cc
refused_by P false false false true b5 e l1 l2 l3 w r4 r6 f p4 p6 h = absurd (p4 h)
refused_by P false false false false true true l1 l2 l3 w r4 r6 f p4 p6 h = cc
refused_by P false false false false true false l1 l2 l3 w r4 r6 f p4 p6 h = p6 h
refused_by P false false false false false e l1 l2 l3 w r4 r6 f p4 p6 h = p6 h

placed_refused : (at : ℕ) (line : Line) (d : Result Depths TokenFault) (r : Result Lexeme TokenFault) (f : TokenFault) → placed at line d r ≡ Err f → (r ≡ Err f → ⊥) → d ≡ Err f
placed_refused at line (Err g) r f h never = cc
placed_refused at line (Ok e) (Err g) f h never = absurd (never (cc))
placed_refused at line (Ok e) (Ok l) f h never = cc

turn_refused : (at : ℕ) (line : Line) (c : ℕ) (rest : List ℕ) (p : ℕ) → Descends line.depths → turn at line (c ∷ rest) ≡ Err (BadIndent p) → Found zero at line (c ∷ rest) p
unfolding turn
turn_refused at line c rest p d h =
    refused_by _ (eqb c 32) (eqb c 9) (eqb c 35) (eqb c 10) (eqb c 13) (ends_line rest) line _ _ _ _ _ (BadIndent p) (line_fault at line line.spot (BadIndent p))
    (λ e. let w = begun_fault at p line.spot line.depths d (placed_refused at line _ _ (BadIndent p) e (no_bad_indent at c p rest)) in
    inl (
      w.0,
      None,
      w.1,
      record {
        gap = [];
        rest = c ∷ rest;
        parts = refl;
        place = w.2 ∙ omega arith;
        blank = nothing;
        one_line = tt;
        misfit = subst (λ n. IsMisfit (n - w.0) line.depths) (sym w.2) w.3;
      },
    )) h

followed_refused : (r : Result Turn TokenFault) (next : ℕ → Line → Result (List Token) TokenFault) (f : TokenFault) → followed r next ≡ Err f
    → (r ≡ Err f) ⊎ ((t : Turn) × (r ≡ Ok t) × (next (pred t.width) t.line ≡ Err f))
followed_refused (Err g) next f h = inl (cc)
followed_refused (Ok t) next f h = inr (t, refl, before_fault t.tokens _ f h)

found : (skip at : ℕ) (line : Line) (bytes : List ℕ) (p : ℕ) → IsLine line → Descends line.depths → read skip at line bytes ≡ Err (BadIndent p) → Found skip at line bytes p
unfolding read
found skip at line [] p i d h = cc
found (suc n) at line (c ∷ rest) p i d h = skip_found n at line c rest p (found n (suc at) line rest p i d h)
found zero at line (c ∷ rest) p i d h = ⊎_elim (turn_refused at line c rest p d) (λ w.
    let t = w.0 in
    let by = turned at line c rest t w.1 in
    let told = tells at line c rest t i by in
    ⊎_elim (λ k. turn_here at line c rest t p i by k.0 k.1 k.2 k.3) (λ k. inr (turn_later at line c rest t p i by k))
    (found (pred t.width) (suc at) t.line rest p told.is ((turn_leaves at line c rest t i by).descends d) w.2))
    (followed_refused (turn at line (c ∷ rest)) (λ n next. read n (suc at) next rest) (BadIndent p) h)

-- ---- the whole

below_zero : (depth : ℕ) → IsMisfit depth (0 ∷ []) → ⊥
below_zero depth m = no m.deepest m.others m.is_stack m.less
  where
    no : (x : ℕ) (xs : List ℕ) → ◌≡◌ {A = List ℕ} (0 ∷ []) (x ∷ xs) → depth < x → ⊥
    no x xs e h = let zero_is : 0 ≡ x = cc in omega (arith, zero_is)

slice_is : (code cut gap rest : List ℕ) (at : ℕ) → code ≡ cut ++ (gap ++ rest) → at ≡ length cut + length gap → slice_range code (length cut) at ≡ gap
slice_is code cut gap rest at is place =
    let there : drop (length cut) code ≡ gap ++ rest = ap (drop (length cut)) is ∙ drop-append_seam cut (gap ++ rest) in
    let wide : at - length cut ≡ length gap = omega (arith, place) in
    ap (λ n. take n (drop (length cut) code)) wide ∙ ap (take (length gap)) there ∙ take-append_seam gap rest

rest_is : (code cut gap rest : List ℕ) (at : ℕ) → code ≡ cut ++ (gap ++ rest) → at ≡ length cut + length gap → drop at code ≡ rest
rest_is code cut gap rest at is place =
    ap (drop at) (is ∙ sym (append_assoc cut gap rest)) ∙ drop_at (cut ++ gap) rest at (length-append cut gap ∙ sym place)

gap_byte : (gap rest : List ℕ) (i : ℕ) → AllByRecursion (λ c. c ≢ 10) gap → i < length gap → get_or (gap ++ rest) i 0 ≢ 10
gap_byte [] rest i h k = absurd (omega arith)
gap_byte (x ∷ xs) rest zero h k = h.0
gap_byte (x ∷ xs) rest (suc i) h k = gap_byte xs rest i h.1 (omega (arith, k))

gap_line : (code cut gap rest : List ℕ) (at : ℕ) → code ≡ cut ++ (gap ++ rest) → at ≡ length cut + length gap → AllByRecursion (λ c. c ≢ 10) gap → InOneLine code (length cut) at
gap_line code cut gap rest at is place h i above below =
    let there : drop (length cut) code ≡ gap ++ rest = ap (drop (length cut)) is ∙ drop-append_seam cut (gap ++ rest) in
    let sum : length cut + (i - length cut) ≡ i = omega (arith, above) in
    let byte : get_or code i 0 ≡ get_or (gap ++ rest) (i - length cut) 0
    = ap (λ j. get_or code j 0) (sym sum) ∙ sym (get_or-drop (length cut) code (i - length cut) 0) ∙ ap (λ l. get_or l (i - length cut) 0) there in
    subst (λ c. c ≢ 10) (sym byte) (gap_byte gap rest (i - length cut) h (omega (arith, above, below, place)))

misfits_by : (code : List ℕ) (p : ℕ) → Later zero 0 start code p → Misfits code p
unfolding tokens_of
misfits_by code p k =
    let h = k.here in
    let zero_is : 0 + length k.cut ≡ length k.cut = omega arith in
    let whole : code ≡ k.cut ++ (h.gap ++ h.rest) = k.parts ∙ ap (λ b. k.cut ++ b) h.parts in
    let front : take (length k.cut) code ≡ k.cut = ap (take (length k.cut)) whole ∙ take-append_seam k.cut (h.gap ++ h.rest) in
    let place : p ≡ length k.cut + length h.gap = h.place ∙ ap (λ n. n + length h.gap) zero_is in
    let depth : p - (0 + length k.cut) ≡ length h.gap = omega (arith, place) in
    let slice = slice_is code k.cut h.gap h.rest p whole place in
    let begins : IsDepth k.cut 0 0 = record { above = []; spaces = refl; begins = inl refl } in
    record {
      from = length k.cut;
      depth = length h.gap;
      place = place;
      begins = (k.feed.0, front ∙ k.feed.1);
      blank = subst (λ g. Blank g (drop p code)) (sym slice) (subst (Blank h.gap) (sym (rest_is code k.cut h.gap h.rest p whole place)) h.blank);
      one_line = gap_line code k.cut h.gap h.rest p whole place h.one_line;
      above = k.tokens;
      stack = k.stack;
      are_tokens = subst (λ b. read 0 0 start b ≡ Ok k.tokens) (sym front) k.alone;
      leaves = subst (λ b. Lines b (0 ∷ []) k.tokens k.stack) (sym front) (k.goes k.cut refl (inl (0, refl, begins)));
      no_bracket = k.count;
      misfit = subst (λ n. IsMisfit n k.stack) depth h.misfit;
    }

pub misfits : (code : List ℕ) (p : ℕ) → tokens_of code ≡ Err (BadIndent p) → Misfits code p
unfolding tokens_of
misfits code p h =
    let top : IsLine start = record { stack = refl; free = λ e. refl } in
    ⊎_elim (λ w. absurd (below_zero _ w.3.misfit)) (misfits_by code p) (found 0 0 start code p top refl h)
