-- Within a line, a line feed stands only where a bracket is open.
use Rattle.std.proofs.Common.{◌≡◌, ℕ, zero, suc, pred, ◌+◌, ◌-◌, ◌≤◌, Bool, true, false, cond, eqb, ltb, not, List, [], ◌∷◌, ◌++◌, drop, get_or, Some, None, Result, Ok, refl, sym, ap, ◌∙◌, subst, append_assoc, arith}
use Rattle.std.specs.Prelude.{◌≢◌}
use Rattle.std.specs.List.{prefix_len}
use Rattle.std.proofs.lemmas.Bool.Decides.{nat_tests}
use Rattle.std.proofs.lemmas.List.{get_or-drop}
use Rattle.std.proofs.lemmas.List.Sums.{prefix_len_passes}
use borrow.Author.Tests.{ltb-true}
use Rattle.py_token.specs.declared.faults.TokenFault.{TokenFault}
use Rattle.py_token.specs.declared.kinds.Kind.{Kind}
use Rattle.py_token.specs.declared.kinds.Kind.TheVariants.{Newline, Dedent, End}
use Rattle.py_token.specs.declared.kinds.Token.{Token}
use Rattle.py_token.specs.declared.lines.Depths.{Depths}
use Rattle.py_token.specs.declared.lines.Line.{Line}
use Rattle.py_token.specs.declared.lines.Spot.{Spot}
use Rattle.py_token.specs.declared.lines.Spot.TheVariants.{Start, Inside}
use Rattle.py_token.specs.declared.lines.Turn.{Turn}
use Rattle.py_token.specs.Lines.{token, brackets_after, begun, closing, last_newline, ended, in_comment, turn, read, start, tokens_of}
use Rattle.py_token.specs.Cuts.{kinds, is_word}
use Rattle.py_token.specs.Indentation.{InOneLine, brackets}
use Rattle.py_token.proofs.Ends.{followed_ok}
use Rattle.py_token.proofs.CutBlocks.{steps_of}
use Rattle.py_token.proofs.CutTurning.{AreLayout, IsLine, is_start, Turns, blank, tabbed, comment, feed, return, word, turned, Feeds, passes, ends, within, fed, tells, lexeme_word, start_with_tab, start_without_tab}
use Rattle.py_token.proofs.CutReading.{after_turn, same_list}
use Rattle.py_token.proofs.Depths.{StandAt, begun_shifts, at_byte}
use Rattle.py_token.proofs.Indented.{layout_after}

-- ---- bytes that are no line feed

one_line_more : (code : List ℕ) (p q to : ℕ) → InOneLine code p q → InOneLine code q to → InOneLine code p to
one_line_more code p q to h k i above below = on (ltb i q) refl
  where
    on : (b : Bool) → ltb i q ≡ b → get_or code i 0 ≢ 10
    on true e = h i above (ltb-true i q e)
    on false e = k i (grind (arith, nat_tests)) below

byte_at : (code rest : List ℕ) (c at i : ℕ) → drop at code ≡ c ∷ rest → get_or code (at + i) 0 ≡ get_or (c ∷ rest) i 0
byte_at code rest c at i h = sym (get_or-drop at code i 0) ∙ ap (λ l. get_or l i 0) h

not_ten : (b n : ℕ) → eqb n 10 ≡ false → b ≡ n → b ≢ 10
not_ten b n e is h = let no : true ≡ false = ap (λ k. eqb k 10) (sym h ∙ is) ∙ e in cc no

one_byte : (code rest : List ℕ) (c at n : ℕ) → drop at code ≡ c ∷ rest → c ≡ n → eqb n 10 ≡ false → InOneLine code at (at + 1)
one_byte code rest c at n h e k i above below =
    let here : at + 0 ≡ i = omega arith in
    not_ten (get_or code i 0) n k (ap (λ j. get_or code j 0) (sym here) ∙ byte_at code rest c at 0 h ∙ e)

in_comment_not_ten : (b : ℕ) → in_comment b ≡ true → b ≢ 10
in_comment_not_ten b e h = let no : false ≡ true = sym (ap in_comment h) ∙ e in cc no

comment_bytes : (code rest : List ℕ) (c at : ℕ) → drop at code ≡ c ∷ rest → InOneLine code (at + 1) (at + (1 + prefix_len in_comment rest))
comment_bytes code rest c at h i above below =
    let there : suc at + (i - (at + 1)) ≡ i = omega (arith, above) in
    let byte : get_or code i 0 ≡ get_or rest (i - (at + 1)) 0
    = ap (λ j. get_or code j 0) (sym there) ∙ sym (get_or-drop (suc at) code (i - (at + 1)) 0) ∙ ap (λ l. get_or l (i - (at + 1)) 0) (at_byte code rest c at h).1 in
    in_comment_not_ten (get_or code i 0) (ap in_comment byte ∙ prefix_len_passes in_comment rest (i - (at + 1)) 0 (omega (arith, above, below)))

-- ---- tokens and what is between them

-- from a place on, in a line or at one's start, with that many brackets open
abbrev Joined : List ℕ → Bool → ℕ → ℕ → List Token → Type 0
Joined code inside from n [] = Unit {0}
Joined code inside from n (t ∷ ts) = (inside ≡ true → n ≡ 0 → InOneLine code from t.start) × Joined code (is_word t.kind) t.end (brackets_after t.kind n) ts

joined_from : (code : List ℕ) (b : Bool) (p q n : ℕ) (ts : List Token) → ((to : ℕ) → b ≡ true → n ≡ 0 → InOneLine code q to → InOneLine code p to) → Joined code b q n ts → Joined code b p n ts
joined_from code b p q n [] f h = tt
joined_from code b p q n (t ∷ ts) f h = (λ e z. f t.start e z (h.0 e z), h.1)

-- tokens at one place have nothing between them
joined_at : (code : List ℕ) (b : Bool) (at from n : ℕ) (ts : List Token) → StandAt at ts → at ≤ from → Joined code b from n ts
joined_at code b at from n [] h k = tt
joined_at code b at from n (t ∷ ts) h k =
    (λ e z i above below. absurd (omega (arith, above, below, h.0.0, k)), joined_at code (is_word t.kind) at t.end (brackets_after t.kind n) ts h.1 (omega (arith, h.0.1)))

joined_given : (code : List ℕ) (at n : ℕ) (ms ts : List Token) → StandAt at ms → AreLayout ms → ((b : Bool) → Joined code b at n ts) → (b : Bool) → Joined code b at n (ms ++ ts)
joined_given code at n [] ts h l k b = k b
joined_given code at n (m ∷ ms) ts h l k b = (
  λ e z i above below. absurd (omega (arith, above, below, h.0.0)),
  subst (λ p. Joined code (is_word m.kind) p (brackets_after m.kind n) (ms ++ ts)) (sym h.0.1)
      (subst (λ j. Joined code (is_word m.kind) at j (ms ++ ts)) (sym (layout_after m.kind n l.0)) (joined_given code at n ms ts h.1 l.1 k (is_word m.kind))),
)

joined_word : (code : List ℕ) (b : Bool) (at n w : ℕ) (k : Kind) (ts : List Token) → is_word k ≡ true → Joined code true (at + w) (brackets_after k n) ts → Joined code b at n (token k at w ∷ ts)
joined_word code b at n w k ts is h =
    (λ e z i above below. absurd (omega (arith, above, below)), subst (λ x. Joined code x (at + w) (brackets_after k n) ts) (sym is) h)

begun_stand : (at : ℕ) (spot : Spot) (ds : List ℕ) (d : Depths) → begun at spot ds ≡ Ok d → StandAt at d.given
unfolding begun
begun_stand at (Start from None) ds d h = (begun_shifts at from (at - from) ds d refl h).places
begun_stand at (Start from (Some tab)) ds d h = cc
begun_stand at Inside ds d h = subst (λ (x : Depths). StandAt at x.given) (same _ d h) tt
  where
    same : (x y : Depths) → ◌≡◌ {A = Result Depths TokenFault} (Ok x) (Ok y) → x ≡ y
    same x y h = cc

closing_stand : (at : ℕ) (ds : List ℕ) (more : List Token) → StandAt at more → StandAt at (closing at ds ++ more)
closing_stand at [] more h = h
closing_stand at (d ∷ ds) more h = on (eqb d 0) (closing_stand at ds more h)
  where
    on : (b : Bool) → StandAt at (closing at ds ++ more) → StandAt at (cond b (closing at ds) (token Dedent at 0 ∷ closing at ds) ++ more)
    on true k = k
    on false k = ((refl, omega arith), k)

ended_stand : (at : ℕ) (spot : Spot) (ds : List ℕ) (n : ℕ) → StandAt at (last_newline at spot n ++ (closing at ds ++ token End at 0 ∷ []))
ended_stand at (Start from tab) ds n = closing_stand at ds (token End at 0 ∷ []) ((refl, omega arith), tt)
ended_stand at Inside ds n = on (eqb n 0)
  where
    on : (b : Bool) → StandAt at (cond b (token Newline at 0 ∷ []) [] ++ (closing at ds ++ token End at 0 ∷ []))
    on true = ((refl, omega arith), closing_stand at ds (token End at 0 ∷ []) ((refl, omega arith), tt))
    on false = closing_stand at ds (token End at 0 ∷ []) ((refl, omega arith), tt)

-- ---- one turn

abbrev JoinedOn : List ℕ → ℕ → Line → List Token → Type 0
JoinedOn code p line ts = Joined code (not (is_start line.spot)) p line.brackets ts

abbrev Joins : List ℕ → ℕ → Line → List Token → Turn → Type 0
Joins code at line ts t = JoinedOn code (at + t.width) t.line ts → JoinedOn code at line (t.tokens ++ ts)

quiet_joins : (code : List ℕ) (at w : ℕ) (line : Line) (spot : Spot) (ts : List Token) → is_start spot ≡ is_start line.spot → InOneLine code at (at + w)
    → Joined code (not (is_start spot)) (at + w) line.brackets ts → JoinedOn code at line ts
quiet_joins code at w line spot ts same h k =
    joined_from code (not (is_start line.spot)) at (at + w) line.brackets ts (λ to e z. one_line_more code at (at + w) to h)
    (subst (λ b. Joined code (not b) (at + w) line.brackets ts) same k)

feed_joins : (code : List ℕ) (at : ℕ) (line : Line) (t : Turn) (ts : List Token) → Feeds at line t → Joins code at line ts t
feed_joins code at line t ts (passes s e) =
    subst (Joins code at line ts) (sym e) (λ k. subst (λ b. Joined code (not b) at line.brackets ts) (sym s) (joined_from code false at (at + 1) line.brackets ts (λ to f z h. cc f) k))
feed_joins code at line t ts (ends s b e) = subst (Joins code at line ts) (sym e) (λ k. (λ f z i above below. absurd (omega (arith, above, below)), k))
feed_joins code at line t ts (within s b e) =
    subst (Joins code at line ts) (sym e) (λ k. joined_from code (not (is_start line.spot)) at (at + 1) line.brackets ts
    (λ to f z h. let never : true ≡ false = sym (ap (λ n. eqb n 0) z) ∙ b in cc never) k)

turn_joins : (code : List ℕ) (at : ℕ) (line : Line) (c : ℕ) (rest : List ℕ) (t : Turn) (ts : List Token) → drop at code ≡ c ∷ rest → IsLine line → Turns at line c rest t → Joins code at line ts t
turn_joins code at line c rest t ts here i (blank e by) =
    subst (Joins code at line ts) (sym by) (quiet_joins code at 1 line line.spot ts refl (one_byte code rest c at 32 here e refl))
turn_joins code at line c rest t ts here i (tabbed e by) =
    subst (Joins code at line ts) (sym by) (quiet_joins code at 1 line _ ts (start_with_tab at line.spot) (one_byte code rest c at 9 here e refl))
turn_joins code at line c rest t ts here i (comment e by) =
    subst (Joins code at line ts) (sym by) (quiet_joins code at (1 + prefix_len in_comment rest) line _ ts (start_without_tab line.spot)
    (one_line_more code at (at + 1) _ (one_byte code rest c at 35 here e refl) (comment_bytes code rest c at here)))
turn_joins code at line c rest t ts here i (feed e h) = feed_joins code at line t ts (fed at line t h)
turn_joins code at line c rest t ts here i (return e f by) =
    subst (Joins code at line ts) (sym by) (quiet_joins code at 1 line line.spot ts refl (one_byte code rest c at 13 here e refl))
turn_joins code at line c rest t ts here i (word d l b e f by) =
    subst (Joins code at line ts) (sym by) (λ k.
    subst (JoinedOn code at line) (sym (append_assoc d.given (token l.kind at l.width ∷ []) ts))
    (joined_given code at line.brackets d.given (token l.kind at l.width ∷ ts) (begun_stand at line.spot line.depths d e) (steps_of at line.spot line.depths d i.stack e).layout
    (λ x. joined_word code x at line.brackets l.width l.kind ts (lexeme_word at c rest l f) k) (not (is_start line.spot))))

-- ---- the whole

read_joined : (code : List ℕ) (skip at : ℕ) (line : Line) (bytes : List ℕ) (ts : List Token) → drop at code ≡ bytes → IsLine line → read skip at line bytes ≡ Ok ts → JoinedOn code (at + skip) line ts
unfolding read
read_joined code skip at line [] ts here i h =
    subst (JoinedOn code (at + skip) line) (same_list _ ts h) (joined_at code (not (is_start line.spot)) at (at + skip) line.brackets (ended at line) (ended_stand at line.spot line.depths line.brackets) (omega arith))
read_joined code (suc n) at line (c ∷ rest) ts here i h =
    let sum : suc at + n ≡ at + suc n = omega arith in
    subst (λ p. JoinedOn code p line ts) sum (read_joined code n (suc at) line rest ts (at_byte code rest c at here).1 i h)
read_joined code zero at line (c ∷ rest) ts here i h =
    let f = followed_ok (turn at line (c ∷ rest)) (λ n next. read n (suc at) next rest) ts h in
    let near : at ≡ at + 0 = omega arith in
    let by = turned at line c rest f.0 f.2 in
    let told = tells at line c rest f.0 i by in
    let more = read_joined code (pred f.0.width) (suc at) f.0.line rest f.1 (at_byte code rest c at here).1 told.is f.3 in
    let next = subst (λ p. JoinedOn code p f.0.line f.1) (after_turn at f.0.width told.positive) more in
    subst (λ p. JoinedOn code p line ts) near (subst (JoinedOn code at line) f.4 (turn_joins code at line c rest f.0 f.1 here i by next))

joined_pair : (code : List ℕ) (b : Bool) (from n : ℕ) (before after : List Token) (one next : Token) → Joined code b from n (before ++ one ∷ next ∷ after) → is_word one.kind ≡ true
    → brackets n (kinds (before ++ one ∷ [])) ≡ 0 → InOneLine code one.end next.start
joined_pair code b from n [] after one next h k z = h.1.0 k z
joined_pair code b from n (x ∷ before) after one next h k z = joined_pair code (is_word x.kind) x.end (brackets_after x.kind n) before after one next h.1 k z

pub one_line : (code : List ℕ) (before after : List Token) (one next : Token) → tokens_of code ≡ Ok (before ++ one ∷ next ∷ after) → is_word one.kind ≡ true
    → brackets 0 (kinds (before ++ one ∷ [])) ≡ 0 → InOneLine code one.end next.start
unfolding tokens_of
one_line code before after one next h k z =
    let top : IsLine start = record { stack = refl; free = λ e. refl } in
    joined_pair code false 0 0 before after one next (read_joined code 0 0 start code _ refl top h) k z
