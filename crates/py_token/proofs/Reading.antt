-- Reading on, turn by turn.
use Rattle.std.proofs.Common.{◌&&◌, ◌≡◌, ℕ, zero, suc, pred, ◌+◌, ◌-◌, ◌<◌, ◌≤◌, Bool, true, false, cond, eqb, List, [], ◌∷◌, ◌++◌, length, take, drop, get_or, Result, Ok, Err, refl, sym, ap, ◌∙◌, subst, append_assoc, arith, length-drop, IsUtf8, take-append-drop}
use Rattle.std.proofs.lemmas.List.{drop-drop, drop_all, take_rest}
use Rattle.std.proofs.Math.Seq.{drop-cons}
use Rattle.std.specs.List.{prefix_len}
use Rattle.py_token.specs.declared.kinds.Token.{Token}
use Rattle.py_token.specs.declared.kinds.Kind.{Kind}
use Rattle.py_token.specs.declared.faults.TokenFault.{TokenFault}
use Rattle.py_token.specs.declared.lines.Line.{Line}
use Rattle.py_token.specs.declared.lines.Turn.{Turn}
use Rattle.py_token.specs.declared.kinds.Kind.TheVariants.{Symbol, Newline}
use Rattle.py_token.specs.declared.kinds.Symbol.TheVariants as o
use Rattle.py_token.specs.declared.lines.Depths.{Depths}
use Rattle.py_token.specs.declared.lines.Lexeme.{Lexeme}
use Rattle.py_token.specs.declared.lines.Spot.{Spot}
use Rattle.py_token.specs.declared.lines.Spot.TheVariants.{Start, Inside}
use Rattle.py_token.specs.declared.faults.TokenError.{TokenError}
use Rattle.py_token.specs.declared.faults.TokenError.TheVariants.{OutOfMemory, Fault}
use Rattle.py_token.specs.Lexemes.{ends_line, lexeme_at}
use Rattle.py_token.specs.Lines.{token, passed, at_spot, next_line, line_ended, with_tab, without_tab, in_comment, brackets_after, begun, placed, before, followed, ended, read, turn, start, tokens_of}
use Rattle.py_token.specs.Bodies.{EndsText}
use Rattle.py_token.specs.Gives.{Fails}
use Rattle.py_token.proofs.Bytes.{prefix_len-le}
use Rattle.py_token.proofs.Bounds.{lexeme_bounds}

-- bytes of what was read are passed over
pub read-skip : (n at : ℕ) (line : Line) (bytes : List ℕ) → n ≤ length bytes → read n at line bytes ≡ read 0 (at + n) line (drop n bytes)
unfolding read
read-skip zero at line bytes h = ap (λ k. read 0 k line bytes) (omega arith)
read-skip (suc n) at line [] h = absurd (omega arith)
read-skip (suc n) at line (c ∷ rest) h =
    let sum : suc at + n ≡ at + suc n = omega arith in
    read-skip n (suc at) line rest (omega arith) ∙ ap (λ k. read 0 k line (drop n rest)) sum

-- what is known of a turn
pub record IsTurn (line : Line) (bytes : List ℕ) (t : Turn) : Type 0 where
  pub positive : 0 < t.width
  pub within : t.width ≤ length bytes
  pub few : t.line.brackets ≤ line.brackets + 1

-- a turn that gives no token
abbrev pub quiet : ℕ → Line → Turn
quiet width line = record { tokens = []; width = width; line = line }

same_turn : (t u : Turn) → ◌≡◌ {A = Result Turn TokenFault} (Ok t) (Ok u) → t ≡ u
same_turn t u h = cc

-- by the first byte
turn_by : (P : Turn → Type 0) (b1 b2 b3 b4 b5 e : Bool) (l1 l2 l3 : Line) (w : ℕ) (r4 r6 : Result Turn TokenFault) (t : Turn)
    → (b1 ≡ true → P (quiet 1 l1)) → (b2 ≡ true → P (quiet 1 l2)) → (b3 ≡ true → P (quiet w l3)) → (b4 ≡ true → r4 ≡ Ok t → P t)
    → (b5 ≡ true → e ≡ true → P (quiet 1 l1)) → (r6 ≡ Ok t → P t)
    → cond b1 (passed 1 l1) (cond b2 (passed 1 l2) (cond b3 (passed w l3) (cond b4 r4 (cond (b5 && e) (passed 1 l1) r6)))) ≡ Ok t → P t
turn_by P true b2 b3 b4 b5 e l1 l2 l3 w r4 r6 t p1 p2 p3 p4 p5 p6 h = subst P (same_turn _ t h) (p1 refl)
turn_by P false true b3 b4 b5 e l1 l2 l3 w r4 r6 t p1 p2 p3 p4 p5 p6 h = subst P (same_turn _ t h) (p2 refl)
turn_by P false false true b4 b5 e l1 l2 l3 w r4 r6 t p1 p2 p3 p4 p5 p6 h = subst P (same_turn _ t h) (p3 refl)
turn_by P false false false true b5 e l1 l2 l3 w r4 r6 t p1 p2 p3 p4 p5 p6 h = p4 refl h
turn_by P false false false false true true l1 l2 l3 w r4 r6 t p1 p2 p3 p4 p5 p6 h = subst P (same_turn _ t h) (p5 refl refl)
turn_by P false false false false true false l1 l2 l3 w r4 r6 t p1 p2 p3 p4 p5 p6 h = p6 h
turn_by P false false false false false e l1 l2 l3 w r4 r6 t p1 p2 p3 p4 p5 p6 h = p6 h

pub turn_ok : (P : Turn → Type 0) (at : ℕ) (line : Line) (c : ℕ) (rest : List ℕ) (t : Turn)
    → (eqb c 32 ≡ true → P (quiet 1 line)) → (eqb c 9 ≡ true → P (quiet 1 (at_spot (with_tab at line.spot) line)))
    → (eqb c 35 ≡ true → P (quiet (1 + prefix_len in_comment rest) (at_spot (without_tab line.spot) line)))
    → (eqb c 10 ≡ true → line_ended at line line.spot ≡ Ok t → P t) → (eqb c 13 ≡ true → ends_line rest ≡ true → P (quiet 1 line))
    → (placed at line (begun at line.spot line.depths) (lexeme_at at (c ∷ rest)) ≡ Ok t → P t) → turn at line (c ∷ rest) ≡ Ok t → P t
unfolding turn
turn_ok P at line c rest t p1 p2 p3 p4 p5 p6 h = turn_by P (eqb c 32) (eqb c 9) (eqb c 35) (eqb c 10) (eqb c 13) (ends_line rest) line _ _ _ _ _ t p1 p2 p3 p4 p5 p6 h

-- a line's end
pub line_ok : (P : Turn → Type 0) (at : ℕ) (line : Line) (spot : Spot) (t : Turn)
    → P (quiet 1 (next_line at line)) → P (record { tokens = token Newline at 1 ∷ []; width = 1; line = next_line at line }) → P (quiet 1 line)
    → line_ended at line spot ≡ Ok t → P t
line_ok P at line (Start from tab) t p q r h = subst P (same_turn _ t h) p
line_ok P at line Inside t p q r h = by_brackets (eqb line.brackets 0) h
  where
    by_brackets : (b : Bool) → cond b (Ok (record { tokens = token Newline at 1 ∷ []; width = 1; line = next_line at line })) (passed 1 line) ≡ Ok t → P t
    by_brackets true e = subst P (same_turn _ t e) q
    by_brackets false e = subst P (same_turn _ t e) r

-- a token
pub placed_ok : (at : ℕ) (line : Line) (d : Result Depths TokenFault) (r : Result Lexeme TokenFault) (t : Turn) → placed at line d r ≡ Ok t
    → (e : Depths) × (l : Lexeme) × (d ≡ Ok e) × (r ≡ Ok l) × (record {
      tokens = e.given ++ token l.kind at l.width ∷ [];
      width = l.width;
      line = record { spot = Inside; depths = e.depths; brackets = brackets_after l.kind line.brackets };
    } ≡ t)
placed_ok at line (Err f) r t h = cc
placed_ok at line (Ok e) (Err f) t h = cc
placed_ok at line (Ok e) (Ok l) t h = (e, l, refl, refl, same_turn _ t h)

brackets_few : (k : Kind) (n : ℕ) → brackets_after k n ≤ n + 1
brackets_few (Symbol o.OpenParenthesis) n = omega arith
brackets_few (Symbol o.OpenBracket) n = omega arith
brackets_few (Symbol o.OpenBrace) n = omega arith
brackets_few (Symbol o.CloseParenthesis) n = omega arith
brackets_few (Symbol o.CloseBracket) n = omega arith
brackets_few (Symbol o.CloseBrace) n = omega arith
brackets_few _ n = omega arith

pub turn_is : (at : ℕ) (line : Line) (bytes : List ℕ) (t : Turn) → 0 < length bytes → turn at line bytes ≡ Ok t → IsTurn line bytes t
turn_is at line [] t long h = absurd (omega arith)
turn_is at line (c ∷ rest) t long h =
    turn_ok (IsTurn line (c ∷ rest)) at line c rest t
    (λ _. record { positive = omega arith; within = omega arith; few = omega arith })
    (λ _. record { positive = omega arith; within = omega arith; few = omega arith })
    (λ _. let fits = prefix_len-le in_comment rest in record { positive = omega arith; within = omega arith; few = omega arith })
    (λ _ e. line_ok (IsTurn line (c ∷ rest)) at line line.spot t
    (record { positive = omega arith; within = omega arith; few = omega arith })
    (record { positive = omega arith; within = omega arith; few = omega arith })
    (record { positive = omega arith; within = omega arith; few = omega arith }) e)
    (λ _ _. record { positive = omega arith; within = omega arith; few = omega arith })
    (λ e.
    let w = placed_ok at line _ _ t e in
    let bounds = lexeme_bounds at (c ∷ rest) w.1 w.3 in
    subst (IsTurn line (c ∷ rest)) w.4 (record { positive = bounds.positive; within = bounds.within; few = brackets_few w.1.kind line.brackets }))
    h

before-before : (xs ys : List Token) (r : Result (List Token) TokenFault) → before xs (before ys r) ≡ before (xs ++ ys) r
before-before xs ys (Ok zs) = ap Ok (sym (append_assoc xs ys zs))
before-before xs ys (Err f) = refl

skip_to : (w at : ℕ) (line : Line) (c : ℕ) (rest : List ℕ) → 0 < w → w ≤ suc (length rest) → read (pred w) (suc at) line rest ≡ read 0 (at + w) line (drop w (c ∷ rest))
skip_to zero at line c rest positive within = absurd (omega arith)
skip_to (suc n) at line c rest positive within =
    let sum : suc at + n ≡ at + suc n = omega arith in
    read-skip n (suc at) line rest (omega arith) ∙ ap (λ k. read 0 k line (drop n rest)) sum

read_at : (at : ℕ) (line : Line) (c : ℕ) (rest : List ℕ) (t : Turn) → turn at line (c ∷ rest) ≡ Ok t → IsTurn line (c ∷ rest) t
    → read 0 at line (c ∷ rest) ≡ before t.tokens (read 0 (at + t.width) t.line (drop t.width (c ∷ rest)))
unfolding read
read_at at line c rest t h is =
    ap (λ r. followed r (λ n next. read n (suc at) next rest)) h ∙ ap (before t.tokens) (skip_to t.width at t.line c rest is.positive is.within)

-- the next turn
pub read_turn : (code : List ℕ) (at : ℕ) (line : Line) (t : Turn) (all : List Token) → at < length code → turn at line (drop at code) ≡ Ok t
    → before all (read 0 at line (drop at code)) ≡ tokens_of code
    → before (all ++ t.tokens) (read 0 (at + t.width) t.line (drop (at + t.width) code)) ≡ tokens_of code
read_turn code at line t all within h r =
    let c = get_or code at 0 in
    let rest = drop (suc at) code in
    let split : drop at code ≡ c ∷ rest = drop-cons code at 0 within in
    let here : turn at line (c ∷ rest) ≡ Ok t = subst (λ b. turn at line b ≡ Ok t) split h in
    let is = turn_is at line (c ∷ rest) t (omega arith) here in
    let step = ap (read 0 at line) split ∙ read_at at line c rest t here is in
    let there : drop t.width (c ∷ rest) ≡ drop (at + t.width) code = ap (drop t.width) (sym split) ∙ drop-drop t.width at code in
    sym (before-before all t.tokens _) ∙ ap (λ b. before all (before t.tokens (read 0 (at + t.width) t.line b))) (sym there) ∙ sym (ap (before all) step) ∙ r

-- a fault ends it
pub read_fault : (code : List ℕ) (at : ℕ) (line : Line) (f : TokenFault) (all : List Token) → at < length code → turn at line (drop at code) ≡ Err f
    → before all (read 0 at line (drop at code)) ≡ tokens_of code → tokens_of code ≡ Err f
unfolding read
read_fault code at line f all within h r =
    let c = get_or code at 0 in
    let rest = drop (suc at) code in
    let split : drop at code ≡ c ∷ rest = drop-cons code at 0 within in
    sym r ∙ ap (λ b. before all (read 0 at line b)) split ∙ ap (λ t. before all (followed t (λ n next. read n (suc at) next rest))) (subst (λ b. turn at line b ≡ Err f) split h)

pub read_end : (code : List ℕ) (at : ℕ) (line : Line) (all : List Token) → length code ≤ at → before all (read 0 at line (drop at code)) ≡ tokens_of code → tokens_of code ≡ Ok (all ++ ended at line)
unfolding read
read_end code at line all past r = sym r ∙ ap (λ b. before all (read 0 at line b)) (drop_all at code past)

pub read_start : (code : List ℕ) (line : Line) (all : List Token) → line ≡ start → all ≡ [] → before all (read 0 0 line code) ≡ tokens_of code
unfolding tokens_of
read_start code line all is none = ap (λ a. before a (read 0 0 line code)) none ∙ before-none _ ∙ ap (λ l. read 0 0 l code) is
  where
    before-none : (r : Result (List Token) TokenFault) → before [] r ≡ r
    before-none (Ok ts) = refl
    before-none (Err f) = refl

-- what is left of a text is the end of one
pub ends_at : (code : List ℕ) (at : ℕ) → IsUtf8 code → EndsText (take (length code - at) (drop at code))
ends_at code at text = (take at code, subst IsUtf8 (sym (ap (λ r. take at code ++ r) (take_rest code at) ∙ take-append-drop at code)) text)

-- the turn that the call gave, or its fault
pub turn_given : (code : List ℕ) (at : ℕ) (line : Line) (r : Result Turn TokenFault) → turn at line (take (length code - at) (drop at code)) ≡ r → turn at line (drop at code) ≡ r
turn_given code at line r h = ap (turn at line) (sym (take_rest code at)) ∙ h

pub fails : (e : TokenError) (code : List ℕ) (at : ℕ) (line : Line) (all : List Token) → at < length code → Fails e (turn at line (take (length code - at) (drop at code)))
    → before all (read 0 at line (drop at code)) ≡ tokens_of code → Fails e (tokens_of code)
fails OutOfMemory code at line all within h r = tt
fails (Fault f) code at line all within h r = read_fault code at line f all within (turn_given code at line (Err f) h) r

pub turn_fits : (code : List ℕ) (at : ℕ) (line : Line) (t : Turn) → at < length code → turn at line (drop at code) ≡ Ok t → IsTurn line (drop at code) t
turn_fits code at line t within h = turn_is at line (drop at code) t (omega (arith, length-drop at code)) h
