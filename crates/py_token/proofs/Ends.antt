-- The last token, and the byte that a fault names.
use Rattle.std.proofs.Common.{◌&&◌, ◌≡◌, ℕ, zero, suc, pred, ◌+◌, ◌-◌, ◌<◌, Bool, true, false, cond, eqb, ltb, List, [], ◌∷◌, ◌++◌, length, drop, Option, Some, None, Result, Ok, Err, refl, sym, ap, ◌∙◌, subst, append_assoc, arith}
use Rattle.std.specs.List.{prefix_len}
use Rattle.std.specs.Char.{is_ascii_digit}
use Rattle.py_names.specs.Names.{begins_name, continues_name}
use Rattle.py_token.specs.declared.kinds.Kind.TheVariants.{End}
use Rattle.py_token.specs.declared.kinds.Symbol as operator
use Rattle.py_token.specs.declared.kinds.Token.{Token}
use Rattle.py_token.specs.declared.faults.TokenFault.{TokenFault}
use Rattle.py_token.specs.declared.faults.TokenFault.TheVariants.{BadChar, OpenText, BadIndent, Tab, WideNumber, LongName}
use Rattle.py_token.specs.declared.lines.Depths.{Depths}
use Rattle.py_token.specs.declared.lines.Lexeme.{Lexeme}
use Rattle.py_token.specs.declared.lines.Line.{Line}
use Rattle.py_token.specs.declared.lines.Spot.{Spot}
use Rattle.py_token.specs.declared.lines.Spot.TheVariants.{Start, Inside}
use Rattle.py_token.specs.declared.lines.Turn.{Turn}
use Rattle.py_token.specs.declared.pieces.Body.{Body}
use Rattle.py_token.specs.declared.pieces.Body.TheVariants.{Closed, Unclosed, Spoiled}
use Rattle.py_token.specs.Spellings.{is_quote}
use Rattle.py_token.specs.Lexemes.{next_is, name_at, follows_no_number, number_width, number_at, body, text_lexeme, text_at, operator_lexeme, operator_at, lexeme_at, ends_line}
use Rattle.py_token.specs.Lines.{token, ends_block, shallower, indented, begun, is_deeper, placed, passed, line_ended, with_tab, without_tab, turn, closing, last_newline, before, followed, read, start, tokens_of}
use Rattle.py_token.specs.declared.faults.TokenError.{TokenError}
use Rattle.py_token.specs.declared.faults.TokenError.TheVariants.{OutOfMemory, Fault}
use Rattle.py_token.specs.Gives.{Fails, AtFault}
use Rattle.py_token.specs.Bodies.{IsWithin}
use Rattle.py_token.specs.Laws.{place, EndsWell}
use Rattle.py_token.proofs.Quoted.{body_within}
use Rattle.py_token.proofs.Reading.{turn_ok, line_ok, placed_ok}

before_ok : (xs ts : List Token) (r : Result (List Token) TokenFault) → before xs r ≡ Ok ts → (ys : List Token) × (r ≡ Ok ys) × (xs ++ ys ≡ ts)
before_ok xs ts (Err f) h = cc
before_ok xs ts (Ok ys) h = (ys, refl, cc)

pub followed_ok : (r : Result Turn TokenFault) (next : ℕ → Line → Result (List Token) TokenFault) (ts : List Token) → followed r next ≡ Ok ts
    → (t : Turn) × (ys : List Token) × (r ≡ Ok t) × (next (pred t.width) t.line ≡ Ok ys) × (t.tokens ++ ys ≡ ts)
followed_ok (Err f) next ts h = cc
followed_ok (Ok t) next ts h = let w = before_ok t.tokens ts (next (pred t.width) t.line) h in (t, w.0, refl, w.1, w.2)

ok_list : (xs ys : List Token) → ◌≡◌ {A = Result (List Token) TokenFault} (Ok xs) (Ok ys) → xs ≡ ys
ok_list xs ys h = cc

-- the last token is the end
pub read_ends : (skip at : ℕ) (line : Line) (bytes : List ℕ) (ts : List Token) → read skip at line bytes ≡ Ok ts → (front : List Token) × (ts ≡ front ++ token End (at + length bytes) 0 ∷ [])
unfolding read
read_ends skip at line [] ts h =
    let sum : at ≡ at + 0 = omega arith in (
      last_newline at line.spot line.brackets ++ closing at line.depths,
      sym (ok_list _ ts h) ∙ sym (append_assoc (last_newline at line.spot line.brackets) (closing at line.depths) (token End at 0 ∷ []))
          ∙ ap (λ k. (last_newline at line.spot line.brackets ++ closing at line.depths) ++ token End k 0 ∷ []) sum,
    )
read_ends (suc n) at line (c ∷ rest) ts h =
    let w = read_ends n (suc at) line rest ts h in
    let sum : suc at + length rest ≡ at + suc (length rest) = omega arith in
    (w.0, w.1 ∙ ap (λ k. w.0 ++ token End k 0 ∷ []) sum)
read_ends zero at line (c ∷ rest) ts h =
    let f = followed_ok (turn at line (c ∷ rest)) (λ n next. read n (suc at) next rest) ts h in
    let w = read_ends (pred f.0.width) (suc at) f.0.line rest f.1 f.3 in
    let sum : suc at + length rest ≡ at + suc (length rest) = omega arith in
    (f.0.tokens ++ w.0, sym f.4 ∙ ap (λ ys. f.0.tokens ++ ys) (w.1 ∙ ap (λ k. w.0 ++ token End k 0 ∷ []) sum) ∙ sym (append_assoc f.0.tokens w.0 _))

pub ends_well : (code : List ℕ) (ts : List Token) → tokens_of code ≡ Ok ts → EndsWell code ts
unfolding tokens_of
ends_well code ts h =
    let w = read_ends 0 0 start code ts h in
    let sum : 0 + length code ≡ length code = omega arith in
    record { front = w.0; last = w.1 ∙ ap (λ k. w.0 ++ token End k 0 ∷ []) sum }

-- ---- faults

fault_same : {A : Type 0} (f g : TokenFault) → ◌≡◌ {A = Result A TokenFault} (Err f) (Err g) → f ≡ g
fault_same f g h = cc

by_place : {A : Type 0} (f g : TokenFault) (n : ℕ) → ◌≡◌ {A = Result A TokenFault} (Err f) (Err g) → place f < n → place g < n
by_place f g n h p = subst (λ k. place k < n) (fault_same f g h) p

-- there is a byte that passes
next_within : (p : ℕ → Bool) (n : ℕ) (bytes : List ℕ) → next_is p (drop n bytes) ≡ true → n < length bytes
next_within p zero [] h = cc
next_within p zero (c ∷ rest) h = omega arith
next_within p (suc n) [] h = cc
next_within p (suc n) (c ∷ rest) h = let w = next_within p n rest h in omega arith

unless_fault : (b : Bool) (at width : ℕ) (l : Lexeme) (f : TokenFault) (n : ℕ) → cond b (Err (BadChar (at + width))) (Ok l) ≡ Err f → (b ≡ true → at + width < n) → place f < n
unless_fault true at width l f n h p = by_place {A = Lexeme} (BadChar (at + width)) f n h (p refl)
unless_fault false at width l f n h p = cc

or_unless : (d b : Bool) (e f : TokenFault) (at width : ℕ) (l : Lexeme) (n : ℕ) → cond d (Err e) (cond b (Err (BadChar (at + width))) (Ok l)) ≡ Err f
    → place e < n → (b ≡ true → at + width < n) → place f < n
or_unless true b e f at width l n h p q = by_place {A = Lexeme} e f n h p
or_unless false b e f at width l n h p q = unless_fault b at width l f n h q

name_fault : (at c : ℕ) (rest : List ℕ) (f : TokenFault) → name_at at (c ∷ rest) ≡ Err f → place f < at + suc (length rest)
unfolding name_at
name_fault at c rest f h =
    or_unless _ (next_is is_quote (drop (prefix_len continues_name (c ∷ rest)) (c ∷ rest))) (LongName at) f at _ _ _ h (omega arith)
    (λ e. let w = next_within is_quote (prefix_len continues_name (c ∷ rest)) (c ∷ rest) e in omega arith)

number_fault : (at c : ℕ) (rest : List ℕ) (f : TokenFault) → number_at at (c ∷ rest) ≡ Err f → place f < at + suc (length rest)
unfolding number_at
number_fault at c rest f h =
    or_unless _ (next_is follows_no_number (drop (number_width (c ∷ rest)) (c ∷ rest))) (WideNumber at) f at _ _ _ h (omega arith)
    (λ e. let w = next_within follows_no_number (number_width (c ∷ rest)) (c ∷ rest) e in omega arith)

text_fault_by : (at c : ℕ) (rest : List ℕ) (b : Body) (f : TokenFault) → IsWithin b (length rest) → text_lexeme at (c ∷ rest) b ≡ Err f → place f < at + suc (length rest)
text_fault_by at c rest Unclosed f w h = by_place {A = Lexeme} (OpenText at) f _ h (omega arith)
text_fault_by at c rest (Spoiled n) f w h = by_place {A = Lexeme} (BadChar (at + suc n)) f _ h (omega arith)
text_fault_by at c rest (Closed value width) f w h =
    unless_fault (next_is is_quote (drop (suc width) (c ∷ rest))) at (suc width) _ f _ h (λ e. let in_it = next_within is_quote (suc width) (c ∷ rest) e in omega arith)

text_fault : (at c : ℕ) (rest : List ℕ) (f : TokenFault) → text_at at c rest ≡ Err f → place f < at + suc (length rest)
unfolding text_at
text_fault at c rest f h = text_fault_by at c rest (body c zero rest) f (body_within c zero rest) h

operator_fault_by : (at n : ℕ) (o : Option operator.Symbol) (f : TokenFault) → operator_lexeme at o ≡ Err f → at < n → place f < n
operator_fault_by at n None f h p = by_place {A = Lexeme} (BadChar at) f n h p
operator_fault_by at n (Some p) f h q = cc

operator_fault : (at n : ℕ) (bytes : List ℕ) (f : TokenFault) → operator_at at bytes ≡ Err f → at < n → place f < n
unfolding operator_at
operator_fault at n bytes f h p = operator_fault_by at n _ f h p

lexeme_fault_by : (b d q : Bool) (n m t o : Result Lexeme TokenFault) (f : TokenFault) (k : ℕ) → cond b n (cond d m (cond q t o)) ≡ Err f
    → (n ≡ Err f → place f < k) → (m ≡ Err f → place f < k) → (t ≡ Err f → place f < k) → (o ≡ Err f → place f < k) → place f < k
lexeme_fault_by true d q n m t o f k h p1 p2 p3 p4 = p1 h
lexeme_fault_by false true q n m t o f k h p1 p2 p3 p4 = p2 h
lexeme_fault_by false false true n m t o f k h p1 p2 p3 p4 = p3 h
lexeme_fault_by false false false n m t o f k h p1 p2 p3 p4 = p4 h

lexeme_fault : (at c : ℕ) (rest : List ℕ) (f : TokenFault) → lexeme_at at (c ∷ rest) ≡ Err f → place f < at + suc (length rest)
unfolding lexeme_at
lexeme_fault at c rest f h =
    lexeme_fault_by (begins_name c) (is_ascii_digit c) (is_quote c) _ _ _ _ f _ h (name_fault at c rest f) (number_fault at c rest f) (text_fault at c rest f)
    (λ e. operator_fault at _ (c ∷ rest) f e (omega arith))

-- a tab that is remembered is before that place
abbrev TabBefore : ℕ → Spot → Type 0
TabBefore at (Start from (Some tab)) = tab < at
TabBefore at (Start from None) = Unit {0}
TabBefore at Inside = Unit {0}

tab_later : (at : ℕ) (spot : Spot) → TabBefore at spot → TabBefore (suc at) spot
tab_later at (Start from (Some tab)) h = omega arith
tab_later at (Start from None) h = tt
tab_later at Inside h = tt

block_fault : (at : ℕ) (r : Result Depths TokenFault) (f : TokenFault) → ends_block at r ≡ Err f → r ≡ Err f
block_fault at (Ok d) f h = cc
block_fault at (Err g) f h = h

shallower_by : (at depth d n : ℕ) (b e : Bool) (depths : List ℕ) (f : TokenFault) (r : Result Depths TokenFault) (k : Depths)
    → cond b (ends_block at r) (cond e (Ok k) (Err (BadIndent at))) ≡ Err f → at < n → (r ≡ Err f → place f < n) → place f < n
shallower_by at depth d n true e depths f r k h p inner = inner (block_fault at r f h)
shallower_by at depth d n false true depths f r k h p inner = cc
shallower_by at depth d n false false depths f r k h p inner = by_place {A = Depths} (BadIndent at) f n h p

shallower_fault : (at depth n : ℕ) (depths : List ℕ) (f : TokenFault) → shallower at depth depths ≡ Err f → at < n → place f < n
unfolding shallower
shallower_fault at depth n [] f h p = by_place {A = Depths} (BadIndent at) f n h p
shallower_fault at depth n (d ∷ depths) f h p = shallower_by at depth d n (ltb depth d) (eqb d depth) depths f _ _ h p (λ e. shallower_fault at depth n depths f e p)

indented_by : (b : Bool) (k : Depths) (r : Result Depths TokenFault) (f : TokenFault) (n : ℕ) → cond b (Ok k) r ≡ Err f → (r ≡ Err f → place f < n) → place f < n
indented_by true k r f n h p = cc
indented_by false k r f n h p = p h

begun_fault : (at n : ℕ) (spot : Spot) (depths : List ℕ) (f : TokenFault) → begun at spot depths ≡ Err f → TabBefore at spot → at < n → place f < n
unfolding begun indented
begun_fault at n Inside depths f h t p = cc
begun_fault at n (Start from None) depths f h t p = indented_by (is_deeper (at - from) depths) _ _ f n h (λ e. shallower_fault at (at - from) n depths f e p)
begun_fault at n (Start from (Some tab)) depths f h t p = by_place {A = Depths} (Tab tab) f n h (omega arith)

placed_fault : (at n : ℕ) (line : Line) (d : Result Depths TokenFault) (r : Result Lexeme TokenFault) (f : TokenFault) → placed at line d r ≡ Err f
    → (d ≡ Err f → place f < n) → (r ≡ Err f → place f < n) → place f < n
placed_fault at n line (Err g) r f h p q = p (ap Err (fault_same {A = Turn} g f h))
placed_fault at n line (Ok e) (Err g) f h p q = q (ap Err (fault_same {A = Turn} g f h))
placed_fault at n line (Ok e) (Ok l) f h p q = cc

pub line_fault : (at : ℕ) (line : Line) (spot : Spot) (f : TokenFault) → line_ended at line spot ≡ Err f → ⊥
line_fault at line (Start from tab) f h = cc
line_fault at line Inside f h = by_brackets (eqb line.brackets 0) _ _ h
  where
    by_brackets : (b : Bool) (t u : Turn) → cond b (Ok t) (Ok u) ≡ Err f → ⊥
    by_brackets true t u e = cc
    by_brackets false t u e = cc

turn_fault_by : (b1 b2 b3 b4 b5 e : Bool) (l1 l2 l3 : Line) (w : ℕ) (r4 r6 : Result Turn TokenFault) (f : TokenFault) (n : ℕ)
    → (r4 ≡ Err f → ⊥) → (r6 ≡ Err f → place f < n)
    → cond b1 (passed 1 l1) (cond b2 (passed 1 l2) (cond b3 (passed w l3) (cond b4 r4 (cond (b5 && e) (passed 1 l1) r6)))) ≡ Err f → place f < n
turn_fault_by true b2 b3 b4 b5 e l1 l2 l3 w r4 r6 f n p4 p6 h = cc
turn_fault_by false true b3 b4 b5 e l1 l2 l3 w r4 r6 f n p4 p6 h = cc
turn_fault_by false false true b4 b5 e l1 l2 l3 w r4 r6 f n p4 p6 h = cc
turn_fault_by false false false true b5 e l1 l2 l3 w r4 r6 f n p4 p6 h = absurd (p4 h)
turn_fault_by false false false false true true l1 l2 l3 w r4 r6 f n p4 p6 h = cc
turn_fault_by false false false false true false l1 l2 l3 w r4 r6 f n p4 p6 h = p6 h
turn_fault_by false false false false false e l1 l2 l3 w r4 r6 f n p4 p6 h = p6 h

turn_fault : (at : ℕ) (line : Line) (c : ℕ) (rest : List ℕ) (f : TokenFault) → turn at line (c ∷ rest) ≡ Err f → TabBefore at line.spot → place f < at + suc (length rest)
unfolding turn
turn_fault at line c rest f h t =
    turn_fault_by (eqb c 32) (eqb c 9) (eqb c 35) (eqb c 10) (eqb c 13) (ends_line rest) line _ _ _ _ _ f _ (line_fault at line line.spot f)
    (λ e. placed_fault at _ line _ _ f e (λ d. begun_fault at _ line.spot line.depths f d t (omega arith)) (lexeme_fault at c rest f)) h

with_tab_before : (at : ℕ) (spot : Spot) → TabBefore at spot → TabBefore (suc at) (with_tab at spot)
with_tab_before at (Start from (Some tab)) h = omega arith
with_tab_before at (Start from None) h = omega arith
with_tab_before at Inside h = tt

without_tab_before : (at : ℕ) (spot : Spot) → TabBefore at (without_tab spot)
without_tab_before at (Start from tab) = tt
without_tab_before at Inside = tt

turn_tab : (at : ℕ) (line : Line) (c : ℕ) (rest : List ℕ) (t : Turn) → TabBefore at line.spot → turn at line (c ∷ rest) ≡ Ok t → TabBefore (suc at) t.line.spot
turn_tab at line c rest t h is =
    turn_ok (λ u. TabBefore (suc at) u.line.spot) at line c rest t
    (λ _. tab_later at line.spot h) (λ _. with_tab_before at line.spot h) (λ _. without_tab_before (suc at) line.spot)
    (λ _ e. line_ok (λ u. TabBefore (suc at) u.line.spot) at line line.spot t tt tt (tab_later at line.spot h) e)
    (λ _ _. tab_later at line.spot h)
    (λ e. let w = placed_ok at line _ _ t e in subst (λ u. TabBefore (suc at) u.line.spot) w.4 tt)
    is

pub before_fault : (xs : List Token) (r : Result (List Token) TokenFault) (f : TokenFault) → before xs r ≡ Err f → r ≡ Err f
before_fault xs (Ok ys) f h = cc
before_fault xs (Err g) f h = h

followed_fault : (r : Result Turn TokenFault) (next : ℕ → Line → Result (List Token) TokenFault) (f : TokenFault) (n : ℕ) → followed r next ≡ Err f
    → (r ≡ Err f → place f < n) → ((t : Turn) → r ≡ Ok t → next (pred t.width) t.line ≡ Err f → place f < n) → place f < n
followed_fault (Err g) next f n h p q = p (ap Err (fault_same {A = List Token} g f h))
followed_fault (Ok t) next f n h p q = q t refl (before_fault t.tokens _ f h)

read_fault_within : (skip at : ℕ) (line : Line) (bytes : List ℕ) (f : TokenFault) → read skip at line bytes ≡ Err f → TabBefore at line.spot → place f < at + length bytes
unfolding read
read_fault_within skip at line [] f h t = cc
read_fault_within (suc n) at line (c ∷ rest) f h t = let w = read_fault_within n (suc at) line rest f h (tab_later at line.spot t) in omega arith
read_fault_within zero at line (c ∷ rest) f h t =
    followed_fault (turn at line (c ∷ rest)) _ f _ h (λ e. turn_fault at line c rest f e t)
    (λ u e g. let w = read_fault_within (pred u.width) (suc at) u.line rest f g (turn_tab at line c rest u t e) in omega arith)

pub fault_within : (code : List ℕ) (f : TokenFault) → tokens_of code ≡ Err f → place f < length code
unfolding tokens_of
fault_within code f h = let w = read_fault_within 0 0 start code f h tt in omega arith

pub fails_within : (e : TokenError) (code : List ℕ) → Fails e (tokens_of code) → AtFault e (λ f. place f < length code)
fails_within OutOfMemory code h = tt
fails_within (Fault f) code h = fault_within code f h
