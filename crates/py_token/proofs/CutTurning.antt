-- One turn of reading: what it says of words and blocks, and the same turn of bytes that are cut after it, at another place.
use Rattle.std.proofs.Common.{◌&&◌, ⊎_elim, ◌≡◌, ℕ, suc, pred, ◌+◌, ◌<◌, ◌≤◌, Bool, true, false, cond, eqb, List, [], ◌∷◌, ◌++◌, length, take, Option, Some, None, Result, Ok, refl, sym, ap, ◌∙◌, subst, arith}
use Rattle.std.specs.List.{prefix_len, AllByRecursion}
use Rattle.py_names.specs.Names.{continues_name}
use Rattle.py_token.specs.declared.faults.TokenFault.{TokenFault}
use Rattle.py_token.specs.declared.kinds.Kind.{Kind}
use Rattle.py_token.specs.declared.kinds.Kind.TheVariants.{Newline, Indent, Dedent, End}
use Rattle.py_token.specs.declared.kinds.Keyword as keyword
use Rattle.py_token.specs.declared.kinds.Token.{Token}
use Rattle.py_token.specs.declared.lines.Depths.{Depths}
use Rattle.py_token.specs.declared.lines.Lexeme.{Lexeme}
use Rattle.py_token.specs.declared.lines.Line.{Line}
use Rattle.py_token.specs.declared.lines.Spot.{Spot}
use Rattle.py_token.specs.declared.lines.Spot.TheVariants.{Start, Inside}
use Rattle.py_token.specs.declared.lines.Turn.{Turn}
use Rattle.py_token.specs.Lexemes.{named, keyword_of, ends_line, lexeme_at}
use Rattle.py_token.specs.Lines.{turn as turning, token, brackets_after, begun, placed, passed, at_spot, next_line, line_ended, with_tab, without_tab, in_comment, turn}
use Rattle.py_token.proofs.Bounds.{lexeme_bounds}
use Rattle.py_token.proofs.Escapes.{eqb_is}
use Rattle.py_token.proofs.Inverted.{name_ok, number_ok, text_ok, operator_ok, lexeme_ok}
use Rattle.py_token.proofs.Reading.{placed_ok}
use Rattle.py_token.specs.Cuts.{kinds, is_word, level, begins_line}
use Rattle.py_token.proofs.CutLexemes.{prefix_cut, lexeme_cut}
use Rattle.py_token.proofs.CutBlocks.{opened, IsStack, steps_of, IsSame, same_begun, level-append, begins-append, kinds-append}

-- ---- words

abbrev pub IsLayout : Token → Type 0
IsLayout t = is_word t.kind ≡ false

abbrev pub AreLayout : List Token → Type 0
AreLayout = AllByRecursion IsLayout

-- ---- what is known of a line

abbrev pub is_start : Spot → Bool
is_start (Start from tab) = true
is_start Inside = false

pub record IsLine (line : Line) : Type 0 where
  pub stack : IsStack line.depths
  -- no line begins inside brackets
  pub free : is_start line.spot ≡ true → line.brackets ≡ 0

-- the two lines differ in their places alone
pub record AreSame (p q : ℕ) (line other : Line) : Type 0 where
  pub spot : IsSame p q line.spot other.spot
  pub depths : other.depths ≡ line.depths
  pub brackets : other.brackets ≡ line.brackets

abbrev pub after_word : Line → Depths → Lexeme → Line
after_word line d l = record { spot = Inside; depths = d.depths; brackets = brackets_after l.kind line.brackets }

-- ---- the turn by its first byte

-- the first byte of a lexeme
pub record IsFirstByte (c : ℕ) (rest : List ℕ) : Type 0 where
  pub space : eqb c 32 ≡ false
  pub tab : eqb c 9 ≡ false
  pub hash : eqb c 35 ≡ false
  pub feed : eqb c 10 ≡ false
  pub return : (eqb c 13 && ends_line rest) ≡ false

pub data Turns (at : ℕ) (line : Line) (c : ℕ) (rest : List ℕ) (t : Turn) : Type 0 where
  blank : c ≡ 32 → t ≡ record { tokens = []; width = 1; line = line } → Turns at line c rest t
  tabbed : c ≡ 9 → t ≡ record { tokens = []; width = 1; line = at_spot (with_tab at line.spot) line } → Turns at line c rest t
  comment : c ≡ 35 → t ≡ record { tokens = []; width = 1 + prefix_len in_comment rest; line = at_spot (without_tab line.spot) line } → Turns at line c rest t
  feed : c ≡ 10 → line_ended at line line.spot ≡ Ok t → Turns at line c rest t
  return : c ≡ 13 → ends_line rest ≡ true → t ≡ record { tokens = []; width = 1; line = line } → Turns at line c rest t
  word : (d : Depths) (l : Lexeme) → IsFirstByte c rest → begun at line.spot line.depths ≡ Ok d → lexeme_at at (c ∷ rest) ≡ Ok l
      → t ≡ record { tokens = d.given ++ token l.kind at l.width ∷ []; width = l.width; line = after_word line d l } → Turns at line c rest t

turn_is : (t u : Turn) → ◌≡◌ {A = Result Turn TokenFault} (Ok t) (Ok u) → u ≡ t
turn_is t u h = cc

both_true : (a b : Bool) → (a && b) ≡ true → (a ≡ true) × (b ≡ true)
both_true true true h = (refl, refl)
both_true true false h = cc
both_true false b h = cc

module _ (at : ℕ) (line : Line) (c : ℕ) (rest : List ℕ) (t : Turn) where
  by_byte : (b1 b2 b3 b4 b5 : Bool) → eqb c 32 ≡ b1 → eqb c 9 ≡ b2 → eqb c 35 ≡ b3 → eqb c 10 ≡ b4 → (eqb c 13 && ends_line rest) ≡ b5
      → cond b1 (passed 1 line) (cond b2 (passed 1 (at_spot (with_tab at line.spot) line)) (cond b3 (passed (1 + prefix_len in_comment rest) (at_spot (without_tab line.spot) line))
      (cond b4 (line_ended at line line.spot) (cond b5 (passed 1 line) (placed at line (begun at line.spot line.depths) (lexeme_at at (c ∷ rest))))))) ≡ Ok t → Turns at line c rest t
  by_byte true b2 b3 b4 b5 e1 e2 e3 e4 e5 h = blank (eqb_is c 32 e1) (turn_is _ t h)
  by_byte false true b3 b4 b5 e1 e2 e3 e4 e5 h = tabbed (eqb_is c 9 e2) (turn_is _ t h)
  by_byte false false true b4 b5 e1 e2 e3 e4 e5 h = comment (eqb_is c 35 e3) (turn_is _ t h)
  by_byte false false false true b5 e1 e2 e3 e4 e5 h = feed (eqb_is c 10 e4) h
  by_byte false false false false true e1 e2 e3 e4 e5 h = let w = both_true (eqb c 13) (ends_line rest) e5 in return (eqb_is c 13 w.0) w.1 (turn_is _ t h)
  by_byte false false false false false e1 e2 e3 e4 e5 h =
      let w = placed_ok at line _ _ t h in
      word w.0 w.1 (record { space = e1; tab = e2; hash = e3; feed = e4; return = e5 }) w.2 w.3 (sym w.4)

  pub turned : turn at line (c ∷ rest) ≡ Ok t → Turns at line c rest t
  unfolding turn
  turned h = by_byte (eqb c 32) (eqb c 9) (eqb c 35) (eqb c 10) (eqb c 13 && ends_line rest) refl refl refl refl refl h

-- ---- and back

turn_word_by : (b1 b2 b3 b4 b5 : Bool) (r1 r2 r3 r4 r5 r6 : Result Turn TokenFault) → b1 ≡ false → b2 ≡ false → b3 ≡ false → b4 ≡ false → b5 ≡ false
    → cond b1 r1 (cond b2 r2 (cond b3 r3 (cond b4 r4 (cond b5 r5 r6)))) ≡ r6
turn_word_by false false false false false r1 r2 r3 r4 r5 r6 e1 e2 e3 e4 e5 = refl
turn_word_by true b2 b3 b4 b5 r1 r2 r3 r4 r5 r6 e1 e2 e3 e4 e5 = cc
turn_word_by false true b3 b4 b5 r1 r2 r3 r4 r5 r6 e1 e2 e3 e4 e5 = cc
turn_word_by false false true b4 b5 r1 r2 r3 r4 r5 r6 e1 e2 e3 e4 e5 = cc
turn_word_by false false false true b5 r1 r2 r3 r4 r5 r6 e1 e2 e3 e4 e5 = cc
turn_word_by false false false false true r1 r2 r3 r4 r5 r6 e1 e2 e3 e4 e5 = cc

pub turn_word : (to : ℕ) (line : Line) (c : ℕ) (xs : List ℕ) (d : Depths) (l : Lexeme) → IsFirstByte c xs → begun to line.spot line.depths ≡ Ok d → lexeme_at to (c ∷ xs) ≡ Ok l
    → turn to line (c ∷ xs) ≡ Ok (record { tokens = d.given ++ token l.kind to l.width ∷ []; width = l.width; line = after_word line d l })
unfolding turn
turn_word to line c xs d l b e f =
    turn_word_by (eqb c 32) (eqb c 9) (eqb c 35) (eqb c 10) (eqb c 13 && ends_line xs) _ _ _ _ _ _ b.space b.tab b.hash b.feed b.return
    ∙ ap (λ r. placed to line r (lexeme_at to (c ∷ xs))) e ∙ ap (placed to line (Ok d)) f

and_cut : (b : Bool) (xs ys : List ℕ) → (b && ends_line (xs ++ ys)) ≡ false → (b && ends_line xs) ≡ false
and_cut false xs ys h = refl
and_cut true [] ys h = refl
and_cut true (x ∷ xs) ys h = h

pub first_byte_cut : (c : ℕ) (xs ys : List ℕ) → IsFirstByte c (xs ++ ys) → IsFirstByte c xs
first_byte_cut c xs ys b = record { space = b.space; tab = b.tab; hash = b.hash; feed = b.feed; return = and_cut (eqb c 13) xs ys b.return }

-- ---- what a turn tells

-- it takes some bytes, keeps what is known of lines, and its tokens tell its blocks and lines
pub record Tells (line : Line) (t : Turn) : Type 0 where
  pub positive : 0 < t.width
  pub is : IsLine t.line
  pub level : level (opened line.depths) (kinds t.tokens) ≡ opened t.line.depths
  pub begins : begins_line (is_start line.spot) (kinds t.tokens) ≡ is_start t.line.spot

pub start_with_tab : (at : ℕ) (spot : Spot) → is_start (with_tab at spot) ≡ is_start spot
start_with_tab at (Start from None) = refl
start_with_tab at (Start from (Some tab)) = refl
start_with_tab at Inside = refl

pub start_without_tab : (spot : Spot) → is_start (without_tab spot) ≡ is_start spot
start_without_tab (Start from tab) = refl
start_without_tab Inside = refl

quiet_tells : (width : ℕ) (line : Line) (spot : Spot) → 0 < width → is_start spot ≡ is_start line.spot → IsLine line → Tells line (record { tokens = []; width = width; line = at_spot spot line })
quiet_tells width line spot p e i = record {
  positive = p;
  is = record { stack = i.stack; free = λ h. i.free (sym e ∙ h) };
  level = refl;
  begins = sym e;
}

-- the line's end, by what is before it in its line
pub data Feeds (at : ℕ) (line : Line) (t : Turn) : Type 0 where
  passes : is_start line.spot ≡ true → t ≡ record { tokens = []; width = 1; line = next_line at line } → Feeds at line t
  ends : line.spot ≡ Inside → line.brackets ≡ 0 → t ≡ record { tokens = token Newline at 1 ∷ []; width = 1; line = next_line at line } → Feeds at line t
  within : line.spot ≡ Inside → eqb line.brackets 0 ≡ false → t ≡ record { tokens = []; width = 1; line = line } → Feeds at line t

fed_by : (at : ℕ) (line : Line) (spot : Spot) (t : Turn) → line.spot ≡ spot → line_ended at line spot ≡ Ok t → Feeds at line t
fed_by at line (Start from tab) t is h = passes (ap is_start is) (turn_is _ t h)
fed_by at line Inside t is h = on (eqb line.brackets 0) refl h
  where
    on : (b : Bool) → eqb line.brackets 0 ≡ b
        → cond b (Ok (record { tokens = token Newline at 1 ∷ []; width = 1; line = next_line at line })) (passed 1 line) ≡ Ok t → Feeds at line t
    on true e k = ends is (eqb_is line.brackets 0 e) (turn_is _ t k)
    on false e k = within is e (turn_is _ t k)

pub fed : (at : ℕ) (line : Line) (t : Turn) → line_ended at line line.spot ≡ Ok t → Feeds at line t
fed at line t h = fed_by at line line.spot t refl h

pub feeds_same : (at : ℕ) (line : Line) (t u : Turn) → t ≡ u → Tells line u → Tells line t
feeds_same at line t u e h = subst (Tells line) (sym e) h

feed_tells : (at : ℕ) (line : Line) (t : Turn) → IsLine line → Feeds at line t → Tells line t
feed_tells at line t i (passes s e) =
    feeds_same at line t _ e (record { positive = omega arith; is = record { stack = i.stack; free = λ h. i.free s }; level = refl; begins = s })
feed_tells at line t i (ends s b e) =
    feeds_same at line t _ e (record { positive = omega arith; is = record { stack = i.stack; free = λ h. b }; level = refl; begins = refl })
feed_tells at line t i (within s b e) = feeds_same at line t _ e (record { positive = omega arith; is = i; level = refl; begins = refl })

word_kinds_by : (o : Option keyword.Keyword) (name : List ℕ) → is_word (named o name) ≡ true
word_kinds_by None name = refl
word_kinds_by (Some k) name = refl

pub level_word : (n : ℕ) (k : Kind) → is_word k ≡ true → level n (k ∷ []) ≡ n
level_word n Newline h = cc
level_word n Indent h = cc
level_word n Dedent h = cc
level_word n End h = cc
level_word n _ h = refl

begins_word : (b : Bool) (k : Kind) → is_word k ≡ true → begins_line b (k ∷ []) ≡ false
begins_word b Newline h = cc
begins_word b Indent h = cc
begins_word b Dedent h = cc
begins_word b End h = cc
begins_word b _ h = refl

-- a lexeme is a word
pub lexeme_word : (at c : ℕ) (rest : List ℕ) (l : Lexeme) → lexeme_at at (c ∷ rest) ≡ Ok l → is_word l.kind ≡ true
lexeme_word at c rest l h =
    ⊎_elim (λ e. let w = (name_ok at (c ∷ rest) l e.1).1 in
    subst (λ (x : Lexeme). is_word x.kind ≡ true) w (word_kinds_by (keyword_of (take (prefix_len continues_name (c ∷ rest)) (c ∷ rest))) (take (prefix_len continues_name (c ∷ rest)) (c ∷ rest))))
    (⊎_elim (λ e. subst (λ (x : Lexeme). is_word x.kind ≡ true) (number_ok at (c ∷ rest) l e.1).1 refl)
    (⊎_elim (λ e. subst (λ (x : Lexeme). is_word x.kind ≡ true) (text_ok at c rest l e.1).3 refl)
    (λ e. subst (λ (x : Lexeme). is_word x.kind ≡ true) (operator_ok at (c ∷ rest) l e).2 refl)))
    (lexeme_ok at c rest l h)

word_tells : (at : ℕ) (line : Line) (c : ℕ) (rest : List ℕ) (d : Depths) (l : Lexeme) → IsLine line → begun at line.spot line.depths ≡ Ok d → lexeme_at at (c ∷ rest) ≡ Ok l
    → Tells line (record { tokens = d.given ++ token l.kind at l.width ∷ []; width = l.width; line = after_word line d l })
word_tells at line c rest d l i e f =
    let s = steps_of at line.spot line.depths d i.stack e in
    let w = lexeme_word at c rest l f in
    let split = kinds-append d.given (token l.kind at l.width ∷ []) in
    record {
      positive = (lexeme_bounds at (c ∷ rest) l f).positive;
      is = record { stack = s.stack; free = λ h. cc h };
      level = ap (level (opened line.depths)) split ∙ level-append (opened line.depths) (kinds d.given) (l.kind ∷ []) ∙ ap (λ n. level n (l.kind ∷ [])) s.level ∙ level_word (opened d.depths) l.kind w;
      begins = ap (begins_line (is_start line.spot)) split ∙ begins-append (is_start line.spot) (kinds d.given) (l.kind ∷ []) ∙ begins_word (begins_line (is_start line.spot) (kinds d.given)) l.kind w;
    }

pub tells : (at : ℕ) (line : Line) (c : ℕ) (rest : List ℕ) (t : Turn) → IsLine line → Turns at line c rest t → Tells line t
tells at line c rest t i (blank e is) = feeds_same at line t _ is (quiet_tells 1 line line.spot (omega arith) refl i)
tells at line c rest t i (tabbed e is) = feeds_same at line t _ is (quiet_tells 1 line (with_tab at line.spot) (omega arith) (start_with_tab at line.spot) i)
tells at line c rest t i (comment e is) = feeds_same at line t _ is (quiet_tells (1 + prefix_len in_comment rest) line (without_tab line.spot) (omega arith) (start_without_tab line.spot) i)
tells at line c rest t i (feed e h) = feed_tells at line t i (fed at line t h)
tells at line c rest t i (return e f is) = feeds_same at line t _ is (quiet_tells 1 line line.spot (omega arith) refl i)
tells at line c rest t i (word d l b e f is) = feeds_same at line t _ is (word_tells at line c rest d l i e f)

-- ---- the same turn, of bytes that are cut after it, at another place

pub record SameTurn (p q : ℕ) (other : Line) (bytes : List ℕ) (t : Turn) : Type 0 where
  pub turn : Turn
  pub is : turning q other bytes ≡ Ok turn
  pub width : turn.width ≡ t.width
  pub kinds : kinds turn.tokens ≡ kinds t.tokens
  pub lines : AreSame (p + t.width) (q + t.width) t.line turn.line

moved : (n p q : ℕ) (s s' : Spot) → IsSame p q s s' → IsSame (p + n) (q + n) s s'
moved n p q (Start f t) (Start g u) h = (h.0 + n, omega (arith, h.1), omega (arith, h.2), h.3)
moved n p q Inside Inside h = tt
moved n p q (Start f t) Inside h = absurd h
moved n p q Inside (Start g u) h = absurd h

tabbed_same : (at to : ℕ) (p q : ℕ) (s s' : Spot) → IsSame p q s s' → IsSame p q (with_tab at s) (with_tab to s')
tabbed_same at to p q (Start f None) (Start g None) h = (h.0, h.1, h.2, refl)
tabbed_same at to p q (Start f (Some t)) (Start g (Some u)) h = h
tabbed_same at to p q (Start f None) (Start g (Some u)) h = let no : ⊥ = cc (h.3) in absurd no
tabbed_same at to p q (Start f (Some t)) (Start g None) h = let no : ⊥ = cc (h.3) in absurd no
tabbed_same at to p q Inside Inside h = tt
tabbed_same at to p q (Start f t) Inside h = absurd h
tabbed_same at to p q Inside (Start g u) h = absurd h

untabbed_same : (p q : ℕ) (s s' : Spot) → IsSame p q s s' → IsSame p q (without_tab s) (without_tab s')
untabbed_same p q (Start f t) (Start g u) h = (h.0, h.1, h.2, refl)
untabbed_same p q Inside Inside h = tt
untabbed_same p q (Start f t) Inside h = absurd h
untabbed_same p q Inside (Start g u) h = absurd h

quiet_same : (n p q : ℕ) (line other : Line) (s s' : Spot) (bytes : List ℕ) (t : Turn) → t ≡ record { tokens = []; width = n; line = at_spot s line } → AreSame p q line other → IsSame p q s s'
    → turn q other bytes ≡ passed n (at_spot s' other) → SameTurn p q other bytes t
quiet_same n p q line other s s' bytes t is same spot h =
    subst (SameTurn p q other bytes) (sym is) (record {
      turn = record { tokens = []; width = n; line = at_spot s' other };
      is = h;
      width = refl;
      kinds = refl;
      lines = record { spot = moved n p q s s' spot; depths = same.depths; brackets = same.brackets };
    })

pub ends_line_cut : (xs ys : List ℕ) → 0 < length xs → ends_line (xs ++ ys) ≡ ends_line xs
ends_line_cut [] ys h = absurd (omega arith)
ends_line_cut (x ∷ xs) ys h = refl

pub return_turn : (q : ℕ) (other : Line) (xs : List ℕ) → ends_line xs ≡ true → turn q other (13 ∷ xs) ≡ passed 1 other
unfolding turn
return_turn q other xs h = ap (λ b. cond b (passed 1 other) (placed q other (begun q other.spot other.depths) (lexeme_at q (13 ∷ xs)))) h

pub blank_turn : (q : ℕ) (other : Line) (xs : List ℕ) → turn q other (32 ∷ xs) ≡ passed 1 other
unfolding turn
blank_turn q other xs = refl

pub tab_turn : (q : ℕ) (other : Line) (xs : List ℕ) → turn q other (9 ∷ xs) ≡ passed 1 (at_spot (with_tab q other.spot) other)
unfolding turn
tab_turn q other xs = refl

pub comment_turn : (q : ℕ) (other : Line) (xs : List ℕ) → turn q other (35 ∷ xs) ≡ passed (1 + prefix_len in_comment xs) (at_spot (without_tab other.spot) other)
unfolding turn
comment_turn q other xs = refl

pub feed_turn : (q : ℕ) (other : Line) (xs : List ℕ) → turn q other (10 ∷ xs) ≡ line_ended q other other.spot
unfolding turn
feed_turn q other xs = refl

feed_same : (p q : ℕ) (line other : Line) (xs : List ℕ) (t : Turn) (s : Spot) → other.spot ≡ s → AreSame p q line other → Feeds p line t → SameTurn p q other (10 ∷ xs) t
feed_same p q line other xs t (Start from tab) e same (passes s is) =
    subst (SameTurn p q other (10 ∷ xs)) (sym is) (record {
      turn = record { tokens = []; width = 1; line = next_line q other };
      is = feed_turn q other xs ∙ ap (line_ended q other) e;
      width = refl;
      kinds = refl;
      lines = record { spot = (0, omega arith, omega arith, refl); depths = same.depths; brackets = same.brackets };
    })
feed_same p q line other xs t Inside e same (passes s is) = absurd (never line.spot other.spot same.spot s e)
  where
    never : (u v : Spot) → IsSame p q u v → is_start u ≡ true → v ≡ Inside → ⊥
    never (Start f tab) (Start g tab') h k l = cc
    never (Start f tab) Inside h k l = h
    never Inside v h k l = cc
feed_same p q line other xs t (Start from tab) e same (ends s b is) = absurd (never line.spot other.spot same.spot s e)
  where
    never : (u v : Spot) → IsSame p q u v → u ≡ Inside → v ≡ Start from tab → ⊥
    never (Start f t) v h k l = cc
    never Inside (Start g u) h k l = h
    never Inside Inside h k l = cc
feed_same p q line other xs t Inside e same (ends s b is) =
    subst (SameTurn p q other (10 ∷ xs)) (sym is) (record {
      turn = record { tokens = token Newline q 1 ∷ []; width = 1; line = next_line q other };
      is = feed_turn q other xs ∙ ap (line_ended q other) e ∙ ap (λ n. cond (eqb n 0) (Ok (record { tokens = token Newline q 1 ∷ []; width = 1; line = next_line q other })) (passed 1 other)) (same.brackets ∙ b);
      width = refl;
      kinds = refl;
      lines = record { spot = (0, omega arith, omega arith, refl); depths = same.depths; brackets = same.brackets };
    })
feed_same p q line other xs t (Start from tab) e same (within s b is) = absurd (never line.spot other.spot same.spot s e)
  where
    never : (u v : Spot) → IsSame p q u v → u ≡ Inside → v ≡ Start from tab → ⊥
    never (Start f t) v h k l = cc
    never Inside (Start g u) h k l = h
    never Inside Inside h k l = cc
feed_same p q line other xs t Inside e same (within s b is) =
    subst (SameTurn p q other (10 ∷ xs)) (sym is) (record {
      turn = record { tokens = []; width = 1; line = other };
      is = feed_turn q other xs ∙ ap (line_ended q other) e
          ∙ ap (λ v. cond v (Ok (record { tokens = token Newline q 1 ∷ []; width = 1; line = next_line q other })) (passed 1 other)) (ap (λ n. eqb n 0) same.brackets ∙ b);
      width = refl;
      kinds = refl;
      lines = record { spot = moved 1 p q line.spot other.spot same.spot; depths = same.depths; brackets = same.brackets };
    })

word_same : (p q : ℕ) (line other : Line) (c : ℕ) (xs ys : List ℕ) (d : Depths) (l : Lexeme) → AreSame p q line other → IsFirstByte c (xs ++ ys) → begun p line.spot line.depths ≡ Ok d → lexeme_at p (c ∷ (xs ++ ys)) ≡ Ok l
    → l.width ≤ suc (length xs) → SameTurn p q other (c ∷ xs) (record { tokens = d.given ++ token l.kind p l.width ∷ []; width = l.width; line = after_word line d l })
word_same p q line other c xs ys d l same b e f fits =
    let w = same_begun p q line.spot other.spot line.depths d same.spot e in
    record {
      turn = record { tokens = w.0.given ++ token l.kind q l.width ∷ []; width = l.width; line = after_word other w.0 l };
      is = turn_word q other c xs w.0 l (first_byte_cut c xs ys b) (ap (begun q other.spot) same.depths ∙ w.1) (lexeme_cut p q c xs ys l f fits);
      width = refl;
      kinds = kinds-append w.0.given (token l.kind q l.width ∷ []) ∙ ap (λ ks. ks ++ l.kind ∷ []) w.2 ∙ sym (kinds-append d.given (token l.kind p l.width ∷ []));
      lines = record { spot = tt; depths = w.3; brackets = ap (λ n. brackets_after l.kind n) same.brackets };
    }

-- if another token comes after the turn in the cut bytes, they are read alike
pub same_turn : (p q : ℕ) (line other : Line) (c : ℕ) (xs ys : List ℕ) (t : Turn) → AreSame p q line other → pred t.width < length xs → Turns p line c (xs ++ ys) t → SameTurn p q other (c ∷ xs) t
same_turn p q line other c xs ys t same more (blank e is) =
    subst (λ b. SameTurn p q other (b ∷ xs) t) (sym e) (quiet_same 1 p q line other line.spot other.spot (32 ∷ xs) t is same same.spot (blank_turn q other xs))
same_turn p q line other c xs ys t same more (tabbed e is) =
    subst (λ b. SameTurn p q other (b ∷ xs) t) (sym e)
    (quiet_same 1 p q line other (with_tab p line.spot) (with_tab q other.spot) (9 ∷ xs) t is same (tabbed_same p q p q line.spot other.spot same.spot) (tab_turn q other xs))
same_turn p q line other c xs ys t same more (comment e is) =
    let width : t.width ≡ 1 + prefix_len in_comment (xs ++ ys) = ap (λ (u : Turn). u.width) is in
    let cut : prefix_len in_comment xs ≡ prefix_len in_comment (xs ++ ys) = prefix_cut in_comment xs ys (omega (arith, width, more)) in
    subst (λ b. SameTurn p q other (b ∷ xs) t) (sym e)
    (quiet_same (1 + prefix_len in_comment (xs ++ ys)) p q line other (without_tab line.spot) (without_tab other.spot) (35 ∷ xs) t is same (untabbed_same p q line.spot other.spot same.spot)
    (comment_turn q other xs ∙ ap (λ n. passed (1 + n) (at_spot (without_tab other.spot) other)) cut))
same_turn p q line other c xs ys t same more (feed e h) = subst (λ b. SameTurn p q other (b ∷ xs) t) (sym e) (feed_same p q line other xs t other.spot refl same (fed p line t h))
same_turn p q line other c xs ys t same more (return e f is) =
    subst (λ b. SameTurn p q other (b ∷ xs) t) (sym e)
    (quiet_same 1 p q line other line.spot other.spot (13 ∷ xs) t is same same.spot (return_turn q other xs (sym (ends_line_cut xs ys (omega (arith, more))) ∙ f)))
same_turn p q line other c xs ys t same more (word d l b e f is) =
    let width : t.width ≡ l.width = ap (λ (u : Turn). u.width) is in
    subst (SameTurn p q other (c ∷ xs)) (sym is) (word_same p q line other c xs ys d l same b e f (omega (arith, width, more)))
