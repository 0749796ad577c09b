-- The text is the tokens and the blanks between them, and nothing else.
use Rattle.std.proofs.Common.{◌≡◌, inl, inr, ℕ, zero, suc, pred, ◌+◌, ◌-◌, ◌<◌, ◌≤◌, Bool, true, false, cond, eqb, ltb, not, List, [], ◌∷◌, ◌++◌, length, take, drop, Some, None, Result, Ok, Err, refl, sym, ap, ◌∙◌, subst, append_assoc, arith, length-append, length-take-le, take-append-drop}
use Rattle.std.specs.List.{prefix_len}
use Rattle.std.proofs.lemmas.List.{drop_at}
use Rattle.std.proofs.Math.Seq.{take-append_seam}
use Rattle.std.proofs.Math.Numerals.{one-add}
use Rattle.py_token.specs.declared.kinds.Kind.{Kind}
use Rattle.py_token.specs.declared.kinds.Kind.TheVariants.{Newline, Indent, Dedent, End}
use Rattle.py_token.specs.declared.kinds.Token.{Token}
use Rattle.py_token.specs.declared.faults.TokenFault.{TokenFault}
use Rattle.py_token.specs.declared.lines.Depths.{Depths}
use Rattle.py_token.specs.declared.lines.Line.{Line}
use Rattle.py_token.specs.declared.lines.Spot.{Spot}
use Rattle.py_token.specs.declared.lines.Spot.TheVariants.{Start, Inside}
use Rattle.py_token.specs.declared.lines.Turn.{Turn}
use Rattle.py_token.specs.Spellings.{Spells}
use Rattle.py_token.specs.Lexemes.{next_is, ends_line, lexeme_at}
use Rattle.py_token.specs.Lines.{token, ends_block, shallower, is_deeper, indented, begun, placed, at_spot, next_line, line_ended, with_tab, without_tab, in_comment, turn, closing, last_newline, ended, read, start, tokens_of}
use Rattle.py_token.specs.Laws.{is_white, Blank, nothing, white, carriage, comment, Stands, Cover}
use Rattle.py_token.proofs.Bytes.{prefix_len-le}
use Rattle.py_token.proofs.Bounds.{lexeme_bounds}
use Rattle.py_token.proofs.Escapes.{eqb_is}
use Rattle.py_token.proofs.Ends.{followed_ok, read_ends}
use Rattle.py_token.proofs.Reading.{quiet, turn_is, turn_ok, line_ok, placed_ok}
use Rattle.py_token.proofs.Spelled.{lexeme_spells, front_passes}

-- a token at the front of some bytes: the gap before it, its spelling, and the rest
record Tile (at : ℕ) (t : Token) (bytes : List ℕ) : Type 0 where
  gap : List ℕ
  spelling : List ℕ
  rest : List ℕ
  parts : bytes ≡ gap ++ (spelling ++ rest)
  blank : Blank gap (spelling ++ rest)
  start : t.start ≡ at + length gap
  stop : t.end ≡ t.start + length spelling
  spells : Spells t.kind spelling

abbrev Tiles : ℕ → List Token → List ℕ → Type 0
Tiles at [] bytes = bytes ≡ []
Tiles at (t ∷ ts) bytes = (tile : Tile at t bytes) × Tiles t.end ts tile.rest

-- ---- from the tiles to the text

tile_stands : (code front : List ℕ) (at : ℕ) (t : Token) (bytes : List ℕ) (tile : Tile at t bytes) → code ≡ front ++ bytes → length front ≡ at → Stands code at t
tile_stands code front at t bytes tile is long =
    let split : code ≡ front ++ (tile.gap ++ (tile.spelling ++ tile.rest)) = is ∙ ap (λ b. front ++ b) tile.parts in
    let whole : length code ≡ length front + (length tile.gap + (length tile.spelling + length tile.rest)) = ap length split ∙ length-append front _ ∙ ap (λ n. length front + n) (length-append tile.gap _ ∙ ap (λ n. length tile.gap + n) (length-append tile.spelling tile.rest)) in
    let after : drop at code ≡ tile.gap ++ (tile.spelling ++ tile.rest) = ap (drop at) split ∙ drop_at front _ at long in
    let joined : code ≡ (front ++ tile.gap) ++ (tile.spelling ++ tile.rest) = split ∙ sym (append_assoc front tile.gap _) in
    let place : length (front ++ tile.gap) ≡ t.start = length-append front tile.gap ∙ ap (λ n. n + length tile.gap) long ∙ sym tile.start in
    let there : drop t.start code ≡ tile.spelling ++ tile.rest = ap (drop t.start) joined ∙ drop_at (front ++ tile.gap) _ t.start place in
    let gap_width : t.start - at ≡ length tile.gap = omega (arith, tile.start) in
    let width : t.end - t.start ≡ length tile.spelling = omega (arith, tile.stop) in
    let gap_is : take (t.start - at) (drop at code) ≡ tile.gap = ap (λ n. take n (drop at code)) gap_width ∙ ap (take (length tile.gap)) after ∙ take-append_seam tile.gap _ in
    let spelling_is : take (t.end - t.start) (drop t.start code) ≡ tile.spelling = ap (λ n. take n (drop t.start code)) width ∙ ap (take (length tile.spelling)) there ∙ take-append_seam tile.spelling tile.rest in
    record {
      after = omega (arith, tile.start);
      ordered = omega (arith, tile.stop);
      within = omega (arith, tile.start, tile.stop);
      blank = subst (λ g. Blank g (drop t.start code)) (sym gap_is) (subst (Blank tile.gap) (sym there) tile.blank);
      spelled = subst (Spells t.kind) (sym spelling_is) tile.spells;
    }

tiles_cover : (code front : List ℕ) (at : ℕ) (ts : List Token) (bytes : List ℕ) → Tiles at ts bytes → code ≡ front ++ bytes → length front ≡ at → Cover code at ts
tiles_cover code front at [] bytes tiles is long =
    let whole : length code ≡ length front + length bytes = ap length is ∙ length-append front bytes in
    let none : length bytes ≡ 0 = ap length tiles in
    omega arith
tiles_cover code front at (t ∷ ts) bytes tiles is long =
    let tile = tiles.0 in
    let split : code ≡ ((front ++ tile.gap) ++ tile.spelling) ++ tile.rest = is ∙ ap (λ b. front ++ b) tile.parts ∙ sym (append_assoc front tile.gap _) ∙ sym (append_assoc (front ++ tile.gap) tile.spelling tile.rest) in
    let reach : length ((front ++ tile.gap) ++ tile.spelling) ≡ t.end
    = length-append (front ++ tile.gap) tile.spelling ∙ ap (λ n. n + length tile.spelling) (length-append front tile.gap ∙ ap (λ n. n + length tile.gap) long ∙ sym tile.start) ∙ sym tile.stop in
    (tile_stands code front at t bytes tile is long, tiles_cover code ((front ++ tile.gap) ++ tile.spelling) t.end ts tile.rest tiles.1 split reach)

-- ---- one turn

-- there is a token among those that follow
abbrev Some_last : List Token → Type 0
Some_last ts = (front : List Token) × (last : Token) × (ts ≡ front ++ last ∷ [])

no_last : (front : List Token) (last : Token) → ◌≡◌ {A = List Token} [] (front ++ last ∷ []) → ⊥
no_last [] last h = cc
no_last (t ∷ front) last h = cc

-- more blanks in front
tile_more : (at n : ℕ) (t : Token) (more bytes whole : List ℕ) (tile : Tile (at + n) t bytes) → length more ≡ n → whole ≡ more ++ bytes → Blank (more ++ tile.gap) (tile.spelling ++ tile.rest) → Tile at t whole
tile_more at n t more bytes whole tile long is blank = record {
  gap = more ++ tile.gap;
  spelling = tile.spelling;
  rest = tile.rest;
  parts = is ∙ ap (λ b. more ++ b) tile.parts ∙ sym (append_assoc more tile.gap _);
  blank = blank;
  start = tile.start ∙ (let wide = length-append more tile.gap in omega arith);
  stop = tile.stop;
  spells = tile.spells;
}

tiles_more : (at n : ℕ) (ts : List Token) (more bytes whole : List ℕ) → Some_last ts → length more ≡ n → whole ≡ more ++ bytes
    → ((gap rest : List ℕ) → bytes ≡ gap ++ rest → Blank gap rest → Blank (more ++ gap) rest) → Tiles (at + n) ts bytes → Tiles at ts whole
unfolding tile_more
tiles_more at n [] more bytes whole last long is blank tiles = absurd (no_last last.0 last.1 last.2)
tiles_more at n (t ∷ ts) more bytes whole last long is blank tiles =
    (tile_more at n t more bytes whole tiles.0 long is (blank tiles.0.gap (tiles.0.spelling ++ tiles.0.rest) tiles.0.parts tiles.0.blank), tiles.1)

-- a token at once, of those bytes
tiles_token : (at : ℕ) (kind : Kind) (ts : List Token) (spelling rest : List ℕ) → Spells kind spelling → Tiles (at + length spelling) ts rest → Tiles at (token kind at (length spelling) ∷ ts) (spelling ++ rest)
tiles_token at kind ts spelling rest spells tiles = (
  record {
    gap = [];
    spelling = spelling;
    rest = rest;
    parts = refl;
    blank = nothing;
    start = omega arith;
    stop = refl;
    spells = spells;
  },
  tiles,
)

-- an empty token
tiles_empty : (at : ℕ) (kind : Kind) (ts : List Token) (bytes : List ℕ) → Spells kind [] → Tiles at ts bytes → Tiles at (token kind at 0 ∷ ts) bytes
tiles_empty at kind ts bytes spells tiles =
    let here : at ≡ at + 0 = omega arith in
    tiles_token at kind ts [] bytes spells (subst (λ k. Tiles k ts bytes) here tiles)

-- tokens that are all empty
data Empties (at : ℕ) : List Token → Type 0 where
  none : Empties at []
  one_more : {kind : Kind} {ts : List Token} → Spells kind [] → Empties at ts → Empties at (token kind at 0 ∷ ts)

tiles_empties : (at : ℕ) (es ts : List Token) (bytes : List ℕ) → Empties at es → Tiles at ts bytes → Tiles at (es ++ ts) bytes
tiles_empties at [] ts bytes none tiles = tiles
tiles_empties at (e ∷ es) ts bytes (one_more {kind} s more) tiles = tiles_empty at kind (es ++ ts) bytes s (tiles_empties at es ts bytes more tiles)

-- ---- what the first token of a line begins and ends

IfGiven : ℕ → Result Depths TokenFault → Type 0
IfGiven at (Ok d) = Empties at d.given
IfGiven at (Err f) = Unit {0}

given_ends : (at : ℕ) (r : Result Depths TokenFault) → IfGiven at r → IfGiven at (ends_block at r)
unfolding IfGiven
given_ends at (Ok d) h = one_more {kind = Dedent} refl h
given_ends at (Err f) h = tt

given_if : (at : ℕ) (b : Bool) (r s : Result Depths TokenFault) → IfGiven at r → IfGiven at s → IfGiven at (cond b r s)
given_if at true r s p q = p
given_if at false r s p q = q

shallower_given : (at depth : ℕ) (depths : List ℕ) → IfGiven at (shallower at depth depths)
unfolding shallower IfGiven
shallower_given at depth [] = tt
shallower_given at depth (d ∷ depths) = given_if at (ltb depth d) _ _ (given_ends at _ (shallower_given at depth depths)) (given_if at (eqb d depth) _ _ none tt)

begun_given : (at : ℕ) (spot : Spot) (depths : List ℕ) → IfGiven at (begun at spot depths)
unfolding begun indented IfGiven
begun_given at Inside depths = none
begun_given at (Start from None) depths = given_if at (is_deeper (at - from) depths) _ _ (one_more {kind = Indent} refl none) (shallower_given at (at - from) depths)
begun_given at (Start from (Some tab)) depths = tt

closing_empty : (at : ℕ) (depths : List ℕ) → Empties at (closing at depths)
closing_empty at [] = none
closing_empty at (d ∷ depths) = by_zero (eqb d 0) (closing_empty at depths)
  where
    by_zero : (b : Bool) → Empties at (closing at depths) → Empties at (cond b (closing at depths) (token Dedent at 0 ∷ closing at depths))
    by_zero true h = h
    by_zero false h = one_more {kind = Dedent} refl h

newline_empty : (at : ℕ) (spot : Spot) (brackets : ℕ) → Empties at (last_newline at spot brackets)
newline_empty at (Start from tab) brackets = none
newline_empty at Inside brackets = by_zero (eqb brackets 0)
  where
    by_zero : (b : Bool) → Empties at (cond b (token Newline at 0 ∷ []) [])
    by_zero true = one_more {kind = Newline} (inr refl) none
    by_zero false = none

ended_tiles : (at : ℕ) (line : Line) → Tiles at (ended at line) []
ended_tiles at line =
    tiles_empties at (last_newline at line.spot line.brackets) _ [] (newline_empty at line.spot line.brackets)
    (tiles_empties at (closing at line.depths) _ [] (closing_empty at line.depths) (tiles_empty at End [] [] refl refl))

-- ---- the whole

pub white_more : (c : ℕ) (bytes : List ℕ) → is_white c ≡ true → (gap rest : List ℕ) → bytes ≡ gap ++ rest → Blank gap rest → Blank ((c ∷ []) ++ gap) rest
white_more c bytes h gap rest is blank = white h blank

pub carriage_more : (c : ℕ) (bytes : List ℕ) → c ≡ 13 → ends_line bytes ≡ true → (gap rest : List ℕ) → bytes ≡ gap ++ rest → Blank gap rest → Blank ((c ∷ []) ++ gap) rest
carriage_more c bytes at h gap rest is blank = subst (λ k. Blank (k ∷ gap) rest) (sym at) (carriage (ap ends_line (sym is) ∙ h) blank)

pub stops : (p : ℕ → Bool) (xs : List ℕ) → next_is p (drop (prefix_len p xs) xs) ≡ false
stops p [] = refl
stops p (x ∷ xs) = by_first (p x) refl (stops p xs)
  where
    by_first : (b : Bool) → p x ≡ b → next_is p (drop (prefix_len p xs) xs) ≡ false → next_is p (drop (cond b (1 + prefix_len p xs) 0) (x ∷ xs)) ≡ false
    by_first true e inner = rw one-add inner
    by_first false e inner = e

pub comment_more : (c : ℕ) (rest : List ℕ) → c ≡ 35 → (gap after : List ℕ) → drop (prefix_len in_comment rest) rest ≡ gap ++ after → Blank gap after
    → Blank ((c ∷ take (prefix_len in_comment rest) rest) ++ gap) after
comment_more c rest at gap after is blank =
    subst (λ k. Blank ((k ∷ take (prefix_len in_comment rest) rest) ++ gap) after) (sym at)
    (comment (take (prefix_len in_comment rest) rest) (front_passes in_comment rest) (ap (λ b. not (next_is in_comment b)) (sym is) ∙ ap not (stops in_comment rest)) blank)

-- what a turn tells of the bytes that it takes
abbrev Goes : ℕ → ℕ → List ℕ → Turn → Type 0
Goes at c rest t = (ys : List Token) → Some_last ys → Tiles (at + t.width) ys (drop t.width (c ∷ rest)) → Tiles at (t.tokens ++ ys) (c ∷ rest)

goes_white : (at c : ℕ) (rest : List ℕ) (line : Line) → is_white c ≡ true → Goes at c rest (quiet 1 line)
goes_white at c rest line h ys last tiles = tiles_more at 1 ys (c ∷ []) rest (c ∷ rest) last refl refl (white_more c rest h) tiles

goes_comment : (at c : ℕ) (rest : List ℕ) (line : Line) → c ≡ 35 → Goes at c rest (quiet (1 + prefix_len in_comment rest) line)
goes_comment at c rest line h ys last tiles =
    let n = prefix_len in_comment rest in
    let long : length (c ∷ take n rest) ≡ 1 + n = ap suc (length-take-le n rest (prefix_len-le in_comment rest)) ∙ sym (one-add n) in
    let is : c ∷ rest ≡ (c ∷ take n rest) ++ drop n rest = ap (λ r. c ∷ r) (sym (take-append-drop n rest)) in
    tiles_more at (1 + n) ys (c ∷ take n rest) (drop n rest) (c ∷ rest) last long is (comment_more c rest h)
    (subst (λ b. Tiles (at + (1 + n)) ys b) (ap (λ k. drop k (c ∷ rest)) (one-add n)) tiles)

white_by : (c : ℕ) (n : ℕ) → eqb c n ≡ true → is_white n ≡ true → is_white c ≡ true
white_by c n h w = ap is_white (eqb_is c n h) ∙ w

goes_line : (at c : ℕ) (rest : List ℕ) (line : Line) (t : Turn) → eqb c 10 ≡ true → line_ended at line line.spot ≡ Ok t → Goes at c rest t
goes_line at c rest line t h e =
    line_ok (Goes at c rest) at line line.spot t (goes_white at c rest (next_line at line) (white_by c 10 h refl))
    (λ ys last tiles. tiles_token at Newline ys (c ∷ []) rest (inl (ap (λ k. k ∷ []) (eqb_is c 10 h))) tiles)
    (goes_white at c rest line (white_by c 10 h refl)) e

goes_token : (at c : ℕ) (rest : List ℕ) (line : Line) (t : Turn) → placed at line (begun at line.spot line.depths) (lexeme_at at (c ∷ rest)) ≡ Ok t → Goes at c rest t
unfolding IfGiven
goes_token at c rest line t e =
    let w = placed_ok at line _ _ t e in
    let l = w.1 in
    let given = subst (IfGiven at) w.2 (begun_given at line.spot line.depths) in
    let bounds = lexeme_bounds at (c ∷ rest) l w.3 in
    let long : length (take l.width (c ∷ rest)) ≡ l.width = length-take-le l.width (c ∷ rest) bounds.within in
    subst (Goes at c rest) w.4 (λ ys last tiles.
    let here = tiles_token at l.kind ys (take l.width (c ∷ rest)) (drop l.width (c ∷ rest)) (lexeme_spells at (c ∷ rest) l w.3) (subst (λ n. Tiles (at + n) ys (drop l.width (c ∷ rest))) (sym long) tiles) in
    let placed_here : Tiles at (token l.kind at l.width ∷ ys) (c ∷ rest) = subst (λ b. Tiles at (token l.kind at l.width ∷ ys) b) (take-append-drop l.width (c ∷ rest)) (subst (λ n. Tiles at (token l.kind at n ∷ ys) (take l.width (c ∷ rest) ++ drop l.width (c ∷ rest))) long here) in
    subst (λ ts. Tiles at ts (c ∷ rest)) (sym (append_assoc w.0.given (token l.kind at l.width ∷ []) ys)) (tiles_empties at w.0.given (token l.kind at l.width ∷ ys) (c ∷ rest) given placed_here))

turn_goes : (at : ℕ) (line : Line) (c : ℕ) (rest : List ℕ) (t : Turn) → turn at line (c ∷ rest) ≡ Ok t → Goes at c rest t
turn_goes at line c rest t h =
    turn_ok (Goes at c rest) at line c rest t
    (λ e. goes_white at c rest line (white_by c 32 e refl))
    (λ e. goes_white at c rest (at_spot (with_tab at line.spot) line) (white_by c 9 e refl))
    (λ e. goes_comment at c rest (at_spot (without_tab line.spot) line) (eqb_is c 35 e))
    (goes_line at c rest line t)
    (λ e f ys last tiles. tiles_more at 1 ys (c ∷ []) rest (c ∷ rest) last refl refl (carriage_more c rest (eqb_is c 13 e) f) tiles)
    (goes_token at c rest line t)
    h

skipped_tiles : (w at c : ℕ) (ys : List Token) (rest : List ℕ) → 0 < w → Tiles (suc at + pred w) ys (drop (pred w) rest) → Tiles (at + w) ys (drop w (c ∷ rest))
skipped_tiles zero at c ys rest positive tiles = absurd (omega arith)
skipped_tiles (suc n) at c ys rest positive tiles = let sum : suc at + n ≡ at + suc n = omega arith in subst (λ k. Tiles k ys (drop n rest)) sum tiles

read_tiles : (skip at : ℕ) (line : Line) (bytes : List ℕ) (ts : List Token) → skip ≤ length bytes → read skip at line bytes ≡ Ok ts → Tiles (at + skip) ts (drop skip bytes)
unfolding read
read_tiles zero at line [] ts fits h =
    let here : at ≡ at + 0 = omega arith in
    let same : ended at line ≡ ts = cc in
    subst (λ k. Tiles k ts []) here (subst (λ us. Tiles at us []) same (ended_tiles at line))
read_tiles (suc n) at line [] ts fits h = absurd (omega arith)
read_tiles (suc n) at line (c ∷ rest) ts fits h =
    let sum : suc at + n ≡ at + suc n = omega arith in
    subst (λ k. Tiles k ts (drop n rest)) sum (read_tiles n (suc at) line rest ts (omega arith) h)
read_tiles zero at line (c ∷ rest) ts fits h =
    let f = followed_ok (turn at line (c ∷ rest)) (λ n next. read n (suc at) next rest) ts h in
    let t = f.0 in
    let is = turn_is at line (c ∷ rest) t (omega arith) f.2 in
    let short : pred t.width ≤ length rest = pred_fits t.width (length rest) is.within in
    let inner = read_tiles (pred t.width) (suc at) t.line rest f.1 short f.3 in
    let last = read_ends (pred t.width) (suc at) t.line rest f.1 f.3 in
    let here : at ≡ at + 0 = omega arith in
    subst (λ k. Tiles k ts (c ∷ rest)) here (subst (λ us. Tiles at us (c ∷ rest)) f.4
    (turn_goes at line c rest t f.2 f.1 (last.0, token End (suc at + length rest) 0, last.1) (skipped_tiles t.width at c f.1 rest is.positive inner)))
  where
    pred_fits : (w n : ℕ) → w ≤ suc n → pred w ≤ n
    pred_fits zero n h = omega arith
    pred_fits (suc w) n h = omega arith

pub covers : (code : List ℕ) (ts : List Token) → tokens_of code ≡ Ok ts → Cover code 0 ts
unfolding tokens_of
covers code ts h = tiles_cover code [] 0 ts code (read_tiles 0 0 start code ts (omega arith) h) refl refl
