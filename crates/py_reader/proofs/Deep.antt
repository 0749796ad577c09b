-- Where tokens are too deep: there is one such place, however the places are counted.
use Rattle.std.proofs.Common.{◌≡◌, ℕ, zero, suc, ◌-◌, ◌<◌, ◌≤◌, Bool, true, false, nat_lt, List, [], ◌∷◌, ◌++◌, length, take, drop, Option, Some, None, refl, ap, ◌∙◌, sym, subst, append-nil, take-append-drop, arith}
use Rattle.std.proofs.lemmas.Bool.{ltb-true, ltb-false}
use Rattle.std.proofs.lemmas.List.{length-take}
use Rattle.std.proofs.lemmas.List.Elements.{All-contains}
use Rattle.py_token.specs.declared.kinds.Kind.{Kind}
use Rattle.py_token.specs.declared.kinds.Kind.TheVariants as t
use Rattle.py_token.specs.declared.kinds.Token.{Token}
use Rattle.py_token.specs.Cuts.{kinds}
use Rattle.py_grammar.specs.Statements.{Cell, IsCell, spelling}
use Rattle.py_grammar.specs.States as m
use Rattle.py_grammar.specs.States.{done}
use Rattle.py_grammar.specs.Depth.{in_cell, IsTooDeep, AreTooDeep}
use Rattle.py_grammar.proofs.Whole.{is_read}
use Rattle.py_frames.specs.Forced.{reach}
use Rattle.py_frames.specs.Under.{first, nth, placed}
use Rattle.py_blocks.specs.declared.state.Reader.{Reader}
use Rattle.py_blocks.specs.Blocks.{Texts}
use Rattle.py_blocks.specs.Follows.{forms_run, run, from_start, reader_at}
use Rattle.py_blocks.specs.Forced.{forced_now}
use Rattle.py_blocks.specs.Held.{held_done, held_state}
use Rattle.py_blocks.specs.Source.{most}
use Rattle.py_blocks.specs.Steps.{start}
use Rattle.py_blocks.specs.Telling.{deepest, IsOf}
use Rattle.py_blocks.proofs.Cells.{cell-places}
use Rattle.py_blocks.proofs.TooDeep.{first-none, tells-depth, tells-cells}
use Rattle.py_reader.specs.Verdict.{deepest_of}
use Rattle.py_reader.proofs.Scanned.{kinds-length, reads}

-- ---- there is one place

no-later : (c : Cell) (a b : ℕ) → IsTooDeep c a → IsTooDeep c b → a ≤ b
no-later c a b x y =
    let l = All-contains (λ o. o ≤ x.left) (in_cell c y.depth) y.left (x.first y.depth y.deep) y.begins in
    let i = x.is_place in
    let j = y.is_place in
    omega (arith, l, i, j)

one-place : (c : Cell) (a b : ℕ) → IsTooDeep c a → IsTooDeep c b → a ≡ b
one-place c a b x y = let p = no-later c a b x y in let q = no-later c b a y x in omega (arith, p, q)

none-later : (Is : List Kind → Cell → Type 0) (tokens : List Kind) (a b : ℕ) → AreTooDeep Is tokens a → AreTooDeep Is tokens b → b ≤ a
none-later Is tokens a b x y =
    let s = y.some in
    let e = x.each s.0 s.1 s.2 in
    let l = e.1 in
    let same = one-place s.1 e.0 b e.2 s.3 in
    omega (arith, l, same)

one-open : (Is : List Kind → Cell → Type 0) (tokens : List Kind) (a b : ℕ) → AreTooDeep Is tokens a → AreTooDeep Is tokens b → a ≡ b
one-open Is tokens a b x y = let p = none-later Is tokens a b x y in let q = none-later Is tokens b a y x in omega (arith, p, q)

-- ---- what the verdict takes for it

front-length : (tokens : List Token) (place : ℕ) → place ≤ length tokens → length (take place (kinds tokens)) ≡ place
front-length tokens place l = let n = length-take place (kinds tokens) in let k = kinds-length tokens in omega (arith, n, k, l)

-- the tokens before a place, and those from it on
parts : (tokens : List Token) (place : ℕ) → length (take place (kinds tokens) ++ drop place (kinds tokens)) ≡ length tokens
parts tokens place = ap length (take-append-drop place (kinds tokens)) ∙ kinds-length tokens

-- a place among the tokens before one, in two words
passed : (top n place d at : ℕ) → n ≡ place → d ≡ at → top - place < at → top - n < d
passed top n place d at e f h = omega (arith, e, f, h)

kept : (top n place d at : ℕ) → n ≡ place → d ≡ at → at ≤ top - place → d ≤ top - n
kept top n place d at e f h = omega (arith, e, f, h)

within : (top n place : ℕ) → n ≡ place → place ≤ top → n ≤ suc top
within top n place e l = omega (arith, e, l)

fits : (all n place top : ℕ) → n ≡ place → place ≤ all → all ≤ top → n ≤ top
fits all n place top e l k = omega (arith, e, l, k)

-- it tells whether the tokens before a place are too deep, and where
pub record Tells (alone : Bool) (tokens : List Token) (place at : ℕ) : Type 0 where
  pub deep : suc (length tokens) - place < at → AreTooDeep (IsOf alone) (take place (kinds tokens)) (suc (length tokens) - at)
  pub shallow : at ≤ suc (length tokens) - place → (other : ℕ) → AreTooDeep (IsOf alone) (take place (kinds tokens)) other → ⊥

pub tells : (alone : Bool) (tokens : List Token) (place : ℕ) (s : m.State) → place ≤ length tokens → forms_run alone m.start (take place (kinds tokens)) ≡ Some s → Tells alone tokens place (deepest_of tokens s (drop place (kinds tokens)))
tells alone tokens place s l e =
    let front : List Kind = take place (kinds tokens) in
    let rest : List Kind = drop place (kinds tokens) in
    let r = reads alone (λ from to. []) (suc (length tokens)) front rest s e in
    let n = front-length tokens place l in
    let t = tells-depth alone (λ from to. []) (suc (length tokens)) front _ (within (length tokens) (length front) place n l) r.1 in
    let same : deepest (reader_at (from_start (suc (length tokens)) (length (front ++ rest))) (λ from to. []) s rest r.0) ≡ deepest_of tokens s rest = ap (λ k. reach (forced_now (held_state (from_start (suc (length tokens)) k) (λ from to. []) s rest)) 64) (parts tokens place) in
    record {
      deep = λ h. subst (λ at. AreTooDeep (IsOf alone) front (suc (length tokens) - at)) same (t.0 (passed (suc (length tokens)) (length front) place _ _ n same h));
      shallow = λ h. t.1 (kept (suc (length tokens)) (length front) place _ _ n same h);
    }

-- two countings agree, if each tells whether there is a place, and where
agree : (P : ℕ → Type 0) → ((x y : ℕ) → P x → P y → x ≡ y) → (i j a b x y : ℕ) → (i < a → P x) → (a ≤ i → (o : ℕ) → P o → ⊥) → (j < b → P y) → (b ≤ j → (o : ℕ) → P o → ⊥) → (i < a → (j < b) × (x ≡ y)) × (a ≤ i → b ≤ j)
agree P one i j a b x y p u q w = ((λ h. on (nat_lt j b) refl (p h)), (λ h. off (nat_lt j b) refl h))
  where
    on : (c : Bool) → nat_lt j b ≡ c → P x → (j < b) × (x ≡ y)
    on true e z = (ltb-true j b e, one x y z (q (ltb-true j b e)))
    on false e z = absurd (w (ltb-false j b e) x z)

    off : (c : Bool) → nat_lt j b ≡ c → a ≤ i → b ≤ j
    off true e h = absurd (u h y (q (ltb-true j b e)))
    off false e h = ltb-false j b e

-- what the program finds, in its own counting, agrees
pub agrees : (alone : Bool) (texts : Texts) (tokens : List Token) (place : ℕ) (reader : Reader) (s : m.State) → place ≤ length tokens → length tokens ≤ most → run alone texts most start (take place (kinds tokens)) ≡ Some reader
    → forms_run alone m.start (take place (kinds tokens)) ≡ Some s
    → (most - place < deepest reader → (suc (length tokens) - place < deepest_of tokens s (drop place (kinds tokens))) × (most - deepest reader ≡ suc (length tokens) - deepest_of tokens s (drop place (kinds tokens))))
    × (deepest reader ≤ most - place → deepest_of tokens s (drop place (kinds tokens)) ≤ suc (length tokens) - place)
agrees alone texts tokens place reader s l long r e =
    let front : List Kind = take place (kinds tokens) in
    let n = front-length tokens place l in
    let t = tells-depth alone texts most front reader (fits (length tokens) (length front) place most n l long) r in
    let v = tells alone tokens place s l e in
    agree (AreTooDeep (IsOf alone) front) (one-open (IsOf alone) front) (most - place) (suc (length tokens) - place) (deepest reader) (deepest_of tokens s (drop place (kinds tokens))) _ _
    (λ h. t.0 (passed most (length front) place (deepest reader) (deepest reader) n refl h)) (λ h. t.1 (kept most (length front) place (deepest reader) (deepest reader) n refl h)) v.deep v.shallow

-- ---- a whole cell

abbrev CellTells : Cell → ℕ → ℕ → Type 0
CellTells c top at = (0 < at → IsTooDeep c (top - at)) × (at ≡ 0 → (other : ℕ) → IsTooDeep c other → ⊥)

-- what is held at the end of a cell, whatever names are
at-end : (texts : Texts) (top : ℕ) (tokens : List Token) (c : Cell) → length tokens < top → IsCell (kinds tokens) c → CellTells c top (reach (forced_now (held_state (from_start top (length tokens)) texts (done c) [])) 64)
at-end texts top tokens c l is =
    let k = kinds-length tokens in
    let all : length (kinds tokens ++ []) ≡ length tokens = ap length (append-nil (kinds tokens)) ∙ k in
    let r = reads false texts top (kinds tokens) [] (done c) (is_read (kinds tokens) c is) in
    subst (λ n. CellTells c top (reach (forced_now (held_state (from_start top n) texts (done c) [])) 64)) all (tells-cells texts top (kinds tokens) c _ (omega (arith, k, l)) is r.1)

pub cell-tells : (tokens : List Token) (c : Cell) → IsCell (kinds tokens) c → CellTells c (suc (length tokens)) (deepest_of tokens (done c) [])
cell-tells tokens c is = at-end (λ from to. []) (suc (length tokens)) tokens c (omega arith) is

pub cell-agrees : (texts : Texts) (tokens : List Token) (c : Cell) (found : ℕ) → length tokens < most → IsCell (kinds tokens) c → found ≡ reach (forced_now (held_state (from_start most (length tokens)) texts (done c) [])) 64
    → (0 < found → (0 < deepest_of tokens (done c) []) × (most - found ≡ suc (length tokens) - deepest_of tokens (done c) [])) × (found ≤ 0 → deepest_of tokens (done c) [] ≤ 0)
cell-agrees texts tokens c found l is same =
    let t = subst (CellTells c most) (sym same) (at-end texts most tokens c l is) in
    let v = cell-tells tokens c is in
    agree (IsTooDeep c) (one-place c) 0 0 found (deepest_of tokens (done c) []) _ _ t.0 (λ h. t.1 (omega (arith, h))) v.0 (λ h. v.1 (omega (arith, h)))

-- ---- a cell that isn't too deep

pub is-shallow : (tokens : List Token) (c : Cell) → IsCell (kinds tokens) c → ((at : ℕ) → IsTooDeep c at → ⊥) → deepest_of tokens (done c) [] ≤ 0
is-shallow tokens c is shallow = on (nat_lt 0 (deepest_of tokens (done c) [])) refl
  where
    on : (b : Bool) → nat_lt 0 (deepest_of tokens (done c) []) ≡ b → deepest_of tokens (done c) [] ≤ 0
    on true e = absurd (shallow _ ((cell-tells tokens c is).0 (ltb-true 0 (deepest_of tokens (done c) []) e)))
    on false e = ltb-false 0 (deepest_of tokens (done c) []) e

pub placed-at : (f : ℕ → ℕ) (o : Option ℕ) (x : ℕ) → placed f o ≡ Some x → (a : ℕ) × (f a ≡ x)
placed-at f None x e = cc
placed-at f (Some a) x e = (a, cc)

-- no place is 0
pub positive : (top n a x : ℕ) → n < top → from_start top n a ≡ x → 0 < x
positive top n a x l e = omega (arith, e, l)

pub short : (p : List ℕ) (n : ℕ) → ((d x : ℕ) → nth d p ≡ Some x → 0 < x) → reach p n ≤ 0 → length p ≤ n
short [] n f h = omega arith
short (x ∷ p) zero f h = let z = f zero x refl in absurd (omega (arith, z, h))
short (x ∷ p) (suc n) f h = let z = short p n (λ d y. f (suc d) y) h in omega (arith, z)

none-past : (p : List ℕ) (d : ℕ) → length p ≤ d → nth d p ≡ None
none-past [] d h = refl
none-past (x ∷ p) zero h = absurd (omega (arith, h))
none-past (x ∷ p) (suc d) h = none-past p d (omega (arith, h))

not-placed : (f : ℕ → ℕ) (o : Option ℕ) → placed f o ≡ None → o ≡ None
not-placed f None e = refl
not-placed f (Some a) e = cc

-- none of its parts is at depth 65 or deeper
pub flat : (tokens : List Token) (c : Cell) → IsCell (kinds tokens) c → ((at : ℕ) → IsTooDeep c at → ⊥) → (d : ℕ) → 64 ≤ d → in_cell c d ≡ []
flat tokens c is shallow d l =
    let top : ℕ = suc (length tokens) in
    let all : length tokens ≡ length (spelling c) = sym (kinds-length tokens) ∙ ap length is.spelled in
    let rows = cell-places top (λ from to. []) c in
    let low : reach (held_done (from_start top (length (spelling c))) (λ from to. []) c (t.End ∷ [])).under 64 ≤ 0 = subst (λ n. reach (held_done (from_start top n) (λ from to. []) c (t.End ∷ [])).under 64 ≤ 0) all (is-shallow tokens c is shallow) in
    let few = short (held_done (from_start top (length (spelling c))) (λ from to. []) c (t.End ∷ [])).under 64
    (λ e x f. let q = placed-at (from_start top (length (spelling c))) (first (in_cell c e)) x (rows e ∙ f) in positive top (length (spelling c)) q.0 x (omega (arith, all)) q.1) low in
    first-none (in_cell c d) (not-placed (from_start top (length (spelling c))) (first (in_cell c d)) (rows d ∙ none-past _ d (omega (arith, few, l))))
