-- A line whose depth isn't open, and what else a fault can't be.
use Rattle.std.proofs.Common.{map, ap, ◌≡◌, ◌⊎◌, inl, inr, ℕ, zero, suc, ◌+◌, ◌-◌, ◌<◌, Bool, true, false, cond, eqb, ltb, leb, ◌^◌, pos, List, [], ◌∷◌, ◌++◌, take, drop, Option, Some, None, Result, Ok, Err, refl, sym, ◌∙◌, subst, arith}
use Rattle.std.specs.Prelude.{◌≢◌}
use Rattle.std.specs.List.{AllByRecursion, prefix_len}
use Rattle.std.specs.Char.{is_ascii_digit}
use Rattle.std.proofs.lemmas.Bool.Decides.{nat_tests}
use borrow.Author.Tests.{ltb-true}
use Rattle.py_names.specs.Names.{begins_name, continues_name}
use Rattle.py_token.specs.declared.faults.TokenFault.{TokenFault}
use Rattle.py_token.specs.declared.faults.TokenFault.TheVariants.{BadChar, OpenText, BadIndent, WideNumber, LongName}
use Rattle.py_token.specs.declared.kinds.Kind.{Kind}
use Rattle.py_token.specs.declared.kinds.Kind.TheVariants.{Number, Indent, Dedent}
use Rattle.py_token.specs.declared.kinds.Symbol as operator
use Rattle.py_token.specs.declared.lines.Depths.{Depths}
use Rattle.py_token.specs.declared.lines.Lexeme.{Lexeme}
use Rattle.py_token.specs.declared.lines.Spot.{Spot}
use Rattle.py_token.specs.declared.lines.Spot.TheVariants.{Start, Inside}
use Rattle.py_token.specs.declared.pieces.Body.{Body}
use Rattle.py_token.specs.declared.pieces.Body.TheVariants.{Closed, Unclosed, Spoiled}
use Rattle.py_token.specs.Spellings.{decimal, is_quote}
use Rattle.py_token.specs.Lexemes.{next_is, named, keyword_of, name_at, follows_no_number, number_width, number_at, body, text_lexeme, text_at, operator_lexeme, operator_at, lexeme_at}
use Rattle.py_token.specs.Lines.{ends_block, shallower, indented, begun}
use Rattle.py_token.specs.Cuts.{kinds}
use Rattle.py_token.specs.Indentation.{Shifts, opens, ends, IsMisfit, Descends}
use Rattle.py_token.proofs.Escapes.{eqb_is}
use Rattle.py_token.proofs.Depths.{indented_shifts, begun_shifts}

-- ---- open depths descend

later_descend : (deeper below : List ℕ) (depth : ℕ) → Descends (deeper ++ depth ∷ below) → Descends (depth ∷ below)
later_descend [] below depth h = h
later_descend (x ∷ []) below depth h = h.1
later_descend (x ∷ y ∷ more) below depth h = later_descend (y ∷ more) below depth h.1

pub shifts_descend : (depth : ℕ) (stack after : List ℕ) (markers : List Kind) → Shifts depth stack markers after → Descends stack → Descends after
shifts_descend depth stack after markers (opens top below h) d = (h, d)
shifts_descend depth stack after markers (ends deeper below h) d = later_descend deeper below depth d

pub begun_descends : (at : ℕ) (spot : Spot) (ds : List ℕ) (d : Depths) → begun at spot ds ≡ Ok d → Descends ds → Descends d.depths
unfolding begun
begun_descends at (Start from None) ds d h k = shifts_descend (at - from) ds d.depths _ (begun_shifts at from (at - from) ds d refl h).shifts k
begun_descends at (Start from (Some tab)) ds d h k = cc
begun_descends at Inside ds d h k = subst (λ (x : Depths). Descends x.depths) (same _ d h) k
  where
    same : (x y : Depths) → ◌≡◌ {A = Result Depths TokenFault} (Ok x) (Ok y) → x ≡ y
    same x y h = cc

-- ---- a depth that isn't open

-- what is above all depths is none of them
above_all : (depth x : ℕ) (ds : List ℕ) → x < depth → Descends (x ∷ ds) → AllByRecursion (λ d. d ≢ depth) (x ∷ ds)
above_all depth x [] h k = (λ e. let no : ⊥ = omega (arith, e) in absurd no, tt)
above_all depth x (y ∷ ds) h k = (λ e. let no : ⊥ = omega (arith, e) in absurd no, above_all depth y ds (omega (arith, k.0)) k.1)

-- the fault of a depth
abbrev IfFault : ℕ → ℕ → List ℕ → Result Depths TokenFault → Type 0
IfFault at depth ds (Ok d) = Unit {0}
IfFault at depth ds (Err f) = (f ≡ BadIndent at) × AllByRecursion (λ d. d ≢ depth) ds

if_fault : (at depth : ℕ) (ds : List ℕ) (b : Bool) (r s : Result Depths TokenFault) → (b ≡ true → IfFault at depth ds r) → (b ≡ false → IfFault at depth ds s) → IfFault at depth ds (cond b r s)
if_fault at depth ds true r s h k = h refl
if_fault at depth ds false r s h k = k refl

one_more : (at depth x : ℕ) (ds : List ℕ) (r : Result Depths TokenFault) → depth < x → IfFault at depth ds r → IfFault at depth (x ∷ ds) (ends_block at r)
one_more at depth x ds (Ok d) h k = tt
one_more at depth x ds (Err f) h k = (k.0, (λ e. let no : ⊥ = omega (arith, e) in absurd no, k.1))

less_than : (x y : ℕ) → ltb y x ≡ false → eqb x y ≡ false → x < y
less_than x y h k = grind (arith, nat_tests)

shallower_fault : (at depth : ℕ) (ds : List ℕ) → Descends ds → IfFault at depth ds (shallower at depth ds)
unfolding shallower
shallower_fault at depth [] h = absurd h
shallower_fault at depth (x ∷ []) h =
    if_fault at depth (x ∷ []) (ltb depth x) _ _ (λ e. let deep = ltb-true depth x e in let no : ⊥ = omega (arith, h) in absurd no)
    (λ e. if_fault at depth (x ∷ []) (eqb x depth) _ _ (λ f. tt) (λ f. (refl, above_all depth x [] (less_than x depth e f) h)))
shallower_fault at depth (x ∷ y ∷ ds) h =
    if_fault at depth (x ∷ y ∷ ds) (ltb depth x) _ _ (λ e. one_more at depth x (y ∷ ds) _ (ltb-true depth x e) (shallower_fault at depth (y ∷ ds) h.1))
    (λ e. if_fault at depth (x ∷ y ∷ ds) (eqb x depth) _ _ (λ f. tt) (λ f. (refl, above_all depth x (y ∷ ds) (less_than x depth e f) h)))

not_deeper : (depth x : ℕ) → ltb x depth ≡ false → x ≢ depth → depth < x
not_deeper depth x h k = on (eqb x depth) refl
  where
    on : (b : Bool) → eqb x depth ≡ b → depth < x
    on true e = absurd (k (eqb_is x depth e))
    on false e = grind (arith, nat_tests)

indented_fault : (at depth : ℕ) (ds : List ℕ) (f : TokenFault) → Descends ds → indented at depth ds ≡ Err f → (f ≡ BadIndent at) × IsMisfit depth ds
unfolding indented
indented_fault at depth [] f d h = absurd d
indented_fault at depth (x ∷ ds) f d h = on (ltb x depth) refl (shallower at depth (x ∷ ds)) (shallower_fault at depth (x ∷ ds) d) _ h
  where
    on : (b : Bool) → ltb x depth ≡ b → (r : Result Depths TokenFault) → IfFault at depth (x ∷ ds) r → (g : Depths) → cond b (Ok g) r ≡ Err f → (f ≡ BadIndent at) × IsMisfit depth (x ∷ ds)
    on true e r k g h = cc
    on false e (Ok a) k g h = cc
    on false e (Err a) k g h =
        let same : a ≡ f = cc in
        (sym same ∙ k.0, record { deepest = x; others = ds; is_stack = refl; less = not_deeper depth x e k.1.0; not_open = k.1 })

pub begun_fault : (at p : ℕ) (spot : Spot) (ds : List ℕ) → Descends ds → begun at spot ds ≡ Err (BadIndent p)
    → (from : ℕ) × (spot ≡ Start from None) × (p ≡ at) × IsMisfit (at - from) ds
unfolding begun
begun_fault at p (Start from None) ds d h = let w = indented_fault at (at - from) ds (BadIndent p) d h in (from, refl, cc (w.0), w.1)
begun_fault at p (Start from (Some tab)) ds d h = cc
begun_fault at p Inside ds d h = cc

-- ---- each depth has one list of markers, or none

-- a depth shifts in one of two ways
data Ways (depth : ℕ) (stack : List ℕ) (markers : List Kind) (after : List ℕ) : Type 0 where
  up : (top : ℕ) (below : List ℕ) → stack ≡ top ∷ below → top < depth → markers ≡ Indent ∷ [] → after ≡ depth ∷ stack → Ways depth stack markers after
  down : (deeper below : List ℕ) → stack ≡ deeper ++ depth ∷ below → AllByRecursion (λ d. depth < d) deeper → markers ≡ map (λ d. Dedent) deeper → after ≡ depth ∷ below
      → Ways depth stack markers after

ways : (depth : ℕ) (stack after : List ℕ) (markers : List Kind) → Shifts depth stack markers after → Ways depth stack markers after
ways depth stack after markers (opens top below h) = up top below refl h refl refl
ways depth stack after markers (ends deeper below h) = down deeper below refl h refl refl

not_up_and_down : (depth top : ℕ) (below deeper under : List ℕ) → top < depth → AllByRecursion (λ d. depth < d) deeper → top ∷ below ≡ deeper ++ depth ∷ under → ⊥
not_up_and_down depth top below [] under h k e = let same : top ≡ depth = cc in omega (arith, h, same)
not_up_and_down depth top below (x ∷ deeper) under h k e = let same : top ≡ x = cc in omega (arith, h, k.0, same)

same_down : (depth : ℕ) (xs ys under over : List ℕ) → AllByRecursion (λ d. depth < d) xs → AllByRecursion (λ d. depth < d) ys → xs ++ depth ∷ under ≡ ys ++ depth ∷ over → (xs ≡ ys) × (under ≡ over)
same_down depth [] [] under over h k e = (refl, cc)
same_down depth [] (y ∷ ys) under over h k e = let same : depth ≡ y = cc in let no : ⊥ = omega (arith, k.0, same) in absurd no
same_down depth (x ∷ xs) [] under over h k e = let same : x ≡ depth = cc in let no : ⊥ = omega (arith, h.0, same) in absurd no
same_down depth (x ∷ xs) (y ∷ ys) under over h k e =
    let head : x ≡ y = cc in
    let tail : xs ++ depth ∷ under ≡ ys ++ depth ∷ over = cc in
    let w = same_down depth xs ys under over h.1 k.1 tail in
    (ap (λ z. z ∷ xs) head ∙ ap (◌∷◌ y) w.0, w.1)

same_ways : (depth : ℕ) (stack after other : List ℕ) (markers others : List Kind) → Ways depth stack markers after → Ways depth stack others other → (markers ≡ others) × (after ≡ other)
same_ways depth stack after other markers others (up t b e h m a) (up t' b' e' h' m' a') = (m ∙ sym m', a ∙ sym a')
same_ways depth stack after other markers others (up t b e h m a) (down d b' e' h' m' a') = absurd (not_up_and_down depth t b d b' h h' (sym e ∙ e'))
same_ways depth stack after other markers others (down d b e h m a) (up t b' e' h' m' a') = absurd (not_up_and_down depth t b' d b h' h (sym e' ∙ e))
same_ways depth stack after other markers others (down d b e h m a) (down d' b' e' h' m' a') =
    let w = same_down depth d d' b b' h h' (sym e ∙ e') in
    (m ∙ ap (map (λ x. Dedent)) w.0 ∙ sym m', a ∙ ap (◌∷◌ depth) w.1 ∙ sym a')

pub shifts_once : (depth : ℕ) (stack after other : List ℕ) (markers others : List Kind) → Shifts depth stack markers after → Shifts depth stack others other → (markers ≡ others) × (after ≡ other)
shifts_once depth stack after other markers others h k = same_ways depth stack after other markers others (ways depth stack after markers h) (ways depth stack other others k)

not_among : (depth : ℕ) (deeper below : List ℕ) → AllByRecursion (λ d. d ≢ depth) (deeper ++ depth ∷ below) → ⊥
not_among depth [] below h = h.0 refl
not_among depth (x ∷ deeper) below h = not_among depth deeper below h.1

pub misfit_never : (depth : ℕ) (stack after : List ℕ) (markers : List Kind) → IsMisfit depth stack → Shifts depth stack markers after → ⊥
misfit_never depth stack after markers m h = on (ways depth stack after markers h)
  where
    on : Ways depth stack markers after → ⊥
    on (up top below e less k a) = let same : top ≡ m.deepest = cc (e, m.is_stack) in omega (arith, less, m.less, same)
    on (down deeper below e are k a) = not_among depth deeper below (subst (AllByRecursion (λ d. d ≢ depth)) e m.not_open)

pub misfit_or_shifts : (depth : ℕ) (stack : List ℕ) → Descends stack → IsMisfit depth stack ⊎ ((markers : List Kind) × (after : List ℕ) × Shifts depth stack markers after)
misfit_or_shifts depth stack d = on (indented 0 depth stack) refl
  where
    on : (r : Result Depths TokenFault) → indented 0 depth stack ≡ r → IsMisfit depth stack ⊎ ((markers : List Kind) × (after : List ℕ) × Shifts depth stack markers after)
    on (Ok e) h = inr (kinds e.given, e.depths, (indented_shifts 0 depth stack e h).shifts)
    on (Err f) h = inl (indented_fault 0 depth stack f d h).1

-- ---- no token is refused so

abbrev is_bad_indent : TokenFault → Bool
is_bad_indent (BadIndent at) = true
is_bad_indent _ = false

Other : Result Lexeme TokenFault → Type 0
Other (Ok l) = Unit {0}
Other (Err f) = is_bad_indent f ≡ false

other_if : (b : Bool) (r s : Result Lexeme TokenFault) → Other r → Other s → Other (cond b r s)
other_if true r s h k = h
other_if false r s h k = k

other_fault : (f : TokenFault) → is_bad_indent f ≡ false → Other (Err f)
unfolding Other
other_fault f h = h

no_fault : (l : Lexeme) → Other (Ok l)
unfolding Other
no_fault l = tt

other_two : (d b : Bool) (e f : TokenFault) (l : Lexeme) → is_bad_indent e ≡ false → is_bad_indent f ≡ false → Other (cond d (Err e) (cond b (Err f) (Ok l)))
other_two d b e f l h k = other_if d _ _ (other_fault e h) (other_if b _ _ (other_fault f k) (no_fault l))

name_other : (at : ℕ) (bytes : List ℕ) → Other (name_at at bytes)
unfolding name_at
name_other at bytes =
    let width = prefix_len continues_name bytes in
    other_two (ltb 255 width) (next_is is_quote (drop width bytes)) (LongName at) (BadChar (at + width)) (record { kind = named (keyword_of (take width bytes)) (take width bytes); width = width }) refl refl

number_other : (at : ℕ) (bytes : List ℕ) → Other (number_at at bytes)
unfolding number_at
number_other at bytes =
    let width = number_width bytes in
    let value = decimal (take width bytes) in
    other_two (leb (2 ^ 127) value) (next_is follows_no_number (drop width bytes)) (WideNumber at) (BadChar (at + width)) (record { kind = Number (pos value); width = width }) refl refl

text_other_by : (at : ℕ) (bytes : List ℕ) (b : Body) → Other (text_lexeme at bytes b)
text_other_by at bytes Unclosed = other_fault (OpenText at) refl
text_other_by at bytes (Spoiled n) = other_fault (BadChar (at + suc n)) refl
text_other_by at bytes (Closed value width) = other_if (next_is is_quote (drop (suc width) bytes)) _ _ (other_fault (BadChar (at + suc width)) refl) (no_fault _)

text_other : (at c : ℕ) (rest : List ℕ) → Other (text_at at c rest)
unfolding text_at
text_other at c rest = text_other_by at (c ∷ rest) (body c zero rest)

operator_other_by : (at : ℕ) (o : Option operator.Symbol) → Other (operator_lexeme at o)
operator_other_by at None = other_fault (BadChar at) refl
operator_other_by at (Some o) = no_fault _

operator_other : (at : ℕ) (bytes : List ℕ) → Other (operator_at at bytes)
unfolding operator_at
operator_other at bytes = operator_other_by at _

lexeme_other : (at c : ℕ) (rest : List ℕ) → Other (lexeme_at at (c ∷ rest))
unfolding lexeme_at
lexeme_other at c rest =
    other_if (begins_name c) _ _ (name_other at (c ∷ rest))
    (other_if (is_ascii_digit c) _ _ (number_other at (c ∷ rest)) (other_if (is_quote c) _ _ (text_other at c rest) (operator_other at (c ∷ rest))))

bad_indent_not_other : (p : ℕ) → Other (Err (BadIndent p)) → ⊥
unfolding Other
bad_indent_not_other p h = cc h

pub no_bad_indent : (at c p : ℕ) (rest : List ℕ) → lexeme_at at (c ∷ rest) ≡ Err (BadIndent p) → ⊥
no_bad_indent at c p rest h = bad_indent_not_other p (subst Other h (lexeme_other at c rest))
