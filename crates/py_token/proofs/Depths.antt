-- What the first token of a line begins and ends of blocks, and the spaces before it.
use Rattle.std.proofs.Common.{◌≡◌, inl, inr, ◌⊎◌, ℕ, zero, suc, ◌+◌, ◌-◌, ◌<◌, Bool, true, false, cond, eqb, ltb, not, ◌||◌, List, [], ◌∷◌, ◌++◌, take, drop, Some, None, Result, Ok, Err, refl, sym, ap, ◌∙◌, subst, append_assoc, arith}
use Rattle.std.specs.Prelude.{map}
use Rattle.std.specs.List.{prefix_len, AllByRecursion}
use Rattle.std.proofs.lemmas.List.{append-nil, replicate_more, drop-drop}
use borrow.Author.Tests.{ltb-true}
use Rattle.py_token.specs.declared.faults.TokenFault.{TokenFault}
use Rattle.py_token.specs.declared.kinds.Kind.{Kind}
use Rattle.py_token.specs.declared.kinds.Kind.TheVariants.{Indent, Dedent}
use Rattle.py_token.specs.declared.kinds.Token.{Token}
use Rattle.py_token.specs.declared.lines.Depths.{Depths}
use Rattle.py_token.specs.declared.lines.Lexeme.{Lexeme}
use Rattle.py_token.specs.declared.lines.Spot.{Spot}
use Rattle.py_token.specs.declared.lines.Spot.TheVariants.{Start, Inside}
use Rattle.py_token.specs.Spellings.{operators}
use Rattle.py_token.specs.Lexemes.{next_is, ends_line, operator_at, lexeme_at}
use Rattle.py_token.specs.Lines.{token, ends_block, shallower, is_deeper, indented, begun, closing, with_tab, without_tab, in_comment}
use Rattle.py_token.specs.Cuts.{kinds}
use Rattle.py_token.specs.Indentation.{IsDepth, Shifts, opens, ends}
use Rattle.py_token.proofs.Covers.{stops}
use Rattle.py_token.proofs.Escapes.{eqb_is}
use Rattle.py_token.proofs.CutBlocks.{IsStack, positive}
use Rattle.py_token.proofs.CutTurning.{IsFirstByte}

-- ---- the stack

abbrev pub StandAt : ℕ → List Token → Type 0
StandAt at markers = AllByRecursion (λ marker. (marker.start ≡ at) × (marker.end ≡ at)) markers

-- deeper depths end, and that depth is below them
record Ended (at depth : ℕ) (ds : List ℕ) (d : Depths) : Type 0 where
  deeper : List ℕ
  below : List ℕ
  parts : ds ≡ deeper ++ depth ∷ below
  are_deeper : AllByRecursion (λ x. depth < x) deeper
  given : kinds d.given ≡ map (λ x. Dedent) deeper
  leaves : d.depths ≡ depth ∷ below
  places : StandAt at d.given

abbrev IfEnded : ℕ → ℕ → List ℕ → Result Depths TokenFault → Type 0
IfEnded at depth ds (Ok d) = Ended at depth ds d
IfEnded at depth ds (Err f) = Unit {0}

if_ended : (at depth : ℕ) (ds : List ℕ) (b : Bool) (r s : Result Depths TokenFault) → (b ≡ true → IfEnded at depth ds r) → IfEnded at depth ds s → IfEnded at depth ds (cond b r s)
if_ended at depth ds true r s h k = h refl
if_ended at depth ds false r s h k = k

one_ends : (at depth x : ℕ) (ds : List ℕ) (r : Result Depths TokenFault) → depth < x → IfEnded at depth ds r → IfEnded at depth (x ∷ ds) (ends_block at r)
one_ends at depth x ds (Err f) h k = tt
one_ends at depth x ds (Ok d) h k = record {
  deeper = x ∷ k.deeper;
  below = k.below;
  parts = ap (◌∷◌ x) k.parts;
  are_deeper = (h, k.are_deeper);
  given = ap (◌∷◌ Dedent) k.given;
  leaves = k.leaves;
  places = ((refl, omega arith), k.places);
}

shallower_ended : (at depth : ℕ) (ds : List ℕ) → IfEnded at depth ds (shallower at depth ds)
unfolding shallower
shallower_ended at depth [] = tt
shallower_ended at depth (x ∷ ds) =
    if_ended at depth (x ∷ ds) (ltb depth x) _ _ (λ e. one_ends at depth x ds _ (ltb-true depth x e) (shallower_ended at depth ds))
    (if_ended at depth (x ∷ ds) (eqb x depth) _ _ (λ e. let same = eqb_is x depth e in
    record { deeper = []; below = ds; parts = ap (λ y. y ∷ ds) same; are_deeper = tt; given = refl; leaves = ap (λ y. y ∷ ds) same; places = tt }) tt)

pub record Shifted (at depth : ℕ) (ds : List ℕ) (d : Depths) : Type 0 where
  pub shifts : Shifts depth ds (kinds d.given) d.depths
  pub places : StandAt at d.given

shifts_by : (depth : ℕ) (ds deeper below left : List ℕ) (ks : List Kind) → ds ≡ deeper ++ depth ∷ below → AllByRecursion (λ x. depth < x) deeper → ks ≡ map (λ x. Dedent) deeper
    → left ≡ depth ∷ below → Shifts depth ds ks left
shifts_by depth ds deeper below left ks parts are given leaves =
    subst (λ a. Shifts depth a ks left) (sym parts) (subst (λ k. Shifts depth (deeper ++ depth ∷ below) k left) (sym given)
    (subst (Shifts depth (deeper ++ depth ∷ below) (map (λ x. Dedent) deeper)) (sym leaves) (ends deeper below are)))

pub indented_shifts : (at depth : ℕ) (ds : List ℕ) (d : Depths) → indented at depth ds ≡ Ok d → Shifted at depth ds d
unfolding indented
indented_shifts at depth ds d h = on ds (is_deeper depth ds) refl (shallower at depth ds) (shallower_ended at depth ds) h
  where
    on : (ds : List ℕ) (b : Bool) → is_deeper depth ds ≡ b → (r : Result Depths TokenFault) → IfEnded at depth ds r
        → cond b (Ok (record { given = token Indent at 0 ∷ []; depths = depth ∷ ds })) r ≡ Ok d → Shifted at depth ds d
    on [] true e r k h = cc e
    on (x ∷ ds) true e r k h = subst (Shifted at depth (x ∷ ds)) (same _ d h) (record { shifts = opens x ds (ltb-true x depth e); places = ((refl, omega arith), tt) })
      where
        same : (a b : Depths) → ◌≡◌ {A = Result Depths TokenFault} (Ok a) (Ok b) → a ≡ b
        same a b h = cc
    on ds false e (Err f) k h = cc h
    on ds false e (Ok g) k h = subst (Shifted at depth ds) (same g d h) (record { shifts = shifts_by depth ds k.deeper k.below g.depths (kinds g.given) k.parts k.are_deeper k.given k.leaves; places = k.places })
      where
        same : (a b : Depths) → ◌≡◌ {A = Result Depths TokenFault} (Ok a) (Ok b) → a ≡ b
        same a b h = cc

pub begun_shifts : (at from depth : ℕ) (ds : List ℕ) (d : Depths) → at - from ≡ depth → begun at (Start from None) ds ≡ Ok d → Shifted at depth ds d
unfolding begun
begun_shifts at from depth ds d is h = subst (λ n. Shifted at n ds d) is (indented_shifts at (at - from) ds d h)

-- the end ends each depth above 0
record AllEnd (at : ℕ) (ds : List ℕ) : Type 0 where
  deeper : List ℕ
  parts : ds ≡ deeper ++ 0 ∷ []
  are_deeper : AllByRecursion (λ x. 0 < x) deeper
  given : kinds (closing at ds) ≡ map (λ x. Dedent) deeper

above_zero : (at d : ℕ) (more : List Token) → 0 < d → cond (eqb d 0) more (token Dedent at 0 ∷ more) ≡ token Dedent at 0 ∷ more
above_zero at d more h = ap (λ b. cond b more (token Dedent at 0 ∷ more)) (positive d h)

all_end : (at : ℕ) (ds : List ℕ) → IsStack ds → AllEnd at ds
all_end at [] h = absurd h
all_end at (d ∷ []) h = record {
  deeper = [];
  parts = ap (λ x. x ∷ []) h;
  are_deeper = tt;
  given = ap (λ x. kinds (cond (eqb x 0) [] (token Dedent at 0 ∷ []))) h;
}
all_end at (d ∷ e ∷ ds) h =
    let k = all_end at (e ∷ ds) h.1 in
    record {
      deeper = d ∷ k.deeper;
      parts = ap (◌∷◌ d) k.parts;
      are_deeper = (h.0, k.are_deeper);
      given = ap kinds (above_zero at d (closing at (e ∷ ds)) h.0) ∙ ap (◌∷◌ Dedent) k.given;
    }

pub closing_shifts : (at : ℕ) (ds : List ℕ) → IsStack ds → Shifts 0 ds (kinds (closing at ds)) (0 ∷ [])
closing_shifts at ds h = let k = all_end at ds h in shifts_by 0 ds k.deeper [] (0 ∷ []) _ k.parts k.are_deeper k.given refl

-- ---- the spaces

-- the byte at a place
pub at_byte : (code rest : List ℕ) (c at : ℕ) → drop at code ≡ c ∷ rest → (take (suc at) code ≡ take at code ++ c ∷ []) × (drop (suc at) code ≡ rest)
at_byte [] rest c zero h = cc h
at_byte (x ∷ xs) rest c zero h = (cc, cc)
at_byte [] rest c (suc n) h = cc h
at_byte (x ∷ xs) rest c (suc n) h = let w = at_byte xs rest c n h in (ap (◌∷◌ x) w.0, w.1)

-- Before a place that is read next, at a line's start and with no tab so far, are spaces, or the line ends there.
abbrev pub IsAt : List ℕ → ℕ → Spot → Type 0
IsAt code p (Start from None) = ((n : ℕ) × (p ≡ from + n) × IsDepth code p n) ⊎ (next_is in_comment (drop p code) ≡ false)
IsAt code p (Start from (Some tab)) = Unit {0}
IsAt code p Inside = Unit {0}

pub at_blank : (code rest : List ℕ) (p : ℕ) (spot : Spot) → drop p code ≡ 32 ∷ rest → IsAt code p spot → IsAt code (suc p) spot
at_blank code rest p (Start from None) h (inl w) =
    let before = (at_byte code rest 32 p h).0 in
    inl (
      w.0 + 1,
      omega (arith, w.1),
      record {
        above = w.2.above;
        spaces = before ∙ ap (λ b. b ++ 32 ∷ []) w.2.spaces ∙ append_assoc w.2.above _ _ ∙ ap (λ b. w.2.above ++ b) (replicate_more w.0 32);
        begins = w.2.begins;
      },
    )
at_blank code rest p (Start from None) h (inr e) = let no : true ≡ false = sym (ap (next_is in_comment) h) ∙ e in cc no
at_blank code rest p (Start from (Some tab)) h k = tt
at_blank code rest p Inside h k = tt

pub at_tab : (code : List ℕ) (p q : ℕ) (spot : Spot) → IsAt code p (with_tab q spot)
at_tab code p q (Start from None) = tt
at_tab code p q (Start from (Some tab)) = tt
at_tab code p q Inside = tt

pub at_comment : (code rest : List ℕ) (c p : ℕ) (spot : Spot) → drop p code ≡ c ∷ rest → IsAt code (suc p + prefix_len in_comment rest) (without_tab spot)
at_comment code rest c p (Start from tab) h =
    let there : drop (suc p + prefix_len in_comment rest) code ≡ drop (prefix_len in_comment rest) rest
    = sym (drop-drop (prefix_len in_comment rest) (suc p) code) ∙ ap (drop (prefix_len in_comment rest)) (at_byte code rest c p h).1 in
    inr (ap (next_is in_comment) there ∙ stops in_comment rest)
at_comment code rest c p Inside h = tt

pub at_feed : (code rest : List ℕ) (p : ℕ) → drop p code ≡ 10 ∷ rest → IsAt code (suc p) (Start (p + 1) None)
at_feed code rest p h =
    inl (
      0,
      omega arith,
      record {
        above = take p code ++ 10 ∷ [];
        spaces = (at_byte code rest 10 p h).0 ∙ sym (append-nil (take p code ++ 10 ∷ []));
        begins = inr (take p code, refl);
      },
    )

feed_next : (rest : List ℕ) → ends_line rest ≡ true → next_is in_comment rest ≡ false
feed_next [] h = cc
feed_next (x ∷ xs) h = ap in_comment (eqb_is x 10 h)

pub at_return : (code rest : List ℕ) (p : ℕ) (spot : Spot) → drop p code ≡ 13 ∷ rest → ends_line rest ≡ true → IsAt code (suc p) spot
at_return code rest p (Start from None) h e = inr (ap (next_is in_comment) (at_byte code rest 13 p h).1 ∙ feed_next rest e)
at_return code rest p (Start from (Some tab)) h e = tt
at_return code rest p Inside h e = tt

no_return : (at : ℕ) (rest : List ℕ) (l : Lexeme) → lexeme_at at (13 ∷ rest) ≡ Ok l → ⊥
unfolding lexeme_at operator_at operators
no_return at rest l h = cc h

is_return : (b d : Bool) → b ≡ false → not (b || d) ≡ false → d ≡ true
is_return true d e h = cc e
is_return false true e h = refl
is_return false false e h = cc h

-- a word stands at the depth of its line
pub word_depth : (code rest : List ℕ) (c p from : ℕ) (l : Lexeme) → drop p code ≡ c ∷ rest → IsAt code p (Start from None) → IsFirstByte c rest → lexeme_at p (c ∷ rest) ≡ Ok l
    → (n : ℕ) × (p - from ≡ n) × IsDepth code p n
word_depth code rest c p from l h (inl w) b e = (w.0, omega (arith, w.1), w.2)
word_depth code rest c p from l h (inr w) b e =
    let same : c ≡ 13 = eqb_is c 13 (is_return (eqb c 10) (eqb c 13) b.feed (sym (ap (next_is in_comment) h) ∙ w)) in
    absurd (no_return p rest l (subst (λ k. lexeme_at p (k ∷ rest) ≡ Ok l) same e))
