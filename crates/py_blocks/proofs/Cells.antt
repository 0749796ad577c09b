-- What is held of a whole cell: its tree, and the first place at each depth in it.
use Rattle.std.proofs.Common.{◌≡◌, ℕ, ◌+◌, ◌-◌, ◌<◌, ◌≤◌, suc, max, true, false, IsTrue, List, [], ◌∷◌, ◌++◌, length, Option, Some, None, refl, ap, ◌∙◌, sym, subst, append-nil, arith}
use Rattle.py_token.specs.declared.kinds.Kind.{Kind}
use Rattle.py_token.specs.declared.kinds.Kind.TheVariants as t
use Rattle.py_grammar.specs.Statements.{Statements, statements_one, statements_more, spell_statement, spell_statements, spell_front, outside_all, statements_stand, Cell, IsCell, spelling, front_stands}
use Rattle.py_grammar.specs.States as m
use Rattle.py_grammar.specs.Trees.{Source, tree_statement, tree_top, tree_cell}
use Rattle.py_grammar.specs.Depth.{in_cell}
use Rattle.py_grammar.proofs.Standing.{Spelling}
use Rattle.py_grammar.proofs.Places.{statement-tokens, statements-tokens}
use Rattle.py_grammar.proofs.Whole.{is_read}
use Rattle.py_frames.specs.Under.{first, nth, placed}
use Rattle.py_frames.proofs.Trees.{left-less, right-less}
use Rattle.py_blocks.specs.Blocks.{Texts, nothing}
use Rattle.py_blocks.specs.Kept.{under_statement, under_statements, kept_whole, kept_statements}
use Rattle.py_blocks.specs.Held.{held_done}
use Rattle.py_blocks.specs.Follows.{Follows, forms_run, run, from_start, by_place, HoldsCell, ReadsCells}
use Rattle.py_blocks.specs.Steps.{start}
use Rattle.py_blocks.proofs.Deep.{statements-row}
use Rattle.py_blocks.proofs.Following.{run-follows}
use Rattle.py_blocks.proofs.Trees.{statement-kept}

length-joined : (xs ys : List Kind) → length (xs ++ ys) ≡ length xs + length ys
length-joined [] ys = omega arith
length-joined (x ∷ xs) ys = let h = length-joined xs ys in omega arith

spelled-length : {f : List Kind → List Kind} → Spelling f → (rest : List Kind) → length (f rest) ≡ length (f []) + length rest
spelled-length {f} s rest =
    let a = ap length (s.spelled rest) in
    let b = length-joined s.tokens rest in
    let c = ap length (s.spelled []) in
    let d = length-joined s.tokens [] in
    omega (arith, a, b, c, d)

-- how many tokens are before a place
before-place : (most all left n : ℕ) → all ≤ most → all ≡ n + left → most - from_start most all left ≡ n
before-place most all left n k e = omega (arith, k, e)

same-source : (source : Source) (a b c d : ℕ) → a ≡ c → b ≡ d → source a b ≡ source c d
same-source source a b c d e f = ap (λ x. source x b) e ∙ ap (source c) f

below : (x : ℕ) (p : List ℕ) → length (x ∷ p) < 65 → length p < 64
below x p h = omega (arith, h)

top-kept : (source : Source) (most all : ℕ) (ss : Statements) (rest : List Kind) (e : List Kind → List Kind) → statements_stand ss outside_all e → length (under_statements (from_start most all) ss rest) < 65 → all ≡ length (spell_statements ss rest) → all ≤ most
    → kept_statements (from_start most all) (by_place source most) ss rest ≡ tree_top source ss
top-kept source most all (statements_one x) rest e stands h is in_all =
    let l = spelled-length (statement-tokens x) rest in
    let from = before-place most all (length (spell_statement x rest)) 0 in_all (omega (arith, is)) in
    let to = before-place most all (length rest) (length (spell_statement x [])) in_all (omega (arith, is, l)) in
    ap (λ y. y ∷ []) (statement-kept (from_start most all) (by_place source most) x rest _ outside_all e stands (below (from_start most all (length (spell_statement x rest))) (under_statement (from_start most all) x rest) h)
    (λ top. same-source source 0 (length (spell_statement x [])) _ _ (sym from) (sym to)))
top-kept source most all (statements_more xs x) rest e stands h is in_all =
    let l = spelled-length (statement-tokens x) rest in
    let k = spelled-length (statements-tokens xs) (spell_statement x rest) in
    let j = spelled-length (statements-tokens xs) (spell_statement x []) in
    let from = before-place most all (length (spell_statement x rest)) (length (spell_statements xs [])) in_all (omega (arith, is, k)) in
    let to = before-place most all (length rest) (length (spell_statements xs (spell_statement x []))) in_all (omega (arith, is, j, k, l)) in
    let p = left-less (under_statements (from_start most all) xs (spell_statement x rest)) (from_start most all (length (spell_statement x rest)) ∷ under_statement (from_start most all) x rest) 65 h in
    let q = right-less (under_statements (from_start most all) xs (spell_statement x rest)) (from_start most all (length (spell_statement x rest)) ∷ under_statement (from_start most all) x rest) 65 h in
    ap (λ ys. ys ++ kept_whole (from_start most all) (by_place source most) x rest ∷ []) (top-kept source most all xs (spell_statement x rest) e stands.0 p is in_all)
    ∙ ap (λ y. tree_top source xs ++ y ∷ []) (statement-kept (from_start most all) (by_place source most) x rest _ outside_all _ stands.1 (below (from_start most all (length (spell_statement x rest))) (under_statement (from_start most all) x rest) q)
    (λ top. same-source source (length (spell_statements xs [])) (length (spell_statements xs (spell_statement x []))) _ _ (sym from) (sym to)))

-- an earlier token has the greater place
pub fair : (most all a b : ℕ) → from_start most all (max a b) ≡ max (from_start most all a) (from_start most all b)
fair most all a b = omega arith

-- the first place at each depth
pub cell-places : (most : ℕ) (texts : Texts) (c : Cell) (depth : ℕ) → placed (from_start most (length (spelling c))) (first (in_cell c depth)) ≡ nth depth (held_done (from_start most (length (spelling c))) texts c (t.End ∷ [])).under
cell-places most texts None depth = refl
cell-places most texts (Some ss) depth = (statements-row (from_start most (length (spelling (Some ss)))) (fair most (length (spelling (Some ss)))) ss (t.End ∷ []) depth).is

holds : (source : Source) (most : ℕ) (c : Cell) → front_stands c outside_all (λ rest. rest) → length (spelling c) ≤ most → HoldsCell source most c (held_done (from_start most (length (spelling c))) (by_place source most) c (t.End ∷ []))
holds source most None stands in_all = record { tree = λ h. refl; places = cell-places most (by_place source most) None }
holds source most (Some ss) stands in_all = record {
  tree = λ h. top-kept source most (length (spelling (Some ss))) ss (t.End ∷ []) (λ rest. rest) stands (omega (arith, h)) refl in_all;
  places = cell-places most (by_place source most) (Some ss);
}

pub reads-cells : ReadsCells
reads-cells source most tokens c is in_all =
    let all : length (tokens ++ []) ≡ length (spelling c) = ap length (append-nil tokens) ∙ ap length is.spelled in
    let f = subst (λ n. Follows (from_start most n) (by_place source most) [] (run false (by_place source most) most start tokens) (forms_run false m.start tokens)) all (run-follows false (by_place source most) most tokens []) in
    let g = subst (Follows (from_start most (length (spelling c))) (by_place source most) [] (run false (by_place source most) most start tokens)) (is_read tokens c is) f in
    (held_done (from_start most (length (spelling c))) (by_place source most) c (t.End ∷ []), g.0, g.1, holds source most c is.stands (subst (λ ks. length ks ≤ most) is.spelled in_all))
