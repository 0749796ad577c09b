-- The targets that are seen are those of the forms.
use Rattle.std.proofs.Common.{◌≡◌, ℕ, suc, ◌<◌, ◌≤◌, Bool, true, false, ◌&&◌, List, [], ◌∷◌, ◌++◌, map, length, drop, Option, Some, None, refl, ap, ◌∙◌, sym, arith}
use Rattle.std.proofs.lemmas.List.{map-append}
use Rattle.py_token.specs.declared.kinds.Kind.{Kind}
use Rattle.py_tree.specs.declared.expressions.Expr.{Expr, out-Expr, out-roll-Expr}
use Rattle.py_tree.specs.declared.expressions.Expr.TheOpen.{Expr-F}
use Rattle.py_tree.specs.declared.expressions.Expr.TheVariants as e
use Rattle.py_tree.specs.declared.expressions.Target.TheVariants as m
use Rattle.py_grammar.specs.Words.{comma, open_bracket, close_bracket}
use Rattle.py_grammar.specs.Expressions.{Expression, plain, ors_one, ands_one, compared, compares_one, sums_one, products_one, unsigned, name, index, Elements, elements_one, elements_more, Exprs, single, tuple, tuple_comma, spell_expression, spell_primary}
use Rattle.py_grammar.specs.Statements.{Target, Places}
use Rattle.py_grammar.specs.States.{primary_alone, target_of, first_place, more_places, places_of, undivided_targets, divided_targets, targets_in}
use Rattle.py_grammar.specs.Trees.{tree_target, tree_places}
use Rattle.py_frames.specs.Values.{beside}
use Rattle.py_frames.specs.Under.{all, under_expression, under_primary, under_exprs, inner_elements}
use Rattle.py_frames.specs.Kept.{kept_expression, kept_elements}
use Rattle.py_frames.specs.Held.{target_expression, target_elements, seen}
use Rattle.py_frames.specs.Targets as s
use Rattle.py_frames.specs.Targets.{sight_if, Agrees}
use Rattle.py_frames.proofs.Trees.{expression-kept, primary-kept, left-less, right-less, less-test}

pub name_target : (n : List ℕ) → s.target_of (e.Name n) ≡ m.Name n
name_target n = ap (λ x. s.target_in (out-Expr x)) (sym (e.rolls-Name n)) ∙ ap s.target_in (out-roll-Expr (Expr-F.Name n))

pub item_target : (p a : Expr) → s.target_of (e.Index p a) ≡ m.Item p a
item_target p a = ap (λ x. s.target_in (out-Expr x)) (sym (e.rolls-Index p a)) ∙ ap s.target_in (out-roll-Expr (Expr-F.Index p a))

module _ (place : ℕ → ℕ) where
  -- one that may be a target is one, with its tree
  abbrev One : Bool → Expr → ℕ → Option Target → Type 0
  One false x deep None = Unit {0}
  One true x deep (Some a) = deep < 64 → s.target_of x ≡ tree_target a
  One _ x deep _ = ⊥

  in-less : (tokens : List Kind) (p : List ℕ) → length (all place tokens p) < 64 → length p < 64
  in-less tokens p h = omega (arith, h)

  element-agrees : (a : Expression) (rest : List Kind) → One (target_expression a) (kept_expression place a rest) (length (under_expression place a rest)) (target_of (primary_alone a))
  element-agrees (plain (ors_one (ands_one (compared (compares_one (sums_one (products_one (unsigned (name n))))))))) rest = λ h. name_target n
  element-agrees (plain (ors_one (ands_one (compared (compares_one (sums_one (products_one (unsigned (index p a))))))))) rest = λ h.
      rw (less-test (length (under_primary place (index p a) rest)) h) (let x = primary-kept place p (open_bracket ∷ spell_expression a (close_bracket ∷ rest)) (in-less (spell_primary p (open_bracket ∷ spell_expression a (close_bracket ∷ rest))) (under_primary place p (open_bracket ∷ spell_expression a (close_bracket ∷ rest))) (left-less (all place (spell_primary p (open_bracket ∷ spell_expression a (close_bracket ∷ rest))) (under_primary place p (open_bracket ∷ spell_expression a (close_bracket ∷ rest)))) (all place (spell_expression a (close_bracket ∷ rest)) (under_expression place a (close_bracket ∷ rest))) 64 h)) in
      let y = expression-kept place a (close_bracket ∷ rest) (in-less (spell_expression a (close_bracket ∷ rest)) (under_expression place a (close_bracket ∷ rest)) (right-less (all place (spell_primary p (open_bracket ∷ spell_expression a (close_bracket ∷ rest))) (under_primary place p (open_bracket ∷ spell_expression a (close_bracket ∷ rest)))) (all place (spell_expression a (close_bracket ∷ rest)) (under_expression place a (close_bracket ∷ rest))) 64 h)) in item_target _ _ ∙ cc)
  element-agrees _ rest = tt

  -- and of several
  abbrev Many : Bool → List Expr → ℕ → Option Places → Type 0
  Many false xs deep None = Unit {0}
  Many true xs deep (Some ts) = deep < 65 → map s.target_of xs ≡ tree_places ts
  Many _ xs deep _ = ⊥

  join-one : (b c : Bool) (xs : List Expr) (x : Expr) (deep one most : ℕ) (ts : Option Places) (t : Option Target) → Many b xs deep ts → One c x one t → deep ≤ most → suc one ≤ most
      → Many (b && c) (xs ++ x ∷ []) most (more_places ts t)
  join-one false c xs x deep one most None t h k i j = tt
  join-one false c xs x deep one most (Some ts) t h k i j = elim h [ ]
  join-one true false xs x deep one most None t h k i j = elim h [ ]
  join-one true false xs x deep one most (Some ts) (Some t) h k i j = elim k [ ]
  join-one true true xs x deep one most None t h k i j = elim h [ ]
  join-one true true xs x deep one most (Some ts) None h k i j = elim k [ ]
  join-one true false xs x deep one most (Some ts) None h k i j = tt
  join-one true true xs x deep one most (Some ts) (Some t) h k i j = λ l. map-append s.target_of xs (x ∷ []) ∙ (let p = h (omega (arith, l, i)) in let q = k (omega (arith, l, j)) in cc)

  one-as-many : (c : Bool) (x : Expr) (one most : ℕ) (t : Option Target) → One c x one t → suc one ≤ most → Many c (x ∷ []) most (first_place t)
  one-as-many false x one most None h j = tt
  one-as-many false x one most (Some t) h j = elim h [ ]
  one-as-many true x one most None h j = elim h [ ]
  one-as-many true x one most (Some t) h j = λ l. let q = h (omega (arith, l, j)) in cc

  left-shorter : (p q : List ℕ) → length p ≤ length (beside p q)
  left-shorter [] q = omega arith
  left-shorter (x ∷ p) [] = omega arith
  left-shorter (x ∷ p) (y ∷ q) = let h = left-shorter p q in omega (arith, h)

  right-shorter : (p q : List ℕ) → length q ≤ length (beside p q)
  right-shorter [] q = omega arith
  right-shorter (x ∷ p) [] = omega arith
  right-shorter (x ∷ p) (y ∷ q) = let h = right-shorter p q in omega (arith, h)

  elements-agree : (es : Elements) (rest : List Kind) → Many (target_elements es) (kept_elements place es rest) (length (inner_elements place [] es rest)) (places_of es)
  elements-agree (elements_one a) rest = one-as-many (target_expression a) _ _ _ _ (element-agrees a rest) (omega arith)
  elements-agree (elements_more es a) rest = join-one (target_elements es) (target_expression a) _ _ _ _ _ _ _ (elements-agree es (comma ∷ spell_expression a rest)) (element-agrees a rest)
      (left-shorter (inner_elements place [] es (comma ∷ spell_expression a rest)) (all place (spell_expression a rest) (under_expression place a rest))) (right-shorter (inner_elements place [] es (comma ∷ spell_expression a rest)) (all place (spell_expression a rest) (under_expression place a rest)))

  single-agrees : (b : Bool) (x : Expr) (under : List ℕ) (t : Option Target) → One b x (length under) t → Agrees (sight_if false b (x ∷ []) under) (undivided_targets (first_place t))
  single-agrees false x under None h = tt
  single-agrees false x under (Some t) h = elim h [ ]
  single-agrees true x under None h = elim h [ ]
  single-agrees true x under (Some t) h = (refl, λ l. let q = h l in cc)

  dropped : (p : List ℕ) → length (drop 1 p) < 64 → length p < 65
  dropped [] h = omega arith
  dropped (x ∷ p) h = omega (arith, h)

  more-agree : (b : Bool) (xs : List Expr) (under : List ℕ) (ts : Option Places) (t : Option Target) → Many b xs (length under) (more_places ts t) → Agrees (sight_if true b xs (drop 1 under)) (undivided_targets (more_places ts t))
  more-agree false xs under None t h = tt
  more-agree false xs under (Some ts) None h = tt
  more-agree false xs under (Some ts) (Some t) h = elim h [ ]
  more-agree true xs under None t h = elim h [ ]
  more-agree true xs under (Some ts) None h = elim h [ ]
  more-agree true xs under (Some ts) (Some t) h = (refl, λ l. h (dropped under l))

  comma-agrees : (b : Bool) (xs : List Expr) (under : List ℕ) (ts : Option Places) → Many b xs (length under) ts → Agrees (sight_if true b xs (drop 1 under)) (divided_targets ts)
  comma-agrees false xs under None h = tt
  comma-agrees false xs under (Some ts) h = elim h [ ]
  comma-agrees true xs under None h = elim h [ ]
  comma-agrees true xs under (Some ts) h = (refl, λ l. h (dropped under l))

  pub exprs-agree : (x : Exprs) (rest : List Kind) → Agrees (seen place x rest) (targets_in x)
  exprs-agree (single a) rest = single-agrees (target_expression a) (kept_expression place a rest) (under_expression place a rest) (target_of (primary_alone a)) (element-agrees a rest)
  exprs-agree (tuple es a) rest = more-agree (target_elements es && target_expression a) (kept_elements place es (comma ∷ spell_expression a rest) ++ kept_expression place a rest ∷ []) (under_exprs place (tuple es a) rest) (places_of es) (target_of (primary_alone a)) (elements-agree (elements_more es a) rest)
  exprs-agree (tuple_comma es) rest = comma-agrees (target_elements es) (kept_elements place es (comma ∷ rest)) (under_exprs place (tuple_comma es) rest) (places_of es) (elements-agree es (comma ∷ rest))
