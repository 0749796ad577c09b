-- The tree that is kept of a statement that isn't too deep is its tree.
use Rattle.std.proofs.Common.{◌≡◌, ℕ, ◌<◌, ◌≤◌, true, IsTrue, if◌then◌else◌, nat_lt, List, [], ◌∷◌, ◌++◌, length, Some, None, refl, ap, ◌∙◌, sym, arith}
use Rattle.std.proofs.lemmas.Bool.{false≢true}
use Rattle.py_token.specs.declared.kinds.Kind.{Kind}
use Rattle.py_token.specs.declared.kinds.Kind.TheVariants as t
use Rattle.py_tree.specs.declared.expressions.Op.TheVariants as o
use Rattle.py_tree.specs.declared.statements.Stmt.{Stmt}
use Rattle.py_tree.specs.declared.statements.Stmt.TheVariants as s
use Rattle.py_tree.specs.declared.statements.Def.{roll-Def}
use Rattle.py_grammar.specs.Words.{else_word, elif_word, assign_sign, colon, comma}
use Rattle.py_grammar.specs.Expressions.{Expression, index, Exprs, spell_expression, spell_exprs}
use Rattle.py_grammar.specs.Statements.{Target, to_name, to_item, Places, places_one, places_more, Targets, targets, targets_comma, by_plus, by_minus, by_times, by_floor, by_modulo, word, pass_, break_, continue_, Simple, return_, give, declare, delete, assign, augment, show, spell_target, augmentation_sign, spell_simple, Statement, simple, compound, Head, choose, otherwise, while_true, for_each, define, Condition, if_true, else_if, Branches, branches, Block, inline, indented, Statements, statements_one, statements_more, spell_statement, spell_block, Around, inside, hear, statement_stands, head_stands, condition_stands, branches_stand, block_stands, statements_stand}
use Rattle.py_grammar.specs.Trees.{tree_primary, tree_expression, tree_exprs, tree_target, tree_places, tree_targets, tree_simple, condition_test, tree_statement, tree_compound, arms_before, arms, tree_block, tree_statements, tree_params, tree_variables, variables_divided}
use Rattle.py_frames.specs.Values.{beside}
use Rattle.py_frames.specs.Under.{under_expression, under_exprs}
use Rattle.py_frames.specs.Kept.{kept_expression, kept_exprs}
use Rattle.py_frames.specs.Targets.{target_of}
use Rattle.py_frames.proofs.Seen.{name_target, item_target}
use Rattle.py_frames.proofs.Trees.{left-less, right-less, less-test, expression-kept, exprs-kept, primary-kept}
use Rattle.py_blocks.specs.Blocks.{Texts, kept_statement}
use Rattle.py_blocks.specs.Kept.{places_expression, places_exprs, under_target, under_places, under_targets, under_simple, under_line, under_statement, under_head, under_condition, under_branches, under_block, under_statements, kept_target, kept_places, kept_targets, kept_simple, kept_line, kept_test, kept_whole, kept_compound, kept_arms_before, kept_arms, kept_block, kept_statements}

module _ (place : ℕ → ℕ) where
  below : (x : ℕ) (p : List ℕ) → length (x ∷ p) < 64 → length p < 64
  below x p h = omega (arith, h)

  kept-same : (under : List ℕ) (tree : Stmt) → length under < 64 → kept_statement under tree ≡ tree
  kept-same under tree h = ap (λ b. if b then tree else s.Pass) (less-test (length under) h)

  -- ---- simple statements

  target-kept : (to : Target) (rest : List Kind) → length (under_target place to rest) < 64 → kept_target place to rest ≡ tree_target to
  target-kept (to_name n) rest h = name_target n
  target-kept (to_item p a) rest h = ap target_of (primary-kept place (index p a) rest h) ∙ item_target (tree_primary p) (tree_expression a)

  places-kept : (ps : Places) (rest : List Kind) → length (under_places place ps rest) < 64 → kept_places place ps rest ≡ tree_places ps
  places-kept (places_one to) rest h = ap (λ x. x ∷ []) (target-kept to rest h)
  places-kept (places_more ps to) rest h =
      let x = places-kept ps (comma ∷ spell_target to rest) (left-less (under_places place ps (comma ∷ spell_target to rest)) (under_target place to rest) 64 h) in
      let y = target-kept to rest (right-less (under_places place ps (comma ∷ spell_target to rest)) (under_target place to rest) 64 h) in
      cc

  targets-kept : (ts : Targets) (rest : List Kind) → length (under_targets place ts rest) < 64 → kept_targets place ts rest ≡ tree_targets ts
  targets-kept (targets ps) rest h = places-kept ps rest h
  targets-kept (targets_comma ps) rest h = places-kept ps (comma ∷ rest) h

  whole-kept : (a : Exprs) (rest : List Kind) → length (places_exprs place a rest) < 64 → kept_exprs place a rest ≡ tree_exprs a
  whole-kept a rest h = exprs-kept place a rest (below (place (length (spell_exprs a rest))) (under_exprs place a rest) h)

  one-kept : (a : Expression) (rest : List Kind) → length (places_expression place a rest) < 64 → kept_expression place a rest ≡ tree_expression a
  one-kept a rest h = expression-kept place a rest (below (place (length (spell_expression a rest))) (under_expression place a rest) h)

  simple-kept : (x : Simple) (rest : List Kind) → length (under_simple place x rest) < 64 → kept_simple place x rest ≡ tree_simple x
  simple-kept (word pass_) rest h = refl
  simple-kept (word break_) rest h = refl
  simple-kept (word continue_) rest h = refl
  simple-kept return_ rest h = refl
  simple-kept (give a) rest h = ap (λ x. s.Return (Some x)) (whole-kept a rest h)
  simple-kept (declare ns) rest h = refl
  simple-kept (delete to) rest h = ap s.Delete (target-kept to rest h)
  simple-kept (assign ts a) rest h =
      let x = targets-kept ts (assign_sign ∷ spell_exprs a rest) (left-less (under_targets place ts (assign_sign ∷ spell_exprs a rest)) (places_exprs place a rest) 64 h) in
      let y = whole-kept a rest (right-less (under_targets place ts (assign_sign ∷ spell_exprs a rest)) (places_exprs place a rest) 64 h) in
      cc
  simple-kept (augment to by_plus a) rest h =
      let x = target-kept to (augmentation_sign by_plus ∷ spell_exprs a rest) (left-less (under_target place to (augmentation_sign by_plus ∷ spell_exprs a rest)) (places_exprs place a rest) 64 h) in
      let y = whole-kept a rest (right-less (under_target place to (augmentation_sign by_plus ∷ spell_exprs a rest)) (places_exprs place a rest) 64 h) in
      ap (λ z. s.Augment z o.Plus (kept_exprs place a rest)) x ∙ ap (s.Augment (tree_target to) o.Plus) y
  simple-kept (augment to by_minus a) rest h =
      let x = target-kept to (augmentation_sign by_minus ∷ spell_exprs a rest) (left-less (under_target place to (augmentation_sign by_minus ∷ spell_exprs a rest)) (places_exprs place a rest) 64 h) in
      let y = whole-kept a rest (right-less (under_target place to (augmentation_sign by_minus ∷ spell_exprs a rest)) (places_exprs place a rest) 64 h) in
      ap (λ z. s.Augment z o.Minus (kept_exprs place a rest)) x ∙ ap (s.Augment (tree_target to) o.Minus) y
  simple-kept (augment to by_times a) rest h =
      let x = target-kept to (augmentation_sign by_times ∷ spell_exprs a rest) (left-less (under_target place to (augmentation_sign by_times ∷ spell_exprs a rest)) (places_exprs place a rest) 64 h) in
      let y = whole-kept a rest (right-less (under_target place to (augmentation_sign by_times ∷ spell_exprs a rest)) (places_exprs place a rest) 64 h) in
      ap (λ z. s.Augment z o.Times (kept_exprs place a rest)) x ∙ ap (s.Augment (tree_target to) o.Times) y
  simple-kept (augment to by_floor a) rest h =
      let x = target-kept to (augmentation_sign by_floor ∷ spell_exprs a rest) (left-less (under_target place to (augmentation_sign by_floor ∷ spell_exprs a rest)) (places_exprs place a rest) 64 h) in
      let y = whole-kept a rest (right-less (under_target place to (augmentation_sign by_floor ∷ spell_exprs a rest)) (places_exprs place a rest) 64 h) in
      ap (λ z. s.Augment z o.Floor (kept_exprs place a rest)) x ∙ ap (s.Augment (tree_target to) o.Floor) y
  simple-kept (augment to by_modulo a) rest h =
      let x = target-kept to (augmentation_sign by_modulo ∷ spell_exprs a rest) (left-less (under_target place to (augmentation_sign by_modulo ∷ spell_exprs a rest)) (places_exprs place a rest) 64 h) in
      let y = whole-kept a rest (right-less (under_target place to (augmentation_sign by_modulo ∷ spell_exprs a rest)) (places_exprs place a rest) 64 h) in
      ap (λ z. s.Augment z o.Mod (kept_exprs place a rest)) x ∙ ap (s.Augment (tree_target to) o.Mod) y
  simple-kept (show a) rest h = ap s.Expression (whole-kept a rest h)

  line-kept : (x : Simple) (rest : List Kind) → length (under_line place x rest) < 64 → kept_line place x rest ≡ tree_simple x
  line-kept x rest h = kept-same (under_line place x rest) _ h ∙ simple-kept x (t.Newline ∷ rest) h

  -- ---- blocks

  not-top : (h : Head) (a : Around) → IsTrue (inside h a).top → ⊥
  not-top (choose c) a h = false≢true h
  not-top (otherwise bs) a h = false≢true h
  not-top (while_true e) a h = false≢true h
  not-top (for_each vs e) a h = false≢true h
  not-top (define n ps) a h = false≢true h

  test-kept : (c : Condition) (rest : List Kind) → length (under_condition place c rest) < 64 → kept_test place c rest ≡ condition_test c
  test-kept (if_true a) rest h = one-kept a (colon ∷ rest) h
  test-kept (else_if bs a) rest h = one-kept a (colon ∷ rest) (right-less (under_branches place bs (elif_word ∷ spell_expression a (colon ∷ rest))) (places_expression place a (colon ∷ rest)) 64 h)

  mutual
    -- where a function may be, this is its text
    pub statement-kept : (texts : Texts) (x : Statement) (rest : List Kind) (source : List ℕ) (a : Around) (e : List Kind → List Kind) → statement_stands x a e → length (under_statement place x rest) < 64
        → (IsTrue a.top → source ≡ texts (place (length (spell_statement x rest))) (place (length rest))) → kept_whole place texts x rest ≡ tree_statement source x
    statement-kept texts (simple x) rest source a e stands h is = line-kept x rest h
    statement-kept texts (compound hd b) rest source a e stands h is =
        kept-same (beside (under_head place hd (spell_block b rest)) (under_block place b rest)) _ h
        ∙ compound-kept texts hd b rest source a e stands (left-less (under_head place hd (spell_block b rest)) (under_block place b rest) 64 h) (block-kept texts b rest (inside hd a) (hear hd e) stands.1 (not-top hd a) (right-less (under_head place hd (spell_block b rest)) (under_block place b rest) 64 h)) is

    compound-kept : (texts : Texts) (hd : Head) (b : Block) (rest : List Kind) (source : List ℕ) (a : Around) (e : List Kind → List Kind) → statement_stands (compound hd b) a e → length (under_head place hd (spell_block b rest)) < 64 → kept_block place texts b rest ≡ tree_block b
        → (IsTrue a.top → source ≡ texts (place (length (spell_statement (compound hd b) rest))) (place (length rest))) → kept_compound place texts hd (spell_block b rest) (kept_block place texts b rest) (texts (place (length (spell_statement (compound hd b) rest))) (place (length rest))) ≡ tree_compound source hd (tree_block b)
    compound-kept texts (choose c) b rest source a e stands h k is =
        let x = before-kept texts c (spell_block b rest) a e stands.0 h in
        let y = test-kept c (spell_block b rest) h in
        ap (λ z. s.If (z ++ record { test = kept_test place c (spell_block b rest); body = kept_block place texts b rest } ∷ []) []) x
        ∙ ap (λ z. s.If (arms_before c ++ record { test = z; body = kept_block place texts b rest } ∷ []) []) y
        ∙ ap (λ z. s.If (arms_before c ++ record { test = condition_test c; body = z } ∷ []) []) k
    compound-kept texts (otherwise bs) b rest source a e stands h k is =
        let x = arms-kept texts bs (else_word ∷ colon ∷ spell_block b rest) a e stands.0 h in
        ap (λ z. s.If z (kept_block place texts b rest)) x ∙ ap (s.If (arms bs)) k
    compound-kept texts (while_true x) b rest source a e stands h k is =
        let y = one-kept x (colon ∷ spell_block b rest) h in
        ap (λ z. s.While z (kept_block place texts b rest)) y ∙ ap (s.While (tree_expression x)) k
    compound-kept texts (for_each vs x) b rest source a e stands h k is =
        let y = whole-kept x (colon ∷ spell_block b rest) h in
        ap (λ z. s.For (tree_variables vs) (variables_divided vs) z (kept_block place texts b rest)) y ∙ ap (s.For (tree_variables vs) (variables_divided vs) (tree_exprs x)) k
    compound-kept texts (define n ps) b rest source a e stands h k is =
        ap (λ z. s.Function (roll-Def (record { name = n; params = tree_params ps; body = z; source = texts (place (length (spell_statement (compound (define n ps) b) rest))) (place (length rest)) }))) k
        ∙ ap (λ z. s.Function (roll-Def (record { name = n; params = tree_params ps; body = tree_block b; source = z }))) (sym (is stands.0.0))

    before-kept : (texts : Texts) (c : Condition) (rest : List Kind) (a : Around) (e : List Kind → List Kind) → condition_stands c a e → length (under_condition place c rest) < 64 → kept_arms_before place texts c rest ≡ arms_before c
    before-kept texts (if_true x) rest a e stands h = refl
    before-kept texts (else_if bs x) rest a e stands h = arms-kept texts bs (elif_word ∷ spell_expression x (colon ∷ rest)) a e stands (left-less (under_branches place bs (elif_word ∷ spell_expression x (colon ∷ rest))) (places_expression place x (colon ∷ rest)) 64 h)

    arms-kept : (texts : Texts) (bs : Branches) (rest : List Kind) (a : Around) (e : List Kind → List Kind) → branches_stand bs a e → length (under_branches place bs rest) < 64 → kept_arms place texts bs rest ≡ arms bs
    arms-kept texts (branches c b) rest a e stands h =
        let l = left-less (under_condition place c (spell_block b rest)) (under_block place b rest) 64 h in
        let x = before-kept texts c (spell_block b rest) a e stands.0 l in
        let y = test-kept c (spell_block b rest) l in
        let k = block-kept texts b rest _ _ stands.1 false≢true (right-less (under_condition place c (spell_block b rest)) (under_block place b rest) 64 h) in
        ap (λ z. z ++ record { test = kept_test place c (spell_block b rest); body = kept_block place texts b rest } ∷ []) x
        ∙ ap (λ z. arms_before c ++ record { test = z; body = kept_block place texts b rest } ∷ []) y
        ∙ ap (λ z. arms_before c ++ record { test = condition_test c; body = z } ∷ []) k

    block-kept : (texts : Texts) (b : Block) (rest : List Kind) (a : Around) (e : List Kind → List Kind) → block_stands b a e → (IsTrue a.top → ⊥) → length (under_block place b rest) < 64 → kept_block place texts b rest ≡ tree_block b
    block-kept texts (inline x) rest a e stands n h = ap (λ z. z ∷ []) (line-kept x rest (below (place (length (spell_simple x (t.Newline ∷ rest)))) (under_line place x rest) h))
    block-kept texts (indented ss) rest a e stands n h = statements-kept texts ss (t.Dedent ∷ rest) a e stands n h

    statements-kept : (texts : Texts) (ss : Statements) (rest : List Kind) (a : Around) (e : List Kind → List Kind) → statements_stand ss a e → (IsTrue a.top → ⊥) → length (under_statements place ss rest) < 64 → kept_statements place texts ss rest ≡ tree_statements ss
    statements-kept texts (statements_one x) rest a e stands n h = ap (λ z. z ∷ []) (statement-kept texts x rest [] a e stands (below (place (length (spell_statement x rest))) (under_statement place x rest) h) (λ top. absurd (n top)))
    statements-kept texts (statements_more ss x) rest a e stands n h =
        let l = left-less (under_statements place ss (spell_statement x rest)) (place (length (spell_statement x rest)) ∷ under_statement place x rest) 64 h in
        let r = right-less (under_statements place ss (spell_statement x rest)) (place (length (spell_statement x rest)) ∷ under_statement place x rest) 64 h in
        let y = statements-kept texts ss (spell_statement x rest) a e stands.0 n l in
        let z = statement-kept texts x rest [] a _ stands.1 (below (place (length (spell_statement x rest))) (under_statement place x rest) r) (λ top. absurd (n top)) in
        ap (λ w. w ++ kept_whole place texts x rest ∷ []) y ∙ ap (λ w. tree_statements ss ++ w ∷ []) z
