-- What the machine keeps of a statement is, for each depth, where the first part that deep begins.
use Rattle.std.proofs.Common.{◌≡◌, ℕ, zero, suc, max, List, [], ◌∷◌, ◌++◌, length, Option, Some, None, refl}
use Rattle.py_token.specs.declared.kinds.Kind.{Kind}
use Rattle.py_token.specs.declared.kinds.Kind.TheVariants as t
use Rattle.py_grammar.specs.Words.{else_word, elif_word, assign_sign, open_bracket, close_bracket, colon, comma}
use Rattle.py_grammar.specs.Expressions.{index, spell_expression, spell_exprs}
use Rattle.py_grammar.specs.Statements.{Target, to_name, to_item, Places, places_one, places_more, Targets, targets, targets_comma, Simple, word, return_, give, declare, delete, assign, augment, show, spell_target, augmentation_sign, Statement, simple, compound, Head, choose, otherwise, while_true, for_each, define, Condition, if_true, else_if, Branches, branches, Block, inline, indented, Statements, statements_one, statements_more, spell_statement, spell_block}
use Rattle.py_grammar.specs.Depth.{in_target, in_places, in_targets, in_simple, at_simple, at_statement, in_head, in_condition, in_branches, in_block, in_statements}
use Rattle.py_frames.proofs.Rows.{IsRow, joins, deeper, expression-row, exprs-row, primary-row}
use Rattle.py_blocks.specs.Kept.{under_target, under_places, under_targets, under_simple, places_line, under_statement, under_head, under_condition, under_branches, under_block, under_statements}

module _ (place : ℕ → ℕ) (fair : (a b : ℕ) → place (max a b) ≡ max (place a) (place b)) where
  none-row : (d : ℕ) → IsRow place fair [] d []
  none-row d = record { is = refl }

  target-row : (to : Target) (rest : List Kind) (d : ℕ) → IsRow place fair (in_target to rest d) d (under_target place to rest)
  target-row (to_name n) rest d = none-row d
  target-row (to_item p a) rest d = joins place fair d (primary-row place fair p (open_bracket ∷ spell_expression a (close_bracket ∷ rest)) d) (expression-row place fair a (close_bracket ∷ rest) d)

  places-row : (ps : Places) (rest : List Kind) (d : ℕ) → IsRow place fair (in_places ps rest d) d (under_places place ps rest)
  places-row (places_one to) rest d = target-row to rest d
  places-row (places_more ps to) rest d = joins place fair d (places-row ps (comma ∷ spell_target to rest) d) (target-row to rest d)

  targets-row : (ts : Targets) (rest : List Kind) (d : ℕ) → IsRow place fair (in_targets ts rest d) d (under_targets place ts rest)
  targets-row (targets ps) rest d = places-row ps rest d
  targets-row (targets_comma ps) rest d = places-row ps (comma ∷ rest) d

  simple-row : (x : Simple) (rest : List Kind) (d : ℕ) → IsRow place fair (in_simple x rest d) d (under_simple place x rest)
  simple-row (word w) rest d = none-row d
  simple-row return_ rest d = none-row d
  simple-row (give a) rest d = exprs-row place fair a rest d
  simple-row (declare ns) rest d = none-row d
  simple-row (delete to) rest d = target-row to rest d
  simple-row (assign ts a) rest d = joins place fair d (targets-row ts (assign_sign ∷ spell_exprs a rest) d) (exprs-row place fair a rest d)
  simple-row (augment to by a) rest d = joins place fair d (target-row to (augmentation_sign by ∷ spell_exprs a rest) d) (exprs-row place fair a rest d)
  simple-row (show a) rest d = exprs-row place fair a rest d

  line-row : (x : Simple) (rest : List Kind) (d : ℕ) → IsRow place fair (at_simple x rest d) d (places_line place x rest)
  line-row x rest zero = record { is = refl }
  line-row x rest (suc d) = deeper place fair d _ (simple-row x (t.Newline ∷ rest) d)

  mutual
    pub statement-row : (x : Statement) (rest : List Kind) (d : ℕ) → IsRow place fair (at_statement x rest d) d (place (length (spell_statement x rest)) ∷ under_statement place x rest)
    statement-row (simple x) rest d = line-row x rest d
    statement-row (compound h b) rest zero = record { is = refl }
    statement-row (compound h b) rest (suc d) = deeper place fair d _ (joins place fair d (head-row h (spell_block b rest) d) (block-row b rest d))

    head-row : (h : Head) (rest : List Kind) (d : ℕ) → IsRow place fair (in_head h rest d) d (under_head place h rest)
    head-row (choose c) rest d = condition-row c rest d
    head-row (otherwise bs) rest d = branches-row bs (else_word ∷ colon ∷ rest) d
    head-row (while_true a) rest d = expression-row place fair a (colon ∷ rest) d
    head-row (for_each vs a) rest d = exprs-row place fair a (colon ∷ rest) d
    head-row (define n ps) rest d = none-row d

    condition-row : (c : Condition) (rest : List Kind) (d : ℕ) → IsRow place fair (in_condition c rest d) d (under_condition place c rest)
    condition-row (if_true a) rest d = expression-row place fair a (colon ∷ rest) d
    condition-row (else_if bs a) rest d = joins place fair d (branches-row bs (elif_word ∷ spell_expression a (colon ∷ rest)) d) (expression-row place fair a (colon ∷ rest) d)

    branches-row : (bs : Branches) (rest : List Kind) (d : ℕ) → IsRow place fair (in_branches bs rest d) d (under_branches place bs rest)
    branches-row (branches c b) rest d = joins place fair d (condition-row c (spell_block b rest) d) (block-row b rest d)

    block-row : (b : Block) (rest : List Kind) (d : ℕ) → IsRow place fair (in_block b rest d) d (under_block place b rest)
    block-row (inline x) rest d = line-row x rest d
    block-row (indented ss) rest d = statements-row ss (t.Dedent ∷ rest) d

    pub statements-row : (ss : Statements) (rest : List Kind) (d : ℕ) → IsRow place fair (in_statements ss rest d) d (under_statements place ss rest)
    statements-row (statements_one x) rest d = statement-row x rest d
    statements-row (statements_more ss x) rest d = joins place fair d (statements-row ss (spell_statement x rest) d) (statement-row x rest d)
