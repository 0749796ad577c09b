-- The tree of a statement as the machine keeps it, and the first place at each depth in it.
use Rattle.std.specs.Prelude.{ℕ, Bool, true, List, [], ◌∷◌, ◌++◌, length, Option, Some, None}
use Rattle.py_token.specs.declared.kinds.Kind.{Kind}
use Rattle.py_token.specs.declared.kinds.Kind.TheVariants as t
use Rattle.py_tree.specs.declared.expressions.Expr.{Expr}
use Rattle.py_tree.specs.declared.expressions.Op.{Op}
use Rattle.py_tree.specs.declared.expressions.Op.TheVariants as o
use Rattle.py_tree.specs.declared.expressions.Target as tree_of
use Rattle.py_tree.specs.declared.statements.Arm.{Arm}
use Rattle.py_tree.specs.declared.statements.Def.{roll-Def}
use Rattle.py_tree.specs.declared.statements.Stmt.{Stmt}
use Rattle.py_tree.specs.declared.statements.Stmt.TheVariants as s
use Rattle.py_grammar.specs.Words.{else_word, elif_word, assign_sign, colon, comma}
use Rattle.py_grammar.specs.Expressions.{Expression, Primary, name, index, Exprs, spell_expression, spell_exprs}
use Rattle.py_grammar.specs.Statements.{Target, to_name, to_item, Places, places_one, places_more, Targets, targets, targets_comma, Augmentation, by_plus, by_minus, by_times, by_floor, by_modulo, Word, pass_, break_, continue_, Simple, word, return_, give, declare, delete, assign, augment, show, spell_target, augmentation_sign, spell_simple, Statement, simple, compound, Head, choose, otherwise, while_true, for_each, define, Condition, if_true, else_if, Branches, branches, Block, inline, indented, Statements, statements_one, statements_more, spell_statement, spell_block}
use Rattle.py_grammar.specs.Trees.{tree_names, tree_params, tree_variables, targets_divided, variables_divided}
use Rattle.py_frames.specs.Values.{beside}
use Rattle.py_frames.specs.Under.{all, under_expression, under_primary, under_exprs}
use Rattle.py_frames.specs.Kept.{kept_expression, kept_primary, kept_exprs}
use Rattle.py_frames.specs.Targets.{target_of}
use Rattle.py_blocks.specs.Blocks.{Texts, kept_statement}

module _ (place : ℕ → ℕ) where
  -- ---- the first place at each depth

  abbrev pub places_expression : Expression → List Kind → List ℕ
  places_expression a rest = all place (spell_expression a rest) (under_expression place a rest)

  abbrev pub places_exprs : Exprs → List Kind → List ℕ
  places_exprs a rest = all place (spell_exprs a rest) (under_exprs place a rest)

  abbrev pub primary_of : Target → Primary
  primary_of (to_name n) = name n
  primary_of (to_item p a) = index p a

  abbrev pub under_target : Target → List Kind → List ℕ
  under_target to rest = under_primary place (primary_of to) rest

  abbrev pub under_places : Places → List Kind → List ℕ
  under_places (places_one to) rest = under_target to rest
  under_places (places_more ps to) rest = beside (under_places ps (comma ∷ spell_target to rest)) (under_target to rest)

  abbrev pub under_targets : Targets → List Kind → List ℕ
  under_targets (targets ps) rest = under_places ps rest
  under_targets (targets_comma ps) rest = under_places ps (comma ∷ rest)

  abbrev pub under_simple : Simple → List Kind → List ℕ
  under_simple (word w) rest = []
  under_simple return_ rest = []
  under_simple (give a) rest = places_exprs a rest
  under_simple (declare ns) rest = []
  under_simple (delete to) rest = under_target to rest
  under_simple (assign ts a) rest = beside (under_targets ts (assign_sign ∷ spell_exprs a rest)) (places_exprs a rest)
  under_simple (augment to by a) rest = beside (under_target to (augmentation_sign by ∷ spell_exprs a rest)) (places_exprs a rest)
  under_simple (show a) rest = places_exprs a rest

  -- before the end of its line
  abbrev pub under_line : Simple → List Kind → List ℕ
  under_line x rest = under_simple x (t.Newline ∷ rest)

  abbrev pub places_line : Simple → List Kind → List ℕ
  places_line x rest = place (length (spell_simple x (t.Newline ∷ rest))) ∷ under_line x rest

  abbrev mutual
    pub under_statement : Statement → List Kind → List ℕ
    under_statement (simple x) rest = under_line x rest
    under_statement (compound h b) rest = beside (under_head h (spell_block b rest)) (under_block b rest)

    pub under_head : Head → List Kind → List ℕ
    under_head (choose c) rest = under_condition c rest
    under_head (otherwise bs) rest = under_branches bs (else_word ∷ colon ∷ rest)
    under_head (while_true a) rest = places_expression a (colon ∷ rest)
    under_head (for_each vs a) rest = places_exprs a (colon ∷ rest)
    under_head (define n ps) rest = []

    pub under_condition : Condition → List Kind → List ℕ
    under_condition (if_true a) rest = places_expression a (colon ∷ rest)
    under_condition (else_if bs a) rest = beside (under_branches bs (elif_word ∷ spell_expression a (colon ∷ rest))) (places_expression a (colon ∷ rest))

    pub under_branches : Branches → List Kind → List ℕ
    under_branches (branches c b) rest = beside (under_condition c (spell_block b rest)) (under_block b rest)

    pub under_block : Block → List Kind → List ℕ
    under_block (inline x) rest = places_line x rest
    under_block (indented ss) rest = under_statements ss (t.Dedent ∷ rest)

    pub under_statements : Statements → List Kind → List ℕ
    under_statements (statements_one x) rest = place (length (spell_statement x rest)) ∷ under_statement x rest
    under_statements (statements_more ss x) rest = beside (under_statements ss (spell_statement x rest)) (place (length (spell_statement x rest)) ∷ under_statement x rest)

  -- ---- trees

  abbrev pub augmentation_op : Augmentation → Op
  augmentation_op by_plus = o.Plus
  augmentation_op by_minus = o.Minus
  augmentation_op by_times = o.Times
  augmentation_op by_floor = o.Floor
  augmentation_op by_modulo = o.Mod

  abbrev pub kept_target : Target → List Kind → tree_of.Target
  kept_target to rest = target_of (kept_primary place (primary_of to) rest)

  abbrev pub kept_places : Places → List Kind → List tree_of.Target
  kept_places (places_one to) rest = kept_target to rest ∷ []
  kept_places (places_more ps to) rest = kept_places ps (comma ∷ spell_target to rest) ++ kept_target to rest ∷ []

  abbrev pub kept_targets : Targets → List Kind → List tree_of.Target
  kept_targets (targets ps) rest = kept_places ps rest
  kept_targets (targets_comma ps) rest = kept_places ps (comma ∷ rest)

  abbrev pub word_stmt : Word → Stmt
  word_stmt pass_ = s.Pass
  word_stmt break_ = s.Break
  word_stmt continue_ = s.Continue

  abbrev pub kept_simple : Simple → List Kind → Stmt
  kept_simple (word w) rest = word_stmt w
  kept_simple return_ rest = s.Return None
  kept_simple (give a) rest = s.Return (Some (kept_exprs place a rest))
  kept_simple (declare ns) rest = s.Global (tree_names ns)
  kept_simple (delete to) rest = s.Delete (kept_target to rest)
  kept_simple (assign ts a) rest = s.Assign (kept_targets ts (assign_sign ∷ spell_exprs a rest)) (targets_divided ts) (kept_exprs place a rest)
  kept_simple (augment to by a) rest = s.Augment (kept_target to (augmentation_sign by ∷ spell_exprs a rest)) (augmentation_op by) (kept_exprs place a rest)
  kept_simple (show a) rest = s.Expression (kept_exprs place a rest)

  abbrev pub kept_line : Simple → List Kind → Stmt
  kept_line x rest = kept_statement (under_line x rest) (kept_simple x (t.Newline ∷ rest))

  abbrev pub kept_test : Condition → List Kind → Expr
  kept_test (if_true a) rest = kept_expression place a (colon ∷ rest)
  kept_test (else_if bs a) rest = kept_expression place a (colon ∷ rest)

  abbrev mutual
    pub kept_whole : Texts → Statement → List Kind → Stmt
    kept_whole texts (simple x) rest = kept_line x rest
    kept_whole texts (compound h b) rest = kept_statement (beside (under_head h (spell_block b rest)) (under_block b rest)) (kept_compound texts h (spell_block b rest) (kept_block texts b rest) (texts (place (length (spell_statement (compound h b) rest))) (place (length rest))))

    -- with its block, and the text of a function
    pub kept_compound : Texts → Head → List Kind → List Stmt → List ℕ → Stmt
    kept_compound texts (choose c) rest body source = s.If (kept_arms_before texts c rest ++ record { test = kept_test c rest; body = body } ∷ []) []
    kept_compound texts (otherwise bs) rest body source = s.If (kept_arms texts bs (else_word ∷ colon ∷ rest)) body
    kept_compound texts (while_true a) rest body source = s.While (kept_expression place a (colon ∷ rest)) body
    kept_compound texts (for_each vs a) rest body source = s.For (tree_variables vs) (variables_divided vs) (kept_exprs place a (colon ∷ rest)) body
    kept_compound texts (define n ps) rest body source = s.Function (roll-Def (record { name = n; params = tree_params ps; body = body; source = source }))

    pub kept_arms_before : Texts → Condition → List Kind → List Arm
    kept_arms_before texts (if_true a) rest = []
    kept_arms_before texts (else_if bs a) rest = kept_arms texts bs (elif_word ∷ spell_expression a (colon ∷ rest))

    pub kept_arms : Texts → Branches → List Kind → List Arm
    kept_arms texts (branches c b) rest = kept_arms_before texts c (spell_block b rest) ++ record { test = kept_test c (spell_block b rest); body = kept_block texts b rest } ∷ []

    pub kept_block : Texts → Block → List Kind → List Stmt
    kept_block texts (inline x) rest = kept_line x rest ∷ []
    kept_block texts (indented ss) rest = kept_statements texts ss (t.Dedent ∷ rest)

    pub kept_statements : Texts → Statements → List Kind → List Stmt
    kept_statements texts (statements_one x) rest = kept_whole texts x rest ∷ []
    kept_statements texts (statements_more ss x) rest = kept_statements texts ss (spell_statement x rest) ++ kept_whole texts x rest ∷ []
