-- The grammar of statements and cells, what each form spells, and what may be where.
use Rattle.std.specs.Prelude.{◌≡◌, ◌+◌, ℕ, Bool, true, false, IsTrue, List, [], ◌∷◌, ◌++◌, take, Option, Some, None, not, nat_eq, ◌&&◌}
use Rattle.py_token.specs.declared.kinds.Kind.{Kind}
use Rattle.py_token.specs.declared.kinds.Kind.TheVariants as t
use Rattle.std.specs.Cmp.Lexicographic.{pointwise}
use Rattle.py_grammar.specs.Words.{if_word, else_word, elif_word, while_word, for_word, in_word, pass_word, break_word, continue_word, return_word, global_word, del_word, def_word, floor_assign_sign, plus_assign_sign, minus_assign_sign, times_assign_sign, mod_assign_sign, assign_sign, open_parenthesis, close_parenthesis, open_bracket, close_bracket, colon, comma}
use Rattle.py_grammar.specs.Expressions.{Expression, Primary, Exprs, spell_expression, spell_primary, spell_exprs}

-- ---- simple statements

-- NAME | primary "[" expression "]"
pub data Target : Type 0 where
  to_name : List ℕ → Target
  to_item : Primary → Expression → Target

-- target { "," target }
pub data Places : Type 0 where
  places_one : Target → Places
  places_more : Places → Target → Places

-- places [ "," ]
pub data Targets : Type 0 where
  targets : Places → Targets
  targets_comma : Places → Targets

-- "+=" | "-=" | "*=" | "//=" | "%="
pub data Augmentation : Type 0 where
  by_plus : Augmentation
  by_minus : Augmentation
  by_times : Augmentation
  by_floor : Augmentation
  by_modulo : Augmentation

-- NAME { "," NAME }
pub data Names : Type 0 where
  names_one : List ℕ → Names
  names_more : Names → List ℕ → Names

-- "pass" | "break" | "continue"
pub data Word : Type 0 where
  pass_ : Word
  break_ : Word
  continue_ : Word

-- "pass" | "break" | "continue" | "return" [ exprs ] | "global" names | "del" target
-- | targets "=" exprs | target augmentation exprs | exprs
pub data Simple : Type 0 where
  word : Word → Simple
  return_ : Simple
  give : Exprs → Simple
  declare : Names → Simple
  delete : Target → Simple
  assign : Targets → Exprs → Simple
  augment : Target → Augmentation → Exprs → Simple
  show : Exprs → Simple

abbrev pub spell_target : Target → List Kind → List Kind
spell_target (to_name n) rest = t.Name n ∷ rest
spell_target (to_item p a) rest = spell_primary p (open_bracket ∷ spell_expression a (close_bracket ∷ rest))

abbrev pub spell_places : Places → List Kind → List Kind
spell_places (places_one to) rest = spell_target to rest
spell_places (places_more ps to) rest = spell_places ps (comma ∷ spell_target to rest)

abbrev pub spell_targets : Targets → List Kind → List Kind
spell_targets (targets ps) rest = spell_places ps rest
spell_targets (targets_comma ps) rest = spell_places ps (comma ∷ rest)

abbrev pub augmentation_sign : Augmentation → Kind
augmentation_sign by_plus = plus_assign_sign
augmentation_sign by_minus = minus_assign_sign
augmentation_sign by_times = times_assign_sign
augmentation_sign by_floor = floor_assign_sign
augmentation_sign by_modulo = mod_assign_sign

abbrev pub spell_names : Names → List Kind → List Kind
spell_names (names_one n) rest = t.Name n ∷ rest
spell_names (names_more ns n) rest = spell_names ns (comma ∷ t.Name n ∷ rest)

abbrev pub keyword : Word → Kind
keyword pass_ = pass_word
keyword break_ = break_word
keyword continue_ = continue_word

abbrev pub spell_simple : Simple → List Kind → List Kind
spell_simple (word w) rest = keyword w ∷ rest
spell_simple return_ rest = return_word ∷ rest
spell_simple (give a) rest = return_word ∷ spell_exprs a rest
spell_simple (declare ns) rest = global_word ∷ spell_names ns rest
spell_simple (delete to) rest = del_word ∷ spell_target to rest
spell_simple (assign ts a) rest = spell_targets ts (assign_sign ∷ spell_exprs a rest)
spell_simple (augment to by a) rest = spell_target to (augmentation_sign by ∷ spell_exprs a rest)
spell_simple (show a) rest = spell_exprs a rest

-- ---- statements

-- names [ "," ]
pub data Variables : Type 0 where
  variables : Names → Variables
  variables_comma : Names → Variables

-- [ names [ "," ] ]
pub data Params : Type 0 where
  no_params : Params
  params : Names → Params
  params_comma : Names → Params

mutual
  -- simple NEWLINE | head block
  pub data Statement : Type 0 where
    simple : Simple → Statement
    compound : Head → Block → Statement

  -- condition | branches "else" ":" | "while" expression ":" | "for" variables "in" exprs ":" | "def" NAME "(" params ")" ":"
  pub data Head : Type 0 where
    choose : Condition → Head
    otherwise : Branches → Head
    while_true : Expression → Head
    for_each : Variables → Exprs → Head
    define : List ℕ → Params → Head

  -- "if" expression ":" | branches "elif" expression ":"
  pub data Condition : Type 0 where
    if_true : Expression → Condition
    else_if : Branches → Expression → Condition

  -- condition block
  pub data Branches : Type 0 where
    branches : Condition → Block → Branches

  -- simple NEWLINE | NEWLINE INDENT statements DEDENT
  pub data Block : Type 0 where
    inline : Simple → Block
    indented : Statements → Block

  -- statement { statement }
  pub data Statements : Type 0 where
    statements_one : Statement → Statements
    statements_more : Statements → Statement → Statements

abbrev pub spell_variables : Variables → List Kind → List Kind
spell_variables (variables ns) rest = spell_names ns rest
spell_variables (variables_comma ns) rest = spell_names ns (comma ∷ rest)

abbrev pub spell_params : Params → List Kind → List Kind
spell_params no_params rest = rest
spell_params (params ns) rest = spell_names ns rest
spell_params (params_comma ns) rest = spell_names ns (comma ∷ rest)

abbrev mutual
  pub spell_statement : Statement → List Kind → List Kind
  spell_statement (simple s) rest = spell_simple s (t.Newline ∷ rest)
  spell_statement (compound h b) rest = spell_head h (spell_block b rest)

  pub spell_head : Head → List Kind → List Kind
  spell_head (choose c) rest = spell_condition c rest
  spell_head (otherwise bs) rest = spell_branches bs (else_word ∷ colon ∷ rest)
  spell_head (while_true a) rest = while_word ∷ spell_expression a (colon ∷ rest)
  spell_head (for_each vs a) rest = for_word ∷ spell_variables vs (in_word ∷ spell_exprs a (colon ∷ rest))
  spell_head (define n ps) rest = def_word ∷ t.Name n ∷ open_parenthesis ∷ spell_params ps (close_parenthesis ∷ colon ∷ rest)

  pub spell_condition : Condition → List Kind → List Kind
  spell_condition (if_true a) rest = if_word ∷ spell_expression a (colon ∷ rest)
  spell_condition (else_if bs a) rest = spell_branches bs (elif_word ∷ spell_expression a (colon ∷ rest))

  pub spell_branches : Branches → List Kind → List Kind
  spell_branches (branches c b) rest = spell_condition c (spell_block b rest)

  pub spell_block : Block → List Kind → List Kind
  spell_block (inline s) rest = spell_simple s (t.Newline ∷ rest)
  spell_block (indented ss) rest = t.Newline ∷ t.Indent ∷ spell_statements ss (t.Dedent ∷ rest)

  pub spell_statements : Statements → List Kind → List Kind
  spell_statements (statements_one s) rest = spell_statement s rest
  spell_statements (statements_more ss s) rest = spell_statements ss (spell_statement s rest)

-- ---- what may be where

-- where a statement is: at the top of the cell, in a function, in a loop of the same function or cell
pub record Around : Type 0 where
  pub top : Bool
  pub in_function : Bool
  pub in_loop : Bool

abbrev pub outside_all : Around
outside_all = record { top = true; in_function = false; in_loop = false }

-- where the block of such a head is
abbrev pub inside : Head → Around → Around
inside (choose c) a = record { top = false; in_function = a.in_function; in_loop = a.in_loop }
inside (otherwise bs) a = record { top = false; in_function = a.in_function; in_loop = a.in_loop }
inside (while_true e) a = record { top = false; in_function = a.in_function; in_loop = true }
inside (for_each vs e) a = record { top = false; in_function = a.in_function; in_loop = true }
inside (define n ps) a = record { top = false; in_function = true; in_loop = false }

-- the tokens of the function so far, its parameters first, before a block of such a head: those before the head, and its own
abbrev pub hear : Head → (List Kind → List Kind) → List Kind → List Kind
hear (choose c) earlier rest = earlier (spell_condition c rest)
hear (otherwise bs) earlier rest = earlier (spell_head (otherwise bs) rest)
hear (while_true e) earlier rest = earlier (spell_head (while_true e) rest)
hear (for_each vs e) earlier rest = earlier (spell_head (for_each vs e) rest)
hear (define n ps) earlier rest = spell_params ps rest

abbrev pub is_name : List ℕ → Kind → Bool
is_name n (t.Name m) = pointwise nat_eq m n
is_name n _ = false

-- the name isn't among these tokens
abbrev pub is_new : List ℕ → List Kind → Bool
is_new n [] = true
is_new n (k ∷ ks) = not (is_name n k) && is_new n ks

-- the names differ from each other and from those before
abbrev pub names_new : Names → (List Kind → List Kind) → Type 0
names_new (names_one n) earlier = IsTrue (is_new n (earlier []))
names_new (names_more ns n) earlier = names_new ns earlier × IsTrue (is_new n (earlier (spell_names ns [])))

abbrev pub params_new : Params → Type 0
params_new no_params = Unit {0}
params_new (params ns) = names_new ns (λ rest. rest)
params_new (params_comma ns) = names_new ns (λ rest. rest)

abbrev pub word_stands : Word → Around → Type 0
word_stands pass_ a = Unit {0}
word_stands break_ a = IsTrue a.in_loop
word_stands continue_ a = IsTrue a.in_loop

abbrev pub simple_stands : Simple → Around → (List Kind → List Kind) → Type 0
simple_stands (word w) a earlier = word_stands w a
simple_stands return_ a earlier = IsTrue a.in_function
simple_stands (give e) a earlier = IsTrue a.in_function
simple_stands (declare ns) a earlier = IsTrue a.in_function × names_new ns earlier
simple_stands (delete to) a earlier = Unit {0}
simple_stands (assign ts e) a earlier = Unit {0}
simple_stands (augment to by e) a earlier = Unit {0}
simple_stands (show e) a earlier = Unit {0}

abbrev mutual
  pub statement_stands : Statement → Around → (List Kind → List Kind) → Type 0
  statement_stands (simple s) a earlier = simple_stands s a earlier
  statement_stands (compound h b) a earlier = head_stands h a earlier × block_stands b (inside h a) (hear h earlier)

  pub head_stands : Head → Around → (List Kind → List Kind) → Type 0
  head_stands (choose c) a earlier = condition_stands c a earlier
  head_stands (otherwise bs) a earlier = branches_stand bs a earlier
  head_stands (while_true e) a earlier = Unit {0}
  head_stands (for_each vs e) a earlier = Unit {0}
  head_stands (define n ps) a earlier = IsTrue a.top × params_new ps

  pub condition_stands : Condition → Around → (List Kind → List Kind) → Type 0
  condition_stands (if_true e) a earlier = Unit {0}
  condition_stands (else_if bs e) a earlier = branches_stand bs a earlier

  pub branches_stand : Branches → Around → (List Kind → List Kind) → Type 0
  branches_stand (branches c b) a earlier = condition_stands c a earlier × block_stands b (record { top = false; in_function = a.in_function; in_loop = a.in_loop }) (λ rest. earlier (spell_condition c rest))

  pub block_stands : Block → Around → (List Kind → List Kind) → Type 0
  block_stands (inline s) a earlier = simple_stands s a earlier
  block_stands (indented ss) a earlier = statements_stand ss a earlier

  pub statements_stand : Statements → Around → (List Kind → List Kind) → Type 0
  statements_stand (statements_one s) a earlier = statement_stands s a earlier
  statements_stand (statements_more ss s) a earlier = statements_stand ss a earlier × statement_stands s a (λ rest. earlier (spell_statements ss rest))

-- ---- cells

-- { statement } END
abbrev pub Cell : Type 0
Cell = Option Statements

abbrev pub spell_front : Cell → List Kind → List Kind
spell_front None rest = rest
spell_front (Some ss) rest = spell_statements ss rest

abbrev pub front_stands : Cell → Around → (List Kind → List Kind) → Type 0
front_stands None a earlier = Unit {0}
front_stands (Some ss) a earlier = statements_stand ss a earlier

abbrev pub spelling : Cell → List Kind
spelling c = spell_front c (t.End ∷ [])

abbrev pub cell_stands : Cell → Type 0
cell_stands c = front_stands c outside_all (λ rest. rest)

-- these tokens spell this cell
pub record IsCell (tokens : List Kind) (c : Cell) : Type 0 where
  pub spelled : tokens ≡ spelling c
  pub stands : cell_stands c

-- some cell begins with these tokens
abbrev pub BeginsCell : List Kind → Type 0
BeginsCell tokens = (more : List Kind) × (c : Cell) × IsCell (tokens ++ more) c

-- the first token such that no cell begins with the tokens up to it
pub record IsFailing (tokens : List Kind) (at : ℕ) : Type 0 where
  pub before : BeginsCell (take at tokens)
  pub with : BeginsCell (take (at + 1) tokens) → ⊥
