-- How deep a form is: where its parts at each depth begin. A place is the number of tokens left, so the first is the greatest.
use Rattle.std.specs.Prelude.{◌≡◌, ◌-◌, ◌<◌, ◌≤◌, ℕ, zero, suc, List, [], ◌∷◌, ◌++◌, length, All, Contains, Some, None}
use Rattle.py_token.specs.declared.kinds.Kind.{Kind}
use Rattle.py_token.specs.declared.kinds.Kind.TheVariants as t
use Rattle.py_grammar.specs.Words.{and_word, or_word, not_word, if_word, else_word, elif_word, is_word, none_word, assign_sign, open_parenthesis, close_parenthesis, open_bracket, close_bracket, close_brace, colon, comma, dot}
use Rattle.py_grammar.specs.Expressions.{Expression, plain, conditional, Ors, ors_one, ors_more, Ands, ands_one, ands_more, Negation, compared, negated, Compares, compares_one, compares_more, compares_none, compares_not_none, Sums, sums_one, sums_more, Products, products_one, products_more, Signed, unsigned, signed, Primary, name, number, text, nothing, truth, falsity, empty, group, display, dict, call, index, slice, Exprs, single, tuple, tuple_comma, Callee, function, method, Bound, unbounded, bounded, Args, no_args, args, args_comma, Elements, elements_one, elements_more, Entries, no_entries, entries, entries_comma, Pairs, pairs_one, pairs_more, spell_relational, additive_sign, multiplicative_sign, spell_expression, spell_ors, spell_ands, spell_negation, spell_compares, spell_sums, spell_products, spell_signed, spell_primary, spell_exprs, spell_bound, spell_args}
use Rattle.py_grammar.specs.Statements.{Target, to_name, to_item, Places, places_one, places_more, Targets, targets, targets_comma, Simple, word, return_, give, declare, delete, assign, augment, show, spell_target, augmentation_sign, spell_simple, Statement, simple, compound, Head, choose, otherwise, while_true, for_each, define, Condition, if_true, else_if, Branches, branches, Block, inline, indented, Statements, statements_one, statements_more, spell_statement, spell_block, Cell, spelling}

-- the parts at depth d of a part that spells these tokens: itself at depth 0, and one deeper what is directly in it
abbrev pub part : List Kind → (ℕ → List ℕ) → ℕ → List ℕ
part tokens inner zero = length tokens ∷ []
part tokens inner (suc d) = inner d

-- where the parts at this depth begin, in the order of the text, before these tokens
abbrev mutual
  pub at_expression : Expression → List Kind → ℕ → List ℕ
  at_expression (plain a) rest d = at_ors a rest d
  at_expression (conditional a test b) rest d = part (spell_expression (conditional a test b) rest) (λ n. at_ors a (if_word ∷ spell_ors test (else_word ∷ spell_expression b rest)) n ++ at_ors test (else_word ∷ spell_expression b rest) n ++ at_expression b rest n) d

  pub at_ors : Ors → List Kind → ℕ → List ℕ
  at_ors (ors_one a) rest d = at_ands a rest d
  at_ors (ors_more b a) rest d = part (spell_ors (ors_more b a) rest) (λ n. in_ors b (or_word ∷ spell_ands a rest) n ++ at_ands a rest n) d

  -- of the operands of a chain
  pub in_ors : Ors → List Kind → ℕ → List ℕ
  in_ors (ors_one a) rest d = at_ands a rest d
  in_ors (ors_more b a) rest d = in_ors b (or_word ∷ spell_ands a rest) d ++ at_ands a rest d

  pub at_ands : Ands → List Kind → ℕ → List ℕ
  at_ands (ands_one a) rest d = at_negation a rest d
  at_ands (ands_more b a) rest d = part (spell_ands (ands_more b a) rest) (λ n. in_ands b (and_word ∷ spell_negation a rest) n ++ at_negation a rest n) d

  pub in_ands : Ands → List Kind → ℕ → List ℕ
  in_ands (ands_one a) rest d = at_negation a rest d
  in_ands (ands_more b a) rest d = in_ands b (and_word ∷ spell_negation a rest) d ++ at_negation a rest d

  pub at_negation : Negation → List Kind → ℕ → List ℕ
  at_negation (compared a) rest d = at_compares a rest d
  at_negation (negated a) rest d = part (not_word ∷ spell_negation a rest) (λ n. at_negation a rest n) d

  pub at_compares : Compares → List Kind → ℕ → List ℕ
  at_compares (compares_one a) rest d = at_sums a rest d
  at_compares (compares_more c r a) rest d = part (spell_compares (compares_more c r a) rest) (λ n. in_compares c (spell_relational r (spell_sums a rest)) n ++ at_sums a rest n) d
  at_compares (compares_none c) rest d = part (spell_compares (compares_none c) rest) (λ n. in_compares c (is_word ∷ none_word ∷ rest) n) d
  at_compares (compares_not_none c) rest d = part (spell_compares (compares_not_none c) rest) (λ n. in_compares c (is_word ∷ not_word ∷ none_word ∷ rest) n) d

  pub in_compares : Compares → List Kind → ℕ → List ℕ
  in_compares (compares_one a) rest d = at_sums a rest d
  in_compares (compares_more c r a) rest d = in_compares c (spell_relational r (spell_sums a rest)) d ++ at_sums a rest d
  in_compares (compares_none c) rest d = in_compares c (is_word ∷ none_word ∷ rest) d
  in_compares (compares_not_none c) rest d = in_compares c (is_word ∷ not_word ∷ none_word ∷ rest) d

  pub at_sums : Sums → List Kind → ℕ → List ℕ
  at_sums (sums_one a) rest d = at_products a rest d
  at_sums (sums_more b s a) rest d = part (spell_sums (sums_more b s a) rest) (λ n. in_sums b (additive_sign s ∷ spell_products a rest) n ++ at_products a rest n) d

  pub in_sums : Sums → List Kind → ℕ → List ℕ
  in_sums (sums_one a) rest d = at_products a rest d
  in_sums (sums_more b s a) rest d = in_sums b (additive_sign s ∷ spell_products a rest) d ++ at_products a rest d

  pub at_products : Products → List Kind → ℕ → List ℕ
  at_products (products_one a) rest d = at_signed a rest d
  at_products (products_more b s a) rest d = part (spell_products (products_more b s a) rest) (λ n. in_products b (multiplicative_sign s ∷ spell_signed a rest) n ++ at_signed a rest n) d

  pub in_products : Products → List Kind → ℕ → List ℕ
  in_products (products_one a) rest d = at_signed a rest d
  in_products (products_more b s a) rest d = in_products b (multiplicative_sign s ∷ spell_signed a rest) d ++ at_signed a rest d

  pub at_signed : Signed → List Kind → ℕ → List ℕ
  at_signed (unsigned a) rest d = at_primary a rest d
  at_signed (signed s a) rest d = part (additive_sign s ∷ spell_signed a rest) (λ n. at_signed a rest n) d

  pub at_primary : Primary → List Kind → ℕ → List ℕ
  at_primary (name m) rest d = part (t.Name m ∷ rest) (λ n. []) d
  at_primary (number m) rest d = part (t.Number m ∷ rest) (λ n. []) d
  at_primary (text m) rest d = part (t.Text m ∷ rest) (λ n. []) d
  at_primary nothing rest d = part (none_word ∷ rest) (λ n. []) d
  at_primary truth rest d = part (spell_primary truth rest) (λ n. []) d
  at_primary falsity rest d = part (spell_primary falsity rest) (λ n. []) d
  at_primary empty rest d = part (spell_primary empty rest) (λ n. []) d
  at_primary (group a) rest d = part (spell_primary (group a) rest) (λ n. at_exprs a (close_parenthesis ∷ rest) n) d
  at_primary (display a) rest d = part (spell_primary (display a) rest) (λ n. in_args a (close_bracket ∷ rest) n) d
  at_primary (dict a) rest d = part (spell_primary (dict a) rest) (λ n. in_entries a (close_brace ∷ rest) n) d
  at_primary (call f a) rest d = part (spell_primary (call f a) rest) (λ n. in_callee f (open_parenthesis ∷ spell_args a (close_parenthesis ∷ rest)) n ++ in_args a (close_parenthesis ∷ rest) n) d
  at_primary (index p a) rest d = part (spell_primary (index p a) rest) (λ n. at_primary p (open_bracket ∷ spell_expression a (close_bracket ∷ rest)) n ++ at_expression a (close_bracket ∷ rest) n) d
  at_primary (slice p a b) rest d = part (spell_primary (slice p a b) rest) (λ n. at_primary p (open_bracket ∷ spell_bound a (colon ∷ spell_bound b (close_bracket ∷ rest))) n ++ in_bound a (colon ∷ spell_bound b (close_bracket ∷ rest)) n ++ in_bound b (close_bracket ∷ rest) n) d

  pub at_exprs : Exprs → List Kind → ℕ → List ℕ
  at_exprs (single a) rest d = at_expression a rest d
  at_exprs (tuple es a) rest d = part (spell_exprs (tuple es a) rest) (λ n. in_elements es (comma ∷ spell_expression a rest) n ++ at_expression a rest n) d
  at_exprs (tuple_comma es) rest d = part (spell_exprs (tuple_comma es) rest) (λ n. in_elements es (comma ∷ rest) n) d

  pub in_callee : Callee → List Kind → ℕ → List ℕ
  in_callee (function p) rest d = at_primary p rest d
  in_callee (method p m) rest d = at_primary p (dot ∷ t.Name m ∷ rest) d

  pub in_bound : Bound → List Kind → ℕ → List ℕ
  in_bound unbounded rest d = []
  in_bound (bounded a) rest d = at_expression a rest d

  pub in_args : Args → List Kind → ℕ → List ℕ
  in_args no_args rest d = []
  in_args (args es) rest d = in_elements es rest d
  in_args (args_comma es) rest d = in_elements es (comma ∷ rest) d

  pub in_elements : Elements → List Kind → ℕ → List ℕ
  in_elements (elements_one a) rest d = at_expression a rest d
  in_elements (elements_more es a) rest d = in_elements es (comma ∷ spell_expression a rest) d ++ at_expression a rest d

  pub in_entries : Entries → List Kind → ℕ → List ℕ
  in_entries no_entries rest d = []
  in_entries (entries ps) rest d = in_pairs ps rest d
  in_entries (entries_comma ps) rest d = in_pairs ps (comma ∷ rest) d

  pub in_pairs : Pairs → List Kind → ℕ → List ℕ
  in_pairs (pairs_one a b) rest d = at_expression a (colon ∷ spell_expression b rest) d ++ at_expression b rest d
  in_pairs (pairs_more ps a b) rest d = in_pairs ps (comma ∷ spell_expression a (colon ∷ spell_expression b rest)) d ++ at_expression a (colon ∷ spell_expression b rest) d ++ at_expression b rest d

-- ---- statements: neither a target nor a list of them is an expression

abbrev pub in_target : Target → List Kind → ℕ → List ℕ
in_target (to_name n) rest d = []
in_target (to_item p a) rest d = at_primary p (open_bracket ∷ spell_expression a (close_bracket ∷ rest)) d ++ at_expression a (close_bracket ∷ rest) d

abbrev pub in_places : Places → List Kind → ℕ → List ℕ
in_places (places_one to) rest d = in_target to rest d
in_places (places_more ps to) rest d = in_places ps (comma ∷ spell_target to rest) d ++ in_target to rest d

abbrev pub in_targets : Targets → List Kind → ℕ → List ℕ
in_targets (targets ps) rest d = in_places ps rest d
in_targets (targets_comma ps) rest d = in_places ps (comma ∷ rest) d

abbrev pub in_simple : Simple → List Kind → ℕ → List ℕ
in_simple (word w) rest d = []
in_simple return_ rest d = []
in_simple (give a) rest d = at_exprs a rest d
in_simple (declare ns) rest d = []
in_simple (delete to) rest d = in_target to rest d
in_simple (assign ts a) rest d = in_targets ts (assign_sign ∷ spell_exprs a rest) d ++ at_exprs a rest d
in_simple (augment to by a) rest d = in_target to (augmentation_sign by ∷ spell_exprs a rest) d ++ at_exprs a rest d
in_simple (show a) rest d = at_exprs a rest d

abbrev pub at_simple : Simple → List Kind → ℕ → List ℕ
at_simple s rest d = part (spell_simple s (t.Newline ∷ rest)) (λ n. in_simple s (t.Newline ∷ rest) n) d

-- the statements of a block are one deeper than what it belongs to
abbrev mutual
  pub at_statement : Statement → List Kind → ℕ → List ℕ
  at_statement (simple s) rest d = at_simple s rest d
  at_statement (compound h b) rest d = part (spell_statement (compound h b) rest) (λ n. in_head h (spell_block b rest) n ++ in_block b rest n) d

  pub in_head : Head → List Kind → ℕ → List ℕ
  in_head (choose c) rest d = in_condition c rest d
  in_head (otherwise bs) rest d = in_branches bs (else_word ∷ colon ∷ rest) d
  in_head (while_true a) rest d = at_expression a (colon ∷ rest) d
  in_head (for_each vs a) rest d = at_exprs a (colon ∷ rest) d
  in_head (define n ps) rest d = []

  pub in_condition : Condition → List Kind → ℕ → List ℕ
  in_condition (if_true a) rest d = at_expression a (colon ∷ rest) d
  in_condition (else_if bs a) rest d = in_branches bs (elif_word ∷ spell_expression a (colon ∷ rest)) d ++ at_expression a (colon ∷ rest) d

  pub in_branches : Branches → List Kind → ℕ → List ℕ
  in_branches (branches c b) rest d = in_condition c (spell_block b rest) d ++ in_block b rest d

  pub in_block : Block → List Kind → ℕ → List ℕ
  in_block (inline s) rest d = at_simple s rest d
  in_block (indented ss) rest d = in_statements ss (t.Dedent ∷ rest) d

  pub in_statements : Statements → List Kind → ℕ → List ℕ
  in_statements (statements_one s) rest d = at_statement s rest d
  in_statements (statements_more ss s) rest d = in_statements ss (spell_statement s rest) d ++ at_statement s rest d

-- where the parts of a cell begin that are so much deeper than a top statement, whose depth is 1
abbrev pub in_cell : Cell → ℕ → List ℕ
in_cell None d = []
in_cell (Some ss) d = in_statements ss (t.End ∷ []) d

-- a cell is too deep: the first of its parts that are deeper than 64 begins after this many tokens
pub record IsTooDeep (c : Cell) (place : ℕ) : Type 0 where
  pub depth : ℕ
  pub deep : 64 ≤ depth
  pub left : ℕ
  pub begins : Contains (in_cell c depth) left
  pub first : (other : ℕ) → 64 ≤ other → All (λ o. o ≤ left) (in_cell c other)
  pub is_place : place ≡ length (spelling c) - left

-- the tokens are too deep at this place of theirs: each cell of this kind that begins with them is too deep there or earlier, and one is just there
pub record AreTooDeep (Is : List Kind → Cell → Type 0) (tokens : List Kind) (place : ℕ) : Type 0 where
  pub within : place < length tokens
  pub each : (more : List Kind) (c : Cell) → Is (tokens ++ more) c → (at : ℕ) × (at ≤ place) × IsTooDeep c at
  pub some : (more : List Kind) × (c : Cell) × Is (tokens ++ more) c × IsTooDeep c place
