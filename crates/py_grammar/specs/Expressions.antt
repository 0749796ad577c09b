-- The grammar of expressions: a type for each nonterminal, a constructor for each production, and what each spells.
use Rattle.std.specs.Prelude.{ℕ, ℤ, List, ◌∷◌}
use Rattle.py_token.specs.declared.kinds.Kind.{Kind}
use Rattle.py_token.specs.declared.kinds.Kind.TheVariants as t
use Rattle.py_grammar.specs.Words.{and_word, or_word, not_word, if_word, else_word, in_word, is_word, none_word, true_word, false_word, equal_sign, not_equal_sign, at_most_sign, at_least_sign, floor_sign, plus_sign, minus_sign, times_sign, mod_sign, less_sign, more_sign, open_parenthesis, close_parenthesis, open_bracket, close_bracket, open_brace, close_brace, colon, comma, dot}

mutual
  -- or [ "if" or "else" expression ]
  pub data Expression : Type 0 where
    plain : Ors → Expression
    conditional : Ors → Ors → Expression → Expression

  -- and { "or" and }
  pub data Ors : Type 0 where
    ors_one : Ands → Ors
    ors_more : Ors → Ands → Ors

  -- negation { "and" negation }
  pub data Ands : Type 0 where
    ands_one : Negation → Ands
    ands_more : Ands → Negation → Ands

  -- "not" negation | compares
  pub data Negation : Type 0 where
    compared : Compares → Negation
    negated : Negation → Negation

  -- sums { relation sums | "is" [ "not" ] "None" }
  pub data Compares : Type 0 where
    compares_one : Sums → Compares
    compares_more : Compares → Relational → Sums → Compares
    compares_none : Compares → Compares
    compares_not_none : Compares → Compares

  -- "==" | "!=" | "<" | "<=" | ">" | ">=" | "in" | "not" "in"
  pub data Relational : Type 0 where
    equal : Relational
    not_equal : Relational
    less : Relational
    at_most : Relational
    greater : Relational
    at_least : Relational
    within : Relational
    not_within : Relational

  -- products { ( "+" | "-" ) products }
  pub data Sums : Type 0 where
    sums_one : Products → Sums
    sums_more : Sums → Additive → Products → Sums

  -- "+" | "-"
  pub data Additive : Type 0 where
    plus : Additive
    minus : Additive

  -- signed { ( "*" | "//" | "%" ) signed }
  pub data Products : Type 0 where
    products_one : Signed → Products
    products_more : Products → Multiplicative → Signed → Products

  -- "*" | "//" | "%"
  pub data Multiplicative : Type 0 where
    times : Multiplicative
    floor : Multiplicative
    modulo : Multiplicative

  -- ( "-" | "+" ) signed | primary
  pub data Signed : Type 0 where
    unsigned : Primary → Signed
    signed : Additive → Signed → Signed

  -- atom, "(" [ exprs ] ")" among them | callee "(" args ")" | primary "[" expression "]" | primary "[" [ expression ] ":" [ expression ] "]"
  pub data Primary : Type 0 where
    name : List ℕ → Primary
    number : ℤ → Primary
    text : List ℕ → Primary
    nothing : Primary
    truth : Primary
    falsity : Primary
    empty : Primary
    group : Exprs → Primary
    display : Args → Primary
    dict : Entries → Primary
    call : Callee → Args → Primary
    index : Primary → Expression → Primary
    slice : Primary → Bound → Bound → Primary

  -- expression { "," expression } [ "," ]: with a comma a tuple display
  pub data Exprs : Type 0 where
    single : Expression → Exprs
    tuple : Elements → Expression → Exprs
    tuple_comma : Elements → Exprs

  -- primary [ "." NAME ]
  pub data Callee : Type 0 where
    function : Primary → Callee
    method : Primary → List ℕ → Callee

  -- [ expression ]
  pub data Bound : Type 0 where
    unbounded : Bound
    bounded : Expression → Bound

  -- [ elements [ "," ] ]
  pub data Args : Type 0 where
    no_args : Args
    args : Elements → Args
    args_comma : Elements → Args

  -- expression { "," expression }
  pub data Elements : Type 0 where
    elements_one : Expression → Elements
    elements_more : Elements → Expression → Elements

  -- [ pairs [ "," ] ]
  pub data Entries : Type 0 where
    no_entries : Entries
    entries : Pairs → Entries
    entries_comma : Pairs → Entries

  -- expression ":" expression { "," expression ":" expression }
  pub data Pairs : Type 0 where
    pairs_one : Expression → Expression → Pairs
    pairs_more : Pairs → Expression → Expression → Pairs

abbrev pub spell_relational : Relational → List Kind → List Kind
spell_relational equal rest = equal_sign ∷ rest
spell_relational not_equal rest = not_equal_sign ∷ rest
spell_relational less rest = less_sign ∷ rest
spell_relational at_most rest = at_most_sign ∷ rest
spell_relational greater rest = more_sign ∷ rest
spell_relational at_least rest = at_least_sign ∷ rest
spell_relational within rest = in_word ∷ rest
spell_relational not_within rest = not_word ∷ in_word ∷ rest

abbrev pub additive_sign : Additive → Kind
additive_sign plus = plus_sign
additive_sign minus = minus_sign

abbrev pub multiplicative_sign : Multiplicative → Kind
multiplicative_sign times = times_sign
multiplicative_sign floor = floor_sign
multiplicative_sign modulo = mod_sign

-- what a form spells, before these tokens
abbrev mutual
  pub spell_expression : Expression → List Kind → List Kind
  spell_expression (plain a) rest = spell_ors a rest
  spell_expression (conditional a test b) rest = spell_ors a (if_word ∷ spell_ors test (else_word ∷ spell_expression b rest))

  pub spell_ors : Ors → List Kind → List Kind
  spell_ors (ors_one a) rest = spell_ands a rest
  spell_ors (ors_more a b) rest = spell_ors a (or_word ∷ spell_ands b rest)

  pub spell_ands : Ands → List Kind → List Kind
  spell_ands (ands_one a) rest = spell_negation a rest
  spell_ands (ands_more a b) rest = spell_ands a (and_word ∷ spell_negation b rest)

  pub spell_negation : Negation → List Kind → List Kind
  spell_negation (compared a) rest = spell_compares a rest
  spell_negation (negated a) rest = not_word ∷ spell_negation a rest

  pub spell_compares : Compares → List Kind → List Kind
  spell_compares (compares_one a) rest = spell_sums a rest
  spell_compares (compares_more a r b) rest = spell_compares a (spell_relational r (spell_sums b rest))
  spell_compares (compares_none a) rest = spell_compares a (is_word ∷ none_word ∷ rest)
  spell_compares (compares_not_none a) rest = spell_compares a (is_word ∷ not_word ∷ none_word ∷ rest)

  pub spell_sums : Sums → List Kind → List Kind
  spell_sums (sums_one a) rest = spell_products a rest
  spell_sums (sums_more a s b) rest = spell_sums a (additive_sign s ∷ spell_products b rest)

  pub spell_products : Products → List Kind → List Kind
  spell_products (products_one a) rest = spell_signed a rest
  spell_products (products_more a s b) rest = spell_products a (multiplicative_sign s ∷ spell_signed b rest)

  pub spell_signed : Signed → List Kind → List Kind
  spell_signed (unsigned a) rest = spell_primary a rest
  spell_signed (signed s a) rest = additive_sign s ∷ spell_signed a rest

  pub spell_primary : Primary → List Kind → List Kind
  spell_primary (name n) rest = t.Name n ∷ rest
  spell_primary (number n) rest = t.Number n ∷ rest
  spell_primary (text n) rest = t.Text n ∷ rest
  spell_primary nothing rest = none_word ∷ rest
  spell_primary truth rest = true_word ∷ rest
  spell_primary falsity rest = false_word ∷ rest
  spell_primary empty rest = open_parenthesis ∷ close_parenthesis ∷ rest
  spell_primary (group a) rest = open_parenthesis ∷ spell_exprs a (close_parenthesis ∷ rest)
  spell_primary (display a) rest = open_bracket ∷ spell_args a (close_bracket ∷ rest)
  spell_primary (dict a) rest = open_brace ∷ spell_entries a (close_brace ∷ rest)
  spell_primary (call f a) rest = spell_callee f (open_parenthesis ∷ spell_args a (close_parenthesis ∷ rest))
  spell_primary (index p a) rest = spell_primary p (open_bracket ∷ spell_expression a (close_bracket ∷ rest))
  spell_primary (slice p a b) rest = spell_primary p (open_bracket ∷ spell_bound a (colon ∷ spell_bound b (close_bracket ∷ rest)))

  pub spell_exprs : Exprs → List Kind → List Kind
  spell_exprs (single a) rest = spell_expression a rest
  spell_exprs (tuple es a) rest = spell_elements es (comma ∷ spell_expression a rest)
  spell_exprs (tuple_comma es) rest = spell_elements es (comma ∷ rest)

  pub spell_callee : Callee → List Kind → List Kind
  spell_callee (function p) rest = spell_primary p rest
  spell_callee (method p n) rest = spell_primary p (dot ∷ t.Name n ∷ rest)

  pub spell_bound : Bound → List Kind → List Kind
  spell_bound unbounded rest = rest
  spell_bound (bounded a) rest = spell_expression a rest

  pub spell_args : Args → List Kind → List Kind
  spell_args no_args rest = rest
  spell_args (args es) rest = spell_elements es rest
  spell_args (args_comma es) rest = spell_elements es (comma ∷ rest)

  pub spell_elements : Elements → List Kind → List Kind
  spell_elements (elements_one a) rest = spell_expression a rest
  spell_elements (elements_more es a) rest = spell_elements es (comma ∷ spell_expression a rest)

  pub spell_entries : Entries → List Kind → List Kind
  spell_entries no_entries rest = rest
  spell_entries (entries ps) rest = spell_pairs ps rest
  spell_entries (entries_comma ps) rest = spell_pairs ps (comma ∷ rest)

  pub spell_pairs : Pairs → List Kind → List Kind
  spell_pairs (pairs_one a b) rest = spell_expression a (colon ∷ spell_expression b rest)
  spell_pairs (pairs_more ps a b) rest = spell_pairs ps (comma ∷ spell_expression a (colon ∷ spell_expression b rest))
