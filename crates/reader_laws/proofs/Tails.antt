-- The tokens of a statement: they end with a word, the end of its line, and the ends of the blocks that it has opened.
use Rattle.std.proofs.Common.{◌≡◌, ℕ, zero, suc, ◌+◌, Bool, true, List, [], ◌∷◌, ◌++◌, refl, sym, ap, ◌∙◌, arith, append_assoc}
use Rattle.std.specs.List.{AllByRecursion}
use Rattle.py_token.specs.declared.kinds.Kind.{Kind}
use Rattle.py_token.specs.declared.kinds.Kind.TheVariants as t
use Rattle.py_grammar.specs.Words.{and_word, or_word, not_word, if_word, else_word, elif_word, while_word, for_word, in_word, is_word as is_token, none_word, true_word, false_word, return_word, global_word, del_word, def_word, assign_sign, equal_sign, not_equal_sign, at_most_sign, at_least_sign, less_sign, more_sign, open_parenthesis, close_parenthesis, open_bracket, close_bracket, open_brace, close_brace, colon, comma, dot}
use Rattle.py_grammar.specs.Expressions.{Expression, plain, conditional, Ors, ors_one, ors_more, Ands, ands_one, ands_more, Negation, compared, negated, Compares, compares_one, compares_more, compares_none, compares_not_none, Relational, equal, not_equal, less, at_most, greater, at_least, within, not_within, Sums, sums_one, sums_more, Additive, plus, minus, Products, products_one, products_more, Multiplicative, times, floor, modulo, Signed, unsigned, signed, Primary, name, number, text, nothing, truth, falsity, empty, group, display, dict, call, index, slice, Exprs, single, tuple, tuple_comma, Callee, function, method, Bound, unbounded, bounded, Args, no_args, args, args_comma, Elements, elements_one, elements_more, Entries, no_entries, entries, entries_comma, Pairs, pairs_one, pairs_more, spell_relational, additive_sign, multiplicative_sign, spell_expression, spell_ors, spell_ands, spell_negation, spell_compares, spell_sums, spell_products, spell_signed, spell_primary, spell_exprs, spell_callee, spell_bound, spell_args, spell_elements, spell_entries, spell_pairs}
use Rattle.py_grammar.specs.Statements.{Target, to_name, to_item, Places, places_one, places_more, Targets, targets, targets_comma, Variables, variables, variables_comma, Augmentation, by_plus, by_minus, by_times, by_floor, by_modulo, Names, names_one, names_more, Word, pass_, break_, continue_, Simple, word, return_, give, declare, delete, assign, augment, show, spell_target, spell_places, spell_targets, spell_variables, augmentation_sign, spell_names, keyword, spell_simple, Params, no_params, params, params_comma, Statement, simple, compound, Head, choose, otherwise, while_true, for_each, define, Condition, if_true, else_if, Branches, branches, Block, inline, indented, Statements, statements_one, statements_more, spell_params, spell_statement, spell_head, spell_condition, spell_branches, spell_block, spell_statements}
use Rattle.py_token.specs.Cuts.{is_word, level, begins_line, dedents}
use Rattle.py_token.proofs.CutBlocks.{level-append, begins-append}
use Rattle.py_token.proofs.CutTurning.{level_word}

abbrev pub IsWord : Kind → Type 0
IsWord k = is_word k ≡ true

-- ---- words alone

pub record Words (f : List Kind → List Kind) : Type 0 where
  pub tokens : List Kind
  pub spelled : (rest : List Kind) → f rest ≡ tokens ++ rest
  pub words : AllByRecursion IsWord tokens

-- at least one
pub record SomeWords (f : List Kind → List Kind) : Type 0 where
  pub front : List Kind
  pub last : Kind
  pub spelled : (rest : List Kind) → f rest ≡ front ++ last ∷ rest
  pub words : AllByRecursion IsWord front
  pub is_last : IsWord last

words_append : (ks ls : List Kind) → AllByRecursion IsWord ks → AllByRecursion IsWord ls → AllByRecursion IsWord (ks ++ ls)
words_append [] ls h k = k
words_append (x ∷ ks) ls h k = (h.0, words_append ks ls h.1 k)

none : Words (λ rest. rest)
none = record { tokens = []; spelled = λ rest. refl; words = tt }

one : (t : Kind) → IsWord t → SomeWords (λ rest. t ∷ rest)
one t w = record { front = []; last = t; spelled = λ rest. refl; words = tt; is_last = w }

first : {f : List Kind → List Kind} (t : Kind) → IsWord t → SomeWords f → SomeWords (λ rest. t ∷ f rest)
first t w s = record { front = t ∷ s.front; last = s.last; spelled = λ rest. ap (◌∷◌ t) (s.spelled rest); words = (w, s.words); is_last = s.is_last }

all : {f : List Kind → List Kind} → SomeWords f → Words f
all {f} s = record {
  tokens = s.front ++ s.last ∷ [];
  spelled = λ rest. s.spelled rest ∙ sym (append_assoc s.front (s.last ∷ []) rest);
  words = words_append s.front (s.last ∷ []) s.words (s.is_last, tt);
}

joined : {f g : List Kind → List Kind} → SomeWords f → SomeWords g → SomeWords (λ rest. f (g rest))
joined {f} a b = record {
  front = (a.front ++ a.last ∷ []) ++ b.front;
  last = b.last;
  spelled = λ rest. a.spelled _ ∙ ap (λ ks. a.front ++ a.last ∷ ks) (b.spelled rest) ∙ sym (append_assoc a.front (a.last ∷ []) _) ∙ sym (append_assoc (a.front ++ a.last ∷ []) b.front (b.last ∷ rest));
  words = words_append (a.front ++ a.last ∷ []) b.front (words_append a.front (a.last ∷ []) a.words (a.is_last, tt)) b.words;
  is_last = b.is_last;
}

-- after words that may be none
after : {f g : List Kind → List Kind} → Words f → SomeWords g → SomeWords (λ rest. f (g rest))
after {f} a b = record {
  front = a.tokens ++ b.front;
  last = b.last;
  spelled = λ rest. a.spelled _ ∙ ap (λ ks. a.tokens ++ ks) (b.spelled rest) ∙ sym (append_assoc a.tokens b.front (b.last ∷ rest));
  words = words_append a.tokens b.front a.words b.words;
  is_last = b.is_last;
}

relational : (r : Relational) → SomeWords (spell_relational r)
relational equal = one equal_sign refl
relational not_equal = one not_equal_sign refl
relational less = one less_sign refl
relational at_most = one at_most_sign refl
relational greater = one more_sign refl
relational at_least = one at_least_sign refl
relational within = one in_word refl
relational not_within = first not_word refl (one in_word refl)

additive : (s : Additive) → IsWord (additive_sign s)
additive plus = refl
additive minus = refl

multiplicative : (s : Multiplicative) → IsWord (multiplicative_sign s)
multiplicative times = refl
multiplicative floor = refl
multiplicative modulo = refl

mutual
  expression-words : (a : Expression) → SomeWords (spell_expression a)
  expression-words (plain a) = ors-words a
  expression-words (conditional a test b) = joined (ors-words a) (first if_word refl (joined (ors-words test) (first else_word refl (expression-words b))))

  ors-words : (a : Ors) → SomeWords (spell_ors a)
  ors-words (ors_one a) = ands-words a
  ors-words (ors_more a b) = joined (ors-words a) (first or_word refl (ands-words b))

  ands-words : (a : Ands) → SomeWords (spell_ands a)
  ands-words (ands_one a) = negation-words a
  ands-words (ands_more a b) = joined (ands-words a) (first and_word refl (negation-words b))

  negation-words : (a : Negation) → SomeWords (spell_negation a)
  negation-words (compared a) = compares-words a
  negation-words (negated a) = first not_word refl (negation-words a)

  compares-words : (a : Compares) → SomeWords (spell_compares a)
  compares-words (compares_one a) = sums-words a
  compares-words (compares_more a r b) = joined (compares-words a) (joined (relational r) (sums-words b))
  compares-words (compares_none a) = joined (compares-words a) (first is_token refl (one none_word refl))
  compares-words (compares_not_none a) = joined (compares-words a) (first is_token refl (first not_word refl (one none_word refl)))

  sums-words : (a : Sums) → SomeWords (spell_sums a)
  sums-words (sums_one a) = products-words a
  sums-words (sums_more a s b) = joined (sums-words a) (first (additive_sign s) (additive s) (products-words b))

  products-words : (a : Products) → SomeWords (spell_products a)
  products-words (products_one a) = signed-words a
  products-words (products_more a s b) = joined (products-words a) (first (multiplicative_sign s) (multiplicative s) (signed-words b))

  signed-words : (a : Signed) → SomeWords (spell_signed a)
  signed-words (unsigned a) = primary-words a
  signed-words (signed s a) = first (additive_sign s) (additive s) (signed-words a)

  primary-words : (a : Primary) → SomeWords (spell_primary a)
  primary-words (name n) = one (t.Name n) refl
  primary-words (number n) = one (t.Number n) refl
  primary-words (text n) = one (t.Text n) refl
  primary-words nothing = one none_word refl
  primary-words truth = one true_word refl
  primary-words falsity = one false_word refl
  primary-words empty = first open_parenthesis refl (one close_parenthesis refl)
  primary-words (group a) = first open_parenthesis refl (joined (exprs-words a) (one close_parenthesis refl))
  primary-words (display a) = first open_bracket refl (after (args-words a) (one close_bracket refl))
  primary-words (dict a) = first open_brace refl (after (entries-words a) (one close_brace refl))
  primary-words (call f a) = joined (callee-words f) (first open_parenthesis refl (after (args-words a) (one close_parenthesis refl)))
  primary-words (index p a) = joined (primary-words p) (first open_bracket refl (joined (expression-words a) (one close_bracket refl)))
  primary-words (slice p a b) = joined (primary-words p) (first open_bracket refl (after (bound-words a) (first colon refl (after (bound-words b) (one close_bracket refl)))))

  exprs-words : (a : Exprs) → SomeWords (spell_exprs a)
  exprs-words (single a) = expression-words a
  exprs-words (tuple es a) = joined (elements-words es) (first comma refl (expression-words a))
  exprs-words (tuple_comma es) = joined (elements-words es) (one comma refl)

  callee-words : (a : Callee) → SomeWords (spell_callee a)
  callee-words (function p) = primary-words p
  callee-words (method p n) = joined (primary-words p) (first dot refl (one (t.Name n) refl))

  bound-words : (a : Bound) → Words (spell_bound a)
  bound-words unbounded = none
  bound-words (bounded a) = all (expression-words a)

  args-words : (a : Args) → Words (spell_args a)
  args-words no_args = none
  args-words (args es) = all (elements-words es)
  args-words (args_comma es) = all (joined (elements-words es) (one comma refl))

  elements-words : (a : Elements) → SomeWords (spell_elements a)
  elements-words (elements_one a) = expression-words a
  elements-words (elements_more es a) = joined (elements-words es) (first comma refl (expression-words a))

  entries-words : (a : Entries) → Words (spell_entries a)
  entries-words no_entries = none
  entries-words (entries ps) = all (pairs-words ps)
  entries-words (entries_comma ps) = all (joined (pairs-words ps) (one comma refl))

  pairs-words : (a : Pairs) → SomeWords (spell_pairs a)
  pairs-words (pairs_one a b) = joined (expression-words a) (first colon refl (expression-words b))
  pairs-words (pairs_more ps a b) = joined (pairs-words ps) (first comma refl (joined (expression-words a) (first colon refl (expression-words b))))

place-words : (to : Target) → SomeWords (spell_target to)
place-words (to_name n) = one (t.Name n) refl
place-words (to_item p a) = joined (primary-words p) (first open_bracket refl (joined (expression-words a) (one close_bracket refl)))

names-words : (ns : Names) → SomeWords (spell_names ns)
names-words (names_one n) = one (t.Name n) refl
names-words (names_more ns n) = joined (names-words ns) (first comma refl (one (t.Name n) refl))

places-words : (ps : Places) → SomeWords (spell_places ps)
places-words (places_one to) = place-words to
places-words (places_more ps to) = joined (places-words ps) (first comma refl (place-words to))

targets-words : (ts : Targets) → SomeWords (spell_targets ts)
targets-words (targets ps) = places-words ps
targets-words (targets_comma ps) = joined (places-words ps) (one comma refl)

variables-words : (vs : Variables) → SomeWords (spell_variables vs)
variables-words (variables ns) = names-words ns
variables-words (variables_comma ns) = joined (names-words ns) (one comma refl)

augmentation : (by : Augmentation) → IsWord (augmentation_sign by)
augmentation by_plus = refl
augmentation by_minus = refl
augmentation by_times = refl
augmentation by_floor = refl
augmentation by_modulo = refl

keyword_word : (w : Word) → IsWord (keyword w)
keyword_word pass_ = refl
keyword_word break_ = refl
keyword_word continue_ = refl

simple-words : (s : Simple) → SomeWords (spell_simple s)
simple-words (word w) = one (keyword w) (keyword_word w)
simple-words return_ = one return_word refl
simple-words (give a) = first return_word refl (exprs-words a)
simple-words (declare ns) = first global_word refl (names-words ns)
simple-words (delete to) = first del_word refl (place-words to)
simple-words (assign ts a) = joined (targets-words ts) (first assign_sign refl (exprs-words a))
simple-words (augment to by a) = joined (place-words to) (first (augmentation_sign by) (augmentation by) (exprs-words a))
simple-words (show a) = exprs-words a

params-words : (ps : Params) → Words (spell_params ps)
params-words no_params = none
params-words (params ns) = all (names-words ns)
params-words (params_comma ns) = all (joined (names-words ns) (one comma refl))

-- ---- blocks: as many end as begin

pub level_words : (n : ℕ) (ks rest : List Kind) → AllByRecursion IsWord ks → level n (ks ++ rest) ≡ level n rest
level_words n [] rest h = refl
level_words n (k ∷ ks) rest h = level-append n (k ∷ []) (ks ++ rest) ∙ ap (λ m. level m (ks ++ rest)) (level_word n k h.0) ∙ level_words n ks rest h.1

-- as many blocks end as begin
pub record Steady (f : List Kind → List Kind) : Type 0 where
  pub tokens : List Kind
  pub spelled : (rest : List Kind) → f rest ≡ tokens ++ rest
  pub level : (n : ℕ) (rest : List Kind) → level n (tokens ++ rest) ≡ level n rest

-- it ends with a word, the end of its line, and the ends of the blocks that it has opened
pub record Ending (f : List Kind → List Kind) : Type 0 where
  pub front : List Kind
  pub last : Kind
  pub deep : ℕ
  pub spelled : (rest : List Kind) → f rest ≡ front ++ last ∷ t.Newline ∷ dedents deep rest
  pub is_last : IsWord last
  pub level : (n : ℕ) (rest : List Kind) → level n (front ++ last ∷ rest) ≡ level (n + deep) rest

words_steady : {f : List Kind → List Kind} → Words f → Steady f
words_steady w = record { tokens = w.tokens; spelled = w.spelled; level = λ n rest. level_words n w.tokens rest w.words }

pub dedents-append : (n : ℕ) (ks rest : List Kind) → dedents n (ks ++ rest) ≡ dedents n ks ++ rest
dedents-append zero ks rest = refl
dedents-append (suc n) ks rest = ap (λ x. t.Dedent ∷ x) (dedents-append n ks rest)

dedents-more : (n : ℕ) (rest : List Kind) → dedents n (t.Dedent ∷ rest) ≡ t.Dedent ∷ dedents n rest
dedents-more zero rest = refl
dedents-more (suc n) rest = ap (λ x. t.Dedent ∷ x) (dedents-more n rest)

level-dedents : (m n : ℕ) (rest : List Kind) → level (m + n) (dedents n rest) ≡ level m rest
level-dedents m zero rest = let same : m + 0 ≡ m = omega arith in ap (λ k. level k rest) same
level-dedents m (suc n) rest = let same : m + suc n ≡ suc (m + n) = omega arith in ap (λ k. level k (t.Dedent ∷ dedents n rest)) same ∙ level-dedents m n rest

-- all tokens of a statement
pub ending_steady : {f : List Kind → List Kind} → Ending f → Steady f
ending_steady {f} e = record {
  tokens = e.front ++ e.last ∷ t.Newline ∷ dedents e.deep [];
  spelled = λ rest. e.spelled rest ∙ ap (λ ks. e.front ++ e.last ∷ t.Newline ∷ ks) (dedents-append e.deep [] rest) ∙ sym (append_assoc e.front (e.last ∷ t.Newline ∷ dedents e.deep []) rest);
  level = λ n rest.
      ap (level n) (append_assoc e.front (e.last ∷ t.Newline ∷ dedents e.deep []) rest) ∙ e.level n (t.Newline ∷ (dedents e.deep [] ++ rest))
      ∙ ap (level (n + e.deep)) (sym (dedents-append e.deep [] rest)) ∙ level-dedents n e.deep rest;
}

pub ending_tokens : {f : List Kind → List Kind} (e : Ending f) → (ending_steady e).tokens ≡ e.front ++ e.last ∷ t.Newline ∷ dedents e.deep []
unfolding ending_steady
ending_tokens {f} e = refl

joined_steady : {f g : List Kind → List Kind} → Steady f → Steady g → Steady (λ rest. f (g rest))
joined_steady {f} a b = record {
  tokens = a.tokens ++ b.tokens;
  spelled = λ rest. a.spelled _ ∙ ap (λ ks. a.tokens ++ ks) (b.spelled rest) ∙ sym (append_assoc a.tokens b.tokens rest);
  level = λ n rest. ap (level n) (append_assoc a.tokens b.tokens rest) ∙ a.level n (b.tokens ++ rest) ∙ b.level n rest;
}

joined_ending : {f g : List Kind → List Kind} → Steady f → Ending g → Ending (λ rest. f (g rest))
joined_ending {f} a b = record {
  front = a.tokens ++ b.front;
  last = b.last;
  deep = b.deep;
  spelled = λ rest. a.spelled _ ∙ ap (λ ks. a.tokens ++ ks) (b.spelled rest) ∙ sym (append_assoc a.tokens b.front _);
  is_last = b.is_last;
  level = λ n rest. ap (level n) (append_assoc a.tokens b.front (b.last ∷ rest)) ∙ a.level n (b.front ++ b.last ∷ rest) ∙ b.level n rest;
}

line_ending : {f : List Kind → List Kind} → SomeWords f → Ending (λ rest. f (t.Newline ∷ rest))
line_ending {f} s = record {
  front = s.front;
  last = s.last;
  deep = 0;
  spelled = λ rest. s.spelled (t.Newline ∷ rest);
  is_last = s.is_last;
  level = λ n rest.
      let same : n ≡ n + 0 = omega arith in
      level_words n s.front (s.last ∷ rest) s.words ∙ level-append n (s.last ∷ []) rest ∙ ap (λ m. level m rest) (level_word n s.last s.is_last ∙ same);
}

block_ending : {f : List Kind → List Kind} → Ending f → Ending (λ rest. t.Newline ∷ t.Indent ∷ f (t.Dedent ∷ rest))
block_ending {f} e = record {
  front = t.Newline ∷ t.Indent ∷ e.front;
  last = e.last;
  deep = suc e.deep;
  spelled = λ rest. ap (λ ks. t.Newline ∷ t.Indent ∷ ks) (e.spelled (t.Dedent ∷ rest) ∙ ap (λ ks. e.front ++ e.last ∷ t.Newline ∷ ks) (dedents-more e.deep rest));
  is_last = e.is_last;
  level = λ n rest. let same : suc n + e.deep ≡ n + suc e.deep = omega arith in e.level (suc n) rest ∙ ap (λ m. level m rest) same;
}

mutual
  pub statement-ends : (s : Statement) → Ending (spell_statement s)
  statement-ends (simple s) = line_ending (simple-words s)
  statement-ends (compound h b) = joined_ending (head-steady h) (block-ends b)

  head-steady : (h : Head) → Steady (spell_head h)
  head-steady (choose c) = condition-steady c
  head-steady (otherwise bs) = joined_steady (branches-steady bs) (words_steady (all (first else_word refl (one colon refl))))
  head-steady (while_true a) = words_steady (all (first while_word refl (joined (expression-words a) (one colon refl))))
  head-steady (for_each vs a) = words_steady (all (first for_word refl (joined (variables-words vs) (first in_word refl (joined (exprs-words a) (one colon refl))))))
  head-steady (define n ps) = words_steady (all (first def_word refl (first (t.Name n) refl (first open_parenthesis refl (after (params-words ps) (first close_parenthesis refl (one colon refl)))))))

  condition-steady : (c : Condition) → Steady (spell_condition c)
  condition-steady (if_true a) = words_steady (all (first if_word refl (joined (expression-words a) (one colon refl))))
  condition-steady (else_if bs a) = joined_steady (branches-steady bs) (words_steady (all (first elif_word refl (joined (expression-words a) (one colon refl)))))

  branches-steady : (bs : Branches) → Steady (spell_branches bs)
  branches-steady (branches c b) = joined_steady (condition-steady c) (ending_steady (block-ends b))

  block-ends : (b : Block) → Ending (spell_block b)
  block-ends (inline s) = line_ending (simple-words s)
  block-ends (indented ss) = block_ending (statements-ends ss)

  pub statements-ends : (ss : Statements) → Ending (spell_statements ss)
  statements-ends (statements_one s) = statement-ends s
  statements-ends (statements_more ss s) = joined_ending (ending_steady (statements-ends ss)) (statement-ends s)

-- ---- lines

begins-dedents : (n : ℕ) → begins_line true (dedents n []) ≡ true
begins-dedents zero = refl
begins-dedents (suc n) = begins-dedents n

-- after a statement a line begins
pub ending_begins : {f : List Kind → List Kind} (e : Ending f) (b : Bool) → begins_line b (ending_steady e).tokens ≡ true
unfolding ending_steady
ending_begins {f} e b =
    ap (begins_line b) (sym (append_assoc e.front (e.last ∷ []) (t.Newline ∷ dedents e.deep []))) ∙ begins-append b (e.front ++ e.last ∷ []) (t.Newline ∷ dedents e.deep [])
    ∙ begins-dedents e.deep
