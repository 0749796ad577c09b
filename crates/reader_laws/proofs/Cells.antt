-- Each function of a code is what its text alone is read as, and a function is only at the top.
use Rattle.std.proofs.Common.{◌≡◌, ℕ, ◌+◌, ◌≤◌, true, List, [], ◌∷◌, ◌++◌, length, Some, None, Ok, refl, sym, ap, ◌∙◌, subst, arith, length-append, IsUtf8}
use Rattle.std.specs.List.{AllByRecursion, Contains}
use Rattle.std.proofs.lemmas.List.{append-nil}
use Rattle.std.proofs.lemmas.List.Elements.{All-from_recursion}
use Rattle.py_token.specs.declared.kinds.Kind.{Kind}
use Rattle.py_token.specs.declared.kinds.Kind.TheVariants as t
use Rattle.py_token.specs.declared.kinds.Token.{Token}
use Rattle.py_token.specs.Lines.{tokens_of}
use Rattle.py_tree.specs.declared.statements.Def.{Def}
use Rattle.py_tree.specs.declared.statements.Stmt.{Stmt}
use Rattle.py_tree.specs.declared.statements.Stmt.TheOpen.{Def-F}
use Rattle.py_tree.specs.declared.statements.Stmt.TheViews.{out-roll-Def}
use Rattle.py_tree.specs.declared.statements.Arm.{Arm}
use Rattle.py_grammar.specs.Statements.{Params, Block, Statement, simple, compound, choose, otherwise, while_true, for_each, define, Statements, statements_one, statements_more, Cell, IsCell, spell_block, spell_statement, spell_statements, outside_all, inside, hear, statement_stands, statements_stand}
use Rattle.py_grammar.specs.Trees.{tree_params, tree_block, tree_statement, tree_top, tree_cell}
use Rattle.py_grammar.specs.Alone.{alone}
use Rattle.py_grammar.specs.Depth.{at_statement, in_statements, IsTooDeep}
use Rattle.py_blocks.specs.Source.{source_of}
use Rattle.py_laws.specs.Allowed.{AreAllowed}
use Rattle.py_reader.specs.Verdicts.{Verdict}
use Rattle.py_reader.specs.Verdicts as cells
use Rattle.py_reader.specs.Verdict.{verdict}
use Rattle.py_reader.specs.Definitions.{DefinitionVerdict, definition}
use Rattle.py_reader.specs.Definitions as functions
use Rattle.py_reader.specs.DefinitionVerdict.{verdict_alone}
use Rattle.py_reader.proofs.Meant.{means}
use Rattle.py_reader.proofs.MeantAlone as alone_means
use Rattle.py_reader.proofs.Deep.{flat}
use Rattle.py_token.specs.Cuts.{kinds, level, begins_line}
use Rattle.reader_laws.proofs.Named.{push, AreKnown, head, statements}
use Rattle.reader_laws.proofs.Tokens.{Variable, tokens_known}
use Rattle.reader_laws.specs.Texts.{IsItsText}
use Rattle.reader_laws.proofs.Parts.{split_kinds, kinds_long}
use Rattle.reader_laws.proofs.Tails.{Steady, ending_steady, statement-ends, statements-ends, ending_begins}
use Rattle.reader_laws.proofs.Shallow.{left, right, statement}
use Rattle.reader_laws.proofs.Allowed.{Allowed, allowed_def, allowed_function, top-in, block-in}
use Rattle.reader_laws.proofs.Alone.{read_source}

abbrev Fits : Stmt → Type 0
Fits = Allowed IsItsText

-- ---- nesting

-- no part that begins there is too deep
abbrev Flat : (ℕ → List ℕ) → Type 0
Flat parts = (d : ℕ) → 64 ≤ d → parts d ≡ []

shallow_alone : (n : List ℕ) (ps : Params) (b : Block) (rest : List Kind) → Flat (at_statement (compound (define n ps) b) rest) → (at : ℕ) → IsTooDeep (alone n ps b) at → ⊥
shallow_alone n ps b rest h at x = none (subst (λ xs. Contains xs x.left) (statement (compound (define n ps) b) x.depth rest (t.End ∷ []) (h x.depth x.deep)) x.begins)
  where
    none : Contains [] x.left → ⊥
    none c = let i = c.1 in absurd (omega (arith, i))

-- ---- a function

in_body : (n : List ℕ) (ps : Params) (b : Block) (rest : List Kind) (e : List Kind → List Kind) → statement_stands (compound (define n ps) b) outside_all e → AreKnown Variable (spell_statement (compound (define n ps) b) rest)
    → AllByRecursion Fits (tree_block b)
in_body n ps b rest e stands known =
    block-in IsItsText b (inside (define n ps) outside_all) (hear (define n ps) e) rest (λ no. cc no) stands.1 (head Variable [] (define n ps) (spell_block b rest) known).1

function_fits : (n : List ℕ) (ps : Params) (b : Block) (source : List ℕ) (rest : List Kind) (e : List Kind → List Kind) → statement_stands (compound (define n ps) b) outside_all e
    → AreKnown Variable (spell_statement (compound (define n ps) b) rest) → verdict_alone source ≡ Ok (definition source n ps b) → Fits (tree_statement source (compound (define n ps) b))
function_fits n ps b source rest e stands known judged =
    let opened = out-roll-Def (record { name = n; params = tree_params ps; body = tree_block b; source = source }) in
    let variable : Variable (definition source n ps b).name = subst (λ (x : Def-F Stmt Arm Def). Variable x.name) (sym opened) known.1.0 in
    let text : IsItsText (definition source n ps b) = subst (λ (x : Def-F Stmt Arm Def). verdict_alone x.source ≡ Ok (definition source n ps b)) (sym opened) judged in
    allowed_function IsItsText (definition source n ps b) variable text (allowed_def IsItsText n (tree_params ps) (tree_block b) source (in_body n ps b rest e stands known))

-- ---- a code

module _ (code : List ℕ) (utf8 : IsUtf8 code) (short : length code ≤ 262144) (tokens : List Token) (are_tokens : tokens_of code ≡ Ok tokens) where
  one_fits : (x : Statement) (before here : List Token) (rest : List Kind) (e : List Kind → List Kind) (i j : ℕ) → tokens ≡ before ++ here → kinds here ≡ spell_statement x rest
      → begins_line true (kinds before) ≡ true → level 0 (kinds before) ≡ 0 → statement_stands x outside_all e → Flat (at_statement x rest) → AreKnown Variable (spell_statement x rest)
      → i ≡ length before → j ≡ i + length (ending_steady (statement-ends x)).tokens → Fits (tree_statement (source_of code tokens i j) x)
  one_fits (compound (define n ps) b) before here rest e i j split spelled begins top stands shallow known from to =
      function_fits n ps b (source_of code tokens i j) rest e stands known
      (read_source code utf8 short tokens are_tokens before here split n ps b rest spelled begins top stands (shallow_alone n ps b rest shallow) i j from to)
  one_fits (simple s) before here rest e i j split spelled begins top stands shallow known from to = top-in IsItsText (source_of code tokens i j) (simple s) outside_all e rest (λ n ps b no. cc no) stands known
  one_fits (compound (choose c) b) before here rest e i j split spelled begins top stands shallow known from to = top-in IsItsText (source_of code tokens i j) (compound (choose c) b) outside_all e rest (λ n ps b no. cc no) stands known
  one_fits (compound (otherwise bs) b) before here rest e i j split spelled begins top stands shallow known from to = top-in IsItsText (source_of code tokens i j) (compound (otherwise bs) b) outside_all e rest (λ n ps b no. cc no) stands known
  one_fits (compound (while_true a) b) before here rest e i j split spelled begins top stands shallow known from to = top-in IsItsText (source_of code tokens i j) (compound (while_true a) b) outside_all e rest (λ n ps b no. cc no) stands known
  one_fits (compound (for_each m a) b) before here rest e i j split spelled begins top stands shallow known from to = top-in IsItsText (source_of code tokens i j) (compound (for_each m a) b) outside_all e rest (λ n ps b no. cc no) stands known

  long_of : {f : List Kind → List Kind} (s : Steady f) (rest : List Kind) → length (f rest) ≡ length s.tokens + length rest
  long_of s rest = ap length (s.spelled rest) ∙ length-append s.tokens rest

  top_fits : (xs : Statements) (rest : List Kind) → kinds tokens ≡ spell_statements xs rest → statements_stand xs outside_all (λ more. more)
      → Flat (in_statements xs rest) → AreKnown Variable (spell_statements xs rest) → AllByRecursion Fits (tree_top (source_of code tokens) xs)
  top_fits (statements_one x) rest spelled stands shallow known =
      let s = ending_steady (statement-ends x) in
      let wide = long_of s [] in
      (one_fits x [] tokens rest (λ more. more) 0 (length (spell_statement x [])) refl spelled refl refl stands shallow known refl (omega (arith, wide)), tt)
  top_fits (statements_more xs x) rest spelled stands shallow known =
      let before = ending_steady (statements-ends xs) in
      let s = ending_steady (statement-ends x) in
      let w = split_kinds tokens before.tokens (spell_statement x rest) (spelled ∙ before.spelled (spell_statement x rest)) in
      let begins : begins_line true (kinds w.0) ≡ true = ap (begins_line true) w.3 ∙ ending_begins (statements-ends xs) true in
      let top : level 0 (kinds w.0) ≡ 0 = ap (level 0) (w.3 ∙ sym (append-nil before.tokens)) ∙ before.level 0 [] in
      let first = long_of before [] in
      let last = long_of before (spell_statement x []) in
      let own = long_of s [] in
      let count : length before.tokens ≡ length w.0 = ap length (sym w.3) ∙ kinds_long w.0 in
      push Fits (tree_top (source_of code tokens) xs) _
      (top_fits xs (spell_statement x rest) spelled stands.0 (λ d l. left _ _ (shallow d l)) known)
      (one_fits x w.0 w.1 rest (λ m. spell_statements xs m) (length (spell_statements xs [])) (length (spell_statements xs (spell_statement x []))) w.2 w.4 begins top stands.1 (λ d l. right _ _ (shallow d l))
      (statements Variable xs (spell_statement x rest) known).1 (omega (arith, first, count)) (omega (arith, first, last, own)))

  cell_fits : (c : Cell) → IsCell (kinds tokens) c → ((at : ℕ) → IsTooDeep c at → ⊥) → AllByRecursion Fits (tree_cell (source_of code tokens) c)
  cell_fits None is shallow = tt
  cell_fits (Some xs) is shallow =
      top_fits xs (t.End ∷ []) is.spelled is.stands (flat tokens (Some xs) is shallow) (subst (AreKnown Variable) is.spelled (tokens_known code tokens are_tokens))

judged : (code : List ℕ) (body : List Stmt) → IsUtf8 code → Verdict code (Ok body) → AllByRecursion Fits body
judged _ _ utf8 (cells.whole {code} {tokens} {cell} l e is shallow) = cell_fits code utf8 l tokens e cell is shallow

pub cell_allowed : (code : List ℕ) (body : List Stmt) → IsUtf8 code → verdict code ≡ Ok body → AreAllowed IsItsText body
cell_allowed code body utf8 e = All-from_recursion Fits body (judged code body utf8 (subst (Verdict code) e (means code)))

-- ---- a function alone

judged_alone : (code : List ℕ) (def : Def) → DefinitionVerdict code (Ok def) → AllByRecursion Fits def.body
judged_alone _ _ (functions.whole {code} {tokens} {called} {takes} {block} l e is start shallow end) =
    let opened = out-roll-Def (record { name = called; params = tree_params takes; body = tree_block block; source = code }) in
    subst (λ (x : Def-F Stmt Arm Def). AllByRecursion Fits x.body) (sym opened)
    (in_body called takes block (t.End ∷ []) (λ more. more) is.stands (subst (AreKnown Variable) is.spelled (tokens_known code tokens e)))

pub body_allowed : (def : Def) → IsItsText def → AreAllowed IsItsText def.body
body_allowed def e = All-from_recursion Fits def.body (judged_alone def.source def (subst (DefinitionVerdict def.source) e (alone_means.means def.source)))
