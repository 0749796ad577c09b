-- Each name in the tree of a cell is one that a program may bind, if its tokens are those of a text.
use Rattle.std.proofs.Common.{◌≡◌, ℕ, IsTrue, List, [], ◌∷◌, Some, None, Ok, subst}
use Rattle.std.proofs.lemmas.List.Elements.{All-from_recursion}
use Rattle.py_names.specs.Names.{is_variable}
use Rattle.py_token.specs.declared.kinds.Kind.{Kind}
use Rattle.py_token.specs.declared.kinds.Kind.TheVariants as t
use Rattle.py_token.specs.declared.kinds.Token.{Token}
use Rattle.py_token.specs.Spellings.{Spells}
use Rattle.py_token.specs.Lines.{tokens_of}
use Rattle.py_token.specs.Laws.{Cover}
use Rattle.py_token.proofs.Covers.{covers}
use Rattle.py_tree.specs.declared.statements.Def.{roll-Def}
use Rattle.py_grammar.specs.Statements.{Params, Block, compound, define, statements_one, Cell, IsCell, spell_front}
use Rattle.py_grammar.specs.Trees.{Source, tree_cell, tree_params, tree_block}
use Rattle.py_laws.specs.Mentioned.{names_by, names_by_def, names_in, AllPass}
use Rattle.reader_laws.specs.Kinds.{kinds}
use Rattle.reader_laws.proofs.Made.{Stateds, all_joined}
use Rattle.reader_laws.proofs.Named.{IsKnown, AreKnown, top, defined}

abbrev pub Variable : List ℕ → Type 0
Variable name = IsTrue (is_variable name)

-- ---- the tokens of a text

spelled : (k : Kind) (bytes : List ℕ) → Spells k bytes → IsKnown Variable k
spelled (t.Name name) bytes h = h.1
spelled _ bytes h = tt

covered : (code : List ℕ) (at : ℕ) (ts : List Token) → Cover code at ts → AreKnown Variable (kinds ts)
covered code at [] c = tt
covered code at (x ∷ xs) c = (spelled x.kind _ c.0.spelled, covered code x.end xs c.1)

pub tokens_known : (code : List ℕ) (ts : List Token) → tokens_of code ≡ Ok ts → AreKnown Variable (kinds ts)
tokens_known code ts e = covered code 0 ts (covers code ts e)

-- ---- a cell

cell_known : (source : Source) (c : Cell) (rest : List Kind) → AreKnown Variable (spell_front c rest) → Stateds Variable (tree_cell source c)
cell_known source None rest h = tt
cell_known source (Some xs) rest h = (top Variable source xs rest h).0

pub cell_names : (code : List ℕ) (tokens : List Token) (source : Source) (cell : Cell) → tokens_of code ≡ Ok tokens → IsCell (kinds tokens) cell → AllPass is_variable (names_in (tree_cell source cell))
cell_names code tokens source cell e is =
    All-from_recursion Variable (names_in (tree_cell source cell))
    (all_joined Variable names_by (tree_cell source cell) (cell_known source cell (t.End ∷ []) (subst (AreKnown Variable) is.spelled (tokens_known code tokens e))))

-- ---- a function alone

pub function_names : (code source : List ℕ) (tokens : List Token) (called : List ℕ) (takes : Params) (block : Block) → tokens_of code ≡ Ok tokens → IsCell (kinds tokens) (Some (statements_one (compound (define called takes) block)))
    → AllPass is_variable (names_by_def (roll-Def (record { name = called; params = tree_params takes; body = tree_block block; source = source })))
function_names code source tokens called takes block e is =
    All-from_recursion Variable _ (defined Variable source called takes block (t.End ∷ []) (subst (AreKnown Variable) is.spelled (tokens_known code tokens e)))
