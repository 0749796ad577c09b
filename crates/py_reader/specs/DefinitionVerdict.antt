-- How a text is judged that is to be one function alone, as a definition that computes: `Definitions` says what the answer means.
use Rattle.std.specs.Prelude.{ℕ, nat_lt, true, false, if◌then◌else◌, List, [], length, Some, Result, Ok, Err}
use Rattle.py_token.specs.declared.kinds.Token.{Token}
use Rattle.py_tree.specs.declared.statements.Def.{Def}
use Rattle.py_grammar.specs.Statements.{compound, define, statements_one}
use Rattle.py_grammar.specs.States.{State, done}
use Rattle.py_grammar.specs.Alone.{alone}
use Rattle.py_reader.specs.declared.fault.SyntaxFault.{SyntaxFault}
use Rattle.py_reader.specs.declared.fault.SyntaxFault.TheVariants.{TooLong, NoParse}
use Rattle.py_reader.specs.Verdicts.{start_of}
use Rattle.py_reader.specs.Verdict.{tokens_within, deepest_of, nested, of_tokens}
use Rattle.py_reader.specs.Definitions.{end_of_words, definition}

abbrev pub JudgedDefinition : Type 0
JudgedDefinition = Result Def SyntaxFault

-- what is after the function comes before the definition
abbrev pub unless_more : List ℕ → List Token → JudgedDefinition → JudgedDefinition
unless_more code tokens judged = if nat_lt (end_of_words tokens) (length code) then Err (NoParse (end_of_words tokens) false) else judged

-- and what is before the function comes first
abbrev pub unless_later : List Token → JudgedDefinition → JudgedDefinition
unless_later tokens judged = if nat_lt 0 (start_of tokens 0) then Err (NoParse 0 false) else judged

abbrev pub of_function : List ℕ → List Token → ℕ → Def → JudgedDefinition
of_function code tokens deepest def = unless_later tokens (nested tokens deepest (unless_more code tokens (Ok def)))

-- after all tokens nothing else than one function has been read
abbrev pub of_alone : List ℕ → List Token → State → JudgedDefinition
of_alone code tokens (done (Some (statements_one (compound (define called takes) block)))) = of_function code tokens (deepest_of tokens (done (alone called takes block)) []) (definition code called takes block)
of_alone code tokens _ = Err TooLong

unfoldable pub verdict_alone : List ℕ → JudgedDefinition
verdict_alone code = of_tokens true (of_alone code) (tokens_within code)
