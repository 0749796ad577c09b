-- What a text is read as, if it is to be one function alone: its definition, or the fault that it is refused for.
use Rattle.std.specs.Prelude.{◌≡◌, ℕ, ◌<◌, ◌≤◌, false, List, length, take, Option, Some, None, Result, Ok, Err}
use Rattle.py_token.specs.declared.kinds.Token.{Token}
use Rattle.py_token.specs.declared.faults.TokenFault.{TokenFault}
use Rattle.py_token.specs.Cuts.{kinds}
use Rattle.py_token.specs.Lines.{tokens_of}
use Rattle.py_tree.specs.declared.statements.Def.{Def, roll-Def}
use Rattle.py_grammar.specs.declared.constructs.Construct.{Construct}
use Rattle.py_grammar.specs.Statements.{Params, Block}
use Rattle.py_grammar.specs.Trees.{tree_params, tree_block}
use Rattle.py_grammar.specs.Alone.{alone, IsDefinition, IsFunction, FailsAlone}
use Rattle.py_grammar.specs.Depth.{IsTooDeep, AreTooDeep}
use Rattle.py_blocks.specs.Source.{last_word}
use Rattle.py_reader.specs.declared.fault.SyntaxFault.{SyntaxFault}
use Rattle.py_reader.specs.declared.fault.SyntaxFault.TheVariants.{TooLong, Token as BadToken, NoParse, TooDeep}
use Rattle.py_reader.specs.Verdicts.{start_of, refusal}

-- where the last word of the tokens ends
abbrev pub end_if : Option Token → ℕ
end_if None = 0
end_if (Some token) = token.end

abbrev pub end_of_words : List Token → ℕ
end_of_words tokens = end_if (last_word tokens)

-- the function of these forms, whose text is the whole text
abbrev pub definition : List ℕ → List ℕ → Params → Block → Def
definition code called takes block = roll-Def (record { name = called; params = tree_params takes; body = tree_block block; source = code })

-- How a text is judged: by its length and its tokens. If they are those of one function, it is judged by what is before it,
-- its nesting and what is after it; else by the nesting before the failing token, and by that token.
pub data DefinitionVerdict : List ℕ → Result Def SyntaxFault → Type 0 where
  too_long : {code : List ℕ} → 262144 < length code → DefinitionVerdict code (Err TooLong)
  bad_token : {code : List ℕ} {fault : TokenFault} → length code ≤ 262144 → tokens_of code ≡ Err fault → DefinitionVerdict code (Err (BadToken fault))
  stands_later : {code : List ℕ} {tokens : List Token} {called : List ℕ} {takes : Params} {block : Block} → length code ≤ 262144 → tokens_of code ≡ Ok tokens
      → IsDefinition (kinds tokens) called takes block → 0 < start_of tokens 0 → DefinitionVerdict code (Err (NoParse 0 false))
  whole_too_deep : {code : List ℕ} {tokens : List Token} {called : List ℕ} {takes : Params} {block : Block} {place : ℕ} → length code ≤ 262144 → tokens_of code ≡ Ok tokens
      → IsDefinition (kinds tokens) called takes block → start_of tokens 0 ≡ 0 → IsTooDeep (alone called takes block) place → DefinitionVerdict code (Err (TooDeep (start_of tokens place)))
  goes_on : {code : List ℕ} {tokens : List Token} {called : List ℕ} {takes : Params} {block : Block} → length code ≤ 262144 → tokens_of code ≡ Ok tokens
      → IsDefinition (kinds tokens) called takes block → start_of tokens 0 ≡ 0 → ((at : ℕ) → IsTooDeep (alone called takes block) at → ⊥) → end_of_words tokens < length code
      → DefinitionVerdict code (Err (NoParse (end_of_words tokens) false))
  whole : {code : List ℕ} {tokens : List Token} {called : List ℕ} {takes : Params} {block : Block} → length code ≤ 262144 → tokens_of code ≡ Ok tokens
      → IsDefinition (kinds tokens) called takes block → start_of tokens 0 ≡ 0 → ((at : ℕ) → IsTooDeep (alone called takes block) at → ⊥) → end_of_words tokens ≡ length code
      → DefinitionVerdict code (Ok (definition code called takes block))
  too_deep_before : {code : List ℕ} {tokens : List Token} {place failing : ℕ} {construct : Option Construct} → length code ≤ 262144 → tokens_of code ≡ Ok tokens
      → FailsAlone (kinds tokens) failing construct → AreTooDeep IsFunction (take failing (kinds tokens)) place → DefinitionVerdict code (Err (TooDeep (start_of tokens place)))
  refused : {code : List ℕ} {tokens : List Token} {place : ℕ} {construct : Option Construct} → length code ≤ 262144 → tokens_of code ≡ Ok tokens
      → (fails : FailsAlone (kinds tokens) place construct) → ((at : ℕ) → AreTooDeep IsFunction (take place (kinds tokens)) at → ⊥) → DefinitionVerdict code (Err (refusal (start_of tokens place) fails.token construct))
