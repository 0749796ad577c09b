-- The grammar of a text that is one function alone.
use Rattle.std.specs.Prelude.{◌≡◌, ◌+◌, ℕ, List, ◌++◌, take, slice_get, Option, Some}
use Rattle.py_token.specs.declared.kinds.Kind.{Kind}
use Rattle.py_grammar.specs.declared.constructs.Construct.{Construct}
use Rattle.py_grammar.specs.Statements.{Params, Block, compound, define, statements_one, Cell, IsCell}
use Rattle.py_grammar.specs.States.{State, StandsAt, state_stands}
use Rattle.py_grammar.specs.Outside.{outside}

-- the cell that is one function
abbrev pub alone : List ℕ → Params → Block → Cell
alone called takes block = Some (statements_one (compound (define called takes) block))

-- these tokens spell this function, and nothing else
abbrev pub IsDefinition : List Kind → List ℕ → Params → Block → Type 0
IsDefinition tokens called takes block = IsCell tokens (alone called takes block)

-- these tokens spell this cell, which is one function
abbrev pub IsFunction : List Kind → Cell → Type 0
IsFunction tokens c = (called : List ℕ) × (takes : Params) × (block : Block) × (c ≡ alone called takes block) × IsCell tokens c

-- one function alone begins with these tokens
abbrev pub BeginsDefinition : List Kind → Type 0
BeginsDefinition tokens = (more : List Kind) × (called : List ℕ) × (takes : Params) × (block : Block) × IsDefinition (tokens ++ more) called takes block

-- the first token such that no function alone begins with the tokens up to it
pub record IsFailingAlone (tokens : List Kind) (at : ℕ) : Type 0 where
  pub before : BeginsDefinition (take at tokens)
  pub with : BeginsDefinition (take (at + 1) tokens) → ⊥

-- the failing token, and the construct outside the grammar that it begins, if any
pub record FailsAlone (tokens : List Kind) (place : ℕ) (construct : Option Construct) : Type 0 where
  pub failing : IsFailingAlone tokens place
  pub open_forms : State
  pub stand : state_stands open_forms
  pub before_it : StandsAt (take place tokens) open_forms
  pub token : Kind
  pub is_token : slice_get tokens place ≡ Some token
  pub begins_construct : outside open_forms token ≡ construct
