-- What is forced of the tokens that have been read tells where they are too deep.
use Rattle.std.specs.Prelude.{◌≡◌, ℕ, ◌-◌, ◌<◌, ◌≤◌, Bool, true, false, List, length, Option, Some}
use Rattle.py_token.specs.declared.kinds.Kind.{Kind}
use Rattle.py_grammar.specs.Statements.{Cell, IsCell}
use Rattle.py_grammar.specs.Alone.{IsFunction}
use Rattle.py_grammar.specs.Depth.{IsTooDeep, AreTooDeep}
use Rattle.py_frames.specs.Forced.{reach}
use Rattle.py_blocks.specs.declared.state.Reader.{Reader}
use Rattle.py_blocks.specs.Blocks.{Texts}
use Rattle.py_blocks.specs.Steps.{start}
use Rattle.py_blocks.specs.Follows.{run}
use Rattle.py_blocks.specs.Forced.{forced_now}

-- the place of the first part that is deeper than 64, and 0 if there is none
abbrev pub deepest : Reader → ℕ
deepest reader = reach (forced_now reader.state) 64

-- a cell, or a function alone
abbrev pub IsOf : Bool → List Kind → Cell → Type 0
IsOf false tokens c = IsCell tokens c
IsOf true tokens c = IsFunction tokens c

-- the tokens are too deep just if that part begins among them, and then where it begins
abbrev pub TellsDepth : Type 0
TellsDepth = (alone : Bool) (texts : Texts) (most : ℕ) (tokens : List Kind) (reader : Reader) → length tokens ≤ most → run alone texts most start tokens ≡ Some reader
    → (most - length tokens < deepest reader → AreTooDeep (IsOf alone) tokens (most - deepest reader)) × (deepest reader ≤ most - length tokens → (place : ℕ) → AreTooDeep (IsOf alone) tokens place → ⊥)

-- of a whole cell, when it has been read
abbrev pub TellsCells : Type 0
TellsCells = (texts : Texts) (most : ℕ) (tokens : List Kind) (c : Cell) (reader : Reader) → length tokens < most → IsCell tokens c → run false texts most start tokens ≡ Some reader
    → (0 < deepest reader → IsTooDeep c (most - deepest reader)) × (deepest reader ≡ 0 → (place : ℕ) → IsTooDeep c place → ⊥)
