-- The machine on what the program holds, beside the machine on forms.
use Rattle.std.specs.Prelude.{◌≡◌, ℕ, ◌+◌, ◌-◌, ◌<◌, ◌≤◌, IsTrue, Bool, true, false, List, [], ◌∷◌, ◌++◌, length, Option, Some, None}
use Rattle.py_token.specs.declared.kinds.Kind.{Kind}
use Rattle.py_grammar.specs.Statements.{is_new, Cell, IsCell, spelling, Statement, spell_statement, Around, statement_stands}
use Rattle.py_grammar.specs.Trees.{Source, tree_statement, tree_cell}
use Rattle.py_grammar.specs.Depth.{in_cell}
use Rattle.py_frames.specs.Under.{first, nth, placed}
use Rattle.py_grammar.specs.States as m
use Rattle.py_grammar.specs.States.{state_stands}
use Rattle.py_grammar.specs.AloneMachine.{step_alone, run_alone}
use Rattle.py_blocks.specs.declared.state.Done.{Done}
use Rattle.py_blocks.specs.declared.state.Reader.{Reader}
use Rattle.py_blocks.specs.declared.state.State.TheVariants.{End}
use Rattle.py_blocks.specs.Blocks.{Texts}
use Rattle.py_blocks.specs.Held.{held_state}
use Rattle.py_blocks.specs.Heard.{heard_now}
use Rattle.py_blocks.specs.Kept.{under_statement, kept_whole}
use Rattle.py_blocks.specs.Steps.{Names, is_new_in, start, step}

-- of a cell, or of one function alone
abbrev pub forms_step : Bool → m.State → Kind → Option m.State
forms_step false s t = m.step s t
forms_step true s t = step_alone s t

-- if a function is open, the names are those that are in it
abbrev pub HearsIn : Option (List Kind) → Names → Type 0
HearsIn None names = Unit {0}
HearsIn (Some ks) names = (n : List ℕ) → is_new_in names n ≡ is_new n ks

abbrev pub Hears : m.State → Names → Type 0
Hears s names = HearsIn (heard_now s) names

abbrev pub forms_run : Bool → m.State → List Kind → Option m.State
forms_run false s ts = m.run s ts
forms_run true s ts = run_alone s ts

-- each token is given its place: the first this number, and each of the others one less than the one before
abbrev pub run : Bool → Texts → ℕ → Reader → List Kind → Option Reader
run alone texts at reader [] = Some reader
run alone texts at reader (t ∷ ts) = elim (step alone texts at (at - 1) reader t) [ None ↦ None | Some next ↦ run alone texts (at - 1) next ts ]

-- the place where so many of all tokens are left, if that of the first is `most`
abbrev pub from_start : ℕ → ℕ → ℕ → ℕ
from_start most all left = most + left - all

-- the text from one place to another
abbrev pub by_place : Source → ℕ → Texts
by_place source most from to = source (most - from) (most - to)

-- places by how many tokens are left
module _ (place : ℕ → ℕ) where
  -- what is held when these forms are open, before these tokens
  abbrev pub reader_at : Texts → m.State → List Kind → Names → Reader
  reader_at texts s rest names = record { state = held_state place texts s rest; names = names }

  -- what is found before these tokens is what these forms say, if there are any, and otherwise nothing
  abbrev pub Follows : Texts → List Kind → Option Reader → Option m.State → Type 0
  Follows texts rest found None = found ≡ None
  Follows texts rest found (Some u) = (names : Names) × (found ≡ Some (reader_at texts u rest names)) × Hears u names

  -- one more token does to what is held what it does to the forms
  abbrev pub StepFollows : Type 0
  StepFollows = (alone : Bool) (texts : Texts) (s : m.State) (token : Kind) (rest : List Kind) (names : Names) → state_stands s → Hears s names
      → Follows texts rest (step alone texts (place (length (token ∷ rest))) (place (length rest)) (reader_at texts s (token ∷ rest) names) token) (forms_step alone s token)

  -- a statement that isn't 64 deep below itself keeps its tree; where a function may be, this is its text
  abbrev pub KeepsTrees : Type 0
  KeepsTrees = (texts : Texts) (x : Statement) (rest : List Kind) (source : List ℕ) (a : Around) (earlier : List Kind → List Kind) → statement_stands x a earlier → length (under_statement place x rest) < 64
      → (IsTrue a.top → source ≡ texts (place (length (spell_statement x rest))) (place (length rest))) → kept_whole place texts x rest ≡ tree_statement source x

-- tokens do to what is held what they do to the forms, whatever comes after them
abbrev pub RunFollows : Type 0
RunFollows = (alone : Bool) (texts : Texts) (most : ℕ) (tokens rest : List Kind) → Follows (from_start most (length (tokens ++ rest))) texts rest (run alone texts most start tokens) (forms_run alone m.start tokens)

-- what is held of a cell at its end: its tree, unless a part is at depth 65, and the first place at each depth
pub record HoldsCell (source : Source) (most : ℕ) (c : Cell) (done : Done) : Type 0 where
  pub tree : length done.under ≤ 64 → done.statements ≡ tree_cell source c
  pub places : (depth : ℕ) → placed (from_start most (length (spelling c))) (first (in_cell c depth)) ≡ nth depth done.under

-- the tokens of a cell are read to its end, with what is to be held of it
abbrev pub ReadsCells : Type 0
ReadsCells = (source : Source) (most : ℕ) (tokens : List Kind) (c : Cell) → IsCell tokens c → length tokens ≤ most
    → (done : Done) × (names : Names) × (run false (by_place source most) most start tokens ≡ Some (record { state = End done; names = names })) × HoldsCell source most c done
