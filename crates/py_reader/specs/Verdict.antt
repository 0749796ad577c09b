-- How a code is judged, as a definition that computes: `Verdicts` says what the answer means.
use Rattle.std.specs.Prelude.{ℕ, suc, ◌-◌, nat_lt, Bool, false, if◌then◌else◌, List, [], ◌∷◌, length, drop, Some, None, Result, Ok, Err}
use Rattle.py_token.specs.declared.kinds.Kind.{Kind}
use Rattle.py_token.specs.declared.kinds.Token.{Token}
use Rattle.py_token.specs.declared.faults.TokenFault.{TokenFault}
use Rattle.py_token.specs.Cuts.{kinds}
use Rattle.py_token.specs.Lines.{tokens_of}
use Rattle.py_tree.specs.declared.statements.Stmt.{Stmt}
use Rattle.py_grammar.specs.States.{State, done, start}
use Rattle.py_grammar.specs.Outside.{outside}
use Rattle.py_grammar.specs.Trees.{tree_cell}
use Rattle.py_frames.specs.Forced.{reach}
use Rattle.py_blocks.specs.Follows.{forms_step, from_start}
use Rattle.py_blocks.specs.Forced.{forced_now}
use Rattle.py_blocks.specs.Held.{held_state}
use Rattle.py_blocks.specs.Source.{source_of}
use Rattle.py_reader.specs.declared.fault.SyntaxFault.{SyntaxFault}
use Rattle.py_reader.specs.declared.fault.SyntaxFault.TheVariants.{TooLong, Token as BadToken, TooDeep}
use Rattle.py_reader.specs.Verdicts.{start_of, refusal}

abbrev pub Judged : Type 0
Judged = Result (List Stmt) SyntaxFault

-- ---- its tokens

abbrev pub with_tokens : Result (List Token) TokenFault → Result (List Token) SyntaxFault
with_tokens (Ok tokens) = Ok tokens
with_tokens (Err fault) = Err (BadToken fault)

unfoldable pub tokens_within : List ℕ → Result (List Token) SyntaxFault
tokens_within code = if nat_lt 262144 (length code) then Err TooLong else with_tokens (tokens_of code)

-- ---- how deep it is

-- the place of the first part that is deeper than 64 when these forms are open before these tokens, and 0 if there is none;
-- places are counted down, and the first is one more than there are tokens
abbrev pub deepest_of : List Token → State → List Kind → ℕ
deepest_of tokens s rest = reach (forced_now (held_state (from_start (suc (length tokens)) (length tokens)) (λ from to. []) s rest)) 64

abbrev pub deep_fault : List Token → ℕ → SyntaxFault
deep_fault tokens deepest = TooDeep (start_of tokens (suc (length tokens) - deepest))

-- what is too deep comes before the rest
abbrev pub nested : {A : Type 0} → List Token → ℕ → Result A SyntaxFault → Result A SyntaxFault
nested tokens deepest judged = if nat_lt 0 deepest then Err (deep_fault tokens deepest) else judged

-- and before a failing token, if it is among the tokens before that one
abbrev pub unless_deep : List Token → ℕ → ℕ → SyntaxFault → SyntaxFault
unless_deep tokens place deepest fault = if nat_lt (suc (length tokens) - place) deepest then deep_fault tokens deepest else fault

-- ---- where the machine of the grammar ends

-- after all tokens, or at one that it refuses, with the number of those before it
pub data End : Type 0 where
  all_read : State → End
  stopped : ℕ → State → Kind → End

-- of a cell, or of a function alone
abbrev pub run_from : Bool → ℕ → State → List Kind → End
run_from alone n s [] = all_read s
run_from alone n s (t ∷ ts) = elim (forms_step alone s t) [ None ↦ stopped n s t | Some u ↦ run_from alone (suc n) u ts ]

-- why the token is refused that comes when these forms are open, or what is too deep before it
abbrev pub stop_fault : List Token → ℕ → State → Kind → SyntaxFault
stop_fault tokens place s t = unless_deep tokens place (deepest_of tokens s (drop place (kinds tokens))) (refusal (start_of tokens place) t (outside s t))

-- what has been read to its end is judged so
abbrev pub of_end : {A : Type 0} → (List Token → State → Result A SyntaxFault) → List Token → End → Result A SyntaxFault
of_end whole tokens (all_read s) = whole tokens s
of_end whole tokens (stopped place s t) = Err (stop_fault tokens place s t)

abbrev pub of_tokens : {A : Type 0} → Bool → (List Token → State → Result A SyntaxFault) → Result (List Token) SyntaxFault → Result A SyntaxFault
of_tokens alone whole (Err fault) = Err fault
of_tokens alone whole (Ok tokens) = of_end whole tokens (run_from alone 0 start (kinds tokens))

-- ---- a cell

abbrev pub of_cell : List ℕ → List Token → State → Judged
of_cell code tokens (done c) = nested tokens (deepest_of tokens (done c) []) (Ok (tree_cell (source_of code tokens) c))
of_cell code tokens _ = Ok []

unfoldable pub verdict : List ℕ → Judged
verdict code = of_tokens false (of_cell code) (tokens_within code)
