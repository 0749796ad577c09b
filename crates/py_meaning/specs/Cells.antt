-- A cell from a state, under draws: what it gives, what it leaves, and its trace.
use Rattle.std.specs.Prelude.{◌≡◌, ℕ, List, Option, Some, None, Result, Ok, Err}
use Rattle.nb_outside.specs.declared.feed.Drawn.{Drawn}
use Rattle.py_tree.specs.declared.statements.Stmt.{Stmt}
use Rattle.py_heap.specs.declared.state.State.{State}
use Rattle.py_machine.specs.Marked.{Event}
use Rattle.py_machine.specs.Runs.{Outcome, Stop, raised, draw_failed, asks, start}
use Rattle.py_meaning.specs.declared.end.CellEnd.{CellEnd}
use Rattle.py_meaning.specs.declared.end.CellError.{CellError}
use Rattle.py_meaning.specs.declared.end.CellError.TheVariants as error
use Rattle.py_meaning.specs.Acts.{run, trace}
use Rattle.py_meaning.specs.Meaning.{cell}

abbrev pub outcome : List Stmt → State → List Drawn → Outcome (Option (List ℕ))
outcome body s draws = run (cell body) draws (start s)

-- what a cell does that its report speaks of, in order
abbrev pub traced : List Stmt → State → List Drawn → List Event
traced body s draws = trace (cell body) draws (start s)

-- a draw was called for and none was left
abbrev pub Asks : {A : Type 0} → Outcome A → Type 0
Asks o = o.0 ≡ Err asks

-- the cell takes just these draws, and asks for no more
pub record UsesUp (body : List Stmt) (s : State) (draws : List Drawn) : Type 0 where
  pub ends : Asks (outcome body s draws) → ⊥
  pub takes : (outcome body s draws).1.drawn ≡ draws

-- a draw that failed is an OSError; a run that asks gives no end, and the answer here means nothing
abbrev pub error_of : Stop → CellError
error_of (raised e) = error.Raised e
error_of draw_failed = error.Feed
error_of asks = error.Feed

abbrev pub error_in : {A : Type 0} → Result A Stop → Option CellError
error_in (Ok a) = None
error_in (Err e) = Some (error_of e)

abbrev pub result_in : Result (Option (List ℕ)) Stop → Option (List ℕ)
result_in (Ok result) = result
result_in (Err e) = None

abbrev pub end_of : Outcome (Option (List ℕ)) → CellEnd
end_of o = record { printed = o.1.printed; result = result_in o.0; error = error_in o.0; steps = o.1.steps; draws = o.1.drawn; marks = o.1.marks }

-- what a cell gives from a state under draws, if it doesn't ask for more
abbrev pub end : List Stmt → State → List Drawn → CellEnd
end body s draws = end_of (outcome body s draws)

-- the state that a cell leaves: after an error too, what it did before stays
abbrev pub end_state : List Stmt → State → List Drawn → State
end_state body s draws = (outcome body s draws).1.state
