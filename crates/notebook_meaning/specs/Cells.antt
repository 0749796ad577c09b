-- The cells among the asks of a session.
use Rattle.std.specs.Prelude.{ℕ, Bool, true, false, not, ◌&&◌, List, [], ◌∷◌, ◌++◌, length}
use Rattle.plain_data.specs.Cuts.{prefix_within}
use Rattle.nb_outside.specs.declared.feed.Drawn.{Drawn}
use Rattle.py_heap.specs.declared.state.State.{State}
use Rattle.run_graph.specs.RunLists.{ListedCell, state_after}
use Rattle.every_history.specs.Reading.{read}
use Rattle.session_core.specs.declared.request.Ask.{Ask}
use Rattle.session_core.specs.declared.request.Ask.TheVariants.{Execute, Info, Complete, Shutdown, Migrate}
use Rattle.session_core.specs.Meanings.{Served}

-- a code as it is recorded: its longest beginning of whole characters within 262,148 bytes. What is too long stays too long
abbrev pub recorded : List ℕ → List ℕ
recorded code = prefix_within 262148 code

-- a cell that is stored and not silent raises the session's count
abbrev pub cell_of : List ℕ → Bool → Bool → List Drawn → ListedCell
cell_of code silent store draws = record { code = recorded code; draws = draws; counted = not silent && store }

-- one ask more: a code is a cell more, and a restart begins anew
abbrev pub with_ask : List ListedCell → Ask → List Drawn → List ListedCell
with_ask cells (Execute code silent store) draws = cells ++ cell_of code silent store draws ∷ []
with_ask cells Info draws = cells
with_ask cells (Complete code) draws = cells
with_ask cells (Shutdown true) draws = []
with_ask cells (Shutdown false) draws = cells
with_ask cells (Migrate to weights) draws = cells

abbrev pub cells_after : List ListedCell → List Served → List ListedCell
cells_after cells [] = cells
cells_after cells (s ∷ more) = cells_after (with_ask cells s.ask s.draws) more

-- the cells since the last restart
abbrev pub cells_of : List Served → List ListedCell
cells_of served = cells_after [] served

-- the state after these cells, one after the other and never moved
abbrev pub unmoved : List ListedCell → State
unmoved cells = state_after read cells (length cells)
