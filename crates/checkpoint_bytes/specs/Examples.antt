-- A small session written down.
use Rattle.std.specs.Prelude.{ℕ, false, List, [], ◌∷◌, codes}
use Rattle.graph_model.specs.declared.graph.Graph.{Graph}
use Rattle.graph_model.specs.declared.plan.Plan.{Plan}
use Rattle.py_heap.specs.declared.state.State.{State}
use Rattle.part_bytes.specs.Examples.{two_in_x}

-- after the cell `x = 2`, which raised the count
abbrev pub small_state : State
small_state = record two_in_x { count = 1; meter = 0 }

-- the cell wrote version 1, which is x
abbrev pub small_graph : Graph
small_graph = record {
  cells = record { code = codes "x = 2"; meter = 0; steps = 2; drew = false; reads = []; missing = [] } ∷ [];
  versions = record { names = codes "x" ∷ []; writer = 1; replaced = 0; absent = false; handle = false; size = 27 } ∷ [];
}

-- the version is copied
abbrev pub small_plan : Plan
small_plan = record { copied = 1 ∷ []; rerun = [] }

-- in version 1
abbrev pub small_bytes1 : List ℕ
small_bytes1 =
    69 ∷ 78 ∷ 67 ∷ 75 ∷ 0 ∷ 1 ∷ 0 ∷ 0 ∷ 0 ∷ 1 ∷ 0 ∷ 0 ∷ 0 ∷ 0 ∷ 0 ∷ 0 ∷ 0 ∷ 1
    ∷ 0 ∷ 0 ∷ 0 ∷ 5 ∷ 120 ∷ 32 ∷ 61 ∷ 32 ∷ 50 ∷ 0 ∷ 0 ∷ 0 ∷ 0 ∷ 0 ∷ 0 ∷ 0 ∷ 2 ∷ 0 ∷ 0 ∷ 0 ∷ 0 ∷ 0 ∷ 0 ∷ 0 ∷ 0 ∷ 0 ∷ 0
    ∷ 0 ∷ 0 ∷ 0 ∷ 1
    ∷ 0 ∷ 0 ∷ 0 ∷ 1 ∷ 0 ∷ 0 ∷ 0 ∷ 0 ∷ 0 ∷ 0 ∷ 0 ∷ 0 ∷ 27 ∷ 0 ∷ 0 ∷ 0 ∷ 1 ∷ 1 ∷ 120 ∷ 1
    ∷ 0 ∷ 0 ∷ 0 ∷ 1 ∷ 1 ∷ 120 ∷ 3 ∷ 0 ∷ 0 ∷ 0 ∷ 0 ∷ 0 ∷ 0 ∷ 0 ∷ 0 ∷ 0 ∷ 0 ∷ 0 ∷ 0 ∷ 0 ∷ 0 ∷ 0 ∷ 2 ∷ 0 ∷ 0 ∷ 0 ∷ 0 ∷ []

-- in version 2, with the code in the table
abbrev pub small_bytes : List ℕ
small_bytes =
    69 ∷ 78 ∷ 67 ∷ 75 ∷ 0 ∷ 2 ∷ 0 ∷ 0 ∷ 0 ∷ 1 ∷ 0 ∷ 0 ∷ 0 ∷ 0
    ∷ 0 ∷ 0 ∷ 0 ∷ 1 ∷ 0 ∷ 0 ∷ 0 ∷ 5 ∷ 120 ∷ 32 ∷ 61 ∷ 32 ∷ 50 ∷ 0 ∷ 0 ∷ 0 ∷ 1
    ∷ 0 ∷ 0 ∷ 0 ∷ 0 ∷ 0 ∷ 0 ∷ 0 ∷ 0 ∷ 0 ∷ 0 ∷ 0 ∷ 2 ∷ 0 ∷ 0 ∷ 0 ∷ 0 ∷ 0 ∷ 0 ∷ 0 ∷ 0 ∷ 0 ∷ 0
    ∷ 0 ∷ 0 ∷ 0 ∷ 1
    ∷ 0 ∷ 0 ∷ 0 ∷ 1 ∷ 0 ∷ 0 ∷ 0 ∷ 0 ∷ 0 ∷ 0 ∷ 0 ∷ 0 ∷ 27 ∷ 0 ∷ 0 ∷ 0 ∷ 1 ∷ 1 ∷ 120 ∷ 1
    ∷ 0 ∷ 0 ∷ 0 ∷ 1 ∷ 1 ∷ 120 ∷ 3 ∷ 0 ∷ 0 ∷ 0 ∷ 0 ∷ 0 ∷ 0 ∷ 0 ∷ 0 ∷ 0 ∷ 0 ∷ 0 ∷ 0 ∷ 0 ∷ 0 ∷ 0 ∷ 2 ∷ 0 ∷ 0 ∷ 0 ∷ 0 ∷ []
