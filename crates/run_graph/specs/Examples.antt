-- Two small runs with their graphs, by hand: states and marks are given, not computed.
use Rattle.std.specs.Prelude.{ℕ, zero, suc, Bool, true, false, List, [], ◌∷◌, codes, pos}
use Rattle.std.specs.FinMap as finite
use Rattle.std.specs.Ordering.{nat_cmp}
use Rattle.std.specs.Cmp.Lexicographic.{slice_cmp}
use Rattle.py_value.specs.declared.value.Value.TheVariants as value
use Rattle.py_heap.specs.declared.heap.Object.TheVariants as object
use Rattle.py_heap.specs.declared.state.State.{State}
use Rattle.py_heap.specs.States.{empty, with_name, without_name, with_object}
use Rattle.py_machine.specs.declared.marks.Marks.{Marks}
use Rattle.py_machine.specs.Marked.{SetOf, with_member}
use Rattle.py_machine.specs.Runs.{Name}
use Rattle.graph_model.specs.declared.graph.CellRecord.{CellRecord}
use Rattle.graph_model.specs.declared.graph.Version.{Version}
use Rattle.graph_model.specs.declared.graph.Graph.{Graph}
use Rattle.run_graph.specs.Histories.{Run}

abbrev pub X : Name
X = codes "x"

abbrev pub Y : Name
Y = codes "y"

abbrev pub Print : Name
Print = codes "print"

abbrev pub set_of : List Name → SetOf (slice_cmp nat_cmp)
set_of [] = finite.empty
set_of (name ∷ names) = with_member (set_of names) name

-- these names looked up, and these bound or deleted
abbrev pub marked : List Name → List Name → Marks
marked looked bound = record { looked = set_of looked; bound = set_of bound; changed = finite.empty; drew = false }

abbrev pub version : List Name → ℕ → ℕ → Bool → Version
version names writer replaced absent = record { names = names; writer = writer; replaced = replaced; absent = absent; handle = false; size = 0 }

-- it reads these versions, and misses these names
abbrev pub cell_of : List ℕ → List Name → CellRecord
cell_of reads missing = record { code = []; meter = 0; steps = 0; drew = false; reads = reads; missing = missing }

abbrev pub run_with : ℕ → (ℕ → State) → (ℕ → Marks) → Run
run_with cells state marks = record { cells = cells; state = state; marks = marks; code = λ c. []; steps = λ c. 0; draws = λ c. []; counts = λ c. 0; size = λ c names. 0 }

-- ---- `x = [1]`, `y = x`, `y = 5`: a part that joins and splits

abbrev pub joined_1 : State
joined_1 = with_name (with_object empty (object.List (value.Number (pos 1) ∷ []))) X (value.Ref 0)

abbrev pub joined_2 : State
joined_2 = with_name joined_1 Y (value.Ref 0)

abbrev pub joined_3 : State
joined_3 = with_name joined_2 Y (value.Number (pos 5))

abbrev pub joined_states : ℕ → State
joined_states zero = empty
joined_states (suc zero) = joined_1
joined_states (suc (suc zero)) = joined_2
joined_states (suc (suc (suc n))) = joined_3

abbrev pub joined_marks : ℕ → Marks
joined_marks zero = marked [] []
joined_marks (suc zero) = marked [] (X ∷ [])
joined_marks (suc (suc zero)) = marked (X ∷ []) (Y ∷ [])
joined_marks (suc (suc (suc n))) = marked [] (Y ∷ [])

abbrev pub joined_run : Run
joined_run = run_with 3 joined_states joined_marks

-- the third cell reads version 2 by binding; versions 3 and 4 hold
abbrev pub joined_graph : Graph
joined_graph = record {
  cells = cell_of [] [] ∷ cell_of (1 ∷ []) [] ∷ cell_of (2 ∷ []) [] ∷ [];
  versions = version (X ∷ []) 1 2 false ∷ version (X ∷ Y ∷ []) 2 3 false ∷ version (X ∷ []) 3 0 false ∷ version (Y ∷ []) 3 0 false ∷ [];
}

-- ---- `x = 1`, `del x`, `y = 7` and `print(x)`, `x = 4`: a name that is deleted, looked up while it is gone, and bound again

abbrev pub deleted_1 : State
deleted_1 = with_name empty X (value.Number (pos 1))

abbrev pub deleted_2 : State
deleted_2 = without_name deleted_1 X

abbrev pub deleted_3 : State
deleted_3 = with_name deleted_2 Y (value.Number (pos 7))

abbrev pub deleted_4 : State
deleted_4 = with_name deleted_3 X (value.Number (pos 4))

abbrev pub deleted_states : ℕ → State
deleted_states zero = empty
deleted_states (suc zero) = deleted_1
deleted_states (suc (suc zero)) = deleted_2
deleted_states (suc (suc (suc zero))) = deleted_3
deleted_states (suc (suc (suc (suc n)))) = deleted_4

abbrev pub deleted_marks : ℕ → Marks
deleted_marks zero = marked [] []
deleted_marks (suc zero) = marked [] (X ∷ [])
deleted_marks (suc (suc zero)) = marked (X ∷ []) (X ∷ [])
deleted_marks (suc (suc (suc zero))) = marked (Print ∷ X ∷ []) (Y ∷ [])
deleted_marks (suc (suc (suc (suc n)))) = marked [] (X ∷ [])

abbrev pub deleted_run : Run
deleted_run = run_with 4 deleted_states deleted_marks

-- the third cell reads version 2, the absent x, and misses print
abbrev pub deleted_graph : Graph
deleted_graph = record {
  cells = cell_of [] [] ∷ cell_of (1 ∷ []) [] ∷ cell_of (2 ∷ []) (Print ∷ []) ∷ cell_of [] [] ∷ [];
  versions = version (X ∷ []) 1 2 false ∷ version (X ∷ []) 2 4 true ∷ version (Y ∷ []) 3 0 false ∷ version (X ∷ []) 4 0 false ∷ [];
}
