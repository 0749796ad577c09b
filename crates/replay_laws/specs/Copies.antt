-- Copies of versions, and one way to load them: after the objects that are there.
use Rattle.std.specs.Prelude.{◌≡◌, ℕ, ◌+◌, false, List, [], ◌∷◌, ◌++◌, map, length, Contains, Option, Some, None}
use Rattle.std.specs.FinMap as finite
use Rattle.py_value.specs.declared.key.Key.{Key}
use Rattle.py_value.specs.declared.value.Value.{Value}
use Rattle.py_value.specs.declared.value.Value.TheVariants as value
use Rattle.py_heap.specs.declared.heap.Object.{Object}
use Rattle.py_heap.specs.declared.heap.Object.TheVariants as object
use Rattle.py_heap.specs.declared.state.State.{State}
use Rattle.py_heap.specs.References.{IsClosed}
use Rattle.py_heap.specs.States.{with_name, without_name}
use Rattle.py_machine.specs.Runs.{Name}
use Rattle.py_laws.specs.Same.{Same}
use Rattle.graph_model.specs.declared.graph.Version.{Version}
use Rattle.graph_model.specs.declared.graph.Graph.{Graph}
use Rattle.graph_model.specs.declared.plan.Plan.{Plan}
use Rattle.graph_model.specs.Graphs.{VersionAt}

-- each copied version with a value has a copy: a closed state with its names as they are in the last state of the run. It has
-- no handle
abbrev pub AreCopies : Graph → Plan → State → (ℕ → State) → Type 0
AreCopies g p last copy = (v : ℕ) (x : Version) → Contains p.copied v → VersionAt g v x → x.absent ≡ false → x.handle ≡ false
    → IsClosed (copy v) × Same (Contains x.names) last (copy v)

-- ---- a load

-- with each address higher by this number
abbrev pub higher : ℕ → Value → Value
higher base (value.Ref at) = value.Ref (base + at)
higher base value.Nothing = value.Nothing
higher base (value.Bool truth) = value.Bool truth
higher base (value.Number number) = value.Number number
higher base (value.Text text) = value.Text text
higher base (value.Builtin builtin) = value.Builtin builtin

abbrev pub higher_pair : ℕ → Key × Value → Key × Value
higher_pair base pair = (pair.0, higher base pair.1)

abbrev pub higher_object : ℕ → Object → Object
higher_object base (object.List items) = object.List (map (higher base) items)
higher_object base (object.Tuple items) = object.Tuple (map (higher base) items)
higher_object base (object.Dict pairs) = object.Dict (map (higher_pair base) pairs)
higher_object base (object.Function def) = object.Function def
higher_object base (object.Handle name uses) = object.Handle name uses

-- the name gets a value, or loses the one that it has
abbrev pub put_name : ℕ → State → Name → Option Value → State
put_name base t x (Some held) = with_name t x (higher base held)
put_name base t x None = without_name t x

abbrev pub put_names : ℕ → State → List Name → State → State
put_names base copy [] t = t
put_names base copy (x ∷ xs) t = put_names base copy xs (put_name base t x (finite.get copy.globals x))

abbrev pub with_objects : List Object → State → State
with_objects more t = record t { heap = t.heap ++ more }

-- the objects of the copy after those of t, and the names as in the copy
abbrev pub with_copy : State → List Name → State → State
with_copy copy names t = put_names (length t.heap) copy names (with_objects (map (higher_object (length t.heap)) copy.heap) t)
