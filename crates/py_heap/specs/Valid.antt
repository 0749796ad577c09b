-- States that a session may have.
use Rattle.std.specs.Prelude.{◌≡◌, ℕ, ◌≤◌, Bool, IsTrue, List, All, Some}
use Rattle.std.specs.FinMap as finite
use Rattle.py_names.specs.Names.{is_variable}
use Rattle.py_tree.specs.declared.statements.Def.{Def}
use Rattle.py_value.specs.declared.value.Value.{Value}
use Rattle.py_heap.specs.declared.heap.Object.{Object}
use Rattle.py_heap.specs.declared.heap.Object.TheVariants as object
use Rattle.py_heap.specs.declared.state.State.{State}
use Rattle.py_heap.specs.Dicts.{HasNoKeyTwice}
use Rattle.py_heap.specs.References.{IsClosed}

-- no dict has a key twice, and each function's definition is of the kind that is asked for
abbrev pub IsValidObject : (Def → Type 0) → Object → Type 0
IsValidObject IsOfKind (object.List items) = Unit {0}
IsValidObject IsOfKind (object.Tuple items) = Unit {0}
IsValidObject IsOfKind (object.Dict pairs) = HasNoKeyTwice pairs
IsValidObject IsOfKind (object.Function def) = IsOfKind def
IsValidObject IsOfKind (object.Handle name uses) = Unit {0}

-- the most units on a meter
abbrev pub meter_limit : ℕ
meter_limit = 16777216

-- every reference names an object, every name with a value is one that a program may bind, every object is valid, and
-- the meter is within its limit
pub record IsValid (IsOfKind : Def → Type 0) (s : State) : Type 0 where
  pub closed : IsClosed s
  pub names : (name : List ℕ) (held : Value) → finite.get s.globals name ≡ Some held → IsTrue (is_variable name)
  pub objects : All (IsValidObject IsOfKind) s.heap
  pub meter : s.meter ≤ meter_limit

-- the same, with the kind told by a test
abbrev pub IsValidBy : (Def → Bool) → State → Type 0
IsValidBy test = IsValid (λ def. IsTrue (test def))

abbrev pub IsValidObjectBy : (Def → Bool) → Object → Type 0
IsValidObjectBy test = IsValidObject (λ def. IsTrue (test def))
