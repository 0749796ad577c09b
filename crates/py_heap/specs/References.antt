-- What values and objects refer to, and states in which every reference is the address of an object.
use Rattle.std.specs.Prelude.{◌≡◌, ℕ, ◌<◌, List, [], ◌∷◌, length, All, Some}
use Rattle.std.specs.List.{flat_map}
use Rattle.std.specs.FinMap as finite
use Rattle.py_value.specs.declared.key.Key.{Key}
use Rattle.py_value.specs.declared.value.Value.{Value}
use Rattle.py_value.specs.declared.value.Value.TheVariants as value
use Rattle.py_heap.specs.declared.heap.Object.{Object}
use Rattle.py_heap.specs.declared.heap.Object.TheVariants as object
use Rattle.py_heap.specs.declared.state.State.{State}

-- the address that a value names, if it names one
abbrev pub value_refs : Value → List ℕ
value_refs value.Nothing = []
value_refs (value.Bool truth) = []
value_refs (value.Number number) = []
value_refs (value.Text text) = []
value_refs (value.Ref at) = at ∷ []
value_refs (value.Builtin builtin) = []

-- the address that the value of a pair names; a key names none
abbrev pub pair_refs : Key × Value → List ℕ
pair_refs pair = value_refs pair.1

-- the addresses that an object names, in order
abbrev pub object_refs : Object → List ℕ
object_refs (object.List items) = flat_map value_refs items
object_refs (object.Tuple items) = flat_map value_refs items
object_refs (object.Dict pairs) = flat_map pair_refs pairs
object_refs (object.Function def) = []
object_refs (object.Handle name uses) = []

-- each of these is the address of an object
abbrev pub AreLive : List Object → List ℕ → Type 0
AreLive heap refs = All (λ at. at < length heap) refs

-- no name's value and no object names an address at which there is no object
pub record IsClosed (s : State) : Type 0 where
  pub names : (name : List ℕ) (held : Value) → finite.get s.globals name ≡ Some held → AreLive s.heap (value_refs held)
  pub objects : All (λ held. AreLive s.heap (object_refs held)) s.heap
