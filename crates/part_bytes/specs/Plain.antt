-- What four bytes of a count, sixteen of a number, and bytes of a text can say.
use Rattle.std.specs.Prelude.{◌≡◌, ℕ, ◌<◌, ◌^◌, true, FitsSigned, List, All, length, Some, slice_get}
use Rattle.std.specs.Int.{w128}
use Rattle.std.specs.Str.{is_utf8}
use Rattle.std.specs.FinMap as finite
use Rattle.py_value.specs.declared.key.Key.{Key}
use Rattle.py_value.specs.declared.value.Value.{Value}
use Rattle.py_value.specs.declared.value.Value.TheVariants as value
use Rattle.py_value.specs.Keys.{value_of}
use Rattle.py_heap.specs.declared.heap.Object.{Object}
use Rattle.py_heap.specs.declared.heap.Object.TheVariants as object
use Rattle.py_heap.specs.declared.state.State.{State}
use Rattle.part_bytes.specs.Parts.{order}

-- a text is UTF-8 of fewer than 2^32 bytes
abbrev pub IsText : List ℕ → Type 0
IsText text = (is_utf8 text ≡ true) × (length text < 2 ^ 32)

-- a number has 128 bits
abbrev pub IsPlain : Value → Type 0
IsPlain (value.Number n) = FitsSigned w128 n
IsPlain (value.Text text) = IsText text
IsPlain (value.Ref at) = Unit {0}
IsPlain value.Nothing = Unit {0}
IsPlain (value.Bool truth) = Unit {0}
IsPlain (value.Builtin builtin) = Unit {0}

abbrev pub IsPlainPair : Key × Value → Type 0
IsPlainPair pair = IsPlain (value_of pair.0) × IsPlain pair.1

-- an object has fewer than 2^32 items
abbrev pub IsPlainObject : Object → Type 0
IsPlainObject (object.List items) = (length items < 2 ^ 32) × All IsPlain items
IsPlainObject (object.Tuple items) = (length items < 2 ^ 32) × All IsPlain items
IsPlainObject (object.Dict pairs) = (length pairs < 2 ^ 32) × All IsPlainPair pairs
IsPlainObject (object.Function def) = IsText def.source
IsPlainObject (object.Handle name uses) = Unit {0}

-- what a name has, if it has a value
abbrev pub IsPlainIn : State → List ℕ → Type 0
IsPlainIn s name = (held : Value) → finite.get s.globals name ≡ Some held → IsPlain held

-- the object at an address, if there is one
abbrev pub IsPlainAt : State → ℕ → Type 0
IsPlainAt s at = (held : Object) → slice_get s.heap at ≡ Some held → IsPlainObject held

-- fewer than 2^32 names, which reach fewer than 2^32 objects; and what they have and reach is plain
pub record IsPlainPart (s : State) (names : List (List ℕ)) : Type 0 where
  pub few : length names < 2 ^ 32
  pub few_objects : length (order s names) < 2 ^ 32
  pub values : All (IsPlainIn s) names
  pub objects : All (IsPlainAt s) (order s names)
