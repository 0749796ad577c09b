-- States and trees whose texts are UTF-8 of fewer than 2^32 bytes and whose numbers have 128 bits.
use Rattle.std.specs.Prelude.{◌≡◌, ℕ, ◌≤◌, ◌<◌, ◌^◌, FitsSigned, List, length, Some, slice_get}
use Rattle.std.specs.Int.{w128}
use Rattle.std.specs.List.{AllByRecursion}
use Rattle.std.specs.FinMap as finite
use Rattle.nb_outside.specs.declared.feed.Drawn.{Drawn}
use Rattle.nb_outside.specs.declared.feed.Drawn.TheVariants as answer
use Rattle.py_tree.specs.declared.expressions.Literal.{Literal}
use Rattle.py_tree.specs.declared.expressions.Literal.TheVariants as literal
use Rattle.py_value.specs.declared.value.Value.{Value}
use Rattle.py_heap.specs.declared.heap.Object.{Object}
use Rattle.py_heap.specs.declared.heap.Object.TheVariants as object
use Rattle.py_heap.specs.declared.state.State.{State}
use Rattle.part_bytes.specs.Plain.{IsText, IsPlain, IsPlainPair}
use Rattle.plain_states.specs.Constants.{Constants, constants_by_def}

-- ---- trees

abbrev pub IsPlainLiteral : Literal → Type 0
IsPlainLiteral literal.Nothing = Unit {0}
IsPlainLiteral (literal.Bool truth) = Unit {0}
IsPlainLiteral (literal.Number n) = FitsSigned w128 n
IsPlainLiteral (literal.Text text) = IsText text

abbrev pub ArePlain : Constants → Type 0
ArePlain = AllByRecursion IsPlainLiteral

-- ---- draws: a word has 64 bits

abbrev pub IsWord : Drawn → Type 0
IsWord (answer.Word word) = word < 2 ^ 64
IsWord answer.Failed = Unit {0}

abbrev pub AreWords : List Drawn → Type 0
AreWords = AllByRecursion IsWord

-- ---- states

-- what is in an object is plain
abbrev pub HoldsPlain : Object → Type 0
HoldsPlain (object.List items) = AllByRecursion IsPlain items
HoldsPlain (object.Tuple items) = AllByRecursion IsPlain items
HoldsPlain (object.Dict pairs) = AllByRecursion IsPlainPair pairs
HoldsPlain (object.Function def) = ArePlain (constants_by_def def)
HoldsPlain (object.Handle name uses) = IsText name

-- how many items or pairs it has
abbrev pub items_in : Object → ℕ
items_in (object.List items) = length items
items_in (object.Tuple items) = length items
items_in (object.Dict pairs) = length pairs
items_in (object.Function def) = 0
items_in (object.Handle name uses) = 0

-- what names have and what objects hold is plain; and each item and each object has been paid for with a unit
pub record IsPlainState (s : State) : Type 0 where
  pub names : (name : List ℕ) (held : Value) → finite.get s.globals name ≡ Some held → IsPlain held
  pub objects : (at : ℕ) (held : Object) → slice_get s.heap at ≡ Some held → HoldsPlain held × (items_in held ≤ s.meter)
  pub few : length s.heap ≤ s.meter
  pub meter : s.meter ≤ 16777216
