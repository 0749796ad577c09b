-- When two states are the same over some names: equal but for the addresses of their objects.
use Rattle.std.specs.Prelude.{◌≡◌, ◌↔◌, ℕ, List, [], Contains, Option, Some, None, slice_get}
use Rattle.std.specs.List.{AllZip}
use Rattle.std.specs.FinMap as finite
use Rattle.py_value.specs.declared.key.Key.{Key}
use Rattle.py_value.specs.declared.value.Value.{Value}
use Rattle.py_value.specs.declared.value.Value.TheVariants as value
use Rattle.py_heap.specs.declared.heap.Object.{Object}
use Rattle.py_heap.specs.declared.heap.Object.TheVariants as object
use Rattle.py_heap.specs.declared.state.State.{State}
use Rattle.py_heap.specs.References.{value_refs}
use Rattle.py_heap.specs.Reaching.{Reach}
use Rattle.py_machine.specs.Runs.{Name}

-- ---- pairs of addresses

-- each an address of the first state and one of the second
abbrev pub Pairs : Type 0
Pairs = List (ℕ × ℕ)

abbrev pub HasPair : Pairs → ℕ → ℕ → Type 0
HasPair pairs a b = Contains pairs (a, b)

-- no address is paired with two, on either side
pub record IsOneToOne (paired : ℕ → ℕ → Type 0) : Type 0 where
  pub left : (a b c : ℕ) → paired a b → paired a c → b ≡ c
  pub right : (a b c : ℕ) → paired a c → paired b c → a ≡ b

-- ---- what matches by pairs

-- values match if they are equal and no references, or are references to paired addresses
pub data ValuesMatch (paired : ℕ → ℕ → Type 0) : Value → Value → Type 0 where
  equal : (v : Value) → value_refs v ≡ [] → ValuesMatch paired v v
  refs : (a b : ℕ) → paired a b → ValuesMatch paired (value.Ref a) (value.Ref b)

-- pairs of dicts match if their keys are equal, spelled alike too, and their values match
abbrev pub PairsMatch : (ℕ → ℕ → Type 0) → Key × Value → Key × Value → Type 0
PairsMatch paired pair other = (pair.0 ≡ other.0) × ValuesMatch paired pair.1 other.1

-- objects match if they have one kind and match item by item
abbrev pub ObjectsMatch : (ℕ → ℕ → Type 0) → Object → Object → Type 0
ObjectsMatch paired (object.List items) (object.List others) = AllZip (ValuesMatch paired) items others
ObjectsMatch paired (object.Tuple items) (object.Tuple others) = AllZip (ValuesMatch paired) items others
ObjectsMatch paired (object.Dict pairs) (object.Dict others) = AllZip (PairsMatch paired) pairs others
ObjectsMatch paired (object.Function def) (object.Function other) = def ≡ other
ObjectsMatch paired (object.Handle name uses) (object.Handle other others) = (name ≡ other) × (uses ≡ others)
ObjectsMatch paired _ _ = ⊥

-- two that match, or neither
abbrev pub BothOrNone : {A : Type 0} → (A → A → Type 0) → Option A → Option A → Type 0
BothOrNone M None None = Unit {0}
BothOrNone M (Some a) (Some b) = M a b
BothOrNone M _ _ = ⊥

-- two that match
abbrev pub Both : {A : Type 0} → (A → A → Type 0) → Option A → Option A → Type 0
Both M (Some a) (Some b) = M a b
Both M _ _ = ⊥

-- ---- the same by pairs, and the same

-- each of the names has matching values in both states or a value in neither, and the two objects of each pair match
pub record SameBy (paired : ℕ → ℕ → Type 0) (named : Name → Type 0) (s t : State) : Type 0 where
  pub pairs : IsOneToOne paired
  pub names : (name : Name) → named name → BothOrNone (ValuesMatch paired) (finite.get s.globals name) (finite.get t.globals name)
  pub objects : (a b : ℕ) → paired a b → Both (ObjectsMatch paired) (slice_get s.heap a) (slice_get t.heap b)

-- there is a list of pairs by which they are
pub record Same (named : Name → Type 0) (s t : State) : Type 0 where
  pub by : Pairs
  pub same : SameBy (HasPair by) named s t

-- by pairs of only such objects as the names reach
pub record SameWithin (names : List Name) (s t : State) : Type 0 where
  pub by : Pairs
  pub same : SameBy (HasPair by) (Contains names) s t
  pub left : (a b : ℕ) → HasPair by a b → Reach s names a
  pub right : (a b : ℕ) → HasPair by a b → Reach t names b

-- the list has exactly the addresses that the names reach
abbrev pub IsListOf : State → List Name → List ℕ → Type 0
IsListOf s names found = (at : ℕ) → Contains found at ↔ Reach s names at

abbrev pub Every : Name → Type 0
Every name = Unit {0}

-- the same over all names, with an equal count and an equal meter
pub record SameStates (s t : State) : Type 0 where
  pub names : Same Every s t
  pub count : s.count ≡ t.count
  pub meter : s.meter ≡ t.meter
