-- Parts of a state: which names are linked by the objects that they share.
use Rattle.std.specs.Prelude.{◌≡◌, ℕ, ◌<◌, ◌↔◌, List, [], ◌∷◌, Contains, All, Some, None, IsTrue, slice_get}
use Rattle.std.specs.FinMap as finite
use Rattle.py_value.specs.declared.value.Value.{Value}
use Rattle.py_heap.specs.declared.state.State.{State}
use Rattle.py_heap.specs.Objects.{IsHandleAt}
use Rattle.py_heap.specs.Reaching.{Reach}
use Rattle.py_machine.specs.Marked.{Name}
use Rattle.graph_model.specs.Faults.{TextBelow, Ascends, least_name}
use Rattle.linked_parts.specs.declared.parts.Part.{Part}
use Rattle.linked_parts.specs.declared.parts.Parts.{Parts}

-- the name has a value
abbrev pub HasValue : State → Name → Type 0
HasValue s x = (held : Value) × (finite.get s.globals x ≡ Some held)

abbrev pub HasNone : State → Name → Type 0
HasNone s x = finite.get s.globals x ≡ None

-- the name alone reaches the object
abbrev pub Reaches : State → Name → ℕ → Type 0
Reaches s x at = Reach s (x ∷ []) at

-- the least equivalence on the bound names that joins two which reach a common object
pub data Linked (s : State) : Name → Name → Type 0 where
  itself : (x : Name) → HasValue s x → Linked s x x
  shared : (x y : Name) (at : ℕ) → Reaches s x at → Reaches s y at → Linked s x y
  back : (x y : Name) → Linked s x y → Linked s y x
  on : (x y z : Name) → Linked s x y → Linked s y z → Linked s x z

-- a class of it, as an ascending list of names
pub record IsPart (s : State) (names : List Name) : Type 0 where
  pub ascends : Ascends TextBelow names
  pub some : (x : Name) × Contains names x
  pub linked : (x y : Name) → Contains names x → Contains names y ↔ Linked s x y

-- no object that one of the names reaches is reached by a name outside
abbrev pub Apart : State → List Name → Type 0
Apart s names = (at : ℕ) → Reach s names at → (x : Name) → ¬ Contains names x → ¬ Reaches s x at

-- its names are a part; it lists just the objects that they reach, ascending, and says whether one of them is a handle
pub record IsPartOf (s : State) (part : Part) : Type 0 where
  pub names : IsPart s part.names
  pub ascends : Ascends (λ m n. m < n) part.objects
  pub objects : (at : ℕ) → Contains part.objects at ↔ Reach s part.names at
  pub handle : IsTrue part.handle ↔ ((at : ℕ) × Contains part.objects at × IsHandleAt s.heap at)

-- the least name of one comes before that of the other
abbrev pub LeastBelow : Part → Part → Type 0
LeastBelow p q = TextBelow (least_name p.names) (least_name q.names)

-- parts of the state and no others, ascending by their least names, and each name with a value is in one
pub record ArePartsOf (s : State) (found : Parts) : Type 0 where
  pub parts : All (IsPartOf s) found.list
  pub ascends : Ascends LeastBelow found.list
  pub whole : (x : Name) → HasValue s x → (p : Part) × Contains found.list p × Contains p.names x

-- the part with this number has the name
abbrev pub HasNameAt : Parts → ℕ → Name → Type 0
HasNameAt parts n x = (p : Part) × (slice_get parts.list n ≡ Some p) × Contains p.names x
