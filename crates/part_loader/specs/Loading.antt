-- A part as a state of its own, and a part loaded into a state.
use Rattle.std.specs.Prelude.{◌≡◌, ℕ, IsTrue, Bool, List, [], ◌∷◌, map, length, Contains, All, Option, Some, None, option_map}
use Rattle.std.specs.Ordering.{nat_cmp}
use Rattle.std.specs.Cmp.Lexicographic.{slice_cmp}
use Rattle.std.specs.FinMap as finite
use Rattle.py_names.specs.Names.{is_variable}
use Rattle.py_tree.specs.declared.statements.Def.{Def}
use Rattle.py_value.specs.declared.value.Value.{Value}
use Rattle.py_heap.specs.declared.state.State.{State}
use Rattle.py_heap.specs.References.{value_refs, object_refs, AreLive}
use Rattle.py_heap.specs.Reaching.{held_refs}
use Rattle.py_heap.specs.Valid.{IsValidObject}
use Rattle.py_machine.specs.Runs.{Name}
use Rattle.part_bytes.specs.declared.part.PartValue.{PartValue}
use Rattle.part_bytes.specs.Parts.{numbered}
use Rattle.replay_laws.specs.Copies.{higher_object, put_name, with_objects}

abbrev pub Globals : Type 0
Globals = finite.FinMap (slice_cmp nat_cmp) Value

-- each name with its value, if it has one
abbrev pub globals_of : List Name → List (Option Value) → Globals
globals_of [] held = finite.empty
globals_of (x ∷ xs) [] = finite.empty
globals_of (x ∷ xs) (None ∷ held) = globals_of xs held
globals_of (x ∷ xs) (Some v ∷ held) = finite.insert (globals_of xs held) x v

-- the part by itself: its names have their values, and its objects are all that there are
abbrev pub state_of : PartValue → State
state_of part = record { globals = globals_of part.names part.values; heap = part.objects; count = 0; meter = 0 }

-- no name stands twice
abbrev pub AreDistinct : List Name → Type 0
AreDistinct [] = Unit {0}
AreDistinct (x ∷ xs) = (¬ Contains xs x) × AreDistinct xs

-- it is whole by itself: each name stands once, beside what it has, and each reference is the number of one of the objects
pub record IsWhole (part : PartValue) : Type 0 where
  pub distinct : AreDistinct part.names
  pub as_many : length part.values ≡ length part.names
  pub values : All (λ o. AreLive part.objects (held_refs value_refs o)) part.values
  pub objects : All (λ o. AreLive part.objects (object_refs o)) part.objects

-- each name is one that a program may bind, no dict has a key twice, and each function's definition is of the kind that is asked for
pub record IsValidPart (IsOfKind : Def → Type 0) (part : PartValue) : Type 0 where
  pub names : All (λ name. IsTrue (is_variable name)) part.names
  pub objects : All (IsValidObject IsOfKind) part.objects

-- the same, with the kind told by a test
abbrev pub IsValidPartBy : (Def → Bool) → PartValue → Type 0
IsValidPartBy test = IsValidPart (λ def. IsTrue (test def))

-- the names get these values with addresses that are `base` higher, or lose the value that they have
abbrev pub put_held : ℕ → List Name → List (Option Value) → State → State
put_held base [] held t = t
put_held base (x ∷ xs) [] t = t
put_held base (x ∷ xs) (o ∷ held) t = put_held base xs held (put_name base t x o)

-- the objects of the part after those of t, and the names as in the part
abbrev pub loaded : PartValue → State → State
loaded part t = put_held (length t.heap) part.names part.values (with_objects (map (higher_object (length t.heap)) part.objects) t)

-- of these names each has its value in t with new addresses, and no other name has a value
abbrev pub AreMovedNames : State → (ℕ → ℕ) → List Name → Globals → Type 0
AreMovedNames t number names now = (x : Name) → (Contains names x → finite.get now x ≡ option_map (numbered number) (finite.get t.globals x))
    × ((¬ Contains names x) → finite.get now x ≡ None)
