-- Which parts have a text.
use Rattle.std.specs.Prelude.{◌≡◌, ℕ, ◌+◌, ◌<◌, ◌≤◌, ◌^◌, ◌==◌, nat_lt, Bool, true, if◌then◌else◌, FitsSigned, List, [], ◌∷◌, ◌++◌, length, Option, Some, None, Ok}
use Rattle.std.specs.List.{flat_map, AllByRecursion}
use Rattle.std.specs.Int.{w128}
use Rattle.py_names.specs.Names.{is_variable}
use Rattle.py_reader.specs.DefinitionVerdict.{verdict_alone}
use Rattle.py_value.specs.declared.value.Value.{Value}
use Rattle.py_value.specs.declared.value.Value.TheVariants as the_value
use Rattle.py_value.specs.Keys.{value_of}
use Rattle.py_heap.specs.declared.heap.Object.{Object}
use Rattle.py_heap.specs.declared.heap.Object.TheVariants as the_object
use Rattle.py_heap.specs.Dicts.{Pairs, value_under}
use Rattle.py_heap.specs.References.{value_refs, object_refs}
use Rattle.py_heap.specs.Reaching.{held_refs}
use Rattle.part_bytes.specs.declared.part.PartValue.{PartValue}
use Rattle.part_bytes.specs.Plain.{IsText}
use Rattle.checkpoint_reader.specs.PartReading.{follows}

-- ---- numbers of objects

-- How many objects are referred to after these references, if `met` were before: each refers to one of those, or to the next one.
abbrev pub counted : ℕ → List ℕ → Option ℕ
counted met [] = Some met
counted met (n ∷ ns) = if nat_lt n met then counted met ns else (if n == met then counted (met + 1) ns else None)

-- ---- what has bytes

abbrev pub IsValue : Value → Type 0
IsValue (the_value.Number n) = FitsSigned w128 n
IsValue (the_value.Text text) = IsText text
IsValue (the_value.Ref n) = n < 2 ^ 32
IsValue the_value.Nothing = Unit {0}
IsValue (the_value.Bool truth) = Unit {0}
IsValue (the_value.Builtin builtin) = Unit {0}

-- only a name that is alone may have no value
abbrev pub IsHeld : Bool → Option Value → Type 0
IsHeld alone (Some v) = IsValue v
IsHeld alone None = alone ≡ true

-- each key is none of those before it
abbrev pub ArePairs : Pairs → Pairs → Type 0
ArePairs before [] = Unit {0}
ArePairs before (pair ∷ pairs) = IsValue (value_of pair.0) × (value_under before pair.0 ≡ None) × IsValue pair.1 × ArePairs (before ++ pair ∷ []) pairs

-- a handle is no object of a part; a function is what its source is read as
abbrev pub IsObject : Object → Type 0
IsObject (the_object.List items) = (length items < 2 ^ 32) × AllByRecursion IsValue items
IsObject (the_object.Tuple items) = (length items < 2 ^ 32) × AllByRecursion IsValue items
IsObject (the_object.Dict pairs) = (length pairs < 2 ^ 32) × ArePairs [] pairs
IsObject (the_object.Function def) = IsText def.source × (verdict_alone def.source ≡ Ok def)
IsObject (the_object.Handle name uses) = ⊥

-- after n objects, if `met` were referred to: each object was referred to before it, and no more than `most` are referred to
abbrev pub AreObjects : ℕ → ℕ → ℕ → List Object → Type 0
AreObjects n met most [] = Unit {0}
AreObjects n met most (object ∷ objects) = (n < met) × IsObject object
    × ((next : ℕ) × (counted met (object_refs object) ≡ Some next) × (next ≤ most) × AreObjects (n + 1) next most objects)

-- each name is one that a program may bind, and is after the one before it
abbrev pub AreNames : List (List ℕ) → List (List ℕ) → Type 0
AreNames before [] = Unit {0}
AreNames before (name ∷ names) = (is_variable name ≡ true) × (follows before name ≡ true) × AreNames (before ++ name ∷ []) names

-- a part that has a text
pub record HasPartText (part : PartValue) : Type 0 where
  pub some : 0 < length part.names
  pub few : length part.names < 2 ^ 32
  pub names : AreNames [] part.names
  pub as_many : length part.values ≡ length part.names
  pub values : AllByRecursion (IsHeld (length part.names == 1)) part.values
  pub few_objects : length part.objects < 2 ^ 32
  pub met : ℕ
  pub refs : counted 0 (flat_map (held_refs value_refs) part.values) ≡ Some met
  pub within : met ≤ length part.objects
  pub objects : AreObjects 0 met (length part.objects) part.objects
