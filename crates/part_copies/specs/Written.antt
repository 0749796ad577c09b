-- Which parts of a state can be written down.
use Rattle.std.specs.Prelude.{◌≡◌, ℕ, ◌<◌, true, List, length, Contains, Some, None, Ok, slice_get}
use Rattle.std.specs.List.{AllByRecursion}
use Rattle.std.specs.FinMap as finite
use Rattle.py_names.specs.Names.{is_variable}
use Rattle.py_reader.specs.DefinitionVerdict.{verdict_alone}
use Rattle.py_heap.specs.declared.heap.Object.{Object}
use Rattle.py_heap.specs.declared.heap.Object.TheVariants as object
use Rattle.py_heap.specs.declared.state.State.{State}
use Rattle.py_heap.specs.Dicts.{HasNoKeyTwice}
use Rattle.py_heap.specs.Reaching.{Reach}
use Rattle.py_machine.specs.Runs.{Name}
use Rattle.graph_model.specs.Faults.{TextBelow, Ascends}
use Rattle.part_bytes.specs.Plain.{IsPlainPart}

-- it has no key twice, and a source that is read as its definition; and it is no handle
abbrev pub IsWritable : Object → Type 0
IsWritable (object.List items) = Unit {0}
IsWritable (object.Tuple items) = Unit {0}
IsWritable (object.Dict pairs) = HasNoKeyTwice pairs
IsWritable (object.Function def) = verdict_alone def.source ≡ Ok def
IsWritable (object.Handle name uses) = ⊥

-- the names ascend and are such as a program may bind, each with a value unless it is the only one; and what they have and reach can be
-- written
pub record CanBeWritten (s : State) (names : List Name) : Type 0 where
  pub some : 0 < length names
  pub ascend : Ascends TextBelow names
  pub variables : AllByRecursion (λ name. is_variable name ≡ true) names
  pub alone : (name : Name) → Contains names name → finite.get s.globals name ≡ None → length names ≡ 1
  pub plain : IsPlainPart s names
  pub objects : (at : ℕ) (held : Object) → Reach s names at → slice_get s.heap at ≡ Some held → IsWritable held
