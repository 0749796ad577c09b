-- What a part that was read is like, by itself.
use Rattle.std.specs.Prelude.{◌≡◌, ◌≢◌, ℕ, ◌<◌, true, false, List, ◌++◌, length, All, Option, Some, None, Ok}
use Rattle.std.specs.List.{AllPairs, flat_map, range_with_len}
use Rattle.std.specs.Ordering.{nat_cmp}
use Rattle.std.specs.Cmp.Lexicographic.{slice_cmp}
use Rattle.std.specs.declared.cmp.Ordering.TheVariants.{Less}
use Rattle.py_names.specs.Names.{is_variable}
use Rattle.py_reader.specs.DefinitionVerdict.{verdict_alone}
use Rattle.py_value.specs.declared.value.Value.{Value}
use Rattle.py_heap.specs.Objects.{is_handle}
use Rattle.py_heap.specs.Valid.{IsValidObject}
use Rattle.py_heap.specs.References.{AreLive, value_refs, object_refs}
use Rattle.py_heap.specs.Reaching.{held_refs, firsts}
use Rattle.part_bytes.specs.declared.part.PartValue.{PartValue}

-- x is before y, by the bytes
abbrev pub TextBelow : List ℕ → List ℕ → Type 0
TextBelow x y = slice_cmp nat_cmp x y ≡ Less

-- its names are such as a program may bind, ascend by their bytes and have a value each, but that a name alone may have none;
-- each reference is the number of one of its objects, and the objects are numbered in the order in which they are referred to first
pub record IsClosedPart (part : PartValue) : Type 0 where
  pub some : 0 < length part.names
  pub variables : All (λ name. is_variable name ≡ true) part.names
  pub ascend : AllPairs TextBelow part.names
  pub distinct : AllPairs (λ x y. x ≢ y) part.names
  pub as_many : length part.values ≡ length part.names
  pub absent : All (λ (held : Option Value). held ≡ None → length part.names ≡ 1) part.values
  pub values : All (λ held. AreLive part.objects (held_refs value_refs held)) part.values
  pub objects : All (λ object. AreLive part.objects (object_refs object)) part.objects
  -- no dict has a key twice, and a function is what its source is read as
  pub valid : All (IsValidObject (λ def. verdict_alone def.source ≡ Ok def)) part.objects
  pub movable : All (λ object. is_handle (Some object) ≡ false) part.objects
  pub in_order : firsts (flat_map (held_refs value_refs) part.values ++ flat_map object_refs part.objects) ≡ range_with_len 0 (length part.objects)
