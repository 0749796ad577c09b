-- A part whose objects hold each other.
use Rattle.std.specs.Prelude.{ℕ, List, [], ◌∷◌, Some, codes}
use Rattle.py_value.specs.declared.key.Key.TheVariants as the_key
use Rattle.py_value.specs.declared.value.Value.TheVariants as the_value
use Rattle.py_heap.specs.declared.heap.Object.TheVariants as the_object
use Rattle.part_bytes.specs.declared.part.PartValue.{PartValue}

-- `x` is a list of itself and of a dict that has the list under "k"
abbrev pub knot : PartValue
knot = record {
  names = codes "x" ∷ [];
  values = Some (the_value.Ref 0) ∷ [];
  objects = the_object.List (the_value.Ref 0 ∷ the_value.Ref 1 ∷ []) ∷ the_object.Dict ((the_key.Text (codes "k"), the_value.Ref 0) ∷ []) ∷ [];
}

-- one name of one byte, which refers to object 0; two objects: a list of two, which are objects 0 and 1, and a dict of one pair, a
-- text of one byte and object 0
abbrev pub knot_bytes : List ℕ
knot_bytes = 0 ∷ 0 ∷ 0 ∷ 1 ∷ 1 ∷ 120 ∷ 5 ∷ 0 ∷ 0 ∷ 0 ∷ 0 ∷ 0 ∷ 0 ∷ 0 ∷ 2 ∷ 16 ∷ 0 ∷ 0 ∷ 0 ∷ 2 ∷ 5 ∷ 0 ∷ 0 ∷ 0 ∷ 0 ∷ 5 ∷ 0 ∷ 0 ∷ 0 ∷ 1 ∷ 17 ∷ 0 ∷ 0 ∷ 0 ∷ 1 ∷ 4 ∷ 0 ∷ 0 ∷ 0 ∷ 1 ∷ 107
    ∷ 5 ∷ 0 ∷ 0 ∷ 0 ∷ 0 ∷ []
