-- The bytes of a part, in both versions of the format: they differ only in how a text is spelled.
use Rattle.std.specs.Prelude.{ℕ, ℤ, Bool, true, false, List, [], ◌∷◌, ◌++◌, length, Option, Some, None}
use Rattle.std.specs.List.{flat_map}
use Rattle.std.specs.Int.{w128, cast_unsigned}
use Rattle.byteorder.specs.Endian.{big_bytes}
use Rattle.py_value.specs.declared.key.Key.{Key}
use Rattle.py_value.specs.declared.value.Value.{Value}
use Rattle.py_value.specs.declared.value.Value.TheVariants as value
use Rattle.py_value.specs.Keys.{value_of}
use Rattle.py_value.specs.Values.{builtin_number}
use Rattle.py_heap.specs.declared.heap.Object.{Object}
use Rattle.py_heap.specs.declared.heap.Object.TheVariants as object
use Rattle.py_heap.specs.declared.state.State.{State}
use Rattle.part_bytes.specs.declared.part.PartValue.{PartValue}
use Rattle.part_bytes.specs.Parts.{part_of}
use Rattle.part_bytes.specs.Tables.{number_of}

-- a count in four bytes, the highest first
unfoldable pub four : ℕ → List ℕ
four n = big_bytes 4 n

-- a number in sixteen bytes of two's complement, the highest first
unfoldable pub sixteen : ℤ → List ℕ
sixteen n = big_bytes 16 (cast_unsigned w128 n)

-- a name after its length in one byte
abbrev pub name_bytes : List ℕ → List ℕ
name_bytes name = length name ∷ name

-- ---- how a text is spelled

-- in version 1: the text after its length
abbrev pub text_bytes : List ℕ → List ℕ
text_bytes text = four (length text) ++ text

-- in version 2: its number in a table of texts
abbrev pub by_number : List (List ℕ) → List ℕ → List ℕ
by_number table text = four (number_of table text)

-- ---- the bytes, with each text spelled so

abbrev pub truth_tag : Bool → ℕ
truth_tag false = 1
truth_tag true = 2

module _ (spell : List ℕ → List ℕ) where
  -- a reference is the number of its object
  abbrev pub spelled_value : Value → List ℕ
  spelled_value value.Nothing = 0 ∷ []
  spelled_value (value.Bool truth) = truth_tag truth ∷ []
  spelled_value (value.Number n) = 3 ∷ sixteen n
  spelled_value (value.Text text) = 4 ∷ spell text
  spelled_value (value.Ref number) = 5 ∷ four number
  spelled_value (value.Builtin builtin) = 6 ∷ builtin_number builtin ∷ []

  -- what a name has, which may be no value
  abbrev pub spelled_held : Option Value → List ℕ
  spelled_held (Some value) = spelled_value value
  spelled_held None = 7 ∷ []

  -- a key is written as the value that it is
  abbrev pub spelled_pair : Key × Value → List ℕ
  spelled_pair pair = spelled_value (value_of pair.0) ++ spelled_value pair.1

  -- a list or a tuple, after the byte that says which
  abbrev pub spelled_sequence : ℕ → List Value → List ℕ
  spelled_sequence tag items = tag ∷ four (length items) ++ flat_map spelled_value items

  -- a function is written as its source; a handle doesn't move, and has no bytes
  abbrev pub spelled_object : Object → List ℕ
  spelled_object (object.List items) = spelled_sequence 16 items
  spelled_object (object.Tuple items) = spelled_sequence 19 items
  spelled_object (object.Dict pairs) = 17 ∷ four (length pairs) ++ flat_map spelled_pair pairs
  spelled_object (object.Function def) = 18 ∷ spell def.source
  spelled_object (object.Handle name uses) = []

  -- how many names, the names, the value of each, how many objects, and the objects in order
  abbrev pub spelled_part : PartValue → List ℕ
  spelled_part part = four (length part.names) ++ flat_map name_bytes part.names ++ flat_map spelled_held part.values
      ++ four (length part.objects) ++ flat_map spelled_object part.objects

-- ---- in version 1

abbrev pub value_bytes : Value → List ℕ
value_bytes = spelled_value text_bytes

abbrev pub held_bytes : Option Value → List ℕ
held_bytes = spelled_held text_bytes

abbrev pub pair_bytes : Key × Value → List ℕ
pair_bytes = spelled_pair text_bytes

abbrev pub sequence_bytes : ℕ → List Value → List ℕ
sequence_bytes = spelled_sequence text_bytes

abbrev pub object_bytes : Object → List ℕ
object_bytes = spelled_object text_bytes

abbrev pub bytes_of : PartValue → List ℕ
bytes_of = spelled_part text_bytes

-- the text of the part of a state with these names
abbrev pub part_text : State → List (List ℕ) → List ℕ
part_text s names = bytes_of (part_of s names)

-- ---- in version 2

-- the text of the part of a state with these names, if the table has its texts
abbrev pub part_text2 : List (List ℕ) → State → List (List ℕ) → List ℕ
part_text2 table s names = spelled_part (by_number table) (part_of s names)
