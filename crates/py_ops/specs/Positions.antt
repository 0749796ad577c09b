-- What is at an index of a list or a dict.
use Rattle.std.specs.Prelude.{ℕ, List, slice_index_or}
use Rattle.py_value.specs.declared.key.Key.{Key}
use Rattle.py_value.specs.declared.key.Key.TheVariants as key
use Rattle.py_value.specs.declared.value.Value.{Value}
use Rattle.py_value.specs.declared.value.Value.TheVariants as value
use Rattle.py_heap.specs.declared.heap.Object.{Object}
use Rattle.py_heap.specs.Objects.{items_at, pairs_at}

-- the item at an index of the list or the tuple at an address, and None past its end
abbrev pub item_of : List Object → ℕ → ℕ → Value
item_of heap at position = slice_index_or (items_at heap at) position value.Nothing

-- the pair at an index of the dict at an address, and a pair of None past its end
abbrev pub pair_of : List Object → ℕ → ℕ → Key × Value
pair_of heap at position = slice_index_or (pairs_at heap at) position (key.Nothing, value.Nothing)
