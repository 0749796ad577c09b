-- The values that a value is unpacked into. (Python reference: assignment statements.)
use Rattle.std.specs.Prelude.{ℕ, ◌==◌, List, length, map, encode_utf8, Option, Some, None}
use Rattle.std.specs.Str.{chars}
use Rattle.py_value.specs.declared.key.Key.{Key}
use Rattle.py_value.specs.declared.value.Value.{Value}
use Rattle.py_value.specs.declared.value.Value.TheVariants as value
use Rattle.py_value.specs.Keys.{value_of}
use Rattle.py_heap.specs.declared.heap.Object.{Object}
use Rattle.py_heap.specs.declared.heap.Object.TheVariants as object
use Rattle.py_heap.specs.Dicts.{Pairs}
use Rattle.py_machine.specs.Changes.{object_kind}
use Rattle.py_machine.specs.Errors.{not_unpacked, wrong_count}
use Rattle.py_meaning.specs.Acts.{Act, ◌>>=◌, ◌>>◌, pure, fail, object_at, kind_of, choose}
use Rattle.py_meaning.specs.Operators.{steps}

-- the keys of a dict, and the characters of a text
abbrev pub keys_of : Pairs → List Value
keys_of pairs = map (λ pair. value_of pair.0) pairs

abbrev pub characters_of : List ℕ → List Value
characters_of text = map (λ c. value.Text (encode_utf8 c)) (chars text)

-- for this many targets: the values are counted, and each takes a step
unfoldable pub counted : ℕ → List Value → Act (List Value)
counted n values = choose (length values == n) (steps n >> pure values) (fail (wrong_count n (length values)))

abbrev pub object_unpacked : ℕ → Option Object → Act (List Value)
object_unpacked n (Some (object.List items)) = counted n items
object_unpacked n (Some (object.Tuple items)) = counted n items
object_unpacked n (Some (object.Dict pairs)) = counted n (keys_of pairs)
object_unpacked n other = fail (not_unpacked (object_kind other))

unfoldable pub nothing_unpacked : Value → Act (List Value)
nothing_unpacked held = kind_of held >>= (λ kind. fail (not_unpacked kind))

-- a list or a tuple into its items, a dict into its keys, a text into its characters
unfoldable pub unpacked : ℕ → Value → Act (List Value)
unpacked n (value.Text text) = counted n (characters_of text)
unpacked n (value.Ref at) = object_at at >>= object_unpacked n
unpacked n held = nothing_unpacked held
