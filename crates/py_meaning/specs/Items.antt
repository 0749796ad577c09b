-- Items of lists, tuples, dicts and texts: indexes, slices, and what is stored and deleted. (Python reference: subscriptions, slicings,
-- assignment statements.)
use Rattle.std.specs.Prelude.{ℕ, suc, ◌+◌, ◌-◌, min, ℤ, pos, negsuc, cond, nat_lt, is_some, List, length, slice_get, slice_index, slice_range, encode_utf8, Option, Some, None}
use Rattle.std.specs.Str.{chars, encode_utf8_all}
use Rattle.py_value.specs.declared.key.Key.{Key}
use Rattle.py_value.specs.declared.value.Value.{Value}
use Rattle.py_value.specs.declared.value.Value.TheVariants as value
use Rattle.py_value.specs.Keys.{key_of, value_of}
use Rattle.py_value.specs.Reprs.{key_text}
use Rattle.py_value.specs.Values.{weight}
use Rattle.py_heap.specs.declared.heap.Object.{Object}
use Rattle.py_heap.specs.declared.heap.Object.TheVariants as object
use Rattle.py_heap.specs.declared.heap.SequenceKind.{SequenceKind}
use Rattle.py_heap.specs.declared.heap.SequenceKind.TheVariants as kind
use Rattle.py_heap.specs.Dicts.{Pairs, value_under}
use Rattle.py_machine.specs.declared.error.PyError.{PyError}
use Rattle.py_machine.specs.declared.frame.Change.TheVariants as changes
use Rattle.py_machine.specs.Changes.{object_kind}
use Rattle.py_machine.specs.Errors.{unhashable, not_an_index, not_subscriptable, no_item_assignment, no_item_deletion, no_index, no_text_index, no_assigned_index, no_key}
use Rattle.py_meaning.specs.Acts.{Act, ◌>>=◌, ◌>>◌, pure, fail, charge, object_at, change, kind_of}
use Rattle.py_meaning.specs.Numbers.{as_number}
use Rattle.py_meaning.specs.Operators.{made_text, joined}

-- ---- positions and keys

-- the position of an index among this many items: below 0 it counts from the end
abbrev pub position_in : ℕ → ℤ → Option ℕ
position_in n (pos i) = cond (nat_lt i n) (Some i) None
position_in n (negsuc i) = cond (nat_lt i n) (Some (n - suc i)) None

abbrev pub item_at : List Value → Option ℕ → Option Value
item_at items None = None
item_at items (Some position) = slice_get items position

abbrev pub item_or : PyError → Option Value → Act Value
item_or error (Some held) = pure held
item_or error None = fail error

-- an object or a built-in function is no key
abbrev pub key_or : Value → Option Key → Act Key
key_or held (Some key) = pure key
key_or held None = kind_of held >>= (λ kind. fail (unhashable kind))

unfoldable pub keyed : Value → Act Key
keyed held = key_or held (key_of held)

-- ---- an index

abbrev pub sequence_indexed : SequenceKind → List Value → Option ℤ → Act Value
sequence_indexed kind items (Some n) = item_or (no_index kind) (item_at items (position_in (length items) n))
sequence_indexed kind items None = fail not_an_index

unfoldable pub dict_indexed : Pairs → Value → Act Value
dict_indexed pairs at = keyed at >>= (λ key. item_or (no_key (key_text key)) (value_under pairs key))

abbrev pub character : List ℕ → Option ℕ → Act Value
character text (Some position) = made_text (encode_utf8 (slice_index (chars text) position))
character text None = fail no_text_index

abbrev pub text_indexed : List ℕ → Option ℤ → Act Value
text_indexed text (Some n) = character text (position_in (length (chars text)) n)
text_indexed text None = fail not_an_index

abbrev pub object_indexed : Value → Option Object → Act Value
object_indexed at (Some (object.List items)) = sequence_indexed kind.List items (as_number at)
object_indexed at (Some (object.Tuple items)) = sequence_indexed kind.Tuple items (as_number at)
object_indexed at (Some (object.Dict pairs)) = dict_indexed pairs at
object_indexed at other = fail (not_subscriptable (object_kind other))

unfoldable pub not_indexed : Value → Act Value
not_indexed held = kind_of held >>= (λ kind. fail (not_subscriptable kind))

unfoldable pub indexed : Value → Value → Act Value
indexed (value.Text text) at = text_indexed text (as_number at)
indexed (value.Ref a) at = object_at a >>= object_indexed at
indexed held at = not_indexed held

-- ---- a slice

abbrev pub number_or : Option ℤ → Act (Option ℤ)
number_or (Some n) = pure (Some n)
number_or None = fail not_an_index

-- a bound that is there has to be a number
abbrev pub bound : Option Value → Act (Option ℤ)
bound None = pure None
bound (Some held) = number_or (as_number held)

-- the position from 0 to n that is nearest: below 0 a bound counts from the end
abbrev pub clipped : ℕ → ℤ → ℕ
clipped n (pos i) = min i n
clipped n (negsuc i) = n - suc i

abbrev pub from_position : ℕ → Option ℤ → ℕ
from_position n None = 0
from_position n (Some z) = clipped n z

abbrev pub to_position : ℕ → Option ℤ → ℕ
to_position n None = n
to_position n (Some z) = clipped n z

abbrev pub cut : {A : Type 0} → List A → Option ℤ → Option ℤ → List A
cut xs from to = slice_range xs (from_position (length xs) from) (to_position (length xs) to)

unfoldable pub text_sliced : List ℕ → Option Value → Option Value → Act Value
text_sliced text from to = do
  a ← bound from
  b ← bound to
  made_text (encode_utf8_all (cut (chars text) a b))

unfoldable pub sequence_sliced : SequenceKind → List Value → Option Value → Option Value → Act Value
sequence_sliced kind items from to = do
  a ← bound from
  b ← bound to
  joined kind (cut items a b)

abbrev pub object_sliced : Option Value → Option Value → Option Object → Act Value
object_sliced from to (Some (object.List items)) = sequence_sliced kind.List items from to
object_sliced from to (Some (object.Tuple items)) = sequence_sliced kind.Tuple items from to
object_sliced from to other = fail (not_subscriptable (object_kind other))

unfoldable pub sliced : Value → Option Value → Option Value → Act Value
sliced (value.Text text) from to = text_sliced text from to
sliced (value.Ref a) from to = object_at a >>= object_sliced from to
sliced held from to = not_indexed held

-- ---- what is stored: the charge comes after the index or the key has been found good

abbrev pub stored_at : ℕ → Value → Option ℕ → Act (Unit {0})
stored_at a held (Some position) = charge (weight held) >> change a (changes.Set position held)
stored_at a held None = fail no_assigned_index

abbrev pub list_stored : ℕ → List Value → Value → Option ℤ → Act (Unit {0})
list_stored a items held (Some n) = stored_at a held (position_in (length items) n)
list_stored a items held None = fail not_an_index

-- a new key is charged beside its value
abbrev pub pair_units : Pairs → Key → Value → ℕ
pair_units pairs key held = cond (is_some (value_under pairs key)) (weight held) (weight (value_of key) + weight held)

unfoldable pub put_in : ℕ → Pairs → Key → Value → Act (Unit {0})
put_in a pairs key held = charge (pair_units pairs key held) >> change a (changes.Put key held)

unfoldable pub dict_stored : ℕ → Pairs → Value → Value → Act (Unit {0})
dict_stored a pairs at held = keyed at >>= (λ key. put_in a pairs key held)

abbrev pub object_stored : ℕ → Value → Value → Option Object → Act (Unit {0})
object_stored a at held (Some (object.List items)) = list_stored a items held (as_number at)
object_stored a at held (Some (object.Dict pairs)) = dict_stored a pairs at held
object_stored a at held other = fail (no_item_assignment (object_kind other))

unfoldable pub not_stored : Value → Act (Unit {0})
not_stored held = kind_of held >>= (λ kind. fail (no_item_assignment kind))

-- a value is stored as the item of another at an index or a key
unfoldable pub item_stored : Value → Value → Value → Act (Unit {0})
item_stored (value.Ref a) at held = object_at a >>= object_stored a at held
item_stored container at held = not_stored container

-- ---- what is deleted

abbrev pub deleted_at : ℕ → Option ℕ → Act (Unit {0})
deleted_at a (Some position) = change a (changes.Remove position)
deleted_at a None = fail no_assigned_index

abbrev pub list_deleted : ℕ → List Value → Option ℤ → Act (Unit {0})
list_deleted a items (Some n) = deleted_at a (position_in (length items) n)
list_deleted a items None = fail not_an_index

abbrev pub pair_deleted : ℕ → Key → Option Value → Act (Unit {0})
pair_deleted a key (Some held) = change a (changes.Drop key)
pair_deleted a key None = fail (no_key (key_text key))

unfoldable pub dict_deleted : ℕ → Pairs → Value → Act (Unit {0})
dict_deleted a pairs at = keyed at >>= (λ key. pair_deleted a key (value_under pairs key))

abbrev pub object_deleted : ℕ → Value → Option Object → Act (Unit {0})
object_deleted a at (Some (object.List items)) = list_deleted a items (as_number at)
object_deleted a at (Some (object.Dict pairs)) = dict_deleted a pairs at
object_deleted a at other = fail (no_item_deletion (object_kind other))

unfoldable pub not_deleted : Value → Act (Unit {0})
not_deleted held = kind_of held >>= (λ kind. fail (no_item_deletion kind))

-- the item of a value at an index or a key is deleted
unfoldable pub item_deleted : Value → Value → Act (Unit {0})
item_deleted (value.Ref a) at = object_at a >>= object_deleted a at
item_deleted container at = not_deleted container
