-- A dict as the list of its pairs.
use Rattle.std.specs.Prelude.{cond, List, [], ◌∷◌, Option, Some, None, map}
use Rattle.std.specs.List.{IsDistinct}
use Rattle.py_value.specs.declared.key.Key.{Key}
use Rattle.py_value.specs.declared.value.Value.{Value}
use Rattle.py_value.specs.Keys.{same_key}

abbrev pub Pairs : Type 0
Pairs = List (Key × Value)

-- no two keys are the same
abbrev pub HasNoKeyTwice : Pairs → Type 0
HasNoKeyTwice pairs = IsDistinct same_key (map (λ pair. pair.0) pairs)

-- the value under a key
abbrev pub value_under : Pairs → Key → Option Value
value_under [] key = None
value_under (pair ∷ pairs) key = cond (same_key key pair.0) (Some pair.1) (value_under pairs key)

-- with a value under a key: a key that is there keeps its position and its spelling, and a new one goes last
abbrev pub with_pair : Pairs → Key → Value → Pairs
with_pair [] key value = (key, value) ∷ []
with_pair (pair ∷ pairs) key value = cond (same_key key pair.0) ((pair.0, value) ∷ pairs) (pair ∷ with_pair pairs key value)

-- without the pair that has a key
abbrev pub without_key : Pairs → Key → Pairs
without_key [] key = []
without_key (pair ∷ pairs) key = cond (same_key key pair.0) pairs (pair ∷ without_key pairs key)
