-- When values are equal, in order or in one another, as acts, by the levels left. (Python reference: comparisons.)
use Rattle.std.specs.Prelude.{ℕ, zero, suc, ℤ, Bool, true, false, not, ◌==◌, List, [], ◌∷◌, length, is_some, Option, Some, None}
use Rattle.std.specs.declared.cmp.Ordering.{Ordering}
use Rattle.std.specs.declared.cmp.Ordering.TheVariants as order
use Rattle.std.specs.Ordering.{nat_cmp, int_cmp, int_eq}
use Rattle.std.specs.Cmp.Lexicographic.{slice_cmp}
use Rattle.py_names.specs.Names.{same_text}
use Rattle.py_tree.specs.declared.expressions.Op.{Op}
use Rattle.py_tree.specs.declared.expressions.Op.TheVariants as op
use Rattle.py_value.specs.declared.value.Builtin.{Builtin}
use Rattle.py_value.specs.declared.value.Value.{Value}
use Rattle.py_value.specs.declared.value.Value.TheVariants as value
use Rattle.py_value.specs.Values.{builtin_number}
use Rattle.py_heap.specs.declared.heap.Object.{Object}
use Rattle.py_heap.specs.declared.heap.Object.TheVariants as object
use Rattle.py_heap.specs.Dicts.{Pairs, value_under}
use Rattle.py_machine.specs.Changes.{object_kind}
use Rattle.py_machine.specs.Errors.{recursion_error, not_ordered, not_searched, not_in_text}
use Rattle.py_meaning.specs.Acts.{Act, ◌>>=◌, ◌>>◌, pure, fail, step, object_at, kind_of, choose}
use Rattle.py_meaning.specs.Numbers.{as_number}
use Rattle.py_meaning.specs.Items.{keyed}
use Rattle.py_meaning.specs.Texts.{occurs}

-- ---- equal values

abbrev pub same_builtin : Builtin → Builtin → Bool
same_builtin b c = builtin_number b == builtin_number c

-- references to one object
abbrev pub is_one : Value → Value → Bool
is_one (value.Ref a) (value.Ref b) = a == b
is_one _ _ = false

-- what compares a pair of elements
abbrev pub Compares : Type 1
Compares = Value → Value → Act Bool

module _ (below : Compares) where
  -- pair by pair, up to the first one that isn't equal
  abbrev pub items_equal : List Value → List Value → Act Bool
  items_equal [] [] = pure true
  items_equal (v ∷ vs) (w ∷ ws) = below v w >>= (λ same. choose same (items_equal vs ws) (pure false))
  items_equal _ _ = pure false

  abbrev pub sequences_equal : List Value → List Value → Act Bool
  sequences_equal vs ws = choose (length vs == length ws) (items_equal vs ws) (pure false)

  abbrev pub with_equal : Value → Option Value → Act Bool
  with_equal held None = pure false
  with_equal held (Some other) = below held other

  -- the values under equal keys, in the order of the first, up to the first that differ
  abbrev pub pairs_equal : Pairs → Pairs → Act Bool
  pairs_equal [] others = pure true
  pairs_equal (pair ∷ pairs) others = with_equal pair.1 (value_under others pair.0) >>= (λ same. choose same (pairs_equal pairs others) (pure false))

  abbrev pub dicts_equal : Pairs → Pairs → Act Bool
  dicts_equal pairs others = choose (length pairs == length others) (pairs_equal pairs others) (pure false)

  -- functions and handles are equal to themselves alone
  abbrev pub objects_equal : ℕ → ℕ → Option Object → Option Object → Act Bool
  objects_equal a b (Some (object.List vs)) (Some (object.List ws)) = sequences_equal vs ws
  objects_equal a b (Some (object.Tuple vs)) (Some (object.Tuple ws)) = sequences_equal vs ws
  objects_equal a b (Some (object.Dict vs)) (Some (object.Dict ws)) = dicts_equal vs ws
  objects_equal a b one other = pure (a == b)

  unfoldable pub refs_equal : ℕ → ℕ → Act Bool
  refs_equal a b = do
    object ← object_at a
    other ← object_at b
    objects_equal a b object other

  abbrev pub others_equal : Value → Value → Act Bool
  others_equal value.Nothing value.Nothing = pure true
  others_equal (value.Text text) (value.Text other) = pure (same_text text other)
  others_equal (value.Builtin b) (value.Builtin c) = pure (same_builtin b c)
  others_equal (value.Ref a) (value.Ref b) = refs_equal a b
  others_equal _ _ = pure false

  abbrev pub equal_by : Option ℤ → Option ℤ → Value → Value → Act Bool
  equal_by (Some a) (Some b) left right = pure (int_eq a b)
  equal_by None None left right = others_equal left right
  equal_by _ _ left right = pure false

  -- numbers by value, texts by characters, lists, tuples and dicts by what they hold
  unfoldable pub values_equal : Value → Value → Act Bool
  values_equal left right = equal_by (as_number left) (as_number right) left right

  -- elements that are one object are equal without a look inside
  abbrev pub elements_equal : Value → Value → Act Bool
  elements_equal left right = choose (is_one left right) (pure true) (values_equal left right)

  -- a pair of elements takes a step
  abbrev pub one_equal : Value → Value → Act Bool
  one_equal left right = step >> elements_equal left right

unfoldable pub pair_equal : ℕ → Compares
pair_equal zero left right = fail recursion_error
pair_equal (suc n) left right = one_equal (pair_equal n) left right

-- ---- order

abbrev pub order_holds : Op → Ordering → Bool
order_holds op.Less order.Less = true
order_holds op.AtMost order.Less = true
order_holds op.AtMost order.Equal = true
order_holds op.More order.Greater = true
order_holds op.AtLeast order.Greater = true
order_holds op.AtLeast order.Equal = true
order_holds _ _ = false

unfoldable pub no_order : Op → Value → Value → Act Bool
no_order o left right = do
  left_kind ← kind_of left
  right_kind ← kind_of right
  fail (not_ordered o left_kind right_kind)

module _ (equal : Compares) (ordered : Op → Compares) where
  -- the first pair that isn't equal decides, and else the lengths
  abbrev pub items_ordered : Op → List Value → List Value → Act Bool
  items_ordered o (v ∷ vs) (w ∷ ws) = equal v w >>= (λ same. choose same (items_ordered o vs ws) (ordered o v w))
  items_ordered o vs ws = pure (order_holds o (nat_cmp (length vs) (length ws)))

  -- two lists or two tuples
  abbrev pub objects_ordered : Op → ℕ → ℕ → Option Object → Option Object → Act Bool
  objects_ordered o a b (Some (object.List vs)) (Some (object.List ws)) = items_ordered o vs ws
  objects_ordered o a b (Some (object.Tuple vs)) (Some (object.Tuple ws)) = items_ordered o vs ws
  objects_ordered o a b one other = no_order o (value.Ref a) (value.Ref b)

  unfoldable pub refs_ordered : Op → ℕ → ℕ → Act Bool
  refs_ordered o a b = do
    object ← object_at a
    other ← object_at b
    objects_ordered o a b object other

  abbrev pub others_ordered : Op → Value → Value → Act Bool
  others_ordered o (value.Text text) (value.Text other) = pure (order_holds o (slice_cmp nat_cmp text other))
  others_ordered o (value.Ref a) (value.Ref b) = refs_ordered o a b
  others_ordered o left right = no_order o left right

  abbrev pub ordered_by : Op → Option ℤ → Option ℤ → Value → Value → Act Bool
  ordered_by o (Some a) (Some b) left right = pure (order_holds o (int_cmp a b))
  ordered_by o _ _ left right = others_ordered o left right

  unfoldable pub values_ordered : Op → Value → Value → Act Bool
  values_ordered o left right = ordered_by o (as_number left) (as_number right) left right

-- the pair's step is that of the look whether it is equal
unfoldable pub pair_ordered : ℕ → Op → Compares
pair_ordered zero o left right = fail recursion_error
pair_ordered (suc n) o left right = values_ordered (pair_equal n) (pair_ordered n) o left right

-- ---- `in`

unfoldable pub not_in_this_text : Value → Act Bool
not_in_this_text held = kind_of held >>= (λ kind. fail (not_in_text kind))

unfoldable pub not_searchable : Value → Act Bool
not_searchable held = kind_of held >>= (λ kind. fail (not_searched kind))

-- a text is searched for a text
abbrev pub in_text : Value → List ℕ → Act Bool
in_text (value.Text part) text = pure (occurs part text)
in_text held text = not_in_this_text held

module _ (equal : Compares) where
  -- one of the items is the value or equal to it
  abbrev pub in_items : Value → List Value → Act Bool
  in_items held [] = pure false
  in_items held (item ∷ items) = equal held item >>= (λ same. choose same (pure true) (in_items held items))

  -- a list or a tuple is searched for a value, and a dict for a key
  abbrev pub in_object : Value → Option Object → Act Bool
  in_object held (Some (object.List items)) = in_items held items
  in_object held (Some (object.Tuple items)) = in_items held items
  in_object held (Some (object.Dict pairs)) = keyed held >>= (λ key. pure (is_some (value_under pairs key)))
  in_object held other = fail (not_searched (object_kind other))

  unfoldable pub in_ref : Value → ℕ → Act Bool
  in_ref held at = object_at at >>= in_object held

  abbrev pub is_in : Value → Value → Act Bool
  is_in held (value.Text text) = in_text held text
  is_in held (value.Ref at) = in_ref held at
  is_in held container = not_searchable container

-- ---- a comparison of two values, with this many levels left for pairs

abbrev pub compared : ℕ → Op → Value → Value → Act Bool
compared n op.Equal left right = values_equal (pair_equal n) left right
compared n op.NotEqual left right = values_equal (pair_equal n) left right >>= (λ same. pure (not same))
compared n op.In left right = is_in (pair_equal n) left right
compared n op.NotIn left right = is_in (pair_equal n) left right >>= (λ found. pure (not found))
compared n o left right = values_ordered (pair_equal n) (pair_ordered n) o left right
