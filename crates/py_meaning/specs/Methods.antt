-- The methods of lists, dicts and texts. (Python reference: `list`, `dict` and `str` methods.)
use Rattle.std.specs.Prelude.{ℕ, ℤ, negsuc, Bool, codes, List, [], ◌∷◌, length, map, sum_by, Option, Some, None}
use Rattle.std.specs.List.{join_by}
use Rattle.py_value.specs.declared.value.Value.{Value}
use Rattle.py_value.specs.declared.value.Value.TheVariants as value
use Rattle.py_value.specs.Reprs.{key_text}
use Rattle.py_value.specs.Values.{weight}
use Rattle.py_heap.specs.declared.heap.Object.{Object}
use Rattle.py_heap.specs.declared.heap.Object.TheVariants as object
use Rattle.py_heap.specs.declared.heap.SequenceKind.TheVariants as sequences
use Rattle.py_heap.specs.Dicts.{Pairs, value_under}
use Rattle.py_machine.specs.declared.frame.Change.TheVariants as changes
use Rattle.py_machine.specs.declared.method.BoundMethod.{BoundMethod}
use Rattle.py_machine.specs.declared.method.BoundMethod.TheVariants as bound
use Rattle.py_machine.specs.declared.method.ListMethod.{ListMethod}
use Rattle.py_machine.specs.declared.method.ListMethod.TheVariants as of_list
use Rattle.py_machine.specs.declared.method.DictMethod.{DictMethod}
use Rattle.py_machine.specs.declared.method.DictMethod.TheVariants as of_dict
use Rattle.py_machine.specs.declared.method.TextMethod.{TextMethod}
use Rattle.py_machine.specs.declared.method.TextMethod.TheVariants as of_text
use Rattle.py_machine.specs.declared.kind.ValueKind.TheVariants as kind
use Rattle.py_machine.specs.Changes.{list_in, object_kind}
use Rattle.py_machine.specs.Errors.{no_attribute, wrong_number, wrong_argument, popped_empty, no_popped_index, no_key, empty_separator}
use Rattle.py_machine.specs.Methods.{list_method_named, dict_method_named, text_method_named, list_method_name, dict_method_name, text_method_name}
use Rattle.py_machine.specs.Runs.{Name}
use Rattle.py_meaning.specs.Acts.{Act, ◌>>=◌, ◌>>◌, pure, fail, charge, object_at, change, kind_of}
use Rattle.py_meaning.specs.Items.{position_in, item_at, item_or, keyed, clipped}
use Rattle.py_meaning.specs.Numbers.{as_number}
use Rattle.py_meaning.specs.Operators.{steps, made_text, joined}
use Rattle.py_meaning.specs.Texts.{begins, ends, split_at}

-- ---- the method of a value by its name

abbrev pub list_bound : ℕ → Name → Option ListMethod → Act BoundMethod
list_bound a name (Some method) = pure (bound.List method a)
list_bound a name None = fail (no_attribute kind.List name)

abbrev pub dict_bound : ℕ → Name → Option DictMethod → Act BoundMethod
dict_bound a name (Some method) = pure (bound.Dict method a)
dict_bound a name None = fail (no_attribute kind.Dict name)

abbrev pub text_bound : List ℕ → Name → Option TextMethod → Act BoundMethod
text_bound text name (Some method) = pure (bound.Text method text)
text_bound text name None = fail (no_attribute kind.Text name)

abbrev pub object_bound : ℕ → Name → Option Object → Act BoundMethod
object_bound a name (Some (object.List items)) = list_bound a name (list_method_named name)
object_bound a name (Some (object.Dict pairs)) = dict_bound a name (dict_method_named name)
object_bound a name other = fail (no_attribute (object_kind other) name)

unfoldable pub not_bound : Value → Name → Act BoundMethod
not_bound held name = kind_of held >>= (λ kind. fail (no_attribute kind name))

unfoldable pub method_of : Value → Name → Act BoundMethod
method_of (value.Text text) name = text_bound text name (text_method_named name)
method_of (value.Ref a) name = object_at a >>= object_bound a name
method_of held name = not_bound held name

-- ---- lists

unfoldable pub append : ℕ → Value → Act Value
append a held = do
  charge (weight held)
  change a (changes.Push held)
  pure value.Nothing

abbrev pub items_in : Option Object → List Value
items_in (Some (object.List items)) = items
items_in other = []

unfoldable pub inserted : ℕ → ℤ → Value → Option Object → Act Value
inserted a n held o = do
  charge (weight held)
  change a (changes.Insert (clipped (length (items_in o)) n) held)
  pure value.Nothing

-- the index is clipped to the list
abbrev pub insert_at : ℕ → Option ℤ → Value → Act Value
insert_at a (Some n) held = object_at a >>= inserted a n held
insert_at a None held = fail (wrong_argument (codes "insert"))

abbrev pub taken_out : ℕ → Option ℕ → Value → Act Value
taken_out a (Some position) held = change a (changes.Remove position) >> pure held
taken_out a None held = pure held

abbrev pub popped_at : ℕ → List Value → Option ℕ → Act Value
popped_at a items position = item_or no_popped_index (item_at items position) >>= taken_out a position

abbrev pub popped : ℕ → ℤ → List Value → Act Value
popped a n [] = fail popped_empty
popped a n (item ∷ items) = popped_at a (item ∷ items) (position_in (length (item ∷ items)) n)

unfoldable pub pop_at : ℕ → ℤ → Act Value
pop_at a n = object_at a >>= (λ object. popped a n (items_in object))

abbrev pub pop_number : ℕ → Option ℤ → Act Value
pop_number a (Some n) = pop_at a n
pop_number a None = fail (wrong_argument (codes "pop"))

-- a list gets items after its end, as they are at the call
unfoldable pub extend : ℕ → List Value → Act (Unit {0})
extend a more = do
  charge (sum_by weight more)
  steps (length more)
  change a (changes.Extend more)

abbrev pub extended_by : ℕ → Option (List Value) → Act Value
extended_by a (Some more) = extend a more >> pure value.Nothing
extended_by a None = fail (wrong_argument (codes "extend"))

unfoldable pub extended_at : ℕ → ℕ → Act Value
extended_at a b = object_at b >>= (λ object. extended_by a (list_in object))

abbrev pub extend_with : ℕ → Value → Act Value
extend_with a (value.Ref b) = extended_at a b
extend_with a held = fail (wrong_argument (codes "extend"))

unfoldable pub clear : ℕ → Act Value
clear a = change a changes.Clear >> pure value.Nothing

abbrev pub list_method : ListMethod → ℕ → List Value → Act Value
list_method of_list.Append a (held ∷ []) = append a held
list_method of_list.Insert a (at ∷ held ∷ []) = insert_at a (as_number at) held
list_method of_list.Pop a [] = pop_at a (negsuc 0)
list_method of_list.Pop a (at ∷ []) = pop_number a (as_number at)
list_method of_list.Extend a (more ∷ []) = extend_with a more
list_method of_list.Clear a [] = clear a
list_method method a args = fail (wrong_number (list_method_name method))

-- ---- dicts

abbrev pub pairs_in : Option Object → Pairs
pairs_in (Some (object.Dict pairs)) = pairs
pairs_in other = []

abbrev pub value_or : Value → Option Value → Value
value_or other (Some held) = held
value_or other None = other

-- the value under a key, or another one if the key isn't there
unfoldable pub get : ℕ → Value → Value → Act Value
get a at other = keyed at >>= (λ key. object_at a >>= (λ object. pure (value_or other (value_under (pairs_in object) key))))

unfoldable pub pop_key : ℕ → Value → Act Value
pop_key a at = do
  key ← keyed at
  object ← object_at a
  held ← item_or (no_key (key_text key)) (value_under (pairs_in object) key)
  change a (changes.Drop key)
  pure held

abbrev pub dict_method : DictMethod → ℕ → List Value → Act Value
dict_method of_dict.Get a (at ∷ []) = get a at value.Nothing
dict_method of_dict.Get a (at ∷ other ∷ []) = get a at other
dict_method of_dict.Pop a (at ∷ []) = pop_key a at
dict_method of_dict.Clear a [] = clear a
dict_method method a args = fail (wrong_number (dict_method_name method))

-- ---- texts

abbrev pub with_text : Value → Option (List (List ℕ)) → Option (List (List ℕ))
with_text (value.Text text) (Some texts) = Some (text ∷ texts)
with_text held texts = None

-- the texts of values, if all are texts
abbrev pub texts_of : List Value → Option (List (List ℕ))
texts_of [] = Some []
texts_of (held ∷ more) = with_text held (texts_of more)

abbrev pub texts_in : Option (List Value) → Option (List (List ℕ))
texts_in (Some items) = texts_of items
texts_in None = None

abbrev pub texts_joined : List ℕ → Option (List (List ℕ)) → Act Value
texts_joined between (Some texts) = made_text (join_by (λ text. text) between texts)
texts_joined between None = fail (wrong_argument (codes "join"))

unfoldable pub join_at : List ℕ → ℕ → Act Value
join_at between at = object_at at >>= (λ object. texts_joined between (texts_in (list_in object)))

abbrev pub join : List ℕ → Value → Act Value
join between (value.Ref at) = join_at between at
join between held = fail (wrong_argument (codes "join"))

abbrev pub as_texts : List (List ℕ) → List Value
as_texts texts = map (λ text. value.Text text) texts

-- a new list of the pieces
abbrev pub split : List ℕ → Value → Act Value
split text (value.Text []) = fail empty_separator
split text (value.Text (x ∷ separator)) = joined sequences.List (as_texts (split_at (x ∷ separator) text))
split text held = fail (wrong_argument (codes "split"))

abbrev pub starts_with : List ℕ → Value → Act Value
starts_with text (value.Text part) = pure (value.Bool (begins part text))
starts_with text held = fail (wrong_argument (codes "startswith"))

abbrev pub ends_with : List ℕ → Value → Act Value
ends_with text (value.Text part) = pure (value.Bool (ends part text))
ends_with text held = fail (wrong_argument (codes "endswith"))

abbrev pub text_method : TextMethod → List ℕ → List Value → Act Value
text_method of_text.Join text (held ∷ []) = join text held
text_method of_text.Split text (held ∷ []) = split text held
text_method of_text.StartsWith text (held ∷ []) = starts_with text held
text_method of_text.EndsWith text (held ∷ []) = ends_with text held
text_method method text args = fail (wrong_number (text_method_name method))

-- ---- a call of a method

abbrev pub method_called : BoundMethod → List Value → Act Value
method_called (bound.List method a) args = list_method method a args
method_called (bound.Dict method a) args = dict_method method a args
method_called (bound.Text method text) args = text_method method text args
