-- The text that a value shows, as acts, by the levels left and the lists, tuples and dicts that are open. (Python reference: `repr`,
-- `str`.)
use Rattle.std.specs.Prelude.{ℕ, zero, suc, List, [], ◌∷◌, ◌++◌, codes, Option, Some, None}
use Rattle.py_value.specs.declared.key.Key.{Key}
use Rattle.py_value.specs.declared.key.Key.TheVariants as key
use Rattle.py_value.specs.declared.value.Builtin.{Builtin}
use Rattle.py_value.specs.declared.value.Builtin.TheVariants as builtin
use Rattle.py_value.specs.declared.value.Value.{Value}
use Rattle.py_value.specs.declared.value.Value.TheVariants as value
use Rattle.py_value.specs.Keys.{value_of}
use Rattle.py_value.specs.Reprs.{key_text}
use Rattle.py_heap.specs.declared.heap.Object.{Object}
use Rattle.py_heap.specs.declared.heap.Object.TheVariants as object
use Rattle.py_heap.specs.declared.heap.SequenceKind.{SequenceKind}
use Rattle.py_heap.specs.declared.heap.SequenceKind.TheVariants as kind
use Rattle.py_heap.specs.Dicts.{Pairs}
use Rattle.py_heap.specs.Searches.{has}
use Rattle.py_machine.specs.Errors.{recursion_error}
use Rattle.py_meaning.specs.Acts.{Act, ◌>>=◌, ◌>>◌, pure, fail, step, object_at, choose}

abbrev pub builtin_text : Builtin → List ℕ
builtin_text builtin.Print = codes "<built-in function print>"
builtin_text builtin.Len = codes "<built-in function len>"
builtin_text builtin.Str = codes "<class 'str'>"
builtin_text builtin.Repr = codes "<built-in function repr>"
builtin_text builtin.Int = codes "<class 'int'>"
builtin_text builtin.Range = codes "<class 'range'>"
builtin_text builtin.Draw = codes "<built-in function draw>"
builtin_text builtin.Handle = codes "<built-in function handle>"
builtin_text builtin.Tell = codes "<built-in function tell>"

-- the text of a value that isn't looked into: a reference to no object counts as None
abbrev pub plain_text : Value → List ℕ
plain_text value.Nothing = key_text key.Nothing
plain_text (value.Bool truth) = key_text (key.Bool truth)
plain_text (value.Number number) = key_text (key.Number number)
plain_text (value.Text text) = key_text (key.Text text)
plain_text (value.Ref at) = key_text key.Nothing
plain_text (value.Builtin builtin) = builtin_text builtin

-- what an object shows that is open already
abbrev pub open_text : Option Object → List ℕ
open_text (Some (object.Dict pairs)) = codes "{...}"
open_text (Some (object.Tuple items)) = codes "(...)"
open_text _ = codes "[...]"

abbrev pub function_text : List ℕ → List ℕ
function_text name = (codes "<function " ++ name) ++ codes ">"

abbrev pub handle_text : List ℕ → List ℕ
handle_text name = (codes "<handle " ++ key_text (key.Text name)) ++ codes ">"

-- what stands before and after the items of a list or a tuple; a tuple of one item has a comma after it
abbrev pub opening : SequenceKind → List ℕ
opening kind.List = codes "["
opening kind.Tuple = codes "("

abbrev pub closing : SequenceKind → List Value → List ℕ
closing kind.List items = codes "]"
closing kind.Tuple (item ∷ []) = codes ",)"
closing kind.Tuple items = codes ")"

-- what shows a value after a text, with the open lists, tuples and dicts that it is in, the outermost first
abbrev pub Shows : Type 1
Shows = List ℕ → List ℕ → Value → Act (List ℕ)

module _ (below : Shows) where
  -- the items of a list or a tuple after its first one, and its end
  abbrev pub more_items : List ℕ → List ℕ → List ℕ → List Value → Act (List ℕ)
  more_items end path text [] = pure (text ++ end)
  more_items end path text (item ∷ items) = below path (text ++ codes ", ") item >>= (λ longer. more_items end path longer items)

  abbrev pub all_items : List ℕ → List ℕ → List ℕ → List Value → Act (List ℕ)
  all_items end path text [] = pure (text ++ end)
  all_items end path text (item ∷ items) = below path text item >>= (λ longer. more_items end path longer items)

  abbrev pub sequence_text : SequenceKind → List ℕ → List ℕ → ℕ → List Value → Act (List ℕ)
  sequence_text kind path text at items = all_items (closing kind items) (path ++ at ∷ []) (text ++ opening kind) items

  -- a key and its value
  abbrev pub pair_text : List ℕ → List ℕ → Key × Value → Act (List ℕ)
  pair_text path text pair = below path text (value_of pair.0) >>= (λ longer. below path (longer ++ codes ": ") pair.1)

  -- the pairs of a dict after its first one, and its end
  abbrev pub more_pairs : List ℕ → List ℕ → Pairs → Act (List ℕ)
  more_pairs path text [] = pure (text ++ codes "}")
  more_pairs path text (pair ∷ pairs) = pair_text path (text ++ codes ", ") pair >>= (λ longer. more_pairs path longer pairs)

  abbrev pub all_pairs : List ℕ → List ℕ → Pairs → Act (List ℕ)
  all_pairs path text [] = pure (text ++ codes "}")
  all_pairs path text (pair ∷ pairs) = pair_text path text pair >>= (λ longer. more_pairs path longer pairs)

  abbrev pub dict_text : List ℕ → List ℕ → ℕ → Pairs → Act (List ℕ)
  dict_text path text at pairs = all_pairs (path ++ at ∷ []) (text ++ codes "{") pairs

  abbrev pub object_shown : List ℕ → List ℕ → ℕ → Option Object → Act (List ℕ)
  object_shown path text at (Some (object.List items)) = sequence_text kind.List path text at items
  object_shown path text at (Some (object.Tuple items)) = sequence_text kind.Tuple path text at items
  object_shown path text at (Some (object.Dict pairs)) = dict_text path text at pairs
  object_shown path text at (Some (object.Function def)) = pure (text ++ function_text def.name)
  object_shown path text at (Some (object.Handle name uses)) = pure (text ++ handle_text name)
  object_shown path text at None = pure (text ++ plain_text (value.Ref at))

  -- a list, a tuple or a dict that is open already isn't looked into again
  unfoldable pub object_text : List ℕ → List ℕ → ℕ → Act (List ℕ)
  object_text path text at = object_at at >>= (λ object. choose (has path at) (pure (text ++ open_text object)) (object_shown path text at object))

  abbrev pub value_text : Shows
  value_text path text (value.Ref at) = object_text path text at
  value_text path text held = pure (text ++ plain_text held)

  -- what `print` writes of a value: a text as it is, and anything else as it shows
  abbrev pub str_text : Value → Act (List ℕ)
  str_text (value.Text text) = pure text
  str_text held = value_text [] [] held

  -- each value takes a step
  abbrev pub shown_one : Shows
  shown_one path text held = step >> value_text path text held

  abbrev pub written_one : Value → Act (List ℕ)
  written_one held = step >> str_text held

-- the text, with what a value shows after it: an item is one level below what it is in
unfoldable pub shown : ℕ → Shows
shown zero path text held = fail recursion_error
shown (suc n) path text held = shown_one (shown n) path text held

-- what `print` writes of a value
unfoldable pub written : ℕ → Value → Act (List ℕ)
written zero held = fail recursion_error
written (suc n) held = written_one (shown n) held
