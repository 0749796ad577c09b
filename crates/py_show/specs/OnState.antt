-- What values show on a state, as functions of the text before it and of the steps so far. They say of texts within the
-- meter's limit what the meaning says (`Shown`), and of longer ones that they are longer.
use Rattle.std.specs.Prelude.{ℕ, zero, suc, ◌+◌, cond, nat_lt, List, [], ◌∷◌, ◌++◌, codes, slice_get, Option, Some, None, Result, Ok, Err}
use Rattle.py_value.specs.declared.key.Key.{Key}
use Rattle.py_value.specs.declared.value.Value.{Value}
use Rattle.py_value.specs.declared.value.Value.TheVariants as value
use Rattle.py_value.specs.Keys.{value_of}
use Rattle.py_heap.specs.declared.heap.Object.{Object}
use Rattle.py_heap.specs.declared.heap.Object.TheVariants as object
use Rattle.py_heap.specs.declared.heap.SequenceKind.{SequenceKind}
use Rattle.py_heap.specs.declared.heap.SequenceKind.TheVariants as kind
use Rattle.py_heap.specs.declared.state.State.{State}
use Rattle.py_heap.specs.Dicts.{Pairs}
use Rattle.py_heap.specs.Searches.{has}
use Rattle.py_machine.specs.declared.error.PyError.{PyError}
use Rattle.py_machine.specs.Errors.{recursion_error, step_limit_error}
use Rattle.py_machine.specs.Runs.{Stop, raised}
use Rattle.py_meaning.specs.Shown.{opening, closing, plain_text, open_text, function_text, handle_text}
use Rattle.py_show.specs.Limits.{Limit, pushed}

-- a value or an end, and the steps so far
abbrev pub Ending : Type 0 → Type 0
Ending A = Result A Stop × ℕ

-- goes on if there is a value
abbrev pub after : {A B : Type 0} → Result A Stop → ℕ → (A → ℕ → Ending B) → Ending B
after (Ok a) steps next = next a steps
after (Err e) steps next = (Err e, steps)

-- what something puts after a text, and the steps that it takes
abbrev pub Puts : Type 0
Puts = Limit → ℕ → Ending Limit

infixl 10 ◌>>◌
abbrev pub ◌>>◌ : Puts → Puts → Puts
p >> q = λ text steps. after (p text steps).0 (p text steps).1 q

abbrev pub puts : List ℕ → Puts
puts more text steps = (Ok (pushed text more), steps)

abbrev pub fails : PyError → Puts
fails e text steps = (Err (raised e), steps)

-- one step more, up to 1,000,000
unfoldable pub one_step : ℕ → Ending (Unit {0})
one_step steps = cond (nat_lt steps 1000000) (Ok tt, steps + 1) (Err (raised step_limit_error), steps)

abbrev pub stepped : Puts → Puts
stepped p text steps = after (one_step steps).0 (one_step steps).1 (λ _. p text)

module _ (state : State) (below : List ℕ → Value → Puts) where
  abbrev pub more_items : List ℕ → List ℕ → List Value → Puts
  more_items end path [] = puts end
  more_items end path (item ∷ items) = puts (codes ", ") >> below path item >> more_items end path items

  abbrev pub all_items : List ℕ → List ℕ → List Value → Puts
  all_items end path [] = puts end
  all_items end path (item ∷ items) = below path item >> more_items end path items

  abbrev pub sequence_shown : SequenceKind → List ℕ → ℕ → List Value → Puts
  sequence_shown kind path at items = puts (opening kind) >> all_items (closing kind items) (path ++ at ∷ []) items

  abbrev pub pair_shown : List ℕ → Key × Value → Puts
  pair_shown path pair = below path (value_of pair.0) >> (puts (codes ": ") >> below path pair.1)

  abbrev pub more_pairs : List ℕ → Pairs → Puts
  more_pairs path [] = puts (codes "}")
  more_pairs path (pair ∷ pairs) = puts (codes ", ") >> pair_shown path pair >> more_pairs path pairs

  abbrev pub all_pairs : List ℕ → Pairs → Puts
  all_pairs path [] = puts (codes "}")
  all_pairs path (pair ∷ pairs) = pair_shown path pair >> more_pairs path pairs

  abbrev pub dict_shown : List ℕ → ℕ → Pairs → Puts
  dict_shown path at pairs = puts (codes "{") >> all_pairs (path ++ at ∷ []) pairs

  abbrev pub object_shown : List ℕ → ℕ → Option Object → Puts
  object_shown path at (Some (object.List items)) = sequence_shown kind.List path at items
  object_shown path at (Some (object.Tuple items)) = sequence_shown kind.Tuple path at items
  object_shown path at (Some (object.Dict pairs)) = dict_shown path at pairs
  object_shown path at (Some (object.Function def)) = puts (function_text def.name)
  object_shown path at (Some (object.Handle name uses)) = puts (handle_text name)
  object_shown path at None = puts (plain_text (value.Ref at))

  -- a list, a tuple or a dict that is open already isn't looked into again
  unfoldable pub ref_shown : List ℕ → ℕ → Puts
  ref_shown path at = cond (has path at) (puts (open_text (slice_get state.heap at))) (object_shown path at (slice_get state.heap at))

  abbrev pub value_shown : List ℕ → Value → Puts
  value_shown path (value.Ref at) = ref_shown path at
  value_shown path held = puts (plain_text held)

  -- what `print` writes of a value
  abbrev pub str_shown : Value → Puts
  str_shown (value.Text text) = puts text
  str_shown held = value_shown [] held

  abbrev pub one_shown : List ℕ → Value → Puts
  one_shown path held = stepped (value_shown path held)

  abbrev pub one_written : Value → Puts
  one_written held = stepped (str_shown held)

-- what a value shows, with this many levels left
unfoldable pub shown : State → ℕ → List ℕ → Value → Puts
shown state zero path held = fails recursion_error
shown state (suc n) path held = one_shown state (shown state n) path held

-- what `print` writes of a value
unfoldable pub written : State → ℕ → Value → Puts
written state zero held = fails recursion_error
written state (suc n) held = one_written state (shown state n) held

-- the texts of values, with a space before each, and a line feed
abbrev pub words : State → ℕ → List Value → Puts
words state left [] = puts (codes "\n")
words state left (held ∷ more) = puts (codes " ") >> written state left held >> words state left more

-- a line: the texts of values with a space between, and a line feed
abbrev pub line : State → ℕ → List Value → Puts
line state left [] = puts (codes "\n")
line state left (held ∷ more) = written state left held >> words state left more
