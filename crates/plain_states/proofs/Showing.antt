-- What values show is UTF-8.
use Rattle.std.proofs.Common.{ℕ, zero, suc, List, [], ◌∷◌, ◌++◌, Option, Some, None, refl}
use Rattle.std.specs.Prelude.{codes}
use Rattle.std.specs.List.{AllByRecursion}
use Rattle.std.specs.Str.{IsUtf8}
use Rattle.std.proofs.lemmas.Str.{IsUtf8-append, IsUtf8-nil}
use Rattle.py_value.specs.declared.key.Key.{Key}
use Rattle.py_value.specs.declared.key.Key.TheVariants as key
use Rattle.py_value.specs.declared.value.Builtin.{Builtin}
use Rattle.py_value.specs.declared.value.Builtin.TheVariants as builtin
use Rattle.py_value.specs.declared.value.Value.{Value}
use Rattle.py_value.specs.declared.value.Value.TheVariants as value
use Rattle.py_value.specs.Keys.{value_of}
use Rattle.py_heap.specs.declared.heap.Object.{Object}
use Rattle.py_heap.specs.declared.heap.Object.TheVariants as object
use Rattle.py_heap.specs.declared.heap.SequenceKind.{SequenceKind}
use Rattle.py_heap.specs.declared.heap.SequenceKind.TheVariants as sequences
use Rattle.py_heap.specs.Dicts.{Pairs}
use Rattle.py_heap.specs.Searches.{has}
use Rattle.py_machine.specs.Errors.{recursion_error}
use Rattle.py_meaning.specs.Acts.{Act, pure}
use Rattle.py_meaning.specs.Shown.{builtin_text, plain_text, open_text, function_text, handle_text, opening, closing, Shows, more_items, all_items, sequence_text, pair_text, more_pairs, all_pairs, object_shown, object_text, value_text, str_text, shown, written}
use Rattle.part_bytes.specs.Plain.{IsPlain, IsPlainPair, IsText}
use Rattle.plain_states.proofs.Judging.{Plainly, next, give, fails, chosen}
use Rattle.plain_states.proofs.Least.{takes_step, finds, IsFound}
use Rattle.plain_states.proofs.Texts.{ascii, is_text, quoted_text, shown_key}
use Rattle.plain_states.proofs.Shapes.{of_def}
use Rattle.plain_states.proofs.Itemizing.{ArePlainPairs}

abbrev ShowsText : Act (List ℕ) → Type 0
ShowsText = Plainly IsUtf8

shows : (text : List ℕ) → IsUtf8 text → ShowsText (pure text)
shows text u = give IsUtf8 text u

builtin_utf8 : (b : Builtin) → IsUtf8 (builtin_text b)
builtin_utf8 builtin.Print = ascii _ refl
builtin_utf8 builtin.Len = ascii _ refl
builtin_utf8 builtin.Str = ascii _ refl
builtin_utf8 builtin.Repr = ascii _ refl
builtin_utf8 builtin.Int = ascii _ refl
builtin_utf8 builtin.Range = ascii _ refl
builtin_utf8 builtin.Draw = ascii _ refl
builtin_utf8 builtin.Handle = ascii _ refl
builtin_utf8 builtin.Tell = ascii _ refl

plain_utf8 : (v : Value) → IsPlain v → IsUtf8 (plain_text v)
plain_utf8 value.Nothing h = shown_key key.Nothing tt
plain_utf8 (value.Bool b) h = shown_key (key.Bool b) tt
plain_utf8 (value.Number n) h = shown_key (key.Number n) h
plain_utf8 (value.Text t) h = shown_key (key.Text t) h
plain_utf8 (value.Ref at) h = shown_key key.Nothing tt
plain_utf8 (value.Builtin b) h = builtin_utf8 b

open_utf8 : (o : Option Object) → IsUtf8 (open_text o)
open_utf8 (Some (object.Dict pairs)) = ascii _ refl
open_utf8 (Some (object.List vs)) = ascii _ refl
open_utf8 (Some (object.Tuple vs)) = ascii _ refl
open_utf8 (Some (object.Function def)) = ascii _ refl
open_utf8 (Some (object.Handle name uses)) = ascii _ refl
open_utf8 None = ascii _ refl

opening_utf8 : (kind : SequenceKind) → IsUtf8 (opening kind)
opening_utf8 sequences.List = ascii _ refl
opening_utf8 sequences.Tuple = ascii _ refl

closing_utf8 : (kind : SequenceKind) (vs : List Value) → IsUtf8 (closing kind vs)
closing_utf8 sequences.List vs = ascii _ refl
closing_utf8 sequences.Tuple [] = ascii _ refl
closing_utf8 sequences.Tuple (v ∷ []) = ascii _ refl
closing_utf8 sequences.Tuple (v ∷ w ∷ vs) = ascii _ refl

function_utf8 : (name : List ℕ) → IsUtf8 name → IsUtf8 (function_text name)
function_utf8 name u = IsUtf8-append (codes "<function " ++ name) (codes ">") (IsUtf8-append (codes "<function ") name (ascii _ refl) u) (ascii _ refl)

handle_utf8 : (name : List ℕ) → IsUtf8 name → IsUtf8 (handle_text name)
handle_utf8 name u = IsUtf8-append _ (codes ">") (IsUtf8-append (codes "<handle ") _ (ascii _ refl) (quoted_text name u)) (ascii _ refl)

-- what shows plain values after a text shows UTF-8
abbrev ShowsPlain : Shows → Type 0
ShowsPlain show = (path text : List ℕ) (v : Value) → IsUtf8 text → IsPlain v → ShowsText (show path text v)

module _ (below : Shows) (each : ShowsPlain below) where
  more_plain : (end path text : List ℕ) (vs : List Value) → IsUtf8 end → IsUtf8 text → AllByRecursion IsPlain vs → ShowsText (more_items below end path text vs)
  more_plain end path text [] z u h = shows _ (IsUtf8-append text end u z)
  more_plain end path text (v ∷ vs) z u h = next (each path (text ++ codes ", ") v (IsUtf8-append text (codes ", ") u (ascii _ refl)) h.0) λ longer w. more_plain end path longer vs z w h.1

  all_plain : (end path text : List ℕ) (vs : List Value) → IsUtf8 end → IsUtf8 text → AllByRecursion IsPlain vs → ShowsText (all_items below end path text vs)
  all_plain end path text [] z u h = shows _ (IsUtf8-append text end u z)
  all_plain end path text (v ∷ vs) z u h = next (each path text v u h.0) λ longer w. more_plain end path longer vs z w h.1

  sequence_plain : (kind : SequenceKind) (path text : List ℕ) (at : ℕ) (vs : List Value) → IsUtf8 text → AllByRecursion IsPlain vs → ShowsText (sequence_text below kind path text at vs)
  sequence_plain kind path text at vs u h = all_plain (closing kind vs) (path ++ at ∷ []) (text ++ opening kind) vs (closing_utf8 kind vs) (IsUtf8-append text (opening kind) u (opening_utf8 kind)) h

  pair_plain : (path text : List ℕ) (pair : Key × Value) → IsUtf8 text → IsPlainPair pair → ShowsText (pair_text below path text pair)
  pair_plain path text pair u h = next (each path text (value_of pair.0) u h.0) λ longer w. each path (longer ++ codes ": ") pair.1 (IsUtf8-append longer (codes ": ") w (ascii _ refl)) h.1

  more_pairs_plain : (path text : List ℕ) (pairs : Pairs) → IsUtf8 text → ArePlainPairs pairs → ShowsText (more_pairs below path text pairs)
  more_pairs_plain path text [] u h = shows _ (IsUtf8-append text (codes "}") u (ascii _ refl))
  more_pairs_plain path text (pair ∷ pairs) u h =
      next (pair_plain path (text ++ codes ", ") pair (IsUtf8-append text (codes ", ") u (ascii _ refl)) h.0) λ longer w. more_pairs_plain path longer pairs w h.1

  all_pairs_plain : (path text : List ℕ) (pairs : Pairs) → IsUtf8 text → ArePlainPairs pairs → ShowsText (all_pairs below path text pairs)
  all_pairs_plain path text [] u h = shows _ (IsUtf8-append text (codes "}") u (ascii _ refl))
  all_pairs_plain path text (pair ∷ pairs) u h = next (pair_plain path text pair u h.0) λ longer w. more_pairs_plain path longer pairs w h.1

  object_shown_plain : (path text : List ℕ) (at : ℕ) (o : Option Object) → IsUtf8 text → IsFound o → ShowsText (object_shown below path text at o)
  object_shown_plain path text at (Some (object.List vs)) u h = sequence_plain sequences.List path text at vs u h.0
  object_shown_plain path text at (Some (object.Tuple vs)) u h = sequence_plain sequences.Tuple path text at vs u h.0
  object_shown_plain path text at (Some (object.Dict pairs)) u h = all_pairs_plain (path ++ at ∷ []) (text ++ codes "{") pairs (IsUtf8-append text (codes "{") u (ascii _ refl)) h.0
  object_shown_plain path text at (Some (object.Function def)) u h = shows _ (IsUtf8-append text (function_text def.name) u (function_utf8 def.name (is_text def.name (of_def def h.0).0)))
  object_shown_plain path text at (Some (object.Handle name uses)) u h = shows _ (IsUtf8-append text (handle_text name) u (handle_utf8 name (is_text name h.0)))
  object_shown_plain path text at None u h = shows _ (IsUtf8-append text (plain_text (value.Ref at)) u (plain_utf8 (value.Ref at) tt))

  object_plain : (path text : List ℕ) (at : ℕ) → IsUtf8 text → ShowsText (object_text below path text at)
  unfolding object_text
  object_plain path text at u =
      next (finds at) λ o h.
      chosen (has path at) _ _ (shows _ (IsUtf8-append text (open_text o) u (open_utf8 o))) (object_shown_plain path text at o u h)

  value_plain : ShowsPlain (value_text below)
  value_plain path text (value.Ref at) u h = object_plain path text at u
  value_plain path text value.Nothing u h = shows _ (IsUtf8-append text _ u (plain_utf8 value.Nothing h))
  value_plain path text (value.Bool b) u h = shows _ (IsUtf8-append text _ u (plain_utf8 (value.Bool b) h))
  value_plain path text (value.Number n) u h = shows _ (IsUtf8-append text _ u (plain_utf8 (value.Number n) h))
  value_plain path text (value.Text t) u h = shows _ (IsUtf8-append text _ u (plain_utf8 (value.Text t) h))
  value_plain path text (value.Builtin b) u h = shows _ (IsUtf8-append text _ u (plain_utf8 (value.Builtin b) h))

-- what `print` writes of a text is that text, and so not longer
abbrev pub IsWritten : Value → List ℕ → Type 0
IsWritten (value.Text t) text = IsText text
IsWritten _ text = IsUtf8 text

pub shown_plain : (n : ℕ) → ShowsPlain (shown n)
unfolding shown
shown_plain zero path text v u h = fails recursion_error
shown_plain (suc n) path text v u h = next takes_step λ _ _. value_plain (shown n) (shown_plain n) path text v u h

str_plain : (below : Shows) → ShowsPlain below → (v : Value) → IsPlain v → Plainly (IsWritten v) (str_text below v)
str_plain below each (value.Text t) h = give (IsWritten (value.Text t)) t h
str_plain below each value.Nothing h = value_plain below each [] [] value.Nothing IsUtf8-nil h
str_plain below each (value.Bool b) h = value_plain below each [] [] (value.Bool b) IsUtf8-nil h
str_plain below each (value.Number n) h = value_plain below each [] [] (value.Number n) IsUtf8-nil h
str_plain below each (value.Ref at) h = value_plain below each [] [] (value.Ref at) IsUtf8-nil h
str_plain below each (value.Builtin b) h = value_plain below each [] [] (value.Builtin b) IsUtf8-nil h

pub written_plain : (n : ℕ) (v : Value) → IsPlain v → Plainly (IsWritten v) (written n v)
unfolding written
written_plain zero v h = fails recursion_error
written_plain (suc n) v h = next takes_step λ _ _. str_plain (shown n) (shown_plain n) v h
