-- What needs no level below keeps all plain: constants, built-in functions, frames, names, dict displays, results.
use Rattle.std.proofs.Common.{◌≡◌, ℕ, ℤ, ◌+◌, ◌<◌, ◌≤◌, ◌^◌, Bool, true, false, cond, List, [], ◌∷◌, ◌++◌, length, Option, Some, None, Result, Ok, Err, refl, arith, nat_lt, nat_le, ltb-true}
use Rattle.std.specs.Prelude.{pos, zero, suc, FitsSigned, ◌==◌}
use Rattle.std.specs.Int.{w128}
use Rattle.std.specs.List.{AllByRecursion}
use Rattle.std.specs.FinMap as finite
use Rattle.std.specs.Cmp.Lexicographic.{slice_cmp}
use Rattle.std.specs.Ordering.{nat_cmp}
use Rattle.std.specs.Str.{chars}
use Rattle.std.proofs.lemmas.Bool.{leb-true}
use Rattle.py_tree.specs.declared.expressions.Literal.{Literal}
use Rattle.py_tree.specs.declared.expressions.Literal.TheVariants as literal
use Rattle.py_tree.specs.declared.expressions.Op.{Op}
use Rattle.py_tree.specs.declared.expressions.Op.TheVariants as op
use Rattle.py_tree.specs.declared.statements.Def.{Def}
use Rattle.py_tree.specs.Locals.{locals_of}
use Rattle.py_value.specs.declared.key.Key.{Key}
use Rattle.py_value.specs.declared.number.NumberFault.{NumberFault}
use Rattle.py_value.specs.declared.number.NumberFault.TheVariants as number_fault
use Rattle.py_value.specs.declared.value.Value.{Value}
use Rattle.py_value.specs.declared.value.Value.TheVariants as value
use Rattle.py_value.specs.Numbers.{number_of, are_digits, decimal_from, as_positive, as_negative, negated, positive, negative, without_front, without_end}
use Rattle.py_value.specs.Numbers as numbers
use Rattle.py_heap.specs.declared.heap.Object.{Object}
use Rattle.py_heap.specs.declared.heap.Object.TheVariants as object
use Rattle.py_heap.specs.Dicts.{Pairs}
use Rattle.py_heap.specs.States.{raised}
use Rattle.py_machine.specs.declared.frame.Change.TheVariants as changes
use Rattle.py_machine.specs.declared.frame.Flow.{Flow}
use Rattle.py_machine.specs.declared.frame.Flow.TheVariants as flow
use Rattle.py_machine.specs.declared.frame.Frame.{Frame}
use Rattle.py_machine.specs.declared.frame.FrameSlot.TheVariants.{Empty, Held}
use Rattle.py_machine.specs.Errors.{overflow_error}
use Rattle.py_machine.specs.Runs.{Name}
use Rattle.py_meaning.specs.Acts.{Act, pure}
use Rattle.py_meaning.specs.Numbers.{as_number}
use Rattle.py_meaning.specs.Operators.{operated}
use Rattle.py_meaning.specs.Methods.{pairs_in}
use Rattle.py_meaning.specs.Meaning.{literal_value, not_called, drawn, draw_called, object_length, length_of, len_called, number_read, text_as_int, as_int, int_called, opened, open_handle, handle_called, object_told, told_at, tell, tell_called, with_empty, with_held, frame_of, returned, text_units, store, names_stored, names_given, extended, refs_added, added, augmented, delete, define, keys_from, put, filled, result_text, result}
use Rattle.part_bytes.specs.Plain.{IsPlain, IsPlainPair, IsText}
use Rattle.plain_states.specs.Constants.{constants_by_def}
use Rattle.plain_states.specs.Plain.{IsPlainLiteral, ArePlain}
use Rattle.plain_states.proofs.Judging.{Any, Plainly, next, give, fails, chosen, IsPlainFrame}
use Rattle.plain_states.proofs.Least.{takes_step, takes_step_for_look, charges, pays, adds, alters, finds, IsFound, AreListed, lists, tells_kind, tells_local, binds, unbinds, seeks, draws_word, inserted_plain, appended}
use Rattle.plain_states.proofs.Texts.{is_text, few_chars}
use Rattle.plain_states.proofs.Operating.{Values, AsPlain, as_plain, small_number, operated_plain}
use Rattle.plain_states.proofs.Unpacking.{unpacked_plain}
use Rattle.plain_states.proofs.Itemizing.{ArePlainPairs, IsPlainKey, keyed_plain, put_in_plain}
use Rattle.plain_states.proofs.Methodical.{extend_plain}
use Rattle.plain_states.proofs.Showing.{shown_plain}
use Rattle.std.proofs.lemmas.Str.{IsUtf8-nil}

abbrev pub IsPlainFlow : Flow → Type 0
IsPlainFlow (flow.Return v) = IsPlain v
IsPlainFlow _ = Unit {0}

abbrev pub Flows : Act Flow → Type 0
Flows = Plainly IsPlainFlow

-- ---- constants and calls

pub literal_plain : (constant : Literal) → IsPlainLiteral constant → Values (literal_value constant)
unfolding literal_value
literal_plain literal.Nothing h = next takes_step λ _ _. give IsPlain value.Nothing tt
literal_plain (literal.Bool truth) h = next takes_step λ _ _. give IsPlain (value.Bool truth) tt
literal_plain (literal.Number n) h = next takes_step λ _ _. give IsPlain (value.Number n) h
literal_plain (literal.Text text) h = next takes_step λ _ _. give IsPlain (value.Text text) h

pub not_called_plain : (v : Value) → Values (not_called v)
unfolding not_called
not_called_plain v = next (tells_kind v) λ _ _. fails _

drawn_plain : Values drawn
unfolding drawn
drawn_plain = next draws_word λ word l. give IsPlain (value.Number (pos word)) (small_number word l)

pub draw_called_plain : (vs : List Value) → Values (draw_called vs)
draw_called_plain [] = drawn_plain
draw_called_plain (v ∷ vs) = fails _

length_number : (n : ℕ) → n < 2 ^ 64 → Values (pure (value.Number (pos n)))
length_number n l = give IsPlain (value.Number (pos n)) (small_number n l)

object_length_plain : (o : Option Object) → IsFound o → Values (object_length o)
object_length_plain (Some (object.List vs)) h = let l : length vs ≤ 16777216 = h.1 in length_number (length vs) (omega (arith, l))
object_length_plain (Some (object.Tuple vs)) h = let l : length vs ≤ 16777216 = h.1 in length_number (length vs) (omega (arith, l))
object_length_plain (Some (object.Dict pairs)) h = let l : length pairs ≤ 16777216 = h.1 in length_number (length pairs) (omega (arith, l))
object_length_plain (Some (object.Function def)) h = fails _
object_length_plain (Some (object.Handle name uses)) h = fails _
object_length_plain None h = fails _

length_plain : (v : Value) → IsPlain v → Values (length_of v)
unfolding length_of
length_plain (value.Text text) h = let l = few_chars text (is_text text h) in let m = h.1 in length_number (length (chars text)) (omega (arith, l, m))
length_plain (value.Ref a) h = next (finds a) λ o k. object_length_plain o k
length_plain value.Nothing h = fails _
length_plain (value.Bool b) h = fails _
length_plain (value.Number n) h = fails _
length_plain (value.Builtin f) h = fails _

pub len_called_plain : (vs : List Value) → AllByRecursion IsPlain vs → Values (len_called vs)
len_called_plain (v ∷ []) h = length_plain v h.0
len_called_plain [] h = fails _
len_called_plain (v ∷ w ∷ vs) h = fails _

-- ---- the number that a text spells

abbrev IsRead : Result ℤ NumberFault → Type 0
IsRead (Ok n) = FitsSigned w128 n
IsRead (Err fault) = Unit {0}

if_positive : (b : Bool) (n : ℕ) → nat_lt n (2 ^ 127) ≡ b → IsRead (cond b (Ok (pos n)) (Err number_fault.Wide))
if_positive true n e = record { sfits = ltb-true n (2 ^ 127) e }
if_positive false n e = tt

negated_fits : (n : ℕ) → n ≤ 2 ^ 127 → FitsSigned w128 (negated n)
negated_fits zero l = record { sfits = omega arith }
negated_fits (suc n) l = record { sfits = omega (arith, l) }

if_negative : (b : Bool) (n : ℕ) → nat_le n (2 ^ 127) ≡ b → IsRead (cond b (Ok (negated n)) (Err number_fault.Wide))
if_negative true n e = negated_fits n (leb-true n (2 ^ 127) e)
if_negative false n e = tt

if_digits : (b : Bool) (r : Result ℤ NumberFault) → IsRead r → IsRead (cond b r (Err number_fault.Invalid))
if_digits true r h = h
if_digits false r h = tt

positive_read : (cs : List ℕ) → IsRead (positive cs)
unfolding positive
positive_read cs = if_digits (are_digits cs) _ (if_positive _ (decimal_from 0 cs) refl)

negative_read : (cs : List ℕ) → IsRead (negative cs)
unfolding negative
negative_read cs = if_digits (are_digits cs) _ (if_negative _ (decimal_from 0 cs) refl)

by_sign : (b d : Bool) (r s t : Result ℤ NumberFault) → IsRead r → IsRead s → IsRead t → IsRead (cond b r (cond d s t))
by_sign true d r s t h k l = h
by_sign false true r s t h k l = k
by_sign false false r s t h k l = l

signed_read : (cs : List ℕ) → IsRead (numbers.signed cs)
unfolding numbers.signed
signed_read [] = positive_read []
signed_read (c ∷ cs) = by_sign (c == 45) (c == 43) _ _ _ (negative_read cs) (positive_read cs) (positive_read (c ∷ cs))

number_read_plain : (text : List ℕ) (r : Result ℤ NumberFault) → IsRead r → Values (number_read text r)
number_read_plain text (Ok n) h = give IsPlain (value.Number n) h
number_read_plain text (Err number_fault.Invalid) h = fails _
number_read_plain text (Err number_fault.Wide) h = fails overflow_error

text_as_int_plain : (v : Value) → Values (text_as_int v)
text_as_int_plain (value.Text text) = number_read_plain text (number_of text) (signed_read (without_end (without_front text)))
text_as_int_plain v = fails _

as_int_plain : (n : Option ℤ) (v : Value) → AsPlain n → Values (as_int n v)
as_int_plain (Some n) v h = give IsPlain (value.Number n) h
as_int_plain None v h = text_as_int_plain v

pub int_called_plain : (vs : List Value) → AllByRecursion IsPlain vs → Values (int_called vs)
int_called_plain (v ∷ []) h = as_int_plain (as_number v) v (as_plain v h.0)
int_called_plain [] h = fails _
int_called_plain (v ∷ w ∷ vs) h = fails _

-- ---- handles

opened_plain : (name : List ℕ) → IsText name → Values (opened name)
unfolding opened
opened_plain name h =
    next (pays (1 + length name)) λ _ _.
    next (adds (1 + length name) (object.Handle name 0) h (omega arith) (omega arith)) λ a _.
    give IsPlain (value.Ref a) tt

open_handle_plain : (v : Value) → IsPlain v → Values (open_handle v)
open_handle_plain (value.Text name) h = opened_plain name h
open_handle_plain value.Nothing h = fails _
open_handle_plain (value.Bool b) h = fails _
open_handle_plain (value.Number n) h = fails _
open_handle_plain (value.Ref at) h = fails _
open_handle_plain (value.Builtin f) h = fails _

pub handle_called_plain : (vs : List Value) → AllByRecursion IsPlain vs → Values (handle_called vs)
handle_called_plain (v ∷ []) h = open_handle_plain v h.0
handle_called_plain [] h = fails _
handle_called_plain (v ∷ w ∷ vs) h = fails _

raised_small : (uses : ℕ) → raised uses < 2 ^ 64
raised_small uses = omega arith

object_told_plain : (a : ℕ) (o : Option Object) → Values (object_told a o)
object_told_plain a (Some (object.Handle name uses)) = next (alters a changes.Use tt) λ _ _. length_number (raised uses) (raised_small uses)
object_told_plain a (Some (object.List vs)) = fails _
object_told_plain a (Some (object.Tuple vs)) = fails _
object_told_plain a (Some (object.Dict pairs)) = fails _
object_told_plain a (Some (object.Function def)) = fails _
object_told_plain a None = fails _

told_at_plain : (a : ℕ) → Values (told_at a)
unfolding told_at
told_at_plain a = next (finds a) λ o _. object_told_plain a o

tell_plain : (v : Value) → Values (tell v)
tell_plain (value.Ref a) = told_at_plain a
tell_plain v = fails _

pub tell_called_plain : (vs : List Value) → Values (tell_called vs)
tell_called_plain (v ∷ []) = tell_plain v
tell_called_plain [] = fails _
tell_called_plain (v ∷ w ∷ vs) = fails _

-- ---- frames

empty_plain : (f : Frame) (names : List Name) → IsPlainFrame f → IsPlainFrame (with_empty f names)
empty_plain f [] h = h
empty_plain f (name ∷ names) h = empty_plain (record { slots = finite.insert f.slots name Empty }) names (inserted_plain f name Empty tt h)

held_plain : (f : Frame) (names : List Name) (vs : List Value) → IsPlainFrame f → AllByRecursion IsPlain vs → IsPlainFrame (with_held f names vs)
held_plain f (name ∷ names) (v ∷ vs) h k = held_plain (record { slots = finite.insert f.slots name (Held v) }) names vs (inserted_plain f name (Held v) k.0 h) k.1
held_plain f [] vs h k = h
held_plain f (name ∷ names) [] h k = h

abbrev no_slots : Frame
no_slots = record { slots = finite.empty }

none_plain : IsPlainFrame no_slots
none_plain = record { slots = λ x. rw (finite.get-empty (slice_cmp nat_cmp) x) tt }

pub frame_plain : (def : Def) (vs : List Value) → AllByRecursion IsPlain vs → IsPlainFrame (frame_of def vs)
unfolding frame_of
frame_plain def vs h = held_plain (with_empty no_slots (locals_of def)) def.params vs (empty_plain no_slots (locals_of def) none_plain) h

pub returned_plain : (e : Flow) → IsPlainFlow e → IsPlain (returned e)
returned_plain (flow.Return v) h = h
returned_plain flow.Next h = tt
returned_plain flow.Break h = tt
returned_plain flow.Continue h = tt

-- ---- names

pub store_plain : (name : Name) (v : Value) → IsPlain v → Plainly Any (store name v)
unfolding store
store_plain name v h = next (tells_local name) λ b _. chosen b _ _ (binds name v h) (next (charges (text_units v)) λ _ _. binds name v h)

names_stored_plain : (names : List Name) (vs : List Value) → AllByRecursion IsPlain vs → Plainly Any (names_stored names vs)
names_stored_plain (name ∷ names) (v ∷ vs) h = next (store_plain name v h.0) λ _ _. names_stored_plain names vs h.1
names_stored_plain [] vs h = give Any tt tt
names_stored_plain (name ∷ names) [] h = give Any tt tt

pub names_given_plain : (comma : Bool) (names : List Name) (v : Value) → IsPlain v → Plainly Any (names_given comma names v)
names_given_plain true names v h = next (unpacked_plain (length names) v h) λ vs k. names_stored_plain names vs k
names_given_plain false (name ∷ others) v h = store_plain name v h
names_given_plain false [] v h = give Any tt tt

-- ---- augmented assignments

sum_plain : (a b : ℕ) → Values (operated op.Plus (value.Ref a) (value.Ref b))
sum_plain a b = operated_plain op.Plus (value.Ref a) (value.Ref b) tt tt

extended_plain : (a b : ℕ) (o u : Option (List Value)) → AreListed u → Values (extended a b o u)
extended_plain a b (Some vs) (Some ws) h = next (extend_plain a ws h) λ _ _. give IsPlain (value.Ref a) tt
extended_plain a b None u h = sum_plain a b
extended_plain a b (Some vs) None h = sum_plain a b

refs_added_plain : (a b : ℕ) → Values (refs_added a b)
unfolding refs_added
refs_added_plain a b = next (lists a) λ o _. next (lists b) λ u h. extended_plain a b o u h

ref_added : (a : ℕ) (v : Value) → IsPlain v → Values (added (value.Ref a) v)
ref_added a (value.Ref b) h = refs_added_plain a b
ref_added a v h = operated_plain op.Plus (value.Ref a) v tt h

added_plain : (x v : Value) → IsPlain x → IsPlain v → Values (added x v)
added_plain (value.Ref a) v h k = ref_added a v k
added_plain x v h k = operated_plain op.Plus x v h k

pub augmented_plain : (o : Op) (x v : Value) → IsPlain x → IsPlain v → Values (augmented o x v)
augmented_plain op.Plus x v h k = added_plain x v h k
augmented_plain o x v h k = operated_plain o x v h k

-- ---- deletions and definitions

pub delete_plain : (name : Name) → Flows (delete name)
unfolding delete
delete_plain name = next (next (next takes_step_for_look λ _ _. seeks name) λ _ _. unbinds name) λ _ _. give IsPlainFlow flow.Next tt

pub define_plain : (def : Def) → ArePlain (constants_by_def def) → Flows (define def)
unfolding define
define_plain def h =
    next takes_step λ _ _.
    next (pays (1 + length def.source)) λ _ _.
    next (adds (1 + length def.source) (object.Function def) h (omega arith) (omega arith)) λ a _.
    next (binds def.name (value.Ref a) tt) λ _ _.
    give IsPlainFlow flow.Next tt

-- ---- dict displays

-- keys and values as they are evaluated
abbrev pub AreEvaluated : List (Value × Value) → Type 0
AreEvaluated = AllByRecursion (λ x. IsPlain x.0 × IsPlain x.1)

pub keys_from_plain : (pairs : Pairs) (vs : List (Value × Value)) → ArePlainPairs pairs → AreEvaluated vs → Plainly ArePlainPairs (keys_from pairs vs)
keys_from_plain pairs [] h k = give ArePlainPairs pairs h
keys_from_plain pairs (v ∷ vs) h k =
    next (keyed_plain v.0 k.0.0) λ key l. keys_from_plain (pairs ++ (key, v.1) ∷ []) vs (appended IsPlainPair pairs ((key, v.1) ∷ []) h ((l, k.0.1), tt)) k.1

put_plain : (a : ℕ) (k : Key) (v : Value) → IsPlainKey k → IsPlain v → Plainly Any (put a k v)
unfolding put
put_plain a k v h l = next (finds a) λ o m. put_in_plain a (pairs_in o) k v h l

pub filled_plain : (a : ℕ) (pairs : Pairs) → ArePlainPairs pairs → Values (filled a pairs)
filled_plain a [] h = give IsPlain (value.Ref a) tt
filled_plain a (pair ∷ pairs) h = next (put_plain a pair.0 pair.1 h.0.0 h.0.1) λ _ _. filled_plain a pairs h.1

-- ---- the result of a cell

shown_result : (v : Value) → IsPlain v → Plainly Any (result_text v)
unfolding result_text
shown_result v h = next (shown_plain 798 [] [] v IsUtf8-nil h) λ text _. next (charges (length text)) λ _ _. give Any (Some text) tt

pub result_plain : (v : Value) → IsPlain v → Plainly Any (result v)
result_plain value.Nothing h = give Any None tt
result_plain (value.Ref at) h = shown_result (value.Ref at) h
result_plain (value.Bool truth) h = shown_result (value.Bool truth) h
result_plain (value.Number number) h = shown_result (value.Number number) h
result_plain (value.Text text) h = shown_result (value.Text text) h
result_plain (value.Builtin builtin) h = shown_result (value.Builtin builtin) h
