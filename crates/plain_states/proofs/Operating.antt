-- What operators give of what is plain.
use Rattle.std.proofs.Common.{◌≡◌, ℕ, zero, suc, ℤ, pos, negsuc, ◌<◌, ◌≤◌, ◌^◌, Bool, true, false, List, [], ◌∷◌, ◌++◌, length, Option, Some, None, refl, arith, ltb-true}
use Rattle.std.specs.Prelude.{neg_ℤ, FitsSigned, sum_by}
use Rattle.std.specs.Int.{w128}
use Rattle.std.specs.List.{AllByRecursion, repeat}
use Rattle.std.proofs.lemmas.List.Sums.{sum_by-cons}
use Rattle.std.proofs.lemmas.Str.{IsUtf8-append}
use Rattle.std.specs.Str.{IsUtf8}
use Rattle.py_tree.specs.declared.expressions.Op.{Op}
use Rattle.py_tree.specs.declared.expressions.Op.TheVariants as op
use Rattle.py_value.specs.declared.value.Value.{Value}
use Rattle.py_value.specs.declared.value.Value.TheVariants as value
use Rattle.py_value.specs.Values.{weight, is_zero}
use Rattle.py_heap.specs.declared.heap.Object.{Object}
use Rattle.py_heap.specs.declared.heap.Object.TheVariants as object
use Rattle.py_heap.specs.declared.heap.SequenceKind.{SequenceKind}
use Rattle.py_heap.specs.declared.heap.SequenceKind.TheVariants as sequences
use Rattle.py_machine.specs.Errors.{overflow_error, division_error}
use Rattle.py_meaning.specs.Acts.{Act, pure, fail, choose}
use Rattle.py_meaning.specs.Truth.{object_true, truth_of}
use Rattle.py_meaning.specs.Numbers.{fits, number, as_number, floor, modulo, quotient, remainder, calculated}
use Rattle.py_meaning.specs.Operators as operators
use Rattle.py_meaning.specs.Operators.{sequence_units, made, joined, made_text, unsupported, objects_joined, refs_joined, together, times, object_repeated, ref_repeated, repeated, multiplied, combined, operated_by, operated, signed_number, no_sign, signed_by, signed}
use Rattle.part_bytes.specs.Plain.{IsPlain}
use Rattle.plain_states.proofs.Judging.{Credit, none, paid, Gives, Any, Plainly, next, give, fails, chosen}
use Rattle.plain_states.proofs.Least.{takes_step, pays, charges, adds, finds, IsFound, tells_kind, appended}
use Rattle.plain_states.proofs.Texts.{text_of, is_text, repeated_text}

-- what an act gives is a plain value
abbrev pub Values : Act Value → Type 0
Values = Plainly IsPlain

-- ---- truth

pub truth_plain : (v : Value) → Plainly Any (truth_of v)
unfolding truth_of
truth_plain (value.Ref at) = next (finds at) λ o h. give Any (object_true o) tt
truth_plain v = give Any _ tt

-- ---- numbers

pub fitting : (n : ℤ) → fits n ≡ true → FitsSigned w128 n
fitting (pos n) e = record { sfits = ltb-true n (2 ^ 127) e }
fitting (negsuc n) e = record { sfits = ltb-true n (2 ^ 127) e }

if_fits : (b : Bool) (n : ℤ) → fits n ≡ b → Values (choose b (pure (value.Number n)) (fail overflow_error))
if_fits true n e = give IsPlain (value.Number n) (fitting n e)
if_fits false n e = fails overflow_error

pub number_plain : (n : ℤ) → Values (number n)
unfolding number
number_plain n = if_fits (fits n) n refl

pub small_number : (n : ℕ) → n < 2 ^ 64 → IsPlain (value.Number (pos n))
small_number n l = record { sfits = omega (arith, l) }

abbrev pub AsPlain : Option ℤ → Type 0
AsPlain None = Unit {0}
AsPlain (Some n) = FitsSigned w128 n

pub as_plain : (v : Value) → IsPlain v → AsPlain (as_number v)
as_plain (value.Number n) h = h
as_plain (value.Bool true) h = record { sfits = omega arith }
as_plain (value.Bool false) h = record { sfits = omega arith }
as_plain value.Nothing h = tt
as_plain (value.Text text) h = tt
as_plain (value.Ref at) h = tt
as_plain (value.Builtin builtin) h = tt

quotient_plain : (a b : ℤ) → Values (quotient a b)
unfolding quotient
quotient_plain a b = chosen (is_zero b) _ _ (fails division_error) (number_plain (floor a b))

remainder_plain : (a b : ℤ) → Values (remainder a b)
unfolding remainder
remainder_plain a b = chosen (is_zero b) _ _ (fails division_error) (number_plain (modulo a b))

calculated_plain : (o : Op) (a b : ℤ) → Values (calculated o a b)
calculated_plain op.Plus a b = number_plain _
calculated_plain op.Minus a b = number_plain _
calculated_plain op.Times a b = number_plain _
calculated_plain op.Floor a b = quotient_plain a b
calculated_plain op.Mod a b = remainder_plain a b
calculated_plain o a b = fails _

-- ---- lists and texts that are made

pub steps_plain : {k : Credit} (n : ℕ) → Gives k k Any (operators.steps n)
unfolding operators.steps
steps_plain zero = give Any tt tt
steps_plain (suc n) = next takes_step λ _ _. steps_plain n

pub weighs : (v : Value) → 1 ≤ weight v
weighs value.Nothing = omega arith
weighs (value.Bool b) = omega arith
weighs (value.Number n) = omega arith
weighs (value.Text t) = omega arith
weighs (value.Ref at) = omega arith
weighs (value.Builtin f) = omega arith

pub weights : (vs : List Value) → length vs ≤ sum_by weight vs
weights [] = omega arith
weights (v ∷ vs) = let e = sum_by-cons weight v vs in let l = weights vs in let w = weighs v in omega (arith, e, l, w)

-- a new list or tuple, of which the units are paid
pub made_plain : (kind : SequenceKind) (vs : List Value) → AllByRecursion IsPlain vs → Gives (paid (sequence_units vs)) none IsPlain (made kind vs)
unfolding made
made_plain sequences.List vs h = let l = weights vs in next (adds (sequence_units vs) (object.List vs) h (omega arith) (omega (arith, l))) λ at _. give IsPlain (value.Ref at) tt
made_plain sequences.Tuple vs h = let l = weights vs in next (adds (sequence_units vs) (object.Tuple vs) h (omega arith) (omega (arith, l))) λ at _. give IsPlain (value.Ref at) tt

pub joined_plain : (kind : SequenceKind) (vs : List Value) → AllByRecursion IsPlain vs → Values (joined kind vs)
unfolding joined
joined_plain kind vs h =
    next (pays (sequence_units vs)) λ _ _.
    next (steps_plain (length vs)) λ _ _.
    made_plain kind vs h

pub made_text_plain : (t : List ℕ) → IsUtf8 t → Values (made_text t)
unfolding made_text
made_text_plain t u = next (charges (length t)) λ _ l. give IsPlain (value.Text t) (text_of t u (let m : length t ≤ 16777216 = l in omega (arith, m)))

-- ---- operators

unsupported_plain : {V : Value → Type 0} (o : Op) (x v : Value) → Plainly V (unsupported o x v)
unfolding unsupported
unsupported_plain o x v = next (tells_kind x) λ _ _. next (tells_kind v) λ _ _. fails _

objects_joined_plain : (a b : ℕ) (o u : Option Object) → IsFound o → IsFound u → Values (objects_joined a b o u)
objects_joined_plain a b (Some (object.List vs)) (Some (object.List ws)) h k = joined_plain sequences.List (vs ++ ws) (appended IsPlain vs ws h.0 k.0)
objects_joined_plain a b (Some (object.Tuple vs)) (Some (object.Tuple ws)) h k = joined_plain sequences.Tuple (vs ++ ws) (appended IsPlain vs ws h.0 k.0)
objects_joined_plain a b o u h k = unsupported_plain op.Plus (value.Ref a) (value.Ref b)

refs_joined_plain : (a b : ℕ) → Values (refs_joined a b)
unfolding refs_joined
refs_joined_plain a b = next (finds a) λ o h. next (finds b) λ u k. objects_joined_plain a b o u h k

after_text : (text : List ℕ) (v : Value) → IsPlain (value.Text text) → IsPlain v → Values (together (value.Text text) v)
after_text text (value.Text more) h k = made_text_plain (text ++ more) (IsUtf8-append text more (is_text text h) (is_text more k))
after_text text v h k = unsupported_plain op.Plus (value.Text text) v

after_ref : (a : ℕ) (v : Value) → Values (together (value.Ref a) v)
after_ref a (value.Ref b) = refs_joined_plain a b
after_ref a v = unsupported_plain op.Plus (value.Ref a) v

together_plain : (x v : Value) → IsPlain x → IsPlain v → Values (together x v)
together_plain (value.Text text) v h k = after_text text v h k
together_plain (value.Ref a) v h k = after_ref a v
together_plain x v h k = unsupported_plain op.Plus x v

repeated_all : (n : ℕ) (vs : List Value) → AllByRecursion IsPlain vs → AllByRecursion IsPlain (repeat n vs)
repeated_all zero vs h = tt
repeated_all (suc n) vs h = appended IsPlain vs (repeat n vs) h (repeated_all n vs h)

object_repeated_plain : (n : ℤ) (x v : Value) (o : Option Object) → IsFound o → Values (object_repeated n x v o)
object_repeated_plain n x v (Some (object.List vs)) h = joined_plain sequences.List _ (repeated_all (times n) vs h.0)
object_repeated_plain n x v (Some (object.Tuple vs)) h = joined_plain sequences.Tuple _ (repeated_all (times n) vs h.0)
object_repeated_plain n x v o h = unsupported_plain op.Times x v

ref_repeated_plain : (n : ℤ) (x v : Value) (a : ℕ) → Values (ref_repeated n x v a)
unfolding ref_repeated
ref_repeated_plain n x v a = next (finds a) λ o h. object_repeated_plain n x v o h

repeated_plain : (n : ℤ) (x v held : Value) → IsPlain held → Values (repeated n x v held)
repeated_plain n x v (value.Text text) h = made_text_plain _ (repeated_text (times n) text (is_text text h))
repeated_plain n x v (value.Ref at) h = ref_repeated_plain n x v at
repeated_plain n x v held h = unsupported_plain op.Times x v

multiplied_plain : (a b : Option ℤ) (x v : Value) → IsPlain x → IsPlain v → Values (multiplied a b x v)
multiplied_plain (Some n) b x v h k = repeated_plain n x v v k
multiplied_plain None (Some n) x v h k = repeated_plain n x v x h
multiplied_plain None None x v h k = unsupported_plain op.Times x v

combined_plain : (o : Op) (x v : Value) → IsPlain x → IsPlain v → Values (combined o x v)
combined_plain op.Plus x v h k = together_plain x v h k
combined_plain op.Times x v h k = multiplied_plain (as_number x) (as_number v) x v h k
combined_plain o x v h k = unsupported_plain o x v

by_numbers : (o : Op) (a b : Option ℤ) (x v : Value) → IsPlain x → IsPlain v → Values (operated_by o a b x v)
by_numbers o (Some a) (Some b) x v h k = calculated_plain o a b
by_numbers o None b x v h k = combined_plain o x v h k
by_numbers o (Some a) None x v h k = combined_plain o x v h k

pub operated_plain : (o : Op) (x v : Value) → IsPlain x → IsPlain v → Values (operated o x v)
unfolding operated
operated_plain o x v h k = by_numbers o (as_number x) (as_number v) x v h k

-- ---- signs

no_sign_plain : (minus : Bool) (v : Value) → Values (no_sign minus v)
unfolding no_sign
no_sign_plain minus v = next (tells_kind v) λ _ _. fails _

signed_number_plain : (minus : Bool) (n : ℤ) → FitsSigned w128 n → Values (signed_number minus n)
signed_number_plain true n h = number_plain (neg_ℤ n)
signed_number_plain false n h = give IsPlain (value.Number n) h

signed_by_plain : (minus : Bool) (a : Option ℤ) (v : Value) → AsPlain a → Values (signed_by minus a v)
signed_by_plain minus (Some n) v h = signed_number_plain minus n h
signed_by_plain minus None v h = no_sign_plain minus v

pub signed_plain : (minus : Bool) (v : Value) → IsPlain v → Values (signed minus v)
unfolding signed
signed_plain minus v h = signed_by_plain minus (as_number v) v (as_plain v h)
