-- What a `for` goes over, and what comes next, is plain.
use Rattle.std.proofs.Common.{◌≡◌, ℕ, zero, suc, ℤ, ◌+◌, ◌==◌, Bool, true, false, cond, List, [], ◌∷◌, length, Option, Some, None, refl, arith}
use Rattle.std.specs.Prelude.{pos, ◌+ℤ◌, FitsSigned, slice_get}
use Rattle.std.specs.Int.{w128}
use Rattle.std.specs.List.{AllByRecursion}
use Rattle.py_value.specs.declared.value.Value.{Value}
use Rattle.py_value.specs.declared.value.Value.TheVariants as value
use Rattle.py_value.specs.Values.{is_zero}
use Rattle.py_heap.specs.declared.heap.Object.{Object}
use Rattle.py_heap.specs.declared.heap.Object.TheVariants as object
use Rattle.py_heap.specs.Dicts.{Pairs}
use Rattle.py_machine.specs.declared.iteration.Iteration.{Iteration}
use Rattle.py_machine.specs.declared.iteration.Iteration.TheVariants as iteration
use Rattle.py_machine.specs.Rests.{first_cut}
use Rattle.py_machine.specs.Errors.{zero_range_step, changed_size}
use Rattle.py_meaning.specs.Acts.{Act}
use Rattle.py_meaning.specs.Numbers.{fits, as_number}
use Rattle.py_meaning.specs.Iterating.{object_iterated, not_iterated, iterated, ranged, range_of, Next, with_rest, next_item, key_in, next_key, first_in, is_before, following, next_number, advance}
use Rattle.part_bytes.specs.Plain.{IsPlain, IsText}
use Rattle.plain_states.proofs.Judging.{Plainly, next, give, fails, chosen}
use Rattle.plain_states.proofs.Least.{finds, IsFound, tells_kind}
use Rattle.plain_states.proofs.Texts.{AreCut, first_text}
use Rattle.plain_states.proofs.Operating.{AsPlain, as_plain, fitting}
use Rattle.plain_states.proofs.Itemizing.{IsHeld, at_place, ArePlainPairs}

abbrev pub IsPlainOver : Iteration → Type 0
IsPlainOver (iteration.Items at next) = Unit {0}
IsPlainOver (iteration.Keys at next size) = Unit {0}
IsPlainOver (iteration.Characters text) = IsText text
IsPlainOver (iteration.Range next stop by) = AsPlain next

abbrev pub Iterates : Act Iteration → Type 0
Iterates = Plainly IsPlainOver

object_iterated_plain : (a : ℕ) (o : Option Object) → Iterates (object_iterated a o)
object_iterated_plain a (Some (object.List vs)) = give IsPlainOver (iteration.Items a 0) tt
object_iterated_plain a (Some (object.Tuple vs)) = give IsPlainOver (iteration.Items a 0) tt
object_iterated_plain a (Some (object.Dict pairs)) = give IsPlainOver (iteration.Keys a 0 (length pairs)) tt
object_iterated_plain a (Some (object.Function def)) = fails _
object_iterated_plain a (Some (object.Handle name uses)) = fails _
object_iterated_plain a None = fails _

not_iterated_plain : (v : Value) → Iterates (not_iterated v)
unfolding not_iterated
not_iterated_plain v = next (tells_kind v) λ _ _. fails _

pub iterated_plain : (v : Value) → IsPlain v → Iterates (iterated v)
unfolding iterated
iterated_plain (value.Text text) h = give IsPlainOver (iteration.Characters text) h
iterated_plain (value.Ref at) h = next (finds at) λ o _. object_iterated_plain at o
iterated_plain v h = not_iterated_plain v

ranged_plain : (start stop by : Option ℤ) → AsPlain start → Iterates (ranged start stop by)
ranged_plain (Some start) (Some stop) (Some by) h = chosen (is_zero by) _ _ (fails zero_range_step) (give IsPlainOver (iteration.Range (Some start) stop by) h)
ranged_plain None stop by h = fails _
ranged_plain (Some start) None by h = fails _
ranged_plain (Some start) (Some stop) None h = fails _

zero_fits : AsPlain (Some (pos 0))
zero_fits = record { sfits = omega arith }

pub range_of_plain : (vs : List Value) → AllByRecursion IsPlain vs → Iterates (range_of vs)
range_of_plain [] h = fails _
range_of_plain (stop ∷ []) h = ranged_plain (Some (pos 0)) (as_number stop) (Some (pos 1)) zero_fits
range_of_plain (start ∷ stop ∷ []) h = ranged_plain (as_number start) (as_number stop) (Some (pos 1)) (as_plain start h.0)
range_of_plain (start ∷ stop ∷ by ∷ []) h = ranged_plain (as_number start) (as_number stop) (as_number by) (as_plain start h.0)
range_of_plain (start ∷ stop ∷ by ∷ one ∷ more) h = fails _

-- ---- what comes next

abbrev pub IsPlainNext : Next → Type 0
IsPlainNext None = Unit {0}
IsPlainNext (Some x) = IsPlain x.0 × IsPlainOver x.1

with_rest_plain : (o : Option Value) (rest : Iteration) → IsHeld o → IsPlainOver rest → IsPlainNext (with_rest o rest)
with_rest_plain (Some v) rest h k = (h, k)
with_rest_plain None rest h k = tt

next_item_plain : (a n : ℕ) (o : Option Object) → IsFound o → Plainly IsPlainNext (next_item a n o)
next_item_plain a n (Some (object.List vs)) h = give IsPlainNext _ (with_rest_plain (slice_get vs n) (iteration.Items a (n + 1)) (at_place vs n h.0) tt)
next_item_plain a n (Some (object.Tuple vs)) h = give IsPlainNext _ (with_rest_plain (slice_get vs n) (iteration.Items a (n + 1)) (at_place vs n h.0) tt)
next_item_plain a n (Some (object.Dict pairs)) h = give IsPlainNext None tt
next_item_plain a n (Some (object.Function def)) h = give IsPlainNext None tt
next_item_plain a n (Some (object.Handle name uses)) h = give IsPlainNext None tt
next_item_plain a n None h = give IsPlainNext None tt

key_at : (pairs : Pairs) (n : ℕ) → ArePlainPairs pairs → IsHeld (key_in (slice_get pairs n))
key_at [] n h = tt
key_at (pair ∷ pairs) zero h = h.0.0
key_at (pair ∷ pairs) (suc n) h = key_at pairs n h.1

next_key_plain : (a n size : ℕ) (o : Option Object) → IsFound o → Plainly IsPlainNext (next_key a n size o)
next_key_plain a n size (Some (object.Dict pairs)) h =
    chosen (length pairs == size) _ _ (give IsPlainNext _ (with_rest_plain (key_in (slice_get pairs n)) (iteration.Keys a (n + 1) size) (key_at pairs n h.0) tt)) (fails changed_size)
next_key_plain a n size (Some (object.List vs)) h = give IsPlainNext None tt
next_key_plain a n size (Some (object.Tuple vs)) h = give IsPlainNext None tt
next_key_plain a n size (Some (object.Function def)) h = give IsPlainNext None tt
next_key_plain a n size (Some (object.Handle name uses)) h = give IsPlainNext None tt
next_key_plain a n size None h = give IsPlainNext None tt

first_plain : (o : Option (List ℕ × List ℕ)) → AreCut o → IsPlainNext (first_in o)
first_plain (Some cut) h = h
first_plain None h = tt

if_follows : (b : Bool) (n : ℤ) → fits n ≡ b → AsPlain (cond b (Some n) None)
if_follows true n e = fitting n e
if_follows false n e = tt

number_next : (b : Bool) (n : ℤ) (rest : Iteration) → FitsSigned w128 n → IsPlainOver rest → IsPlainNext (cond b (Some (value.Number n, rest)) None)
number_next true n rest h k = (h, k)
number_next false n rest h k = tt

next_number_plain : (n : Option ℤ) (stop by : ℤ) → AsPlain n → IsPlainNext (next_number n stop by)
next_number_plain None stop by h = tt
next_number_plain (Some n) stop by h = number_next (is_before n stop by) n (iteration.Range (following n by) stop by) h (if_follows (fits (n +ℤ by)) (n +ℤ by) refl)

pub advance_plain : (r : Iteration) → IsPlainOver r → Plainly IsPlainNext (advance r)
unfolding advance
advance_plain (iteration.Items a n) h = next (finds a) λ o k. next_item_plain a n o k
advance_plain (iteration.Keys a n size) h = next (finds a) λ o k. next_key_plain a n size o k
advance_plain (iteration.Characters text) h = give IsPlainNext _ (first_plain (first_cut text) (first_text text h))
advance_plain (iteration.Range n stop by) h = give IsPlainNext _ (next_number_plain n stop by h)
