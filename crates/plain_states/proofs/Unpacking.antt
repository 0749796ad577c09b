-- What plain values are unpacked into is plain.
use Rattle.std.proofs.Common.{ℕ, ◌==◌, List, [], ◌∷◌, length, Option, Some, None}
use Rattle.std.specs.List.{AllByRecursion}
use Rattle.std.specs.Str.{chars}
use Rattle.std.proofs.lemmas.Str.{scalars-chars, encodes-chars}
use Rattle.py_value.specs.declared.value.Value.{Value}
use Rattle.py_value.specs.declared.value.Value.TheVariants as value
use Rattle.py_heap.specs.declared.heap.Object.{Object}
use Rattle.py_heap.specs.declared.heap.Object.TheVariants as object
use Rattle.py_heap.specs.Dicts.{Pairs}
use Rattle.py_meaning.specs.Acts.{Act}
use Rattle.py_meaning.specs.Unpacking.{keys_of, characters_of, counted, object_unpacked, nothing_unpacked, unpacked}
use Rattle.part_bytes.specs.Plain.{IsPlain}
use Rattle.plain_states.proofs.Judging.{Plainly, next, give, fails, chosen}
use Rattle.plain_states.proofs.Least.{finds, IsFound, tells_kind}
use Rattle.plain_states.proofs.Texts.{is_text, characters_plain}
use Rattle.plain_states.proofs.Operating.{steps_plain}
use Rattle.plain_states.proofs.Itemizing.{ArePlainPairs}

abbrev AllPlain : List Value → Type 0
AllPlain = AllByRecursion IsPlain

abbrev Unpacks : Act (List Value) → Type 0
Unpacks = Plainly AllPlain

keys_plain : (pairs : Pairs) → ArePlainPairs pairs → AllPlain (keys_of pairs)
keys_plain [] h = tt
keys_plain (pair ∷ pairs) h = (h.0.0, keys_plain pairs h.1)

counted_plain : (n : ℕ) (vs : List Value) → AllPlain vs → Unpacks (counted n vs)
unfolding counted
counted_plain n vs h = chosen (length vs == n) _ _ (next (steps_plain n) λ _ _. give AllPlain vs h) (fails _)

object_unpacked_plain : (n : ℕ) (o : Option Object) → IsFound o → Unpacks (object_unpacked n o)
object_unpacked_plain n (Some (object.List vs)) h = counted_plain n vs h.0
object_unpacked_plain n (Some (object.Tuple vs)) h = counted_plain n vs h.0
object_unpacked_plain n (Some (object.Dict pairs)) h = counted_plain n (keys_of pairs) (keys_plain pairs h.0)
object_unpacked_plain n (Some (object.Function def)) h = fails _
object_unpacked_plain n (Some (object.Handle name uses)) h = fails _
object_unpacked_plain n None h = fails _

nothing_unpacked_plain : (v : Value) → Unpacks (nothing_unpacked v)
unfolding nothing_unpacked
nothing_unpacked_plain v = next (tells_kind v) λ _ _. fails _

text_unpacked_plain : (n : ℕ) (text : List ℕ) → IsPlain (value.Text text) → Unpacks (counted n (characters_of text))
text_unpacked_plain n text h = let u = is_text text h in counted_plain n (characters_of text) (characters_plain (chars text) text (scalars-chars text u) (encodes-chars text u) h.1)

pub unpacked_plain : (n : ℕ) (v : Value) → IsPlain v → Unpacks (unpacked n v)
unfolding unpacked
unpacked_plain n (value.Text text) h = text_unpacked_plain n text h
unpacked_plain n (value.Ref at) h = next (finds at) λ o k. object_unpacked_plain n o k
unpacked_plain n v h = nothing_unpacked_plain v
