-- Indexes, slices, stores and deletions of items keep all plain.
use Rattle.std.proofs.Common.{ℕ, zero, suc, ◌+◌, ℤ, Bool, true, false, cond, List, [], ◌∷◌, length, take, drop, Option, Some, None, arith, ◌≤◌}
use Rattle.std.specs.Prelude.{slice_get}
use Rattle.std.specs.List.{AllByRecursion}
use Rattle.std.specs.Str.{chars}
use Rattle.py_value.specs.declared.key.Key.{Key}
use Rattle.py_value.specs.declared.value.Value.{Value}
use Rattle.py_value.specs.declared.value.Value.TheVariants as value
use Rattle.py_value.specs.Keys.{key_of, value_of, same_key}
use Rattle.py_value.specs.Values.{weight}
use Rattle.py_heap.specs.declared.heap.Object.{Object}
use Rattle.py_heap.specs.declared.heap.Object.TheVariants as object
use Rattle.py_heap.specs.declared.heap.SequenceKind.{SequenceKind}
use Rattle.py_heap.specs.declared.heap.SequenceKind.TheVariants as sequences
use Rattle.py_heap.specs.Dicts.{Pairs, value_under}
use Rattle.py_machine.specs.declared.error.PyError.{PyError}
use Rattle.py_machine.specs.declared.frame.Change.TheVariants as changes
use Rattle.py_machine.specs.Errors.{not_an_index, no_index, no_text_index, no_assigned_index}
use Rattle.py_meaning.specs.Acts.{Act}
use Rattle.py_meaning.specs.Numbers.{as_number}
use Rattle.py_meaning.specs.Items.{position_in, item_at, item_or, key_or, keyed, sequence_indexed, dict_indexed, character, text_indexed, object_indexed, not_indexed, indexed, number_or, bound, from_position, to_position, text_sliced, sequence_sliced, object_sliced, sliced, stored_at, list_stored, pair_units, put_in, dict_stored, object_stored, not_stored, item_stored, deleted_at, list_deleted, pair_deleted, dict_deleted, object_deleted, not_deleted, item_deleted}
use Rattle.part_bytes.specs.Plain.{IsPlain, IsPlainPair, IsText}
use Rattle.plain_states.proofs.Judging.{Any, Plainly, next, give, fails}
use Rattle.plain_states.proofs.Least.{pays, charges, alters, alters_within, finds, IsFound, tells_kind}
use Rattle.plain_states.proofs.Texts.{is_text, character_text, cut_text}
use Rattle.plain_states.proofs.Operating.{Values, weighs, joined_plain, made_text_plain}

abbrev pub IsHeld : Option Value → Type 0
IsHeld None = Unit {0}
IsHeld (Some v) = IsPlain v

abbrev Does : Act (Unit {0}) → Type 0
Does = Plainly Any

abbrev pub ArePlainPairs : Pairs → Type 0
ArePlainPairs = AllByRecursion IsPlainPair

-- ---- positions and keys

pub at_place : (vs : List Value) (n : ℕ) → AllByRecursion IsPlain vs → IsHeld (slice_get vs n)
at_place [] n h = tt
at_place (v ∷ vs) zero h = h.0
at_place (v ∷ vs) (suc n) h = at_place vs n h.1

pub items_there : (vs : List Value) (p : Option ℕ) → AllByRecursion IsPlain vs → IsHeld (item_at vs p)
items_there vs None h = tt
items_there vs (Some position) h = at_place vs position h

pub item_or_plain : (e : PyError) (o : Option Value) → IsHeld o → Values (item_or e o)
item_or_plain e (Some v) h = give IsPlain v h
item_or_plain e None h = fails e

-- a key whose value is plain
abbrev pub IsPlainKey : Key → Type 0
IsPlainKey k = IsPlain (value_of k)

abbrev IfKey : Option Key → Type 0
IfKey None = Unit {0}
IfKey (Some k) = IsPlainKey k

key_plain : (v : Value) → IsPlain v → IfKey (key_of v)
key_plain value.Nothing h = tt
key_plain (value.Bool b) h = tt
key_plain (value.Number n) h = h
key_plain (value.Text t) h = h
key_plain (value.Ref at) h = tt
key_plain (value.Builtin f) h = tt

key_or_plain : (v : Value) (k : Option Key) → IfKey k → Plainly IsPlainKey (key_or v k)
key_or_plain v (Some key) h = give IsPlainKey key h
key_or_plain v None h = next (tells_kind v) λ _ _. fails _

pub keyed_plain : (v : Value) → IsPlain v → Plainly IsPlainKey (keyed v)
unfolding keyed
keyed_plain v h = key_or_plain v (key_of v) (key_plain v h)

cond_held : (b : Bool) (v : Value) (o : Option Value) → IsPlain v → IsHeld o → IsHeld (cond b (Some v) o)
cond_held true v o h k = h
cond_held false v o h k = k

pub under_plain : (pairs : Pairs) (key : Key) → ArePlainPairs pairs → IsHeld (value_under pairs key)
under_plain [] key h = tt
under_plain (pair ∷ pairs) key h = cond_held (same_key key pair.0) pair.1 (value_under pairs key) h.0.1 (under_plain pairs key h.1)

-- ---- an index

sequence_indexed_plain : (kind : SequenceKind) (vs : List Value) (n : Option ℤ) → AllByRecursion IsPlain vs → Values (sequence_indexed kind vs n)
sequence_indexed_plain kind vs (Some n) h = item_or_plain (no_index kind) _ (items_there vs (position_in (length vs) n) h)
sequence_indexed_plain kind vs None h = fails not_an_index

dict_indexed_plain : (pairs : Pairs) (x : Value) → ArePlainPairs pairs → IsPlain x → Values (dict_indexed pairs x)
unfolding dict_indexed
dict_indexed_plain pairs x h k = next (keyed_plain x k) λ key _. item_or_plain _ _ (under_plain pairs key h)

character_plain : (text : List ℕ) (p : Option ℕ) → IsText text → Values (character text p)
character_plain text (Some position) h = made_text_plain _ (character_text text position (is_text text h))
character_plain text None h = fails no_text_index

text_indexed_plain : (text : List ℕ) (n : Option ℤ) → IsText text → Values (text_indexed text n)
text_indexed_plain text (Some n) h = character_plain text (position_in (length (chars text)) n) h
text_indexed_plain text None h = fails not_an_index

object_indexed_plain : (x : Value) (o : Option Object) → IsPlain x → IsFound o → Values (object_indexed x o)
object_indexed_plain x (Some (object.List vs)) k h = sequence_indexed_plain sequences.List vs (as_number x) h.0
object_indexed_plain x (Some (object.Tuple vs)) k h = sequence_indexed_plain sequences.Tuple vs (as_number x) h.0
object_indexed_plain x (Some (object.Dict pairs)) k h = dict_indexed_plain pairs x h.0 k
object_indexed_plain x (Some (object.Function def)) k h = fails _
object_indexed_plain x (Some (object.Handle name uses)) k h = fails _
object_indexed_plain x None k h = fails _

not_indexed_plain : (v : Value) → Values (not_indexed v)
unfolding not_indexed
not_indexed_plain v = next (tells_kind v) λ _ _. fails _

pub indexed_plain : (v x : Value) → IsPlain v → IsPlain x → Values (indexed v x)
unfolding indexed
indexed_plain (value.Text text) x h k = text_indexed_plain text (as_number x) h
indexed_plain (value.Ref a) x h k = next (finds a) λ o l. object_indexed_plain x o k l
indexed_plain v x h k = not_indexed_plain v

-- ---- a slice

number_or_plain : (n : Option ℤ) → Plainly Any (number_or n)
number_or_plain (Some n) = give Any _ tt
number_or_plain None = fails not_an_index

bound_plain : (o : Option Value) → Plainly Any (bound o)
bound_plain None = give Any _ tt
bound_plain (Some v) = number_or_plain (as_number v)

taken_all : (n : ℕ) (vs : List Value) → AllByRecursion IsPlain vs → AllByRecursion IsPlain (take n vs)
taken_all zero vs h = tt
taken_all (suc n) [] h = tt
taken_all (suc n) (v ∷ vs) h = (h.0, taken_all n vs h.1)

dropped_all : (n : ℕ) (vs : List Value) → AllByRecursion IsPlain vs → AllByRecursion IsPlain (drop n vs)
dropped_all zero vs h = h
dropped_all (suc n) [] h = tt
dropped_all (suc n) (v ∷ vs) h = dropped_all n vs h.1

text_sliced_plain : (text : List ℕ) (from to : Option Value) → IsText text → Values (text_sliced text from to)
unfolding text_sliced
text_sliced_plain text from to h =
    next (bound_plain from) λ a _.
    next (bound_plain to) λ b _.
    made_text_plain _ (cut_text text (from_position (length (chars text)) a) (to_position (length (chars text)) b) (is_text text h))

sequence_sliced_plain : (kind : SequenceKind) (vs : List Value) (from to : Option Value) → AllByRecursion IsPlain vs → Values (sequence_sliced kind vs from to)
unfolding sequence_sliced
sequence_sliced_plain kind vs from to h =
    next (bound_plain from) λ a _.
    next (bound_plain to) λ b _.
    joined_plain kind _ (taken_all _ _ (dropped_all (from_position (length vs) a) vs h))

object_sliced_plain : (from to : Option Value) (o : Option Object) → IsFound o → Values (object_sliced from to o)
object_sliced_plain from to (Some (object.List vs)) h = sequence_sliced_plain sequences.List vs from to h.0
object_sliced_plain from to (Some (object.Tuple vs)) h = sequence_sliced_plain sequences.Tuple vs from to h.0
object_sliced_plain from to (Some (object.Dict pairs)) h = fails _
object_sliced_plain from to (Some (object.Function def)) h = fails _
object_sliced_plain from to (Some (object.Handle name uses)) h = fails _
object_sliced_plain from to None h = fails _

pub sliced_plain : (v : Value) (from to : Option Value) → IsPlain v → Values (sliced v from to)
unfolding sliced
sliced_plain (value.Text text) from to h = text_sliced_plain text from to h
sliced_plain (value.Ref a) from to h = next (finds a) λ o k. object_sliced_plain from to o k
sliced_plain v from to h = not_indexed_plain v

-- ---- what is stored

stored_at_plain : (a : ℕ) (v : Value) (p : Option ℕ) → IsPlain v → Does (stored_at a v p)
stored_at_plain a v (Some position) h = next (charges (weight v)) λ _ _. alters a (changes.Set position v) h
stored_at_plain a v None h = fails no_assigned_index

list_stored_plain : (a : ℕ) (vs : List Value) (v : Value) (n : Option ℤ) → IsPlain v → Does (list_stored a vs v n)
list_stored_plain a vs v (Some n) h = stored_at_plain a v (position_in (length vs) n) h
list_stored_plain a vs v None h = fails not_an_index

some_units : (b : Bool) (k : Key) (v : Value) → 1 ≤ cond b (weight v) (weight (value_of k) + weight v)
some_units true k v = weighs v
some_units false k v = let l = weighs v in omega (arith, l)

pub put_in_plain : (a : ℕ) (pairs : Pairs) (k : Key) (v : Value) → IsPlainKey k → IsPlain v → Does (put_in a pairs k v)
unfolding put_in
put_in_plain a pairs k v h l =
    next (pays (pair_units pairs k v)) λ _ _.
    alters_within (pair_units pairs k v) a (changes.Put k v) (some_units _ k v) (h, l)

dict_stored_plain : (a : ℕ) (pairs : Pairs) (x v : Value) → IsPlain x → IsPlain v → Does (dict_stored a pairs x v)
unfolding dict_stored
dict_stored_plain a pairs x v h l = next (keyed_plain x h) λ k m. put_in_plain a pairs k v m l

object_stored_plain : (a : ℕ) (x v : Value) (o : Option Object) → IsPlain x → IsPlain v → Does (object_stored a x v o)
object_stored_plain a x v (Some (object.List vs)) h l = list_stored_plain a vs v (as_number x) l
object_stored_plain a x v (Some (object.Tuple vs)) h l = fails _
object_stored_plain a x v (Some (object.Dict pairs)) h l = dict_stored_plain a pairs x v h l
object_stored_plain a x v (Some (object.Function def)) h l = fails _
object_stored_plain a x v (Some (object.Handle name uses)) h l = fails _
object_stored_plain a x v None h l = fails _

not_stored_plain : (v : Value) → Does (not_stored v)
unfolding not_stored
not_stored_plain v = next (tells_kind v) λ _ _. fails _

pub item_stored_plain : (r x v : Value) → IsPlain x → IsPlain v → Does (item_stored r x v)
unfolding item_stored
item_stored_plain (value.Ref a) x v h l = next (finds a) λ o _. object_stored_plain a x v o h l
item_stored_plain r x v h l = not_stored_plain r

-- ---- what is deleted

deleted_at_plain : (a : ℕ) (p : Option ℕ) → Does (deleted_at a p)
deleted_at_plain a (Some position) = alters a (changes.Remove position) tt
deleted_at_plain a None = fails no_assigned_index

list_deleted_plain : (a : ℕ) (vs : List Value) (n : Option ℤ) → Does (list_deleted a vs n)
list_deleted_plain a vs (Some n) = deleted_at_plain a (position_in (length vs) n)
list_deleted_plain a vs None = fails not_an_index

pair_deleted_plain : (a : ℕ) (k : Key) (o : Option Value) → Does (pair_deleted a k o)
pair_deleted_plain a k (Some v) = alters a (changes.Drop k) tt
pair_deleted_plain a k None = fails _

dict_deleted_plain : (a : ℕ) (pairs : Pairs) (x : Value) → IsPlain x → Does (dict_deleted a pairs x)
unfolding dict_deleted
dict_deleted_plain a pairs x h = next (keyed_plain x h) λ k _. pair_deleted_plain a k (value_under pairs k)

object_deleted_plain : (a : ℕ) (x : Value) (o : Option Object) → IsPlain x → Does (object_deleted a x o)
object_deleted_plain a x (Some (object.List vs)) h = list_deleted_plain a vs (as_number x)
object_deleted_plain a x (Some (object.Tuple vs)) h = fails _
object_deleted_plain a x (Some (object.Dict pairs)) h = dict_deleted_plain a pairs x h
object_deleted_plain a x (Some (object.Function def)) h = fails _
object_deleted_plain a x (Some (object.Handle name uses)) h = fails _
object_deleted_plain a x None h = fails _

not_deleted_plain : (v : Value) → Does (not_deleted v)
unfolding not_deleted
not_deleted_plain v = next (tells_kind v) λ _ _. fails _

pub item_deleted_plain : (r x : Value) → IsPlain x → Does (item_deleted r x)
unfolding item_deleted
item_deleted_plain (value.Ref a) x h = next (finds a) λ o _. object_deleted_plain a x o h
item_deleted_plain r x h = not_deleted_plain r
