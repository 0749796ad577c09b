-- Methods of lists, dicts and texts keep all plain.
use Rattle.std.proofs.Common.{ℕ, ℤ, List, [], ◌∷◌, length, Option, Some, None}
use Rattle.std.specs.Prelude.{negsuc, sum_by}
use Rattle.std.specs.List.{AllByRecursion}
use Rattle.std.specs.Str.{IsUtf8}
use Rattle.py_value.specs.declared.value.Value.{Value}
use Rattle.py_value.specs.declared.value.Value.TheVariants as value
use Rattle.py_value.specs.Reprs.{key_text}
use Rattle.py_value.specs.Values.{weight}
use Rattle.py_heap.specs.declared.heap.Object.{Object}
use Rattle.py_heap.specs.declared.heap.Object.TheVariants as object
use Rattle.py_heap.specs.declared.heap.SequenceKind.TheVariants as sequences
use Rattle.py_heap.specs.Dicts.{value_under}
use Rattle.py_machine.specs.declared.frame.Change.TheVariants as changes
use Rattle.py_machine.specs.declared.method.BoundMethod.{BoundMethod}
use Rattle.py_machine.specs.declared.method.BoundMethod.TheVariants as bound
use Rattle.py_machine.specs.declared.method.ListMethod.{ListMethod}
use Rattle.py_machine.specs.declared.method.ListMethod.TheVariants as of_list
use Rattle.py_machine.specs.declared.method.DictMethod.{DictMethod}
use Rattle.py_machine.specs.declared.method.DictMethod.TheVariants as of_dict
use Rattle.py_machine.specs.declared.method.TextMethod.{TextMethod}
use Rattle.py_machine.specs.declared.method.TextMethod.TheVariants as of_text
use Rattle.py_machine.specs.Changes.{list_in}
use Rattle.py_machine.specs.Errors.{wrong_number, popped_empty, no_popped_index, no_key, empty_separator}
use Rattle.py_machine.specs.Methods.{list_method_named, dict_method_named, text_method_named, list_method_name, dict_method_name, text_method_name}
use Rattle.py_machine.specs.Runs.{Name}
use Rattle.py_meaning.specs.Acts.{Act}
use Rattle.py_meaning.specs.Items.{position_in, item_at, clipped}
use Rattle.py_meaning.specs.Numbers.{as_number}
use Rattle.py_meaning.specs.Texts.{begins, ends, split_at}
use Rattle.py_meaning.specs.Methods.{list_bound, dict_bound, text_bound, object_bound, not_bound, method_of, append, items_in, inserted, insert_at, taken_out, popped_at, popped, pop_at, pop_number, extend, extended_by, extended_at, extend_with, clear, list_method, pairs_in, value_or, get, pop_key, dict_method, with_text, texts_of, texts_in, texts_joined, join_at, join, as_texts, split, starts_with, ends_with, text_method, method_called}
use Rattle.part_bytes.specs.Plain.{IsPlain, IsText}
use Rattle.plain_states.proofs.Judging.{Any, Plainly, next, give, fails}
use Rattle.plain_states.proofs.Least.{pays, alters, alters_within, finds, IsFound, AreListed, listed, tells_kind}
use Rattle.plain_states.proofs.Texts.{is_text, joined_text, split_texts}
use Rattle.plain_states.proofs.Operating.{Values, weighs, weights, steps_plain, joined_plain, made_text_plain}
use Rattle.plain_states.proofs.Itemizing.{IsHeld, ArePlainPairs, items_there, item_or_plain, keyed_plain, under_plain}

abbrev pub IsPlainMethod : BoundMethod → Type 0
IsPlainMethod (bound.List method at) = Unit {0}
IsPlainMethod (bound.Dict method at) = Unit {0}
IsPlainMethod (bound.Text method text) = IsText text

abbrev pub Binds : Act BoundMethod → Type 0
Binds = Plainly IsPlainMethod

-- ---- the method of a value by its name

list_bound_plain : (a : ℕ) (name : Name) (m : Option ListMethod) → Binds (list_bound a name m)
list_bound_plain a name (Some m) = give IsPlainMethod (bound.List m a) tt
list_bound_plain a name None = fails _

dict_bound_plain : (a : ℕ) (name : Name) (m : Option DictMethod) → Binds (dict_bound a name m)
dict_bound_plain a name (Some m) = give IsPlainMethod (bound.Dict m a) tt
dict_bound_plain a name None = fails _

text_bound_plain : (text : List ℕ) (name : Name) (m : Option TextMethod) → IsText text → Binds (text_bound text name m)
text_bound_plain text name (Some m) h = give IsPlainMethod (bound.Text m text) h
text_bound_plain text name None h = fails _

object_bound_plain : (a : ℕ) (name : Name) (o : Option Object) → Binds (object_bound a name o)
object_bound_plain a name (Some (object.List vs)) = list_bound_plain a name (list_method_named name)
object_bound_plain a name (Some (object.Tuple vs)) = fails _
object_bound_plain a name (Some (object.Dict pairs)) = dict_bound_plain a name (dict_method_named name)
object_bound_plain a name (Some (object.Function def)) = fails _
object_bound_plain a name (Some (object.Handle other uses)) = fails _
object_bound_plain a name None = fails _

not_bound_plain : (v : Value) (name : Name) → Binds (not_bound v name)
unfolding not_bound
not_bound_plain v name = next (tells_kind v) λ _ _. fails _

pub method_of_plain : (v : Value) (name : Name) → IsPlain v → Binds (method_of v name)
unfolding method_of
method_of_plain (value.Text text) name h = text_bound_plain text name (text_method_named name) h
method_of_plain (value.Ref a) name h = next (finds a) λ o _. object_bound_plain a name o
method_of_plain v name h = not_bound_plain v name

-- ---- lists

append_plain : (a : ℕ) (v : Value) → IsPlain v → Values (append a v)
unfolding append
append_plain a v h =
    next (pays (weight v)) λ _ _.
    next (alters_within (weight v) a (changes.Push v) (weighs v) h) λ _ _.
    give IsPlain value.Nothing tt

items_in_plain : (o : Option Object) → IsFound o → AllByRecursion IsPlain (items_in o)
items_in_plain (Some (object.List vs)) h = h.0
items_in_plain (Some (object.Tuple vs)) h = tt
items_in_plain (Some (object.Dict pairs)) h = tt
items_in_plain (Some (object.Function def)) h = tt
items_in_plain (Some (object.Handle name uses)) h = tt
items_in_plain None h = tt

inserted_plain : (a : ℕ) (n : ℤ) (v : Value) (o : Option Object) → IsPlain v → Values (inserted a n v o)
unfolding inserted
inserted_plain a n v o h =
    next (pays (weight v)) λ _ _.
    next (alters_within (weight v) a (changes.Insert (clipped (length (items_in o)) n) v) (weighs v) h) λ _ _.
    give IsPlain value.Nothing tt

insert_at_plain : (a : ℕ) (n : Option ℤ) (v : Value) → IsPlain v → Values (insert_at a n v)
insert_at_plain a (Some n) v h = next (finds a) λ o _. inserted_plain a n v o h
insert_at_plain a None v h = fails _

taken_out_plain : (a : ℕ) (position : Option ℕ) (v : Value) → IsPlain v → Values (taken_out a position v)
taken_out_plain a (Some position) v h = next (alters a (changes.Remove position) tt) λ _ _. give IsPlain v h
taken_out_plain a None v h = give IsPlain v h

popped_at_plain : (a : ℕ) (vs : List Value) (position : Option ℕ) → AllByRecursion IsPlain vs → Values (popped_at a vs position)
popped_at_plain a vs position h = next (item_or_plain no_popped_index (item_at vs position) (items_there vs position h)) λ v k. taken_out_plain a position v k

popped_plain : (a : ℕ) (n : ℤ) (vs : List Value) → AllByRecursion IsPlain vs → Values (popped a n vs)
popped_plain a n [] h = fails popped_empty
popped_plain a n (v ∷ vs) h = popped_at_plain a (v ∷ vs) (position_in (length (v ∷ vs)) n) h

pop_at_plain : (a : ℕ) (n : ℤ) → Values (pop_at a n)
unfolding pop_at
pop_at_plain a n = next (finds a) λ o h. popped_plain a n (items_in o) (items_in_plain o h)

pop_number_plain : (a : ℕ) (n : Option ℤ) → Values (pop_number a n)
pop_number_plain a (Some n) = pop_at_plain a n
pop_number_plain a None = fails _

pub extend_plain : (a : ℕ) (vs : List Value) → AllByRecursion IsPlain vs → Plainly Any (extend a vs)
unfolding extend
extend_plain a vs h =
    next (pays (sum_by weight vs)) λ _ _.
    next (steps_plain (length vs)) λ _ _.
    alters_within (sum_by weight vs) a (changes.Extend vs) (weights vs) h

extended_by_plain : (a : ℕ) (o : Option (List Value)) → AreListed o → Values (extended_by a o)
extended_by_plain a (Some vs) h = next (extend_plain a vs h) λ _ _. give IsPlain value.Nothing tt
extended_by_plain a None h = fails _

extended_at_plain : (a b : ℕ) → Values (extended_at a b)
unfolding extended_at
extended_at_plain a b = next (finds b) λ o h. extended_by_plain a (list_in o) (listed o h)

extend_with_plain : (a : ℕ) (v : Value) → Values (extend_with a v)
extend_with_plain a (value.Ref b) = extended_at_plain a b
extend_with_plain a v = fails _

clear_plain : (a : ℕ) → Values (clear a)
unfolding clear
clear_plain a = next (alters a changes.Clear tt) λ _ _. give IsPlain value.Nothing tt

list_method_plain : (m : ListMethod) (a : ℕ) (vs : List Value) → AllByRecursion IsPlain vs → Values (list_method m a vs)
list_method_plain of_list.Append a (v ∷ []) h = append_plain a v h.0
list_method_plain of_list.Insert a (x ∷ v ∷ []) h = insert_at_plain a (as_number x) v h.1.0
list_method_plain of_list.Pop a [] h = pop_at_plain a (negsuc 0)
list_method_plain of_list.Pop a (x ∷ []) h = pop_number_plain a (as_number x)
list_method_plain of_list.Extend a (v ∷ []) h = extend_with_plain a v
list_method_plain of_list.Clear a [] h = clear_plain a
list_method_plain m a vs h = fails (wrong_number (list_method_name m))

-- ---- dicts

pub pairs_in_plain : (o : Option Object) → IsFound o → ArePlainPairs (pairs_in o)
pairs_in_plain (Some (object.Dict pairs)) h = h.0
pairs_in_plain (Some (object.List vs)) h = tt
pairs_in_plain (Some (object.Tuple vs)) h = tt
pairs_in_plain (Some (object.Function def)) h = tt
pairs_in_plain (Some (object.Handle name uses)) h = tt
pairs_in_plain None h = tt

value_or_plain : (x : Value) (o : Option Value) → IsPlain x → IsHeld o → IsPlain (value_or x o)
value_or_plain x (Some v) k h = h
value_or_plain x None k h = k

get_plain : (a : ℕ) (x other : Value) → IsPlain x → IsPlain other → Values (get a x other)
unfolding get
get_plain a x other h k =
    next (keyed_plain x h) λ key _.
    next (finds a) λ o l.
    give IsPlain _ (value_or_plain other (value_under (pairs_in o) key) k (under_plain (pairs_in o) key (pairs_in_plain o l)))

pop_key_plain : (a : ℕ) (x : Value) → IsPlain x → Values (pop_key a x)
unfolding pop_key
pop_key_plain a x h =
    next (keyed_plain x h) λ key _.
    next (finds a) λ o l.
    next (item_or_plain (no_key (key_text key)) (value_under (pairs_in o) key) (under_plain (pairs_in o) key (pairs_in_plain o l))) λ v k.
    next (alters a (changes.Drop key) tt) λ _ _.
    give IsPlain v k

dict_method_plain : (m : DictMethod) (a : ℕ) (vs : List Value) → AllByRecursion IsPlain vs → Values (dict_method m a vs)
dict_method_plain of_dict.Get a (x ∷ []) h = get_plain a x value.Nothing h.0 tt
dict_method_plain of_dict.Get a (x ∷ other ∷ []) h = get_plain a x other h.0 h.1.0
dict_method_plain of_dict.Pop a (x ∷ []) h = pop_key_plain a x h.0
dict_method_plain of_dict.Clear a [] h = clear_plain a
dict_method_plain m a vs h = fails (wrong_number (dict_method_name m))

-- ---- texts

abbrev AreTexts : Option (List (List ℕ)) → Type 0
AreTexts None = Unit {0}
AreTexts (Some texts) = AllByRecursion IsUtf8 texts

with_text_plain : (v : Value) (t : Option (List (List ℕ))) → IsPlain v → AreTexts t → AreTexts (with_text v t)
with_text_plain (value.Text text) (Some texts) h k = (is_text text h, k)
with_text_plain (value.Text text) None h k = tt
with_text_plain value.Nothing t h k = tt
with_text_plain (value.Bool b) t h k = tt
with_text_plain (value.Number n) t h k = tt
with_text_plain (value.Ref at) t h k = tt
with_text_plain (value.Builtin f) t h k = tt

texts_of_plain : (vs : List Value) → AllByRecursion IsPlain vs → AreTexts (texts_of vs)
texts_of_plain [] h = tt
texts_of_plain (v ∷ vs) h = with_text_plain v (texts_of vs) h.0 (texts_of_plain vs h.1)

texts_in_plain : (o : Option (List Value)) → AreListed o → AreTexts (texts_in o)
texts_in_plain (Some vs) h = texts_of_plain vs h
texts_in_plain None h = tt

texts_joined_plain : (between : List ℕ) (t : Option (List (List ℕ))) → IsText between → AreTexts t → Values (texts_joined between t)
texts_joined_plain between (Some texts) h k = made_text_plain _ (joined_text between texts (is_text between h) k)
texts_joined_plain between None h k = fails _

join_at_plain : (between : List ℕ) (a : ℕ) → IsText between → Values (join_at between a)
unfolding join_at
join_at_plain between a h = next (finds a) λ o k. texts_joined_plain between (texts_in (list_in o)) h (texts_in_plain (list_in o) (listed o k))

join_plain : (between : List ℕ) (v : Value) → IsText between → Values (join between v)
join_plain between (value.Ref at) h = join_at_plain between at h
join_plain between v h = fails _

texts_plain : (texts : List (List ℕ)) → AllByRecursion IsText texts → AllByRecursion IsPlain (as_texts texts)
texts_plain [] h = tt
texts_plain (text ∷ texts) h = (h.0, texts_plain texts h.1)

split_plain : (text : List ℕ) (v : Value) → IsText text → IsPlain v → Values (split text v)
split_plain text (value.Text []) h k = fails empty_separator
split_plain text (value.Text (x ∷ separator)) h k = joined_plain sequences.List _ (texts_plain (split_at (x ∷ separator) text) (split_texts x separator text k h))
split_plain text value.Nothing h k = fails _
split_plain text (value.Bool b) h k = fails _
split_plain text (value.Number n) h k = fails _
split_plain text (value.Ref at) h k = fails _
split_plain text (value.Builtin f) h k = fails _

starts_plain : (text : List ℕ) (v : Value) → Values (starts_with text v)
starts_plain text (value.Text part) = give IsPlain (value.Bool (begins part text)) tt
starts_plain text v = fails _

ends_plain : (text : List ℕ) (v : Value) → Values (ends_with text v)
ends_plain text (value.Text part) = give IsPlain (value.Bool (ends part text)) tt
ends_plain text v = fails _

text_method_plain : (m : TextMethod) (text : List ℕ) (vs : List Value) → IsText text → AllByRecursion IsPlain vs → Values (text_method m text vs)
text_method_plain of_text.Join text (v ∷ []) h k = join_plain text v h
text_method_plain of_text.Split text (v ∷ []) h k = split_plain text v h k.0
text_method_plain of_text.StartsWith text (v ∷ []) h k = starts_plain text v
text_method_plain of_text.EndsWith text (v ∷ []) h k = ends_plain text v
text_method_plain m text vs h k = fails (wrong_number (text_method_name m))

-- ---- a call of a method

pub method_called_plain : (m : BoundMethod) (vs : List Value) → IsPlainMethod m → AllByRecursion IsPlain vs → Values (method_called m vs)
method_called_plain (bound.List m a) vs h k = list_method_plain m a vs k
method_called_plain (bound.Dict m a) vs h k = dict_method_plain m a vs k
method_called_plain (bound.Text m text) vs h k = text_method_plain m text vs h k
