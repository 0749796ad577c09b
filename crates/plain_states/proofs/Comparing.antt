-- Comparisons of what is plain keep all plain.
use Rattle.std.proofs.Common.{ℕ, zero, suc, ℤ, ◌==◌, Bool, List, [], ◌∷◌, length, Option, Some, None}
use Rattle.std.specs.List.{AllByRecursion}
use Rattle.py_tree.specs.declared.expressions.Op.{Op}
use Rattle.py_tree.specs.declared.expressions.Op.TheVariants as op
use Rattle.py_value.specs.declared.value.Builtin.{Builtin}
use Rattle.py_value.specs.declared.value.Value.{Value}
use Rattle.py_value.specs.declared.value.Value.TheVariants as value
use Rattle.py_heap.specs.declared.heap.Object.{Object}
use Rattle.py_heap.specs.declared.heap.Object.TheVariants as object
use Rattle.py_heap.specs.Dicts.{Pairs, value_under}
use Rattle.py_machine.specs.Errors.{recursion_error}
use Rattle.py_meaning.specs.Acts.{Act}
use Rattle.py_meaning.specs.Numbers.{as_number}
use Rattle.py_meaning.specs.Compared.{Compares, is_one, items_equal, sequences_equal, with_equal, pairs_equal, dicts_equal, objects_equal, refs_equal, others_equal, equal_by, values_equal, elements_equal, pair_equal, no_order, items_ordered, objects_ordered, refs_ordered, others_ordered, ordered_by, values_ordered, pair_ordered, not_in_this_text, not_searchable, in_text, in_items, in_object, in_ref, is_in, compared}
use Rattle.part_bytes.specs.Plain.{IsPlain}
use Rattle.plain_states.proofs.Judging.{Any, Plainly, next, give, fails, chosen}
use Rattle.plain_states.proofs.Least.{takes_step, finds, IsFound, tells_kind}
use Rattle.plain_states.proofs.Itemizing.{IsHeld, ArePlainPairs, keyed_plain, under_plain}

abbrev Judges : Act Bool → Type 0
Judges = Plainly Any

abbrev ComparesPlain : Compares → Type 0
ComparesPlain below = (v w : Value) → IsPlain v → IsPlain w → Judges (below v w)

module _ (below : Compares) (each : ComparesPlain below) where
  items_plain : (vs ws : List Value) → AllByRecursion IsPlain vs → AllByRecursion IsPlain ws → Judges (items_equal below vs ws)
  items_plain [] [] h k = give Any _ tt
  items_plain [] (w ∷ ws) h k = give Any _ tt
  items_plain (v ∷ vs) [] h k = give Any _ tt
  items_plain (v ∷ vs) (w ∷ ws) h k = next (each v w h.0 k.0) λ b _. chosen b _ _ (items_plain vs ws h.1 k.1) (give Any _ tt)

  sequences_plain : (vs ws : List Value) → AllByRecursion IsPlain vs → AllByRecursion IsPlain ws → Judges (sequences_equal below vs ws)
  sequences_plain vs ws h k = chosen (length vs == length ws) _ _ (items_plain vs ws h k) (give Any _ tt)

  with_equal_plain : (v : Value) (o : Option Value) → IsPlain v → IsHeld o → Judges (with_equal below v o)
  with_equal_plain v (Some w) h k = each v w h k
  with_equal_plain v None h k = give Any _ tt

  pairs_plain : (pairs others : Pairs) → ArePlainPairs pairs → ArePlainPairs others → Judges (pairs_equal below pairs others)
  pairs_plain [] others h k = give Any _ tt
  pairs_plain (pair ∷ pairs) others h k =
      next (with_equal_plain pair.1 (value_under others pair.0) h.0.1 (under_plain others pair.0 k)) λ b _. chosen b _ _ (pairs_plain pairs others h.1 k) (give Any _ tt)

  dicts_plain : (pairs others : Pairs) → ArePlainPairs pairs → ArePlainPairs others → Judges (dicts_equal below pairs others)
  dicts_plain pairs others h k = chosen (length pairs == length others) _ _ (pairs_plain pairs others h k) (give Any _ tt)

  objects_plain : (a b : ℕ) (o u : Option Object) → IsFound o → IsFound u → Judges (objects_equal below a b o u)
  objects_plain a b (Some (object.List vs)) (Some (object.List ws)) h k = sequences_plain vs ws h.0 k.0
  objects_plain a b (Some (object.Tuple vs)) (Some (object.Tuple ws)) h k = sequences_plain vs ws h.0 k.0
  objects_plain a b (Some (object.Dict vs)) (Some (object.Dict ws)) h k = dicts_plain vs ws h.0 k.0
  objects_plain a b o u h k = give Any _ tt

  refs_plain : (a b : ℕ) → Judges (refs_equal below a b)
  unfolding refs_equal
  refs_plain a b = next (finds a) λ o h. next (finds b) λ u k. objects_plain a b o u h k

  after_nothing : (w : Value) → Judges (others_equal below value.Nothing w)
  after_nothing value.Nothing = give Any _ tt
  after_nothing w = give Any _ tt

  after_text : (text : List ℕ) (w : Value) → Judges (others_equal below (value.Text text) w)
  after_text text (value.Text other) = give Any _ tt
  after_text text w = give Any _ tt

  after_builtin : (b : Builtin) (w : Value) → Judges (others_equal below (value.Builtin b) w)
  after_builtin b (value.Builtin c) = give Any _ tt
  after_builtin b w = give Any _ tt

  after_ref : (a : ℕ) (w : Value) → Judges (others_equal below (value.Ref a) w)
  after_ref a (value.Ref b) = refs_plain a b
  after_ref a w = give Any _ tt

  others_plain : (v w : Value) → Judges (others_equal below v w)
  others_plain value.Nothing w = after_nothing w
  others_plain (value.Text text) w = after_text text w
  others_plain (value.Builtin b) w = after_builtin b w
  others_plain (value.Ref a) w = after_ref a w
  others_plain v w = give Any _ tt

  equal_by_plain : (a b : Option ℤ) (v w : Value) → Judges (equal_by below a b v w)
  equal_by_plain (Some a) (Some b) v w = give Any _ tt
  equal_by_plain None None v w = others_plain v w
  equal_by_plain (Some a) None v w = give Any _ tt
  equal_by_plain None (Some b) v w = give Any _ tt

  values_plain : (v w : Value) → Judges (values_equal below v w)
  unfolding values_equal
  values_plain v w = equal_by_plain (as_number v) (as_number w) v w

  elements_plain : (v w : Value) → Judges (elements_equal below v w)
  elements_plain v w = chosen (is_one v w) _ _ (give Any _ tt) (values_plain v w)

pair_plain : (n : ℕ) → ComparesPlain (pair_equal n)
unfolding pair_equal
pair_plain zero v w h k = fails recursion_error
pair_plain (suc n) v w h k = next takes_step λ _ _. elements_plain (pair_equal n) (pair_plain n) v w

-- ---- order

no_order_plain : (o : Op) (v w : Value) → Judges (no_order o v w)
unfolding no_order
no_order_plain o v w = next (tells_kind v) λ _ _. next (tells_kind w) λ _ _. fails _

module _ (equal : Compares) (ordered : Op → Compares) (each : ComparesPlain equal) (orders : (o : Op) → ComparesPlain (ordered o)) where
  items_in_order : (o : Op) (vs ws : List Value) → AllByRecursion IsPlain vs → AllByRecursion IsPlain ws → Judges (items_ordered equal ordered o vs ws)
  items_in_order o (v ∷ vs) (w ∷ ws) h k = next (each v w h.0 k.0) λ b _. chosen b _ _ (items_in_order o vs ws h.1 k.1) (orders o v w h.0 k.0)
  items_in_order o [] ws h k = give Any _ tt
  items_in_order o (v ∷ vs) [] h k = give Any _ tt

  objects_in_order : (o : Op) (a b : ℕ) (s u : Option Object) → IsFound s → IsFound u → Judges (objects_ordered equal ordered o a b s u)
  objects_in_order o a b (Some (object.List vs)) (Some (object.List ws)) h k = items_in_order o vs ws h.0 k.0
  objects_in_order o a b (Some (object.Tuple vs)) (Some (object.Tuple ws)) h k = items_in_order o vs ws h.0 k.0
  objects_in_order o a b s u h k = no_order_plain o (value.Ref a) (value.Ref b)

  refs_in_order : (o : Op) (a b : ℕ) → Judges (refs_ordered equal ordered o a b)
  unfolding refs_ordered
  refs_in_order o a b = next (finds a) λ s h. next (finds b) λ u k. objects_in_order o a b s u h k

  text_in_order : (o : Op) (text : List ℕ) (w : Value) → Judges (others_ordered equal ordered o (value.Text text) w)
  text_in_order o text (value.Text other) = give Any _ tt
  text_in_order o text w = no_order_plain o (value.Text text) w

  ref_in_order : (o : Op) (a : ℕ) (w : Value) → Judges (others_ordered equal ordered o (value.Ref a) w)
  ref_in_order o a (value.Ref b) = refs_in_order o a b
  ref_in_order o a w = no_order_plain o (value.Ref a) w

  others_in_order : (o : Op) (v w : Value) → Judges (others_ordered equal ordered o v w)
  others_in_order o (value.Text text) w = text_in_order o text w
  others_in_order o (value.Ref a) w = ref_in_order o a w
  others_in_order o v w = no_order_plain o v w

  order_by_numbers : (o : Op) (a b : Option ℤ) (v w : Value) → Judges (ordered_by equal ordered o a b v w)
  order_by_numbers o (Some a) (Some b) v w = give Any _ tt
  order_by_numbers o None b v w = others_in_order o v w
  order_by_numbers o (Some a) None v w = others_in_order o v w

  values_in_order : (o : Op) (v w : Value) → Judges (values_ordered equal ordered o v w)
  unfolding values_ordered
  values_in_order o v w = order_by_numbers o (as_number v) (as_number w) v w

pair_in_order : (n : ℕ) (o : Op) → ComparesPlain (pair_ordered n o)
unfolding pair_ordered
pair_in_order zero o v w h k = fails recursion_error
pair_in_order (suc n) o v w h k = values_in_order (pair_equal n) (pair_ordered n) (pair_plain n) (pair_in_order n) o v w

in_order : (n : ℕ) (o : Op) (v w : Value) → Judges (values_ordered (pair_equal n) (pair_ordered n) o v w)
in_order n o v w = values_in_order (pair_equal n) (pair_ordered n) (pair_plain n) (pair_in_order n) o v w

-- ---- `in`

not_in_this_text_plain : (v : Value) → Judges (not_in_this_text v)
unfolding not_in_this_text
not_in_this_text_plain v = next (tells_kind v) λ _ _. fails _

not_searchable_plain : (v : Value) → Judges (not_searchable v)
unfolding not_searchable
not_searchable_plain v = next (tells_kind v) λ _ _. fails _

in_text_plain : (v : Value) (text : List ℕ) → Judges (in_text v text)
in_text_plain (value.Text part) text = give Any _ tt
in_text_plain v text = not_in_this_text_plain v

module _ (equal : Compares) (each : ComparesPlain equal) where
  in_items_plain : (v : Value) (ws : List Value) → IsPlain v → AllByRecursion IsPlain ws → Judges (in_items equal v ws)
  in_items_plain v [] h k = give Any _ tt
  in_items_plain v (w ∷ ws) h k = next (each v w h k.0) λ b _. chosen b _ _ (give Any _ tt) (in_items_plain v ws h k.1)

  in_object_plain : (v : Value) (o : Option Object) → IsPlain v → IsFound o → Judges (in_object equal v o)
  in_object_plain v (Some (object.List ws)) h k = in_items_plain v ws h k.0
  in_object_plain v (Some (object.Tuple ws)) h k = in_items_plain v ws h k.0
  in_object_plain v (Some (object.Dict pairs)) h k = next (keyed_plain v h) λ _ _. give Any _ tt
  in_object_plain v (Some (object.Function def)) h k = fails _
  in_object_plain v (Some (object.Handle name uses)) h k = fails _
  in_object_plain v None h k = fails _

  in_ref_plain : (v : Value) (a : ℕ) → IsPlain v → Judges (in_ref equal v a)
  unfolding in_ref
  in_ref_plain v a h = next (finds a) λ o k. in_object_plain v o h k

  is_in_plain : (v w : Value) → IsPlain v → Judges (is_in equal v w)
  is_in_plain v (value.Text text) h = in_text_plain v text
  is_in_plain v (value.Ref a) h = in_ref_plain v a h
  is_in_plain v w h = not_searchable_plain w

pub compared_plain : (n : ℕ) (o : Op) (v w : Value) → IsPlain v → IsPlain w → Judges (compared n o v w)
compared_plain n op.Equal v w h k = values_plain (pair_equal n) (pair_plain n) v w
compared_plain n op.NotEqual v w h k = next (values_plain (pair_equal n) (pair_plain n) v w) λ _ _. give Any _ tt
compared_plain n op.In v w h k = is_in_plain (pair_equal n) (pair_plain n) v w h
compared_plain n op.NotIn v w h k = next (is_in_plain (pair_equal n) (pair_plain n) v w h) λ _ _. give Any _ tt
compared_plain n op.Less v w h k = in_order n op.Less v w
compared_plain n op.AtMost v w h k = in_order n op.AtMost v w
compared_plain n op.More v w h k = in_order n op.More v w
compared_plain n op.AtLeast v w h k = in_order n op.AtLeast v w
compared_plain n op.Plus v w h k = in_order n op.Plus v w
compared_plain n op.Minus v w h k = in_order n op.Minus v w
compared_plain n op.Times v w h k = in_order n op.Times v w
compared_plain n op.Floor v w h k = in_order n op.Floor v w
compared_plain n op.Mod v w h k = in_order n op.Mod v w
