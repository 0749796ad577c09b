-- Methods of lists, dicts and texts respect alikeness.
use Rattle.std.proofs.Common.{◌≡◌, ℕ, ℤ, List, [], ◌∷◌, length, Option, Some, None, refl, ap, subst}
use Rattle.std.specs.Prelude.{negsuc, codes, sum_by}
use Rattle.std.specs.List.{AllZip}
use Rattle.py_value.specs.declared.key.Key.{Key}
use Rattle.py_value.specs.declared.value.Value.{Value}
use Rattle.py_value.specs.declared.value.Value.TheVariants as value
use Rattle.py_value.specs.Reprs.{key_text}
use Rattle.py_value.specs.Values.{weight}
use Rattle.py_heap.specs.declared.heap.Object.{Object}
use Rattle.py_heap.specs.declared.heap.SequenceKind.TheVariants as sequences
use Rattle.py_heap.specs.Dicts.{value_under}
use Rattle.py_heap.specs.References.{value_refs}
use Rattle.py_machine.specs.declared.frame.Change.TheVariants as changes
use Rattle.py_machine.specs.declared.kind.ValueKind.{ValueKind}
use Rattle.py_machine.specs.declared.kind.ValueKind.TheVariants as kind
use Rattle.py_machine.specs.declared.method.BoundMethod.{BoundMethod}
use Rattle.py_machine.specs.declared.method.BoundMethod.TheVariants as bound
use Rattle.py_machine.specs.declared.method.ListMethod.{ListMethod}
use Rattle.py_machine.specs.declared.method.ListMethod.TheVariants as of_list
use Rattle.py_machine.specs.declared.method.DictMethod.{DictMethod}
use Rattle.py_machine.specs.declared.method.DictMethod.TheVariants as of_dict
use Rattle.py_machine.specs.declared.method.TextMethod.{TextMethod}
use Rattle.py_machine.specs.declared.method.TextMethod.TheVariants as of_text
use Rattle.py_machine.specs.Changes.{list_in, object_kind}
use Rattle.py_machine.specs.Errors.{no_attribute, wrong_number, wrong_argument, popped_empty, no_popped_index, no_key, empty_separator}
use Rattle.py_machine.specs.Methods.{list_method_named, dict_method_named, text_method_named, list_method_name, dict_method_name, text_method_name}
use Rattle.py_machine.specs.Runs.{Name}
use Rattle.py_meaning.specs.Acts.{Act, fail}
use Rattle.py_meaning.specs.Items.{position_in, clipped}
use Rattle.py_meaning.specs.Numbers.{as_number}
use Rattle.py_meaning.specs.Texts.{begins, ends, split_at}
use Rattle.py_meaning.specs.Methods.{list_bound, dict_bound, text_bound, object_bound, not_bound, method_of, append, items_in, inserted, insert_at, taken_out, popped_at, popped, pop_at, pop_number, extend, extended_by, extended_at, extend_with, clear, list_method, pairs_in, value_or, get, pop_key, dict_method, with_text, texts_of, texts_in, texts_joined, join_at, join, as_texts, split, starts_with, ends_with, text_method, method_called}
use Rattle.py_laws.specs.Same.{equal, refs}
use Rattle.py_laws.proofs.Zipped.{zip_length, under_match, Zips, no_more, one_more, zips}
use Rattle.py_laws.proofs.Respecting.{Setting, Paired, BoundMethodsMatch, list_methods, dict_methods, text_methods, ChangesMatch, push, extends, insert, remove, drop, Respects, Any, next, pure_respects, fail_respects}
use Rattle.py_laws.proofs.Respecting as matched
use Rattle.py_laws.proofs.LeastActs.{Values, Slots, Listed, listed, charge_respects, change_respects, object_at_respects, kind_of_respects}
use Rattle.py_laws.proofs.Slotted.{Kinds, lists, dicts, kinds, same_kind}
use Rattle.py_laws.proofs.Operating.{Gives, plain_gives, same_weight, same_weights, same_number, steps_respect, joined_respects, made_text_respects}
use Rattle.py_laws.proofs.Itemizing.{Held, Entries, items_there, item_or_respects, keyed_respects}

module _ (c : Setting) where
  abbrev Bound : BoundMethod → BoundMethod → Type 0
  Bound = BoundMethodsMatch (Paired c)

  abbrev pub Binds : Act BoundMethod → Act BoundMethod → Type 0
  Binds = Respects c (BoundMethodsMatch (Paired c))

  wrong_gives : (name : List ℕ) → Gives c (fail (wrong_argument name)) (fail (wrong_argument name))
  wrong_gives name = fail_respects c (Values c) _ _ refl

  -- ---- the method of a value by its name

  no_method : (k l : ValueKind) (name : Name) → k ≡ l → Binds (fail (no_attribute k name)) (fail (no_attribute l name))
  no_method k l name e = fail_respects c Bound _ _ (ap (λ i. no_attribute i name) e)

  list_bound_respects : (a b : ℕ) (name : Name) (m : Option ListMethod) → Paired c a b → Binds (list_bound a name m) (list_bound b name m)
  list_bound_respects a b name (Some m) p = pure_respects c Bound (bound.List m a) (bound.List m b) (list_methods m a b p)
  list_bound_respects a b name None p = no_method kind.List kind.List name refl

  dict_bound_respects : (a b : ℕ) (name : Name) (m : Option DictMethod) → Paired c a b → Binds (dict_bound a name m) (dict_bound b name m)
  dict_bound_respects a b name (Some m) p = pure_respects c Bound (bound.Dict m a) (bound.Dict m b) (dict_methods m a b p)
  dict_bound_respects a b name None p = no_method kind.Dict kind.Dict name refl

  text_bound_respects : (text : List ℕ) (name : Name) (m : Option TextMethod) → Binds (text_bound text name m) (text_bound text name m)
  text_bound_respects text name (Some m) = pure_respects c Bound (bound.Text m text) (bound.Text m text) (text_methods m text)
  text_bound_respects text name None = no_method kind.Text kind.Text name refl

  object_bound_respects : (a b : ℕ) (name : Name) (o u : Option Object) → Paired c a b → Kinds (Paired c) o u → Binds (object_bound a name o) (object_bound b name u)
  object_bound_respects a b name _ _ p (lists vs ws m) = list_bound_respects a b name (list_method_named name) p
  object_bound_respects a b name _ _ p (dicts vs ws m) = dict_bound_respects a b name (dict_method_named name) p
  object_bound_respects a b name o u p h = no_method (object_kind o) (object_kind u) name (same_kind (Paired c) o u h)

  not_bound_respects : (v w : Value) (name : Name) → Values c v w → Binds (not_bound v name) (not_bound w name)
  unfolding not_bound
  not_bound_respects v w name h = next c (kind_of_respects c v w h) λ i j e. no_method i j name e

  plain_method : (v : Value) (name : Name) → value_refs v ≡ [] → Binds (method_of v name) (method_of v name)
  unfolding method_of
  plain_method (value.Text text) name none = text_bound_respects text name (text_method_named name)
  plain_method (value.Ref at) name none = cc
  plain_method v name none = not_bound_respects v v name (equal v none)

  pub method_of_respects : (v w : Value) (name : Name) → Values c v w → Binds (method_of v name) (method_of w name)
  unfolding method_of
  method_of_respects _ _ name (equal v none) = plain_method v name none
  method_of_respects _ _ name (refs a b p) = next c (object_at_respects c a b p) λ o u h. object_bound_respects a b name o u p (kinds c o u h)

  -- ---- lists

  append_respects : (a b : ℕ) (v w : Value) → Paired c a b → Values c v w → Gives c (append a v) (append b w)
  unfolding append
  append_respects a b v w p h =
      next c (charge_respects c (weight v) (weight w) (same_weight c v w h)) λ _ _ _.
      next c (change_respects c a b (changes.Push v) (changes.Push w) p (push v w h)) λ _ _ _.
      plain_gives c value.Nothing refl

  items_in_match : (o u : Option Object) → Kinds (Paired c) o u → AllZip (Values c) (items_in o) (items_in u)
  items_in_match _ _ (lists vs ws m) = m
  items_in_match o u _ = tt

  insert_match : (vs ws : List Value) (n : ℤ) (v w : Value) → AllZip (Values c) vs ws → Values c v w → ChangesMatch (Paired c) (changes.Insert (clipped (length vs) n) v) (changes.Insert (clipped (length ws) n) w)
  insert_match vs ws n v w m h =
      subst (λ (l : ℕ). ChangesMatch (Paired c) (changes.Insert (clipped (length vs) n) v) (changes.Insert (clipped l n) w)) (zip_length (Values c) vs ws m)
      (insert (clipped (length vs) n) v w h)

  inserted_respects : (a b : ℕ) (n : ℤ) (v w : Value) (o u : Option Object) → Paired c a b → Values c v w → Kinds (Paired c) o u → Gives c (inserted a n v o) (inserted b n w u)
  unfolding inserted
  inserted_respects a b n v w o u p h k =
      next c (charge_respects c (weight v) (weight w) (same_weight c v w h)) λ _ _ _.
      next c (change_respects c a b _ _ p (insert_match (items_in o) (items_in u) n v w (items_in_match o u k) h)) λ _ _ _.
      plain_gives c value.Nothing refl

  insert_at_respects : (a b : ℕ) (n : Option ℤ) (v w : Value) → Paired c a b → Values c v w → Gives c (insert_at a n v) (insert_at b n w)
  insert_at_respects a b (Some n) v w p h = next c (object_at_respects c a b p) λ o u k. inserted_respects a b n v w o u p h (kinds c o u k)
  insert_at_respects a b None v w p h = wrong_gives (codes "insert")

  taken_out_respects : (a b : ℕ) (position : Option ℕ) (v w : Value) → Paired c a b → Values c v w → Gives c (taken_out a position v) (taken_out b position w)
  taken_out_respects a b (Some position) v w p h =
      next c (change_respects c a b (changes.Remove position) (changes.Remove position) p (remove position)) λ _ _ _. pure_respects c (Values c) v w h
  taken_out_respects a b None v w p h = pure_respects c (Values c) v w h

  popped_at_respects : (a b : ℕ) (vs ws : List Value) (position : Option ℕ) → Paired c a b → AllZip (Values c) vs ws → Gives c (popped_at a vs position) (popped_at b ws position)
  popped_at_respects a b vs ws position p m =
      next c (item_or_respects c no_popped_index no_popped_index _ _ refl (items_there c vs ws position position refl m)) λ v w h. taken_out_respects a b position v w p h

  popped_respects : (a b : ℕ) (n : ℤ) (vs ws : List Value) → Paired c a b → AllZip (Values c) vs ws → Gives c (popped a n vs) (popped b n ws)
  popped_respects a b n [] [] p m = fail_respects c (Values c) popped_empty popped_empty refl
  popped_respects a b n (v ∷ vs) (w ∷ ws) p m =
      subst (λ (l : ℕ). Gives c (popped_at a (v ∷ vs) (position_in (length (v ∷ vs)) n)) (popped_at b (w ∷ ws) (position_in l n))) (zip_length (Values c) (v ∷ vs) (w ∷ ws) m)
      (popped_at_respects a b (v ∷ vs) (w ∷ ws) (position_in (length (v ∷ vs)) n) p m)
  popped_respects a b n [] (w ∷ ws) p m = absurd m
  popped_respects a b n (v ∷ vs) [] p m = absurd m

  pop_at_respects : (a b : ℕ) (n : ℤ) → Paired c a b → Gives c (pop_at a n) (pop_at b n)
  unfolding pop_at
  pop_at_respects a b n p = next c (object_at_respects c a b p) λ o u k. popped_respects a b n (items_in o) (items_in u) p (items_in_match o u (kinds c o u k))

  pop_number_respects : (a b : ℕ) (n : Option ℤ) → Paired c a b → Gives c (pop_number a n) (pop_number b n)
  pop_number_respects a b (Some n) p = pop_at_respects a b n p
  pop_number_respects a b None p = wrong_gives (codes "pop")

  pub extend_respects : (a b : ℕ) (vs ws : List Value) → Paired c a b → AllZip (Values c) vs ws → Respects c Any (extend a vs) (extend b ws)
  unfolding extend
  extend_respects a b vs ws p h =
      next c (charge_respects c (sum_by weight vs) (sum_by weight ws) (same_weights c vs ws h)) λ _ _ _.
      next c (steps_respect c (length vs) (length ws) (zip_length (Values c) vs ws h)) λ _ _ _.
      change_respects c a b (changes.Extend vs) (changes.Extend ws) p (extends vs ws h)

  extended_by_respects : (a b : ℕ) (o u : Option (List Value)) → Paired c a b → Listed c o u → Gives c (extended_by a o) (extended_by b u)
  extended_by_respects a b (Some vs) (Some ws) p h = next c (extend_respects a b vs ws p h) λ _ _ _. plain_gives c value.Nothing refl
  extended_by_respects a b None None p h = wrong_gives (codes "extend")
  extended_by_respects a b (Some vs) None p h = absurd h
  extended_by_respects a b None (Some ws) p h = absurd h

  extended_at_respects : (a b x y : ℕ) → Paired c a b → Paired c x y → Gives c (extended_at a x) (extended_at b y)
  unfolding extended_at
  extended_at_respects a b x y p q = next c (object_at_respects c x y q) λ o u k. extended_by_respects a b (list_in o) (list_in u) p (listed c o u k)

  plain_extend : (a b : ℕ) (v : Value) → value_refs v ≡ [] → Gives c (extend_with a v) (extend_with b v)
  plain_extend a b (value.Ref at) none = cc
  plain_extend a b v none = wrong_gives (codes "extend")

  extend_with_respects : (a b : ℕ) (v w : Value) → Paired c a b → Values c v w → Gives c (extend_with a v) (extend_with b w)
  extend_with_respects a b _ _ p (equal v none) = plain_extend a b v none
  extend_with_respects a b _ _ p (refs x y q) = extended_at_respects a b x y p q

  clear_respects : (a b : ℕ) → Paired c a b → Gives c (clear a) (clear b)
  unfolding clear
  clear_respects a b p = next c (change_respects c a b changes.Clear changes.Clear p matched.clear) λ _ _ _. plain_gives c value.Nothing refl

  -- at an argument that counts as a number
  insertion_respects : (a b : ℕ) (x y v w : Value) → Paired c a b → Values c x y → Values c v w → Gives c (insert_at a (as_number x) v) (insert_at b (as_number y) w)
  insertion_respects a b x y v w p k h = subst (λ n. Gives c (insert_at a (as_number x) v) (insert_at b n w)) (same_number c x y k) (insert_at_respects a b (as_number x) v w p h)

  pop_respects : (a b : ℕ) (x y : Value) → Paired c a b → Values c x y → Gives c (pop_number a (as_number x)) (pop_number b (as_number y))
  pop_respects a b x y p k = subst (λ n. Gives c (pop_number a (as_number x)) (pop_number b n)) (same_number c x y k) (pop_number_respects a b (as_number x) p)

  list_method_respects : (m : ListMethod) (a b : ℕ) (vs ws : List Value) → Paired c a b → Zips (Values c) vs ws → Gives c (list_method m a vs) (list_method m b ws)
  list_method_respects of_list.Append a b _ _ p (one_more v w _ _ h no_more) = append_respects a b v w p h
  list_method_respects of_list.Insert a b _ _ p (one_more x y _ _ k (one_more v w _ _ h no_more)) = insertion_respects a b x y v w p k h
  list_method_respects of_list.Pop a b _ _ p no_more = pop_at_respects a b (negsuc 0) p
  list_method_respects of_list.Pop a b _ _ p (one_more x y _ _ k no_more) = pop_respects a b x y p k
  list_method_respects of_list.Extend a b _ _ p (one_more v w _ _ h no_more) = extend_with_respects a b v w p h
  list_method_respects of_list.Clear a b _ _ p no_more = clear_respects a b p
  list_method_respects m a b vs ws p _ = fail_respects c (Values c) (wrong_number (list_method_name m)) (wrong_number (list_method_name m)) refl

  -- ---- dicts

  pub pairs_in_match : (o u : Option Object) → Kinds (Paired c) o u → Entries c (pairs_in o) (pairs_in u)
  pairs_in_match _ _ (dicts vs ws m) = m
  pairs_in_match o u _ = tt

  value_or_match : (x y : Value) (o u : Option Value) → Values c x y → Held c o u → Values c (value_or x o) (value_or y u)
  value_or_match x y (Some v) (Some w) k h = h
  value_or_match x y None None k h = k
  value_or_match x y (Some v) None k h = absurd h
  value_or_match x y None (Some w) k h = absurd h

  under_key : (o u : Option Object) (key other : Key) → Slots c o u → key ≡ other → Held c (value_under (pairs_in o) key) (value_under (pairs_in u) other)
  under_key o u key other k e =
      subst (λ z. Held c (value_under (pairs_in o) key) (value_under (pairs_in u) z)) e (under_match (Paired c) (pairs_in o) (pairs_in u) key (pairs_in_match o u (kinds c o u k)))

  get_respects : (a b : ℕ) (x y v w : Value) → Paired c a b → Values c x y → Values c v w → Gives c (get a x v) (get b y w)
  unfolding get
  get_respects a b x y v w p k h =
      next c (keyed_respects c x y k) λ key other e.
      next c (object_at_respects c a b p) λ o u m.
      pure_respects c (Values c) _ _ (value_or_match v w _ _ h (under_key o u key other m e))

  pop_key_respects : (a b : ℕ) (x y : Value) → Paired c a b → Values c x y → Gives c (pop_key a x) (pop_key b y)
  unfolding pop_key
  pop_key_respects a b x y p k =
      next c (keyed_respects c x y k) λ key other e.
      next c (object_at_respects c a b p) λ o u m.
      next c (item_or_respects c (no_key (key_text key)) (no_key (key_text other)) _ _ (ap (λ (z : Key). no_key (key_text z)) e) (under_key o u key other m e)) λ v w h.
      next c (change_respects c a b (changes.Drop key) (changes.Drop other) p (subst (λ z. ChangesMatch (Paired c) (changes.Drop key) (changes.Drop z)) e (drop key))) λ _ _ _.
      pure_respects c (Values c) v w h

  dict_method_respects : (m : DictMethod) (a b : ℕ) (vs ws : List Value) → Paired c a b → Zips (Values c) vs ws → Gives c (dict_method m a vs) (dict_method m b ws)
  dict_method_respects of_dict.Get a b _ _ p (one_more x y _ _ k no_more) = get_respects a b x y value.Nothing value.Nothing p k (equal value.Nothing refl)
  dict_method_respects of_dict.Get a b _ _ p (one_more x y _ _ k (one_more v w _ _ h no_more)) = get_respects a b x y v w p k h
  dict_method_respects of_dict.Pop a b _ _ p (one_more x y _ _ k no_more) = pop_key_respects a b x y p k
  dict_method_respects of_dict.Clear a b _ _ p no_more = clear_respects a b p
  dict_method_respects m a b vs ws p _ = fail_respects c (Values c) (wrong_number (dict_method_name m)) (wrong_number (dict_method_name m)) refl

  -- ---- texts

  same_with_text : (v w : Value) (t u : Option (List (List ℕ))) → Values c v w → t ≡ u → with_text v t ≡ with_text w u
  same_with_text _ _ t u (equal v none) e = ap (λ z. with_text v z) e
  same_with_text _ _ t u (refs a b p) e = refl

  same_texts : (vs ws : List Value) → AllZip (Values c) vs ws → texts_of vs ≡ texts_of ws
  same_texts [] [] h = refl
  same_texts (v ∷ vs) (w ∷ ws) h = same_with_text v w (texts_of vs) (texts_of ws) h.0 (same_texts vs ws h.1)
  same_texts [] (w ∷ ws) h = absurd h
  same_texts (v ∷ vs) [] h = absurd h

  same_texts_in : (o u : Option (List Value)) → Listed c o u → texts_in o ≡ texts_in u
  same_texts_in (Some vs) (Some ws) h = same_texts vs ws h
  same_texts_in None None h = refl
  same_texts_in (Some vs) None h = absurd h
  same_texts_in None (Some ws) h = absurd h

  texts_joined_respects : (between : List ℕ) (t : Option (List (List ℕ))) → Gives c (texts_joined between t) (texts_joined between t)
  texts_joined_respects between (Some texts) = made_text_respects c _ _ refl
  texts_joined_respects between None = wrong_gives (codes "join")

  join_at_respects : (between : List ℕ) (a b : ℕ) → Paired c a b → Gives c (join_at between a) (join_at between b)
  unfolding join_at
  join_at_respects between a b p =
      next c (object_at_respects c a b p) λ o u k.
      subst (λ t. Gives c (texts_joined between (texts_in (list_in o))) (texts_joined between t)) (same_texts_in (list_in o) (list_in u) (listed c o u k)) (texts_joined_respects between (texts_in (list_in o)))

  plain_join : (between : List ℕ) (v : Value) → value_refs v ≡ [] → Gives c (join between v) (join between v)
  plain_join between (value.Ref at) none = cc
  plain_join between v none = wrong_gives (codes "join")

  join_respects : (between : List ℕ) (v w : Value) → Values c v w → Gives c (join between v) (join between w)
  join_respects between _ _ (equal v none) = plain_join between v none
  join_respects between _ _ (refs a b p) = join_at_respects between a b p

  texts_match : (texts : List (List ℕ)) → AllZip (Values c) (as_texts texts) (as_texts texts)
  texts_match [] = tt
  texts_match (text ∷ texts) = (equal (value.Text text) refl, texts_match texts)

  plain_split : (text : List ℕ) (v : Value) → Gives c (split text v) (split text v)
  plain_split text (value.Text []) = fail_respects c (Values c) empty_separator empty_separator refl
  plain_split text (value.Text (x ∷ separator)) = joined_respects c sequences.List _ _ (texts_match (split_at (x ∷ separator) text))
  plain_split text v = wrong_gives (codes "split")

  split_respects : (text : List ℕ) (v w : Value) → Values c v w → Gives c (split text v) (split text w)
  split_respects text _ _ (equal v none) = plain_split text v
  split_respects text _ _ (refs a b p) = wrong_gives (codes "split")

  plain_starts : (text : List ℕ) (v : Value) → Gives c (starts_with text v) (starts_with text v)
  plain_starts text (value.Text part) = plain_gives c (value.Bool (begins part text)) refl
  plain_starts text v = wrong_gives (codes "startswith")

  starts_respects : (text : List ℕ) (v w : Value) → Values c v w → Gives c (starts_with text v) (starts_with text w)
  starts_respects text _ _ (equal v none) = plain_starts text v
  starts_respects text _ _ (refs a b p) = wrong_gives (codes "startswith")

  plain_ends : (text : List ℕ) (v : Value) → Gives c (ends_with text v) (ends_with text v)
  plain_ends text (value.Text part) = plain_gives c (value.Bool (ends part text)) refl
  plain_ends text v = wrong_gives (codes "endswith")

  ends_respect : (text : List ℕ) (v w : Value) → Values c v w → Gives c (ends_with text v) (ends_with text w)
  ends_respect text _ _ (equal v none) = plain_ends text v
  ends_respect text _ _ (refs a b p) = wrong_gives (codes "endswith")

  text_method_respects : (m : TextMethod) (text : List ℕ) (vs ws : List Value) → Zips (Values c) vs ws → Gives c (text_method m text vs) (text_method m text ws)
  text_method_respects of_text.Join text _ _ (one_more v w _ _ h no_more) = join_respects text v w h
  text_method_respects of_text.Split text _ _ (one_more v w _ _ h no_more) = split_respects text v w h
  text_method_respects of_text.StartsWith text _ _ (one_more v w _ _ h no_more) = starts_respects text v w h
  text_method_respects of_text.EndsWith text _ _ (one_more v w _ _ h no_more) = ends_respect text v w h
  text_method_respects m text vs ws _ = fail_respects c (Values c) (wrong_number (text_method_name m)) (wrong_number (text_method_name m)) refl

  -- ---- a call of a method

  pub method_called_respects : (m n : BoundMethod) (vs ws : List Value) → BoundMethodsMatch (Paired c) m n → AllZip (Values c) vs ws → Gives c (method_called m vs) (method_called n ws)
  method_called_respects _ _ vs ws (list_methods m a b p) h = list_method_respects m a b vs ws p (zips (Values c) vs ws h)
  method_called_respects _ _ vs ws (dict_methods m a b p) h = dict_method_respects m a b vs ws p (zips (Values c) vs ws h)
  method_called_respects _ _ vs ws (text_methods m text) h = text_method_respects m text vs ws (zips (Values c) vs ws h)
