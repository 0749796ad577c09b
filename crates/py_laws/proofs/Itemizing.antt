-- Indexes, slices, stores and deletions of items respect alikeness.
use Rattle.std.proofs.Common.{◌≡◌, ℕ, ℤ, Bool, List, [], length, Option, Some, None, refl, ap, ap₂, subst}
use Rattle.std.specs.Prelude.{◌+◌, cond, is_some, slice_range}
use Rattle.std.specs.List.{AllZip}
use Rattle.std.specs.Str.{chars, encode_utf8_all}
use Rattle.py_value.specs.declared.key.Key.{Key}
use Rattle.py_value.specs.declared.value.Value.{Value}
use Rattle.py_value.specs.declared.value.Value.TheVariants as value
use Rattle.py_value.specs.Keys.{key_of, value_of}
use Rattle.py_value.specs.Reprs.{key_text}
use Rattle.py_value.specs.Values.{weight}
use Rattle.py_heap.specs.declared.heap.Object.{Object}
use Rattle.py_heap.specs.declared.heap.SequenceKind.{SequenceKind}
use Rattle.py_heap.specs.declared.heap.SequenceKind.TheVariants as sequences
use Rattle.py_heap.specs.Dicts.{Pairs, value_under}
use Rattle.py_heap.specs.References.{value_refs}
use Rattle.py_machine.specs.declared.error.PyError.{PyError}
use Rattle.py_machine.specs.declared.frame.Change.TheVariants as changes
use Rattle.py_machine.specs.Changes.{object_kind}
use Rattle.py_machine.specs.Errors.{unhashable, not_an_index, not_subscriptable, no_item_assignment, no_item_deletion, no_index, no_text_index, no_assigned_index, no_key}
use Rattle.py_meaning.specs.Acts.{Act, fail}
use Rattle.py_meaning.specs.Numbers.{as_number}
use Rattle.py_meaning.specs.Operators.{joined}
use Rattle.py_meaning.specs.Items.{position_in, item_at, item_or, key_or, keyed, sequence_indexed, dict_indexed, character, text_indexed, object_indexed, not_indexed, indexed, number_or, bound, from_position, to_position, cut, text_sliced, sequence_sliced, object_sliced, sliced, stored_at, list_stored, pair_units, put_in, dict_stored, object_stored, not_stored, item_stored, deleted_at, list_deleted, pair_deleted, dict_deleted, object_deleted, not_deleted, item_deleted}
use Rattle.py_laws.specs.Same.{equal, refs, PairsMatch, BothOrNone}
use Rattle.py_laws.proofs.Zipped.{zip_length, zip_get, zip_range, under_match}
use Rattle.py_laws.proofs.Respecting.{Setting, Paired, setting, remove, put, drop, Respects, Any, Equal, next, pure_respects, fail_respects}
use Rattle.py_laws.proofs.LeastActs.{Values, charge_respects, change_respects, object_at_respects, kind_of_respects}
use Rattle.py_laws.proofs.Slotted.{Kinds, lists, tuples, dicts, kinds, same_kind}
use Rattle.py_laws.proofs.Operating.{Gives, same_weight, same_number, joined_respects, made_text_respects}

module _ (c : Setting) where
  abbrev pub Held : Option Value → Option Value → Type 0
  Held = BothOrNone (Values c)

  abbrev pub Entries : Pairs → Pairs → Type 0
  Entries = AllZip (PairsMatch (Paired c))

  abbrev Does : Act (Unit {0}) → Act (Unit {0}) → Type 0
  Does = Respects c Any

  -- ---- positions and keys

  same_position : (vs ws : List Value) (n : ℤ) → AllZip (Values c) vs ws → position_in (length vs) n ≡ position_in (length ws) n
  same_position vs ws n h = ap (λ (l : ℕ). position_in l n) (zip_length (Values c) vs ws h)

  item_match : (vs ws : List Value) (p : Option ℕ) → AllZip (Values c) vs ws → Held (item_at vs p) (item_at ws p)
  item_match vs ws None h = tt
  item_match vs ws (Some position) h = zip_get (Values c) position vs ws h

  pub items_there : (vs ws : List Value) (p q : Option ℕ) → p ≡ q → AllZip (Values c) vs ws → Held (item_at vs p) (item_at ws q)
  items_there vs ws p q e h = subst (λ z. Held (item_at vs p) (item_at ws z)) e (item_match vs ws p h)

  pub item_or_respects : (e f : PyError) (o u : Option Value) → e ≡ f → Held o u → Gives c (item_or e o) (item_or f u)
  item_or_respects e f (Some v) (Some w) same h = pure_respects c (Values c) v w h
  item_or_respects e f None None same h = fail_respects c (Values c) e f same
  item_or_respects e f (Some v) None same h = absurd h
  item_or_respects e f None (Some w) same h = absurd h

  same_keys : (v w : Value) → Values c v w → key_of v ≡ key_of w
  same_keys _ _ (equal v none) = refl
  same_keys _ _ (refs a b p) = refl

  key_or_respects : (v w : Value) (k : Option Key) → Values c v w → Respects c Equal (key_or v k) (key_or w k)
  key_or_respects v w (Some key) h = pure_respects c Equal key key refl
  key_or_respects v w None h = next c (kind_of_respects c v w h) λ i j e. fail_respects c Equal (unhashable i) (unhashable j) (ap (λ k. unhashable k) e)

  pub keyed_respects : (v w : Value) → Values c v w → Respects c Equal (keyed v) (keyed w)
  unfolding keyed
  keyed_respects v w h = subst (λ k. Respects c Equal (key_or v (key_of v)) (key_or w k)) (same_keys v w h) (key_or_respects v w (key_of v) h)

  -- ---- an index

  indexed_by : (kind : SequenceKind) (vs ws : List Value) (n : Option ℤ) → AllZip (Values c) vs ws → Gives c (sequence_indexed kind vs n) (sequence_indexed kind ws n)
  indexed_by kind vs ws (Some n) h = item_or_respects (no_index kind) (no_index kind) _ _ refl (items_there vs ws _ _ (same_position vs ws n h) h)
  indexed_by kind vs ws None h = fail_respects c (Values c) not_an_index not_an_index refl

  sequence_indexed_respects : (kind : SequenceKind) (vs ws : List Value) (x y : Value) → AllZip (Values c) vs ws → Values c x y → Gives c (sequence_indexed kind vs (as_number x)) (sequence_indexed kind ws (as_number y))
  sequence_indexed_respects kind vs ws x y m k =
      subst (λ n. Gives c (sequence_indexed kind vs (as_number x)) (sequence_indexed kind ws n)) (same_number c x y k) (indexed_by kind vs ws (as_number x) m)

  dict_indexed_respects : (vs ws : Pairs) (x y : Value) → Entries vs ws → Values c x y → Gives c (dict_indexed vs x) (dict_indexed ws y)
  unfolding dict_indexed
  dict_indexed_respects vs ws x y h k =
      next c (keyed_respects x y k) λ key other e.
      subst (λ z. Gives c (item_or (no_key (key_text key)) (value_under vs key)) (item_or (no_key (key_text z)) (value_under ws z))) e
      (item_or_respects (no_key (key_text key)) (no_key (key_text key)) _ _ refl (under_match (Paired c) vs ws key h))

  character_respects : (text : List ℕ) (p : Option ℕ) → Gives c (character text p) (character text p)
  character_respects text (Some position) = made_text_respects c _ _ refl
  character_respects text None = fail_respects c (Values c) no_text_index no_text_index refl

  text_indexed_respects : (text : List ℕ) (n : Option ℤ) → Gives c (text_indexed text n) (text_indexed text n)
  text_indexed_respects text (Some n) = character_respects text (position_in (length (chars text)) n)
  text_indexed_respects text None = fail_respects c (Values c) not_an_index not_an_index refl

  no_items : (o u : Option Object) → Kinds (Paired c) o u → Gives c (fail (not_subscriptable (object_kind o))) (fail (not_subscriptable (object_kind u)))
  no_items o u h = fail_respects c (Values c) _ _ (ap (λ k. not_subscriptable k) (same_kind (Paired c) o u h))

  object_indexed_respects : (x y : Value) (o u : Option Object) → Values c x y → Kinds (Paired c) o u → Gives c (object_indexed x o) (object_indexed y u)
  object_indexed_respects x y _ _ k (lists vs ws m) = sequence_indexed_respects sequences.List vs ws x y m k
  object_indexed_respects x y _ _ k (tuples vs ws m) = sequence_indexed_respects sequences.Tuple vs ws x y m k
  object_indexed_respects x y _ _ k (dicts vs ws m) = dict_indexed_respects vs ws x y m k
  object_indexed_respects x y o u k h = no_items o u h

  not_indexed_respects : (v w : Value) → Values c v w → Gives c (not_indexed v) (not_indexed w)
  unfolding not_indexed
  not_indexed_respects v w h = next c (kind_of_respects c v w h) λ i j e. fail_respects c (Values c) (not_subscriptable i) (not_subscriptable j) (ap (λ k. not_subscriptable k) e)

  plain_indexed : (v x y : Value) → value_refs v ≡ [] → Values c x y → Gives c (indexed v x) (indexed v y)
  unfolding indexed
  plain_indexed (value.Text text) x y none k = subst (λ n. Gives c (text_indexed text (as_number x)) (text_indexed text n)) (same_number c x y k) (text_indexed_respects text (as_number x))
  plain_indexed (value.Ref at) x y none k = cc
  plain_indexed v x y none k = not_indexed_respects v v (equal v none)

  pub indexed_respects : (v w x y : Value) → Values c v w → Values c x y → Gives c (indexed v x) (indexed w y)
  unfolding indexed
  indexed_respects _ _ x y (equal v none) k = plain_indexed v x y none k
  indexed_respects _ _ x y (refs a b p) k = next c (object_at_respects c a b p) λ o u h. object_indexed_respects x y o u k (kinds c o u h)

  -- ---- a slice

  number_or_respects : (n : Option ℤ) → Respects c Equal (number_or n) (number_or n)
  number_or_respects (Some n) = pure_respects c Equal (Some n) (Some n) refl
  number_or_respects None = fail_respects c Equal not_an_index not_an_index refl

  bound_respects : (o u : Option Value) → Held o u → Respects c Equal (bound o) (bound u)
  bound_respects None None h = pure_respects c Equal None None refl
  bound_respects (Some v) (Some w) h = subst (λ n. Respects c Equal (number_or (as_number v)) (number_or n)) (same_number c v w h) (number_or_respects (as_number v))
  bound_respects (Some v) None h = absurd h
  bound_respects None (Some w) h = absurd h

  cut_match : (vs ws : List Value) (from to : Option ℤ) → AllZip (Values c) vs ws → AllZip (Values c) (cut vs from to) (cut ws from to)
  cut_match vs ws from to h =
      subst (λ (l : ℕ). AllZip (Values c) (cut vs from to) (slice_range ws (from_position l from) (to_position l to))) (zip_length (Values c) vs ws h)
      (zip_range (Values c) (from_position (length vs) from) (to_position (length vs) to) vs ws h)

  text_sliced_respects : (text : List ℕ) (o u o' u' : Option Value) → Held o u → Held o' u' → Gives c (text_sliced text o o') (text_sliced text u u')
  unfolding text_sliced
  text_sliced_respects text o u o' u' h k =
      next c (bound_respects o u h) λ a b e.
      next c (bound_respects o' u' k) λ a' b' f.
      made_text_respects c _ _ (ap₂ (λ x y. encode_utf8_all (cut (chars text) x y)) e f)

  sequence_sliced_respects : (kind : SequenceKind) (vs ws : List Value) (o u o' u' : Option Value) → AllZip (Values c) vs ws → Held o u → Held o' u'
      → Gives c (sequence_sliced kind vs o o') (sequence_sliced kind ws u u')
  unfolding sequence_sliced
  sequence_sliced_respects kind vs ws o u o' u' m h k =
      next c (bound_respects o u h) λ a b e.
      next c (bound_respects o' u' k) λ a' b' f.
      subst (λ z. Gives c (joined kind (cut vs a a')) (joined kind (cut ws z b'))) e
      (subst (λ z. Gives c (joined kind (cut vs a a')) (joined kind (cut ws a z))) f (joined_respects c kind (cut vs a a') (cut ws a a') (cut_match vs ws a a' m)))

  object_sliced_respects : (o u o' u' : Option Value) (r s : Option Object) → Held o u → Held o' u' → Kinds (Paired c) r s → Gives c (object_sliced o o' r) (object_sliced u u' s)
  object_sliced_respects o u o' u' _ _ h k (lists vs ws m) = sequence_sliced_respects sequences.List vs ws o u o' u' m h k
  object_sliced_respects o u o' u' _ _ h k (tuples vs ws m) = sequence_sliced_respects sequences.Tuple vs ws o u o' u' m h k
  object_sliced_respects o u o' u' r s h k l = no_items r s l

  plain_sliced : (v : Value) (o u o' u' : Option Value) → value_refs v ≡ [] → Held o u → Held o' u' → Gives c (sliced v o o') (sliced v u u')
  unfolding sliced
  plain_sliced (value.Text text) o u o' u' none h k = text_sliced_respects text o u o' u' h k
  plain_sliced (value.Ref at) o u o' u' none h k = cc
  plain_sliced v o u o' u' none h k = not_indexed_respects v v (equal v none)

  pub sliced_respects : (v w : Value) (o u o' u' : Option Value) → Values c v w → Held o u → Held o' u' → Gives c (sliced v o o') (sliced w u u')
  unfolding sliced
  sliced_respects _ _ o u o' u' (equal v none) h k = plain_sliced v o u o' u' none h k
  sliced_respects _ _ o u o' u' (refs a b p) h k = next c (object_at_respects c a b p) λ r s l. object_sliced_respects o u o' u' r s h k (kinds c r s l)

  -- ---- what is stored

  stored_at_respects : (a b : ℕ) (v w : Value) (p : Option ℕ) → Paired c a b → Values c v w → Does (stored_at a v p) (stored_at b w p)
  stored_at_respects a b v w (Some position) p h =
      next c (charge_respects c (weight v) (weight w) (same_weight c v w h)) λ _ _ _.
      change_respects c a b (changes.Set position v) (changes.Set position w) p (setting position v w h)
  stored_at_respects a b v w None p h = fail_respects c Any no_assigned_index no_assigned_index refl

  list_stored_respects : (a b : ℕ) (vs ws : List Value) (v w : Value) (n : Option ℤ) → Paired c a b → AllZip (Values c) vs ws → Values c v w → Does (list_stored a vs v n) (list_stored b ws w n)
  list_stored_respects a b vs ws v w (Some n) p m h =
      subst (λ z. Does (stored_at a v (position_in (length vs) n)) (stored_at b w z)) (same_position vs ws n m) (stored_at_respects a b v w (position_in (length vs) n) p h)
  list_stored_respects a b vs ws v w None p m h = fail_respects c Any not_an_index not_an_index refl

  same_there : (o u : Option Value) → Held o u → is_some o ≡ is_some u
  same_there (Some v) (Some w) h = refl
  same_there None None h = refl
  same_there (Some v) None h = absurd h
  same_there None (Some w) h = absurd h

  pub keys_there : (vs ws : Pairs) (key : Key) → Entries vs ws → is_some (value_under vs key) ≡ is_some (value_under ws key)
  keys_there vs ws key h = same_there _ _ (under_match (Paired c) vs ws key h)

  same_pair_units : (vs ws : Pairs) (key : Key) (v w : Value) → Entries vs ws → Values c v w → pair_units vs key v ≡ pair_units ws key w
  same_pair_units vs ws key v w m h = ap₂ (λ (b : Bool) (n : ℕ). cond b n (weight (value_of key) + n)) (keys_there vs ws key m) (same_weight c v w h)

  pub put_in_respects : (a b : ℕ) (vs ws : Pairs) (key : Key) (v w : Value) → Paired c a b → Entries vs ws → Values c v w → Does (put_in a vs key v) (put_in b ws key w)
  unfolding put_in
  put_in_respects a b vs ws key v w p m h =
      next c (charge_respects c (pair_units vs key v) (pair_units ws key w) (same_pair_units vs ws key v w m h)) λ _ _ _.
      change_respects c a b (changes.Put key v) (changes.Put key w) p (put key v w h)

  dict_stored_respects : (a b : ℕ) (vs ws : Pairs) (x y v w : Value) → Paired c a b → Entries vs ws → Values c x y → Values c v w → Does (dict_stored a vs x v) (dict_stored b ws y w)
  unfolding dict_stored
  dict_stored_respects a b vs ws x y v w p m k h =
      next c (keyed_respects x y k) λ key other e.
      subst (λ z. Does (put_in a vs key v) (put_in b ws z w)) e (put_in_respects a b vs ws key v w p m h)

  no_store : (o u : Option Object) → Kinds (Paired c) o u → Does (fail (no_item_assignment (object_kind o))) (fail (no_item_assignment (object_kind u)))
  no_store o u h = fail_respects c Any _ _ (ap (λ k. no_item_assignment k) (same_kind (Paired c) o u h))

  object_stored_respects : (a b : ℕ) (x y v w : Value) (o u : Option Object) → Paired c a b → Values c x y → Values c v w → Kinds (Paired c) o u → Does (object_stored a x v o) (object_stored b y w u)
  object_stored_respects a b x y v w _ _ p k h (lists vs ws m) =
      subst (λ n. Does (list_stored a vs v (as_number x)) (list_stored b ws w n)) (same_number c x y k) (list_stored_respects a b vs ws v w (as_number x) p m h)
  object_stored_respects a b x y v w _ _ p k h (dicts vs ws m) = dict_stored_respects a b vs ws x y v w p m k h
  object_stored_respects a b x y v w o u p k h s = no_store o u s

  not_stored_respects : (v w : Value) → Values c v w → Does (not_stored v) (not_stored w)
  unfolding not_stored
  not_stored_respects v w h = next c (kind_of_respects c v w h) λ i j e. fail_respects c Any (no_item_assignment i) (no_item_assignment j) (ap (λ k. no_item_assignment k) e)

  plain_item_stored : (r x y v w : Value) → value_refs r ≡ [] → Does (item_stored r x v) (item_stored r y w)
  unfolding item_stored
  plain_item_stored (value.Ref at) x y v w none = cc
  plain_item_stored r x y v w none = not_stored_respects r r (equal r none)

  pub item_stored_respects : (r s x y v w : Value) → Values c r s → Values c x y → Values c v w → Does (item_stored r x v) (item_stored s y w)
  unfolding item_stored
  item_stored_respects _ _ x y v w (equal r none) k h = plain_item_stored r x y v w none
  item_stored_respects _ _ x y v w (refs a b p) k h = next c (object_at_respects c a b p) λ o u s. object_stored_respects a b x y v w o u p k h (kinds c o u s)

  -- ---- what is deleted

  deleted_at_respects : (a b : ℕ) (p : Option ℕ) → Paired c a b → Does (deleted_at a p) (deleted_at b p)
  deleted_at_respects a b (Some position) p = change_respects c a b (changes.Remove position) (changes.Remove position) p (remove position)
  deleted_at_respects a b None p = fail_respects c Any no_assigned_index no_assigned_index refl

  list_deleted_respects : (a b : ℕ) (vs ws : List Value) (n : Option ℤ) → Paired c a b → AllZip (Values c) vs ws → Does (list_deleted a vs n) (list_deleted b ws n)
  list_deleted_respects a b vs ws (Some n) p m =
      subst (λ z. Does (deleted_at a (position_in (length vs) n)) (deleted_at b z)) (same_position vs ws n m) (deleted_at_respects a b (position_in (length vs) n) p)
  list_deleted_respects a b vs ws None p m = fail_respects c Any not_an_index not_an_index refl

  pair_deleted_respects : (a b : ℕ) (key : Key) (o u : Option Value) → Paired c a b → Held o u → Does (pair_deleted a key o) (pair_deleted b key u)
  pair_deleted_respects a b key (Some v) (Some w) p h = change_respects c a b (changes.Drop key) (changes.Drop key) p (drop key)
  pair_deleted_respects a b key None None p h = fail_respects c Any (no_key (key_text key)) (no_key (key_text key)) refl
  pair_deleted_respects a b key (Some v) None p h = absurd h
  pair_deleted_respects a b key None (Some w) p h = absurd h

  dict_deleted_respects : (a b : ℕ) (vs ws : Pairs) (x y : Value) → Paired c a b → Entries vs ws → Values c x y → Does (dict_deleted a vs x) (dict_deleted b ws y)
  unfolding dict_deleted
  dict_deleted_respects a b vs ws x y p m k =
      next c (keyed_respects x y k) λ key other e.
      subst (λ z. Does (pair_deleted a key (value_under vs key)) (pair_deleted b z (value_under ws z))) e (pair_deleted_respects a b key _ _ p (under_match (Paired c) vs ws key m))

  no_deletion : (o u : Option Object) → Kinds (Paired c) o u → Does (fail (no_item_deletion (object_kind o))) (fail (no_item_deletion (object_kind u)))
  no_deletion o u h = fail_respects c Any _ _ (ap (λ k. no_item_deletion k) (same_kind (Paired c) o u h))

  object_deleted_respects : (a b : ℕ) (x y : Value) (o u : Option Object) → Paired c a b → Values c x y → Kinds (Paired c) o u → Does (object_deleted a x o) (object_deleted b y u)
  object_deleted_respects a b x y _ _ p k (lists vs ws m) =
      subst (λ n. Does (list_deleted a vs (as_number x)) (list_deleted b ws n)) (same_number c x y k) (list_deleted_respects a b vs ws (as_number x) p m)
  object_deleted_respects a b x y _ _ p k (dicts vs ws m) = dict_deleted_respects a b vs ws x y p m k
  object_deleted_respects a b x y o u p k s = no_deletion o u s

  not_deleted_respects : (v w : Value) → Values c v w → Does (not_deleted v) (not_deleted w)
  unfolding not_deleted
  not_deleted_respects v w h = next c (kind_of_respects c v w h) λ i j e. fail_respects c Any (no_item_deletion i) (no_item_deletion j) (ap (λ k. no_item_deletion k) e)

  plain_item_deleted : (r x y : Value) → value_refs r ≡ [] → Does (item_deleted r x) (item_deleted r y)
  unfolding item_deleted
  plain_item_deleted (value.Ref at) x y none = cc
  plain_item_deleted r x y none = not_deleted_respects r r (equal r none)

  pub item_deleted_respects : (r s x y : Value) → Values c r s → Values c x y → Does (item_deleted r x) (item_deleted s y)
  unfolding item_deleted
  item_deleted_respects _ _ x y (equal r none) k = plain_item_deleted r x y none
  item_deleted_respects _ _ x y (refs a b p) k = next c (object_at_respects c a b p) λ o u s. object_deleted_respects a b x y o u p k (kinds c o u s)
