-- What needs no level below respects alikeness: constants, built-in functions, frames, names, dict displays, results.
use Rattle.std.proofs.Common.{◌≡◌, ℕ, ℤ, Bool, true, false, List, [], ◌∷◌, ◌++◌, length, Option, Some, None, Result, Ok, Err, refl, ap, subst}
use Rattle.std.specs.Prelude.{◌+◌, pos, codes}
use Rattle.std.specs.List.{AllZip, AllByRecursion}
use Rattle.std.specs.FinMap as finite
use Rattle.std.specs.Cmp.Lexicographic.{slice_cmp}
use Rattle.std.specs.Ordering.{nat_cmp}
use Rattle.std.specs.Str.{chars}
use Rattle.std.proofs.lemmas.List.Elements.{AllZip-push}
use Rattle.py_tree.specs.declared.expressions.Literal.{Literal}
use Rattle.py_tree.specs.declared.expressions.Literal.TheVariants as literal
use Rattle.py_tree.specs.declared.expressions.Op.{Op}
use Rattle.py_tree.specs.declared.expressions.Op.TheVariants as op
use Rattle.py_tree.specs.declared.statements.Def.{Def}
use Rattle.py_tree.specs.Locals.{locals_of}
use Rattle.py_value.specs.declared.key.Key.{Key}
use Rattle.py_value.specs.declared.number.NumberFault.{NumberFault}
use Rattle.py_value.specs.declared.number.NumberFault.TheVariants as number_fault
use Rattle.py_value.specs.declared.value.Value.{Value}
use Rattle.py_value.specs.declared.value.Value.TheVariants as value
use Rattle.py_value.specs.Numbers.{number_of}
use Rattle.py_heap.specs.declared.heap.Object.{Object}
use Rattle.py_heap.specs.declared.heap.Object.TheVariants as object
use Rattle.py_heap.specs.Dicts.{Pairs}
use Rattle.py_heap.specs.References.{value_refs}
use Rattle.py_heap.specs.States.{raised}
use Rattle.py_machine.specs.declared.frame.Change.TheVariants as changes
use Rattle.py_machine.specs.declared.frame.Flow.{Flow}
use Rattle.py_machine.specs.declared.frame.Flow.TheVariants as flow
use Rattle.py_machine.specs.declared.frame.Frame.{Frame}
use Rattle.py_machine.specs.declared.frame.FrameSlot.TheVariants.{Empty, Held}
use Rattle.py_machine.specs.Errors.{overflow_error, not_callable, wrong_number, wrong_argument}
use Rattle.py_machine.specs.Runs.{Name}
use Rattle.py_meaning.specs.Acts.{Act, pure, fail}
use Rattle.py_meaning.specs.Numbers.{as_number}
use Rattle.py_meaning.specs.Operators.{operated}
use Rattle.py_meaning.specs.Methods.{pairs_in}
use Rattle.py_meaning.specs.Meaning.{literal_value, not_called, drawn, draw_called, object_length, length_of, len_called, number_read, text_as_int, as_int, int_called, opened, open_handle, handle_called, object_told, told_at, tell, tell_called, with_empty, with_held, frame_of, returned, text_units, store, names_stored, names_given, extended, refs_added, added, augmented, delete, define, keys_from, put, filled, result_text, result}
use Rattle.py_laws.specs.Same.{equal, refs, PairsMatch}
use Rattle.py_laws.proofs.Zipped.{zip_length, Zips, no_more, one_more}
use Rattle.py_laws.proofs.Respecting.{Setting, Paired, SlotsMatch, empty, held, FramesMatch, FlowsMatch, to_next, breaks, continues, returns, use_, Respects, Any, Equal, next, pure_respects, fail_respects, choose_respects}
use Rattle.py_laws.proofs.LeastActs.{Values, Slots, Listed, bound_match, charge_respects, step_respects, seek_respects, bind_respects, unbind_respects, is_local_respects, add_respects, change_respects, draw_respects, object_at_respects, list_at_respects, kind_of_respects}
use Rattle.py_laws.proofs.Slotted.{Kinds, handles, kinds}
use Rattle.py_laws.proofs.Showing.{shown_respects}
use Rattle.py_laws.proofs.Operating.{Gives, plain_gives, same_number, operated_respects}
use Rattle.py_laws.proofs.Unpacking.{unpacked_respects}
use Rattle.py_laws.proofs.Itemizing.{Entries, keyed_respects, put_in_respects}
use Rattle.py_laws.proofs.Methodical.{extend_respects, pairs_in_match}

module _ (c : Setting) where
  abbrev pub Flows : Act Flow → Act Flow → Type 0
  Flows = Respects c (FlowsMatch (Paired c))

  pub goes : (e f : Flow) → FlowsMatch (Paired c) e f → Flows (pure e) (pure f)
  goes e f h = pure_respects c (FlowsMatch (Paired c)) e f h

  -- ---- constants and calls

  pub literal_respects : (constant : Literal) → Gives c (literal_value constant) (literal_value constant)
  unfolding literal_value
  literal_respects literal.Nothing = next c (step_respects c) λ _ _ _. plain_gives c value.Nothing refl
  literal_respects (literal.Bool truth) = next c (step_respects c) λ _ _ _. plain_gives c (value.Bool truth) refl
  literal_respects (literal.Number n) = next c (step_respects c) λ _ _ _. plain_gives c (value.Number n) refl
  literal_respects (literal.Text text) = next c (step_respects c) λ _ _ _. plain_gives c (value.Text text) refl

  pub not_called_respects : (v w : Value) → Values c v w → Gives c (not_called v) (not_called w)
  unfolding not_called
  not_called_respects v w h = next c (kind_of_respects c v w h) λ k l e. fail_respects c (Values c) (not_callable k) (not_callable l) (ap (λ i. not_callable i) e)

  pub wrong_respects : (name : List ℕ) → Gives c (fail (wrong_number name)) (fail (wrong_number name))
  wrong_respects name = fail_respects c (Values c) _ _ refl

  drawn_respects : Gives c drawn drawn
  unfolding drawn
  drawn_respects = next c (draw_respects c) λ w w' e. pure_respects c (Values c) (value.Number (pos w)) (value.Number (pos w')) (subst (λ z. Values c (value.Number (pos w)) (value.Number (pos z))) e (equal (value.Number (pos w)) refl))

  pub draw_called_respects : (vs ws : List Value) → AllZip (Values c) vs ws → Gives c (draw_called vs) (draw_called ws)
  draw_called_respects [] [] h = drawn_respects
  draw_called_respects (v ∷ vs) (w ∷ ws) h = wrong_respects (codes "draw")
  draw_called_respects [] (w ∷ ws) h = absurd h
  draw_called_respects (v ∷ vs) [] h = absurd h

  same_length_value : (n m : ℕ) → n ≡ m → Gives c (pure (value.Number (pos n))) (pure (value.Number (pos m)))
  same_length_value n m e = subst (λ k. Gives c (pure (value.Number (pos n))) (pure (value.Number (pos k)))) e (plain_gives c (value.Number (pos n)) refl)

  no_length : Gives c (fail (wrong_argument (codes "len"))) (fail (wrong_argument (codes "len")))
  no_length = fail_respects c (Values c) _ _ refl

  object_length_respects : (o u : Option Object) → Slots c o u → Gives c (object_length o) (object_length u)
  object_length_respects (Some (object.List vs)) (Some (object.List ws)) h = same_length_value (length vs) (length ws) (zip_length (Values c) vs ws h)
  object_length_respects (Some (object.Tuple vs)) (Some (object.Tuple ws)) h = same_length_value (length vs) (length ws) (zip_length (Values c) vs ws h)
  object_length_respects (Some (object.Dict vs)) (Some (object.Dict ws)) h = same_length_value (length vs) (length ws) (zip_length _ vs ws h)
  object_length_respects (Some (object.Function def)) (Some (object.Function other)) h = no_length
  object_length_respects (Some (object.Handle name uses)) (Some (object.Handle other others)) h = no_length
  object_length_respects (Some _) (Some _) h = absurd h
  object_length_respects None None h = no_length
  object_length_respects None (Some u) h = absurd h
  object_length_respects (Some o) None h = absurd h

  plain_length : (v : Value) → value_refs v ≡ [] → Gives c (length_of v) (length_of v)
  unfolding length_of
  plain_length (value.Ref at) n = cc
  plain_length (value.Text text) n = same_length_value (length (chars text)) (length (chars text)) refl
  plain_length v n = no_length

  length_respects : (v w : Value) → Values c v w → Gives c (length_of v) (length_of w)
  unfolding length_of
  length_respects _ _ (equal v n) = plain_length v n
  length_respects _ _ (refs a b p) = next c (object_at_respects c a b p) λ o u h. object_length_respects o u h

  pub len_called_respects : (vs ws : List Value) → AllZip (Values c) vs ws → Gives c (len_called vs) (len_called ws)
  len_called_respects (v ∷ []) (w ∷ []) h = length_respects v w h.0
  len_called_respects [] [] h = wrong_respects (codes "len")
  len_called_respects (v ∷ v' ∷ vs) (w ∷ w' ∷ ws) h = wrong_respects (codes "len")
  len_called_respects [] (w ∷ ws) h = absurd h
  len_called_respects (v ∷ vs) [] h = absurd h
  len_called_respects (v ∷ []) (w ∷ w' ∷ ws) h = absurd h.1
  len_called_respects (v ∷ v' ∷ vs) (w ∷ []) h = absurd h.1

  number_read_respects : (text : List ℕ) (r : Result ℤ NumberFault) → Gives c (number_read text r) (number_read text r)
  number_read_respects text (Ok n) = plain_gives c (value.Number n) refl
  number_read_respects text (Err number_fault.Invalid) = fail_respects c (Values c) _ _ refl
  number_read_respects text (Err number_fault.Wide) = fail_respects c (Values c) overflow_error overflow_error refl

  wrong_kind : (name : List ℕ) → Gives c (fail (wrong_argument name)) (fail (wrong_argument name))
  wrong_kind name = fail_respects c (Values c) _ _ refl

  plain_as_int : (v : Value) → Gives c (text_as_int v) (text_as_int v)
  plain_as_int (value.Text text) = number_read_respects text (number_of text)
  plain_as_int v = wrong_kind (codes "int")

  text_as_int_respects : (v w : Value) → Values c v w → Gives c (text_as_int v) (text_as_int w)
  text_as_int_respects _ _ (equal v n) = plain_as_int v
  text_as_int_respects _ _ (refs a b p) = wrong_kind (codes "int")

  as_int_respects : (n : Option ℤ) (v w : Value) → Values c v w → Gives c (as_int n v) (as_int n w)
  as_int_respects (Some n) v w h = plain_gives c (value.Number n) refl
  as_int_respects None v w h = text_as_int_respects v w h

  pub int_called_respects : (vs ws : List Value) → Zips (Values c) vs ws → Gives c (int_called vs) (int_called ws)
  int_called_respects _ _ (one_more v w _ _ h no_more) = subst (λ n. Gives c (as_int (as_number v) v) (as_int n w)) (same_number c v w h) (as_int_respects (as_number v) v w h)
  int_called_respects vs ws _ = wrong_respects (codes "int")

  -- ---- handles

  opened_respects : (name : List ℕ) → Gives c (opened name) (opened name)
  unfolding opened
  opened_respects name =
      next c (charge_respects c (1 + length name) (1 + length name) refl) λ _ _ _.
      next c (add_respects c (object.Handle name 0) (object.Handle name 0) (refl, refl) (c.rules.handle_fit name 0)) λ a b p.
      pure_respects c (Values c) (value.Ref a) (value.Ref b) (refs a b p)

  plain_open : (v : Value) → Gives c (open_handle v) (open_handle v)
  plain_open (value.Text name) = opened_respects name
  plain_open v = wrong_kind (codes "handle")

  open_handle_respects : (v w : Value) → Values c v w → Gives c (open_handle v) (open_handle w)
  open_handle_respects _ _ (equal v n) = plain_open v
  open_handle_respects _ _ (refs a b p) = wrong_kind (codes "handle")

  pub handle_called_respects : (vs ws : List Value) → Zips (Values c) vs ws → Gives c (handle_called vs) (handle_called ws)
  handle_called_respects _ _ (one_more v w _ _ h no_more) = open_handle_respects v w h
  handle_called_respects vs ws _ = wrong_respects (codes "handle")

  object_told_respects : (a b : ℕ) (o u : Option Object) → Paired c a b → Kinds (Paired c) o u → Gives c (object_told a o) (object_told b u)
  object_told_respects a b _ _ p (handles name other uses others e f) =
      next c (change_respects c a b changes.Use changes.Use p use_) λ _ _ _. same_length_value (raised uses) (raised others) (ap (λ (n : ℕ). raised n) f)
  object_told_respects a b o u p _ = wrong_kind (codes "tell")

  told_at_respects : (a b : ℕ) → Paired c a b → Gives c (told_at a) (told_at b)
  unfolding told_at
  told_at_respects a b p = next c (object_at_respects c a b p) λ o u h. object_told_respects a b o u p (kinds c o u h)

  plain_tell : (v : Value) → value_refs v ≡ [] → Gives c (tell v) (tell v)
  plain_tell (value.Ref at) n = cc
  plain_tell v n = wrong_kind (codes "tell")

  tell_respects : (v w : Value) → Values c v w → Gives c (tell v) (tell w)
  tell_respects _ _ (equal v n) = plain_tell v n
  tell_respects _ _ (refs a b p) = told_at_respects a b p

  pub tell_called_respects : (vs ws : List Value) → Zips (Values c) vs ws → Gives c (tell_called vs) (tell_called ws)
  tell_called_respects _ _ (one_more v w _ _ h no_more) = tell_respects v w h
  tell_called_respects vs ws _ = wrong_respects (codes "tell")

  -- ---- frames

  empty_match : (f g : Frame) (names : List Name) → FramesMatch (Paired c) f g → FramesMatch (Paired c) (with_empty f names) (with_empty g names)
  empty_match f g [] h = h
  empty_match f g (name ∷ names) h = empty_match (record { slots = finite.insert f.slots name Empty }) (record { slots = finite.insert g.slots name Empty }) names (record { slots = λ x. bound_match c (SlotsMatch (Paired c)) f.slots g.slots name x Empty Empty empty (h.slots x) })

  held_match : (f g : Frame) (names : List Name) (vs ws : List Value) → FramesMatch (Paired c) f g → AllZip (Values c) vs ws → FramesMatch (Paired c) (with_held f names vs) (with_held g names ws)
  held_match f g (name ∷ names) (v ∷ vs) (w ∷ ws) h k =
      held_match (record { slots = finite.insert f.slots name (Held v) }) (record { slots = finite.insert g.slots name (Held w) }) names vs ws (record { slots = λ x. bound_match c (SlotsMatch (Paired c)) f.slots g.slots name x (Held v) (Held w) (held v w k.0) (h.slots x) }) k.1
  held_match f g [] vs ws h k = h
  held_match f g (name ∷ names) [] [] h k = h
  held_match f g (name ∷ names) [] (w ∷ ws) h k = absurd k
  held_match f g (name ∷ names) (v ∷ vs) [] h k = absurd k

  abbrev no_slots : Frame
  no_slots = record { slots = finite.empty }

  none_match : FramesMatch (Paired c) no_slots no_slots
  none_match = record { slots = λ x. rw (finite.get-empty (slice_cmp nat_cmp) x) tt }

  pub frame_match : (def : Def) (vs ws : List Value) → AllZip (Values c) vs ws → FramesMatch (Paired c) (frame_of def vs) (frame_of def ws)
  unfolding frame_of
  frame_match def vs ws h = held_match (with_empty no_slots (locals_of def)) (with_empty no_slots (locals_of def)) def.params vs ws (empty_match no_slots no_slots (locals_of def) none_match) h

  pub returned_match : (e f : Flow) → FlowsMatch (Paired c) e f → Values c (returned e) (returned f)
  returned_match _ _ to_next = equal value.Nothing refl
  returned_match _ _ breaks = equal value.Nothing refl
  returned_match _ _ continues = equal value.Nothing refl
  returned_match _ _ (returns v w h) = h

  -- ---- names

  same_text_units : (v w : Value) → Values c v w → text_units v ≡ text_units w
  same_text_units _ _ (equal v n) = refl
  same_text_units _ _ (refs a b p) = refl

  pub store_respects : (name : Name) (v w : Value) → c.rules.may name × c.rules.known name → Values c v w → Respects c Any (store name v) (store name w)
  unfolding store
  store_respects name v w may h =
      next c (is_local_respects c name) λ b d e.
      choose_respects c Any b d _ _ _ _ e (bind_respects c name v w h may)
      (next c (charge_respects c (text_units v) (text_units w) (same_text_units v w h)) λ _ _ _. bind_respects c name v w h may)

  -- names that may have a value, and that may be bound
  abbrev pub MayBind : List Name → Type 0
  MayBind = AllByRecursion (λ name. c.rules.may name × c.rules.known name)

  names_stored_respect : (names : List Name) (vs ws : List Value) → MayBind names → AllZip (Values c) vs ws → Respects c Any (names_stored names vs) (names_stored names ws)
  names_stored_respect (name ∷ names) (v ∷ vs) (w ∷ ws) may h = next c (store_respects name v w may.0 h.0) λ _ _ _. names_stored_respect names vs ws may.1 h.1
  names_stored_respect [] vs ws may h = pure_respects c Any tt tt tt
  names_stored_respect (name ∷ names) [] [] may h = pure_respects c Any tt tt tt
  names_stored_respect (name ∷ names) [] (w ∷ ws) may h = absurd h
  names_stored_respect (name ∷ names) (v ∷ vs) [] may h = absurd h

  pub names_given_respect : (comma : Bool) (names : List Name) (v w : Value) → MayBind names → Values c v w → Respects c Any (names_given comma names v) (names_given comma names w)
  names_given_respect true names v w may h = next c (unpacked_respects c (length names) v w h) λ vs ws k. names_stored_respect names vs ws may k
  names_given_respect false (name ∷ others) v w may h = store_respects name v w may.0 h
  names_given_respect false [] v w may h = pure_respects c Any tt tt tt

  -- ---- augmented assignments

  sums_respect : (a b x y : ℕ) → Paired c a b → Paired c x y → Gives c (operated op.Plus (value.Ref a) (value.Ref x)) (operated op.Plus (value.Ref b) (value.Ref y))
  sums_respect a b x y p q = operated_respects c op.Plus (value.Ref a) (value.Ref b) (value.Ref x) (value.Ref y) (refs a b p) (refs x y q)

  extended_respects : (a b x y : ℕ) (o u o' u' : Option (List Value)) → Paired c a b → Paired c x y → Listed c o u → Listed c o' u' → Gives c (extended a x o o') (extended b y u u')
  extended_respects a b x y (Some vs) (Some ws) (Some xs) (Some ys) p q h k =
      next c (extend_respects c a b xs ys p k) λ _ _ _. pure_respects c (Values c) (value.Ref a) (value.Ref b) (refs a b p)
  extended_respects a b x y None None o' u' p q h k = sums_respect a b x y p q
  extended_respects a b x y (Some vs) (Some ws) None None p q h k = sums_respect a b x y p q
  extended_respects a b x y (Some vs) (Some ws) (Some xs) None p q h k = absurd k
  extended_respects a b x y (Some vs) (Some ws) None (Some ys) p q h k = absurd k
  extended_respects a b x y (Some vs) None o' u' p q h k = absurd h
  extended_respects a b x y None (Some ws) o' u' p q h k = absurd h

  refs_added_respects : (a b x y : ℕ) → Paired c a b → Paired c x y → Gives c (refs_added a x) (refs_added b y)
  unfolding refs_added
  refs_added_respects a b x y p q =
      next c (list_at_respects c a b p) λ o u h.
      next c (list_at_respects c x y q) λ o' u' k.
      extended_respects a b x y o u o' u' p q h k

  plain_added : (x v w : Value) → value_refs x ≡ [] → Values c v w → Gives c (added x v) (added x w)
  plain_added (value.Ref a) v w n k = cc
  plain_added x v w n k = operated_respects c op.Plus x x v w (equal x n) k

  ref_added : (a b : ℕ) (v : Value) → Paired c a b → value_refs v ≡ [] → Gives c (added (value.Ref a) v) (added (value.Ref b) v)
  ref_added a b (value.Ref d) p n = cc
  ref_added a b v p n = operated_respects c op.Plus (value.Ref a) (value.Ref b) v v (refs a b p) (equal v n)

  added_respects : (x y v w : Value) → Values c x y → Values c v w → Gives c (added x v) (added y w)
  added_respects _ _ v w (equal x n) k = plain_added x v w n k
  added_respects _ _ _ _ (refs a b p) (equal v n) = ref_added a b v p n
  added_respects _ _ _ _ (refs a b p) (refs x y q) = refs_added_respects a b x y p q

  pub augmented_respects : (o : Op) (x y v w : Value) → Values c x y → Values c v w → Gives c (augmented o x v) (augmented o y w)
  augmented_respects op.Plus x y v w h k = added_respects x y v w h k
  augmented_respects o x y v w h k = operated_respects c o x y v w h k

  -- ---- deletions and definitions

  pub delete_respects : (name : Name) → c.rules.known name → Flows (delete name) (delete name)
  unfolding delete
  delete_respects name known =
      next c (next c (next c (step_respects c) λ _ _ _. seek_respects c name known) λ _ _ _. unbind_respects c name known) λ _ _ _.
      goes flow.Next flow.Next to_next

  pub define_respects : (def : Def) → (c.rules.may def.name × c.rules.known def.name) × c.rules.fit (object.Function def) → Flows (define def) (define def)
  unfolding define
  define_respects def may =
      next c (step_respects c) λ _ _ _.
      next c (charge_respects c (1 + length def.source) (1 + length def.source) refl) λ _ _ _.
      next c (add_respects c (object.Function def) (object.Function def) refl may.1) λ a b p.
      next c (bind_respects c def.name (value.Ref a) (value.Ref b) (refs a b p) may.0) λ _ _ _.
      goes flow.Next flow.Next to_next

  -- ---- dict displays

  -- keys and values as they are evaluated
  abbrev pub Evaluated : List (Value × Value) → List (Value × Value) → Type 0
  Evaluated = AllZip (λ x y. Values c x.0 y.0 × Values c x.1 y.1)

  pub keys_from_respects : (xs ys : Pairs) (vs ws : List (Value × Value)) → Entries c xs ys → Evaluated vs ws → Respects c (Entries c) (keys_from xs vs) (keys_from ys ws)
  keys_from_respects xs ys [] [] h k = pure_respects c (Entries c) xs ys h
  keys_from_respects xs ys (v ∷ vs) (w ∷ ws) h k =
      next c (keyed_respects c v.0 w.0 k.0.0) λ key other e.
      keys_from_respects (xs ++ (key, v.1) ∷ []) (ys ++ (other, w.1) ∷ []) vs ws (AllZip-push (PairsMatch (Paired c)) xs ys (key, v.1) (other, w.1) h (e, k.0.1)) k.1
  keys_from_respects xs ys [] (w ∷ ws) h k = absurd k
  keys_from_respects xs ys (v ∷ vs) [] h k = absurd k

  pub put_respects : (a b : ℕ) (key : Key) (v w : Value) → Paired c a b → Values c v w → Respects c Any (put a key v) (put b key w)
  unfolding put
  put_respects a b key v w p h =
      next c (object_at_respects c a b p) λ o u m. put_in_respects c a b (pairs_in o) (pairs_in u) key v w p (pairs_in_match c o u (kinds c o u m)) h

  pub filled_respects : (a b : ℕ) (xs ys : Pairs) → Paired c a b → Entries c xs ys → Gives c (filled a xs) (filled b ys)
  filled_respects a b [] [] p h = pure_respects c (Values c) (value.Ref a) (value.Ref b) (refs a b p)
  filled_respects a b (x ∷ xs) (y ∷ ys) p h =
      next c (subst (λ key. Respects c Any (put a x.0 x.1) (put b key y.1)) h.0.0 (put_respects a b x.0 x.1 y.1 p h.0.1)) λ _ _ _. filled_respects a b xs ys p h.1
  filled_respects a b [] (y ∷ ys) p h = absurd h
  filled_respects a b (x ∷ xs) [] p h = absurd h

  -- ---- the result of a cell

  pub same_list : (vs ws : List ℕ) → vs ≡ ws → length vs ≡ length ws
  same_list vs ws e = ap (λ (xs : List ℕ). length xs) e

  shown_result : (v w : Value) → Values c v w → Respects c Equal (result_text v) (result_text w)
  unfolding result_text
  shown_result v w h =
      next c (shown_respects c 798 [] [] [] v w tt h) λ text other e.
      next c (charge_respects c (length text) (length other) (same_list text other e)) λ _ _ _.
      pure_respects c Equal (Some text) (Some other) (ap (λ z. Some z) e)

  plain_result : (v : Value) → value_refs v ≡ [] → Respects c Equal (result v) (result v)
  plain_result value.Nothing n = pure_respects c Equal None None refl
  plain_result (value.Ref at) n = cc
  plain_result (value.Bool truth) n = shown_result (value.Bool truth) (value.Bool truth) (equal (value.Bool truth) n)
  plain_result (value.Number number) n = shown_result (value.Number number) (value.Number number) (equal (value.Number number) n)
  plain_result (value.Text text) n = shown_result (value.Text text) (value.Text text) (equal (value.Text text) n)
  plain_result (value.Builtin builtin) n = shown_result (value.Builtin builtin) (value.Builtin builtin) (equal (value.Builtin builtin) n)

  pub result_respects : (v w : Value) → Values c v w → Respects c Equal (result v) (result w)
  result_respects _ _ (equal v n) = plain_result v n
  result_respects _ _ (refs a b p) = shown_result (value.Ref a) (value.Ref b) (refs a b p)
