-- What values count as, and what operators give of values that match.
use Rattle.std.proofs.Common.{◌≡◌, ℕ, zero, suc, ◌+◌, ℤ, ◌==◌, Bool, true, false, List, [], ◌∷◌, ◌++◌, length, Option, Some, None, refl, ap, ap₂, subst}
use Rattle.std.specs.Prelude.{◌+ℤ◌, ◌-ℤ◌, ◌*ℤ◌, neg_ℤ, not, sum_by}
use Rattle.std.specs.List.{AllZip, fold, repeat}
use Rattle.py_tree.specs.declared.expressions.Op.{Op}
use Rattle.py_tree.specs.declared.expressions.Op.TheVariants as op
use Rattle.py_value.specs.declared.value.Value.{Value}
use Rattle.py_value.specs.declared.value.Value.TheVariants as value
use Rattle.py_value.specs.Values.{weight, is_zero}
use Rattle.py_heap.specs.declared.heap.Object.{Object}
use Rattle.py_heap.specs.declared.heap.Object.TheVariants as object
use Rattle.py_heap.specs.declared.heap.SequenceKind.{SequenceKind}
use Rattle.py_heap.specs.declared.heap.SequenceKind.TheVariants as sequences
use Rattle.py_heap.specs.Sequences.{sequence}
use Rattle.py_heap.specs.References.{value_refs}
use Rattle.py_machine.specs.declared.kind.ValueKind.TheVariants as kind
use Rattle.py_machine.specs.Errors.{overflow_error, division_error, unsupported_operands, bad_operand}
use Rattle.py_meaning.specs.Acts.{Act, pure, fail}
use Rattle.py_meaning.specs.Truth.{object_true, truth_of}
use Rattle.py_meaning.specs.Numbers.{fits, number, as_number, floor, modulo, quotient, remainder, calculated}
use Rattle.py_meaning.specs.Operators.{steps, sequence_units, made, joined, made_text, unsupported, objects_joined, refs_joined, together, times, object_repeated, ref_repeated, repeated, multiplied, combined, operated_by, operated, signed_number, no_sign, signed_by, signed}
use Rattle.py_laws.specs.Same.{equal, refs, ObjectsMatch}
use Rattle.py_laws.proofs.Zipped.{zip_length, zip_append, zip_repeat}
use Rattle.py_laws.proofs.Respecting.{Setting, Paired, Respects, Any, Equal, next, pure_respects, fail_respects, choose_respects}
use Rattle.py_laws.proofs.LeastActs.{Values, Slots, step_respects, charge_respects, add_respects, object_at_respects, kind_of_respects}
use Rattle.py_laws.proofs.Slotted.{Kinds, lists, tuples, dicts, functions, handles, neither, kinds}

module _ (c : Setting) where
  abbrev pub Gives : Act Value → Act Value → Type 0
  Gives = Respects c (Values c)

  pub plain_gives : (v : Value) → value_refs v ≡ [] → Gives (pure v) (pure v)
  plain_gives v none = pure_respects c (Values c) v v (equal v none)

  -- ---- weights

  pub same_weight : (v w : Value) → Values c v w → weight v ≡ weight w
  same_weight _ _ (equal v none) = refl
  same_weight _ _ (refs a b p) = refl

  -- after equal sums
  same_sums : (n m : ℕ) (vs ws : List Value) → n ≡ m → AllZip (Values c) vs ws → fold (λ total v. total + weight v) n vs ≡ fold (λ total v. total + weight v) m ws
  same_sums n m [] [] e h = e
  same_sums n m (v ∷ vs) (w ∷ ws) e h = same_sums (n + weight v) (m + weight w) vs ws (ap₂ (λ x y. x + y) e (same_weight v w h.0)) h.1
  same_sums n m [] (w ∷ ws) e h = absurd h
  same_sums n m (v ∷ vs) [] e h = absurd h

  pub same_weights : (vs ws : List Value) → AllZip (Values c) vs ws → sum_by weight vs ≡ sum_by weight ws
  same_weights vs ws h = same_sums 0 0 vs ws refl h

  pub same_units : (vs ws : List Value) → AllZip (Values c) vs ws → sequence_units vs ≡ sequence_units ws
  same_units vs ws h = ap (λ x. 1 + x) (same_weights vs ws h)

  -- ---- truth

  same_truth : (o u : Option Object) → Slots c o u → object_true o ≡ object_true u
  same_truth (Some (object.List vs)) (Some (object.List ws)) h = ap (λ n. not (n == 0)) (zip_length (Values c) vs ws h)
  same_truth (Some (object.Tuple vs)) (Some (object.Tuple ws)) h = ap (λ n. not (n == 0)) (zip_length (Values c) vs ws h)
  same_truth (Some (object.Dict vs)) (Some (object.Dict ws)) h = ap (λ n. not (n == 0)) (zip_length _ vs ws h)
  same_truth (Some (object.Function def)) (Some (object.Function other)) h = refl
  same_truth (Some (object.Handle name uses)) (Some (object.Handle other others)) h = refl
  same_truth (Some _) (Some _) h = absurd h
  same_truth None None h = refl
  same_truth None (Some u) h = absurd h
  same_truth (Some o) None h = absurd h

  plain_truth : (v : Value) → value_refs v ≡ [] → Respects c Equal (truth_of v) (truth_of v)
  unfolding truth_of
  plain_truth (value.Ref at) n = cc
  plain_truth v n = pure_respects c Equal _ _ refl

  pub truth_respects : (v w : Value) → Values c v w → Respects c Equal (truth_of v) (truth_of w)
  unfolding truth_of
  truth_respects _ _ (equal v n) = plain_truth v n
  truth_respects _ _ (refs a b p) = next c (object_at_respects c a b p) λ o u h. pure_respects c Equal _ _ (same_truth o u h)

  -- ---- numbers

  pub same_number : (v w : Value) → Values c v w → as_number v ≡ as_number w
  same_number _ _ (equal v none) = refl
  same_number _ _ (refs a b p) = refl

  number_respects : (n : ℤ) → Gives (number n) (number n)
  unfolding number
  number_respects n = choose_respects c (Values c) (fits n) (fits n) _ _ _ _ refl (plain_gives (value.Number n) refl) (fail_respects c (Values c) overflow_error overflow_error refl)

  quotient_respects : (a b : ℤ) → Gives (quotient a b) (quotient a b)
  unfolding quotient
  quotient_respects a b = choose_respects c (Values c) (is_zero b) (is_zero b) _ _ _ _ refl (fail_respects c (Values c) division_error division_error refl) (number_respects (floor a b))

  remainder_respects : (a b : ℤ) → Gives (remainder a b) (remainder a b)
  unfolding remainder
  remainder_respects a b = choose_respects c (Values c) (is_zero b) (is_zero b) _ _ _ _ refl (fail_respects c (Values c) division_error division_error refl) (number_respects (modulo a b))

  calculated_respects : (o : Op) (a b : ℤ) → Gives (calculated o a b) (calculated o a b)
  calculated_respects op.Plus a b = number_respects (a +ℤ b)
  calculated_respects op.Minus a b = number_respects (a -ℤ b)
  calculated_respects op.Times a b = number_respects (a *ℤ b)
  calculated_respects op.Floor a b = quotient_respects a b
  calculated_respects op.Mod a b = remainder_respects a b
  calculated_respects o a b = fail_respects c (Values c) (unsupported_operands o kind.Number kind.Number) (unsupported_operands o kind.Number kind.Number) refl

  -- ---- lists and texts that are made

  steps_same : (n : ℕ) → Respects c Any (steps n) (steps n)
  unfolding steps
  steps_same zero = pure_respects c Any tt tt tt
  steps_same (suc n) = next c (step_respects c) λ _ _ _. steps_same n

  pub steps_respect : (n m : ℕ) → n ≡ m → Respects c Any (steps n) (steps m)
  steps_respect n m e = subst (λ k. Respects c Any (steps n) (steps k)) e (steps_same n)

  -- a new list or tuple
  sequences_match : (kind : SequenceKind) (vs ws : List Value) → AllZip (Values c) vs ws → ObjectsMatch (Paired c) (sequence kind vs) (sequence kind ws)
  sequences_match sequences.List vs ws h = h
  sequences_match sequences.Tuple vs ws h = h

  pub made_respects : (kind : SequenceKind) (vs ws : List Value) → AllZip (Values c) vs ws → Gives (made kind vs) (made kind ws)
  unfolding made
  made_respects kind vs ws h =
      next c (add_respects c (sequence kind vs) (sequence kind ws) (sequences_match kind vs ws h) (c.rules.sequence_fit kind vs)) λ a b p.
      pure_respects c (Values c) (value.Ref a) (value.Ref b) (refs a b p)

  pub joined_respects : (kind : SequenceKind) (vs ws : List Value) → AllZip (Values c) vs ws → Gives (joined kind vs) (joined kind ws)
  unfolding joined
  joined_respects kind vs ws h =
      next c (charge_respects c (sequence_units vs) (sequence_units ws) (same_units vs ws h)) λ _ _ _.
      next c (steps_respect (length vs) (length ws) (zip_length (Values c) vs ws h)) λ _ _ _.
      made_respects kind vs ws h

  text_same : (text : List ℕ) → Gives (made_text text) (made_text text)
  unfolding made_text
  text_same text = next c (charge_respects c (length text) (length text) refl) λ _ _ _. plain_gives (value.Text text) refl

  pub made_text_respects : (text other : List ℕ) → text ≡ other → Gives (made_text text) (made_text other)
  made_text_respects text other e = subst (λ (t : List ℕ). Gives (made_text text) (made_text t)) e (text_same text)

  -- ---- operators

  unsupported_respects : (o : Op) (x y v w : Value) → Values c x y → Values c v w → Gives (unsupported o x v) (unsupported o y w)
  unfolding unsupported
  unsupported_respects o x y v w h k =
      next c (kind_of_respects c x y h) λ i j e.
      next c (kind_of_respects c v w k) λ l m f.
      fail_respects c (Values c) (unsupported_operands o i l) (unsupported_operands o j m) (ap₂ (λ s t. unsupported_operands o s t) e f)

  objects_joined_respects : (a b x y : ℕ) (o u o' u' : Option Object) → Paired c a b → Paired c x y → Kinds (Paired c) o u → Kinds (Paired c) o' u'
      → Gives (objects_joined a x o o') (objects_joined b y u u')
  objects_joined_respects a b x y _ _ _ _ p q (lists vs ws h) (lists xs ys k) = joined_respects sequences.List (vs ++ xs) (ws ++ ys) (zip_append (Values c) vs ws xs ys h k)
  objects_joined_respects a b x y _ _ _ _ p q (tuples vs ws h) (tuples xs ys k) = joined_respects sequences.Tuple (vs ++ xs) (ws ++ ys) (zip_append (Values c) vs ws xs ys h k)
  objects_joined_respects a b x y o u o' u' p q _ _ = unsupported_respects op.Plus (value.Ref a) (value.Ref b) (value.Ref x) (value.Ref y) (refs a b p) (refs x y q)

  refs_joined_respect : (a b x y : ℕ) → Paired c a b → Paired c x y → Gives (refs_joined a x) (refs_joined b y)
  unfolding refs_joined
  refs_joined_respect a b x y p q =
      next c (object_at_respects c a b p) λ o u h.
      next c (object_at_respects c x y q) λ o' u' k.
      objects_joined_respects a b x y o u o' u' p q (kinds c o u h) (kinds c o' u' k)

  plain_together : (x v : Value) → value_refs x ≡ [] → value_refs v ≡ [] → Gives (together x v) (together x v)
  plain_together (value.Text text) (value.Text more) n m = text_same (text ++ more)
  plain_together (value.Ref a) v n m = cc
  plain_together x v n m = unsupported_respects op.Plus x x v v (equal x n) (equal v m)

  value_and_ref : (x : Value) (a b : ℕ) → value_refs x ≡ [] → Paired c a b → Gives (together x (value.Ref a)) (together x (value.Ref b))
  value_and_ref (value.Ref d) a b n p = cc
  value_and_ref x a b n p = unsupported_respects op.Plus x x (value.Ref a) (value.Ref b) (equal x n) (refs a b p)

  ref_and_value : (a b : ℕ) (v : Value) → Paired c a b → value_refs v ≡ [] → Gives (together (value.Ref a) v) (together (value.Ref b) v)
  ref_and_value a b (value.Ref d) p n = cc
  ref_and_value a b v p n = unsupported_respects op.Plus (value.Ref a) (value.Ref b) v v (refs a b p) (equal v n)

  together_respects : (x y v w : Value) → Values c x y → Values c v w → Gives (together x v) (together y w)
  together_respects _ _ _ _ (equal x n) (equal v m) = plain_together x v n m
  together_respects _ _ _ _ (equal x n) (refs a b p) = value_and_ref x a b n p
  together_respects _ _ _ _ (refs a b p) (equal v n) = ref_and_value a b v p n
  together_respects _ _ _ _ (refs a b p) (refs x y q) = refs_joined_respect a b x y p q

  object_repeated_respects : (n : ℤ) (x y v w : Value) (o u : Option Object) → Values c x y → Values c v w → Kinds (Paired c) o u → Gives (object_repeated n x v o) (object_repeated n y w u)
  object_repeated_respects n x y v w _ _ h k (lists vs ws l) = joined_respects sequences.List (repeat (times n) vs) (repeat (times n) ws) (zip_repeat (Values c) (times n) vs ws l)
  object_repeated_respects n x y v w _ _ h k (tuples vs ws l) = joined_respects sequences.Tuple (repeat (times n) vs) (repeat (times n) ws) (zip_repeat (Values c) (times n) vs ws l)
  object_repeated_respects n x y v w o u h k _ = unsupported_respects op.Times x y v w h k

  ref_repeated_respects : (n : ℤ) (x y v w : Value) (a b : ℕ) → Values c x y → Values c v w → Paired c a b → Gives (ref_repeated n x v a) (ref_repeated n y w b)
  unfolding ref_repeated
  ref_repeated_respects n x y v w a b h k p = next c (object_at_respects c a b p) λ o u l. object_repeated_respects n x y v w o u h k (kinds c o u l)

  plain_repeated : (n : ℤ) (x y v w held : Value) → Values c x y → Values c v w → value_refs held ≡ [] → Gives (repeated n x v held) (repeated n y w held)
  plain_repeated n x y v w (value.Text text) h k none = text_same (repeat (times n) text)
  plain_repeated n x y v w (value.Ref at) h k none = cc
  plain_repeated n x y v w held h k none = unsupported_respects op.Times x y v w h k

  repeated_respects : (n : ℤ) (x y v w held other : Value) → Values c x y → Values c v w → Values c held other → Gives (repeated n x v held) (repeated n y w other)
  repeated_respects n x y v w _ _ h k (equal held none) = plain_repeated n x y v w held h k none
  repeated_respects n x y v w _ _ h k (refs a b p) = ref_repeated_respects n x y v w a b h k p

  multiplied_respects : (a b : Option ℤ) (x y v w : Value) → Values c x y → Values c v w → Gives (multiplied a b x v) (multiplied a b y w)
  multiplied_respects (Some n) b x y v w h k = repeated_respects n x y v w v w h k k
  multiplied_respects None (Some n) x y v w h k = repeated_respects n x y v w x y h k h
  multiplied_respects None None x y v w h k = unsupported_respects op.Times x y v w h k

  products_respect : (x y v w : Value) → Values c x y → Values c v w → Gives (multiplied (as_number x) (as_number v) x v) (multiplied (as_number y) (as_number w) y w)
  products_respect x y v w h k =
      subst (λ a. Gives (multiplied (as_number x) (as_number v) x v) (multiplied a (as_number w) y w)) (same_number x y h)
      (subst (λ b. Gives (multiplied (as_number x) (as_number v) x v) (multiplied (as_number x) b y w)) (same_number v w k) (multiplied_respects (as_number x) (as_number v) x y v w h k))

  combined_respects : (o : Op) (x y v w : Value) → Values c x y → Values c v w → Gives (combined o x v) (combined o y w)
  combined_respects op.Plus x y v w h k = together_respects x y v w h k
  combined_respects op.Times x y v w h k = products_respect x y v w h k
  combined_respects o x y v w h k = unsupported_respects o x y v w h k

  by_numbers : (o : Op) (a b : Option ℤ) (x y v w : Value) → Values c x y → Values c v w → Gives (operated_by o a b x v) (operated_by o a b y w)
  by_numbers o (Some a) (Some b) x y v w h k = calculated_respects o a b
  by_numbers o None b x y v w h k = combined_respects o x y v w h k
  by_numbers o (Some a) None x y v w h k = combined_respects o x y v w h k

  pub operated_respects : (o : Op) (x y v w : Value) → Values c x y → Values c v w → Gives (operated o x v) (operated o y w)
  unfolding operated
  operated_respects o x y v w h k =
      subst (λ a. Gives (operated_by o (as_number x) (as_number v) x v) (operated_by o a (as_number w) y w)) (same_number x y h)
      (subst (λ b. Gives (operated_by o (as_number x) (as_number v) x v) (operated_by o (as_number x) b y w)) (same_number v w k) (by_numbers o (as_number x) (as_number v) x y v w h k))

  -- ---- signs

  no_sign_respects : (minus : Bool) (v w : Value) → Values c v w → Gives (no_sign minus v) (no_sign minus w)
  unfolding no_sign
  no_sign_respects minus v w h = next c (kind_of_respects c v w h) λ k l e. fail_respects c (Values c) (bad_operand minus k) (bad_operand minus l) (ap (λ i. bad_operand minus i) e)

  signed_number_respects : (minus : Bool) (n : ℤ) → Gives (signed_number minus n) (signed_number minus n)
  signed_number_respects true n = number_respects (neg_ℤ n)
  signed_number_respects false n = plain_gives (value.Number n) refl

  signed_by_number : (minus : Bool) (a : Option ℤ) (v w : Value) → Values c v w → Gives (signed_by minus a v) (signed_by minus a w)
  signed_by_number minus (Some n) v w h = signed_number_respects minus n
  signed_by_number minus None v w h = no_sign_respects minus v w h

  pub signed_respects : (minus : Bool) (v w : Value) → Values c v w → Gives (signed minus v) (signed minus w)
  unfolding signed
  signed_respects minus v w h = subst (λ a. Gives (signed_by minus (as_number v) v) (signed_by minus a w)) (same_number v w h) (signed_by_number minus (as_number v) v w h)
