-- Comparisons of values that match say the same.
use Rattle.std.proofs.Common.{◌≡◌, ℕ, zero, suc, ℤ, ◌==◌, Bool, List, [], ◌∷◌, length, Option, Some, None, refl, ap, ap₂, subst}
use Rattle.std.specs.Prelude.{not, is_some}
use Rattle.std.specs.Ordering.{nat_cmp}
use Rattle.std.specs.List.{AllZip}
use Rattle.py_tree.specs.declared.expressions.Op.{Op}
use Rattle.py_tree.specs.declared.expressions.Op.TheVariants as op
use Rattle.py_value.specs.declared.value.Value.{Value}
use Rattle.py_value.specs.declared.value.Value.TheVariants as value
use Rattle.py_heap.specs.declared.heap.Object.{Object}
use Rattle.py_heap.specs.Dicts.{Pairs, value_under}
use Rattle.py_heap.specs.References.{value_refs}
use Rattle.py_machine.specs.Changes.{object_kind}
use Rattle.py_machine.specs.Errors.{recursion_error, not_ordered, not_searched, not_in_text}
use Rattle.py_meaning.specs.Acts.{Act, ◌>>=◌, pure, fail}
use Rattle.py_meaning.specs.Items.{keyed}
use Rattle.py_meaning.specs.Numbers.{as_number}
use Rattle.py_meaning.specs.Texts.{occurs}
use Rattle.py_meaning.specs.Compared.{Compares, is_one, items_equal, sequences_equal, with_equal, pairs_equal, dicts_equal, objects_equal, refs_equal, others_equal, equal_by, values_equal, elements_equal, pair_equal, order_holds, no_order, items_ordered, objects_ordered, refs_ordered, others_ordered, ordered_by, values_ordered, pair_ordered, not_in_this_text, not_searchable, in_text, in_items, in_object, in_ref, is_in, compared}
use Rattle.py_laws.specs.Same.{equal, refs, PairsMatch}
use Rattle.py_laws.proofs.Zipped.{zip_length, under_match}
use Rattle.py_laws.proofs.Respecting.{Setting, Paired, Respects, Equal, next, pure_respects, fail_respects, choose_respects}
use Rattle.py_laws.proofs.LeastActs.{Values, step_respects, object_at_respects, kind_of_respects}
use Rattle.py_laws.proofs.Slotted.{Kinds, lists, tuples, dicts, kinds, same_kind}
use Rattle.py_laws.proofs.Showing.{same_address}
use Rattle.py_laws.proofs.Operating.{same_number}
use Rattle.py_laws.proofs.Itemizing.{Held, Entries, keyed_respects, keys_there}

module _ (c : Setting) where
  abbrev Judges : Act Bool → Act Bool → Type 0
  Judges = Respects c Equal

  same_answer : (b d : Bool) → b ≡ d → Judges (pure b) (pure d)
  same_answer b d e = pure_respects c Equal b d e

  -- what compares pairs compares those that match alike
  abbrev ComparesAlike : Compares → Type 0
  ComparesAlike below = (v v' w w' : Value) → Values c v v' → Values c w w' → Judges (below v w) (below v' w')

  same_one : (v v' w w' : Value) → Values c v v' → Values c w w' → is_one v w ≡ is_one v' w'
  same_one _ _ _ _ (equal v n) (equal w m) = refl
  same_one _ _ _ _ (refs a b p) (refs x y q) = same_address c a b x y p q
  same_one _ _ _ _ (equal (value.Ref d) n) (refs x y q) = cc
  same_one _ _ _ _ (equal v n) (refs x y q) = refl
  same_one _ _ _ _ (refs a b p) (equal (value.Ref d) m) = cc
  same_one _ _ _ _ (refs a b p) (equal w m) = refl

  module _ (below : Compares) (alike : ComparesAlike below) where
    items_respect : (vs vs' ws ws' : List Value) → AllZip (Values c) vs vs' → AllZip (Values c) ws ws' → Judges (items_equal below vs ws) (items_equal below vs' ws')
    items_respect [] [] [] [] h k = same_answer _ _ refl
    items_respect [] [] (w ∷ ws) (w' ∷ ws') h k = same_answer _ _ refl
    items_respect (v ∷ vs) (v' ∷ vs') [] [] h k = same_answer _ _ refl
    items_respect (v ∷ vs) (v' ∷ vs') (w ∷ ws) (w' ∷ ws') h k =
        next c (alike v v' w w' h.0 k.0) λ b d e. choose_respects c Equal b d _ _ _ _ e (items_respect vs vs' ws ws' h.1 k.1) (same_answer _ _ refl)
    items_respect [] (v' ∷ vs') ws ws' h k = absurd h
    items_respect (v ∷ vs) [] ws ws' h k = absurd h
    items_respect [] [] [] (w' ∷ ws') h k = absurd k
    items_respect [] [] (w ∷ ws) [] h k = absurd k
    items_respect (v ∷ vs) (v' ∷ vs') [] (w' ∷ ws') h k = absurd k
    items_respect (v ∷ vs) (v' ∷ vs') (w ∷ ws) [] h k = absurd k

    sequences_respect : (vs vs' ws ws' : List Value) → AllZip (Values c) vs vs' → AllZip (Values c) ws ws' → Judges (sequences_equal below vs ws) (sequences_equal below vs' ws')
    sequences_respect vs vs' ws ws' h k =
        choose_respects c Equal (length vs == length ws) (length vs' == length ws') _ _ _ _ (ap₂ (λ (x y : ℕ). x == y) (zip_length (Values c) vs vs' h) (zip_length (Values c) ws ws' k))
        (items_respect vs vs' ws ws' h k) (same_answer _ _ refl)

    with_equal_respects : (v v' : Value) (o o' : Option Value) → Values c v v' → Held c o o' → Judges (with_equal below v o) (with_equal below v' o')
    with_equal_respects v v' (Some w) (Some w') h k = alike v v' w w' h k
    with_equal_respects v v' None None h k = same_answer _ _ refl
    with_equal_respects v v' (Some w) None h k = absurd k
    with_equal_respects v v' None (Some w') h k = absurd k

    pairs_respect : (vs vs' ws ws' : Pairs) → Entries c vs vs' → Entries c ws ws' → Judges (pairs_equal below vs ws) (pairs_equal below vs' ws')
    pairs_respect [] [] ws ws' h k = same_answer _ _ refl
    pairs_respect (v ∷ vs) (v' ∷ vs') ws ws' h k =
        next c (with_equal_respects v.1 v'.1 _ _ h.0.1 (subst (λ z. Held c (value_under ws v.0) (value_under ws' z)) h.0.0 (under_match (Paired c) ws ws' v.0 k))) λ b d e.
        choose_respects c Equal b d _ _ _ _ e (pairs_respect vs vs' ws ws' h.1 k) (same_answer _ _ refl)
    pairs_respect [] (v' ∷ vs') ws ws' h k = absurd h
    pairs_respect (v ∷ vs) [] ws ws' h k = absurd h

    dicts_respect : (vs vs' ws ws' : Pairs) → Entries c vs vs' → Entries c ws ws' → Judges (dicts_equal below vs ws) (dicts_equal below vs' ws')
    dicts_respect vs vs' ws ws' h k =
        choose_respects c Equal (length vs == length ws) (length vs' == length ws') _ _ _ _ (ap₂ (λ (x y : ℕ). x == y) (zip_length (PairsMatch (Paired c)) vs vs' h) (zip_length (PairsMatch (Paired c)) ws ws' k))
        (pairs_respect vs vs' ws ws' h k) (same_answer _ _ refl)

    objects_respect : (a a' b b' : ℕ) (o o' u u' : Option Object) → Paired c a a' → Paired c b b' → Kinds (Paired c) o o' → Kinds (Paired c) u u'
        → Judges (objects_equal below a b o u) (objects_equal below a' b' o' u')
    objects_respect a a' b b' _ _ _ _ p q (lists vs vs' h) (lists ws ws' k) = sequences_respect vs vs' ws ws' h k
    objects_respect a a' b b' _ _ _ _ p q (tuples vs vs' h) (tuples ws ws' k) = sequences_respect vs vs' ws ws' h k
    objects_respect a a' b b' _ _ _ _ p q (dicts vs vs' h) (dicts ws ws' k) = dicts_respect vs vs' ws ws' h k
    objects_respect a a' b b' o o' u u' p q _ _ = same_answer _ _ (same_address c a a' b b' p q)

    refs_respect : (a a' b b' : ℕ) → Paired c a a' → Paired c b b' → Judges (refs_equal below a b) (refs_equal below a' b')
    unfolding refs_equal
    refs_respect a a' b b' p q =
        next c (object_at_respects c a a' p) λ o o' h.
        next c (object_at_respects c b b' q) λ u u' k.
        objects_respect a a' b b' o o' u u' p q (kinds c o o' h) (kinds c u u' k)

    plain_others : (v w : Value) → value_refs v ≡ [] → value_refs w ≡ [] → Judges (others_equal below v w) (others_equal below v w)
    plain_others (value.Ref a) w n m = cc
    plain_others v (value.Ref b) n m = cc
    plain_others v w n m = same_answer _ _ refl

    value_and_ref : (v : Value) (a b : ℕ) → value_refs v ≡ [] → Judges (others_equal below v (value.Ref a)) (others_equal below v (value.Ref b))
    value_and_ref (value.Ref d) a b n = cc
    value_and_ref v a b n = same_answer _ _ refl

    ref_and_value : (a b : ℕ) (w : Value) → value_refs w ≡ [] → Judges (others_equal below (value.Ref a) w) (others_equal below (value.Ref b) w)
    ref_and_value a b (value.Ref d) n = cc
    ref_and_value a b w n = same_answer _ _ refl

    others_respect : (v v' w w' : Value) → Values c v v' → Values c w w' → Judges (others_equal below v w) (others_equal below v' w')
    others_respect _ _ _ _ (equal v n) (equal w m) = plain_others v w n m
    others_respect _ _ _ _ (refs a b p) (refs x y q) = refs_respect a b x y p q
    others_respect _ _ _ _ (equal v n) (refs x y q) = value_and_ref v x y n
    others_respect _ _ _ _ (refs a b p) (equal w m) = ref_and_value a b w m

    by_numbers : (a b : Option ℤ) (v v' w w' : Value) → Values c v v' → Values c w w' → Judges (equal_by below a b v w) (equal_by below a b v' w')
    by_numbers (Some a) (Some b) v v' w w' h k = same_answer _ _ refl
    by_numbers None None v v' w w' h k = others_respect v v' w w' h k
    by_numbers (Some a) None v v' w w' h k = same_answer _ _ refl
    by_numbers None (Some b) v v' w w' h k = same_answer _ _ refl

    pub values_respect : ComparesAlike (values_equal below)
    unfolding values_equal
    values_respect v v' w w' h k =
        subst (λ a. Judges (equal_by below (as_number v) (as_number w) v w) (equal_by below a (as_number w') v' w')) (same_number c v v' h)
        (subst (λ b. Judges (equal_by below (as_number v) (as_number w) v w) (equal_by below (as_number v) b v' w')) (same_number c w w' k) (by_numbers (as_number v) (as_number w) v v' w w' h k))

    elements_respect : ComparesAlike (elements_equal below)
    elements_respect v v' w w' h k = choose_respects c Equal (is_one v w) (is_one v' w') _ _ _ _ (same_one v v' w w' h k) (same_answer _ _ refl) (values_respect v v' w w' h k)

  pair_respects : (n : ℕ) → ComparesAlike (pair_equal n)
  unfolding pair_equal
  pair_respects zero v v' w w' h k = fail_respects c Equal recursion_error recursion_error refl
  pair_respects (suc n) v v' w w' h k = next c (step_respects c) λ _ _ _. elements_respect (pair_equal n) (pair_respects n) v v' w w' h k

  -- ---- order

  no_order_respects : (o : Op) (v v' w w' : Value) → Values c v v' → Values c w w' → Judges (no_order o v w) (no_order o v' w')
  unfolding no_order
  no_order_respects o v v' w w' h k =
      next c (kind_of_respects c v v' h) λ i j e.
      next c (kind_of_respects c w w' k) λ l m f.
      fail_respects c Equal (not_ordered o i l) (not_ordered o j m) (ap₂ (λ s t. not_ordered o s t) e f)

  module _ (same : Compares) (ordered : Op → Compares) (alike : ComparesAlike same) (orders : (o : Op) → ComparesAlike (ordered o)) where
    lengths_ordered : (o : Op) (n n' m m' : ℕ) → n ≡ n' → m ≡ m' → Judges (pure (order_holds o (nat_cmp n m))) (pure (order_holds o (nat_cmp n' m')))
    lengths_ordered o n n' m m' e f = same_answer _ _ (ap₂ (λ x y. order_holds o (nat_cmp x y)) e f)

    items_in_order : (o : Op) (vs vs' ws ws' : List Value) → AllZip (Values c) vs vs' → AllZip (Values c) ws ws' → Judges (items_ordered same ordered o vs ws) (items_ordered same ordered o vs' ws')
    items_in_order o (v ∷ vs) (v' ∷ vs') (w ∷ ws) (w' ∷ ws') h k =
        next c (alike v v' w w' h.0 k.0) λ b d e. choose_respects c Equal b d _ _ _ _ e (items_in_order o vs vs' ws ws' h.1 k.1) (orders o v v' w w' h.0 k.0)
    items_in_order o [] [] ws ws' h k = lengths_ordered o 0 0 (length ws) (length ws') refl (zip_length (Values c) ws ws' k)
    items_in_order o (v ∷ vs) (v' ∷ vs') [] [] h k = lengths_ordered o (length (v ∷ vs)) (length (v' ∷ vs')) 0 0 (zip_length (Values c) (v ∷ vs) (v' ∷ vs') h) refl
    items_in_order o [] (v' ∷ vs') ws ws' h k = absurd h
    items_in_order o (v ∷ vs) [] ws ws' h k = absurd h
    items_in_order o (v ∷ vs) (v' ∷ vs') [] (w' ∷ ws') h k = absurd k
    items_in_order o (v ∷ vs) (v' ∷ vs') (w ∷ ws) [] h k = absurd k

    objects_in_order : (o : Op) (a a' b b' : ℕ) (s s' u u' : Option Object) → Paired c a a' → Paired c b b' → Kinds (Paired c) s s' → Kinds (Paired c) u u'
        → Judges (objects_ordered same ordered o a b s u) (objects_ordered same ordered o a' b' s' u')
    objects_in_order o a a' b b' _ _ _ _ p q (lists vs vs' h) (lists ws ws' k) = items_in_order o vs vs' ws ws' h k
    objects_in_order o a a' b b' _ _ _ _ p q (tuples vs vs' h) (tuples ws ws' k) = items_in_order o vs vs' ws ws' h k
    objects_in_order o a a' b b' s s' u u' p q _ _ = no_order_respects o (value.Ref a) (value.Ref a') (value.Ref b) (value.Ref b') (refs a a' p) (refs b b' q)

    refs_in_order : (o : Op) (a a' b b' : ℕ) → Paired c a a' → Paired c b b' → Judges (refs_ordered same ordered o a b) (refs_ordered same ordered o a' b')
    unfolding refs_ordered
    refs_in_order o a a' b b' p q =
        next c (object_at_respects c a a' p) λ s s' h.
        next c (object_at_respects c b b' q) λ u u' k.
        objects_in_order o a a' b b' s s' u u' p q (kinds c s s' h) (kinds c u u' k)

    plain_in_order : (o : Op) (v w : Value) → value_refs v ≡ [] → value_refs w ≡ [] → Judges (others_ordered same ordered o v w) (others_ordered same ordered o v w)
    plain_in_order o (value.Text text) (value.Text other) n m = same_answer _ _ refl
    plain_in_order o (value.Ref a) w n m = cc
    plain_in_order o v w n m = no_order_respects o v v w w (equal v n) (equal w m)

    value_before_ref : (o : Op) (v : Value) (a b : ℕ) → value_refs v ≡ [] → Paired c a b → Judges (others_ordered same ordered o v (value.Ref a)) (others_ordered same ordered o v (value.Ref b))
    value_before_ref o (value.Ref d) a b n p = cc
    value_before_ref o v a b n p = no_order_respects o v v (value.Ref a) (value.Ref b) (equal v n) (refs a b p)

    ref_before_value : (o : Op) (a b : ℕ) (w : Value) → Paired c a b → value_refs w ≡ [] → Judges (others_ordered same ordered o (value.Ref a) w) (others_ordered same ordered o (value.Ref b) w)
    ref_before_value o a b (value.Ref d) p n = cc
    ref_before_value o a b w p n = no_order_respects o (value.Ref a) (value.Ref b) w w (refs a b p) (equal w n)

    others_in_order : (o : Op) (v v' w w' : Value) → Values c v v' → Values c w w' → Judges (others_ordered same ordered o v w) (others_ordered same ordered o v' w')
    others_in_order o _ _ _ _ (equal v n) (equal w m) = plain_in_order o v w n m
    others_in_order o _ _ _ _ (refs a b p) (refs x y q) = refs_in_order o a b x y p q
    others_in_order o _ _ _ _ (equal v n) (refs x y q) = value_before_ref o v x y n q
    others_in_order o _ _ _ _ (refs a b p) (equal w m) = ref_before_value o a b w p m

    order_by_numbers : (o : Op) (a b : Option ℤ) (v v' w w' : Value) → Values c v v' → Values c w w' → Judges (ordered_by same ordered o a b v w) (ordered_by same ordered o a b v' w')
    order_by_numbers o (Some a) (Some b) v v' w w' h k = same_answer _ _ refl
    order_by_numbers o None b v v' w w' h k = others_in_order o v v' w w' h k
    order_by_numbers o (Some a) None v v' w w' h k = others_in_order o v v' w w' h k

    pub values_in_order : (o : Op) → ComparesAlike (values_ordered same ordered o)
    unfolding values_ordered
    values_in_order o v v' w w' h k =
        subst (λ a. Judges (ordered_by same ordered o (as_number v) (as_number w) v w) (ordered_by same ordered o a (as_number w') v' w')) (same_number c v v' h)
        (subst (λ b. Judges (ordered_by same ordered o (as_number v) (as_number w) v w) (ordered_by same ordered o (as_number v) b v' w')) (same_number c w w' k) (order_by_numbers o (as_number v) (as_number w) v v' w w' h k))

  pair_in_order : (n : ℕ) (o : Op) → ComparesAlike (pair_ordered n o)
  unfolding pair_ordered
  pair_in_order zero o v v' w w' h k = fail_respects c Equal recursion_error recursion_error refl
  pair_in_order (suc n) o v v' w w' h k = values_in_order (pair_equal n) (pair_ordered n) (pair_respects n) (pair_in_order n) o v v' w w' h k

  in_order : (n : ℕ) (o : Op) → ComparesAlike (values_ordered (pair_equal n) (pair_ordered n) o)
  in_order n o = values_in_order (pair_equal n) (pair_ordered n) (pair_respects n) (pair_in_order n) o

  -- ---- `in`

  not_in_this_text_respects : (v w : Value) → Values c v w → Judges (not_in_this_text v) (not_in_this_text w)
  unfolding not_in_this_text
  not_in_this_text_respects v w h = next c (kind_of_respects c v w h) λ i j e. fail_respects c Equal (not_in_text i) (not_in_text j) (ap (λ k. not_in_text k) e)

  not_searchable_respects : (v w : Value) → Values c v w → Judges (not_searchable v) (not_searchable w)
  unfolding not_searchable
  not_searchable_respects v w h = next c (kind_of_respects c v w h) λ i j e. fail_respects c Equal (not_searched i) (not_searched j) (ap (λ k. not_searched k) e)

  plain_in_text : (v : Value) (text : List ℕ) → value_refs v ≡ [] → Judges (in_text v text) (in_text v text)
  plain_in_text (value.Text part) text n = same_answer (occurs part text) (occurs part text) refl
  plain_in_text v text n = not_in_this_text_respects v v (equal v n)

  in_text_respects : (v w : Value) (text : List ℕ) → Values c v w → Judges (in_text v text) (in_text w text)
  in_text_respects _ _ text (equal v n) = plain_in_text v text n
  in_text_respects _ _ text (refs a b p) = not_in_this_text_respects (value.Ref a) (value.Ref b) (refs a b p)

  not_searched_at : (o u : Option Object) → Kinds (Paired c) o u → Judges (fail (not_searched (object_kind o))) (fail (not_searched (object_kind u)))
  not_searched_at o u h = fail_respects c Equal _ _ (ap (λ k. not_searched k) (same_kind (Paired c) o u h))

  module _ (same : Compares) (alike : ComparesAlike same) where
    in_items_respect : (v v' : Value) (ws ws' : List Value) → Values c v v' → AllZip (Values c) ws ws' → Judges (in_items same v ws) (in_items same v' ws')
    in_items_respect v v' [] [] h k = same_answer _ _ refl
    in_items_respect v v' (w ∷ ws) (w' ∷ ws') h k =
        next c (alike v v' w w' h k.0) λ b d e. choose_respects c Equal b d _ _ _ _ e (same_answer _ _ refl) (in_items_respect v v' ws ws' h k.1)
    in_items_respect v v' [] (w' ∷ ws') h k = absurd k
    in_items_respect v v' (w ∷ ws) [] h k = absurd k

    in_dict_respects : (v v' : Value) (ws ws' : Pairs) → Values c v v' → Entries c ws ws'
        → Judges (keyed v >>= (λ key. pure (is_some (value_under ws key)))) (keyed v' >>= (λ key. pure (is_some (value_under ws' key))))
    in_dict_respects v v' ws ws' h k =
        next c (keyed_respects c v v' h) λ key other e.
        same_answer _ _ (subst (λ z. is_some (value_under ws key) ≡ is_some (value_under ws' z)) e (keys_there c ws ws' key k))

    in_object_respects : (v v' : Value) (o u : Option Object) → Values c v v' → Kinds (Paired c) o u → Judges (in_object same v o) (in_object same v' u)
    in_object_respects v v' _ _ h (lists ws ws' k) = in_items_respect v v' ws ws' h k
    in_object_respects v v' _ _ h (tuples ws ws' k) = in_items_respect v v' ws ws' h k
    in_object_respects v v' _ _ h (dicts ws ws' k) = in_dict_respects v v' ws ws' h k
    in_object_respects v v' o u h s = not_searched_at o u s

    in_ref_respects : (v v' : Value) (a b : ℕ) → Values c v v' → Paired c a b → Judges (in_ref same v a) (in_ref same v' b)
    unfolding in_ref
    in_ref_respects v v' a b h p = next c (object_at_respects c a b p) λ o u s. in_object_respects v v' o u h (kinds c o u s)

    plain_is_in : (v v' w : Value) → Values c v v' → value_refs w ≡ [] → Judges (is_in same v w) (is_in same v' w)
    plain_is_in v v' (value.Text text) h n = in_text_respects v v' text h
    plain_is_in v v' (value.Ref at) h n = cc
    plain_is_in v v' w h n = not_searchable_respects w w (equal w n)

    is_in_respects : ComparesAlike (is_in same)
    is_in_respects v v' _ _ h (equal w n) = plain_is_in v v' w h n
    is_in_respects v v' _ _ h (refs a b p) = in_ref_respects v v' a b h p

  -- a comparison
  pub compared_respects : (n : ℕ) (o : Op) → ComparesAlike (compared n o)
  compared_respects n op.Equal v v' w w' h k = values_respect (pair_equal n) (pair_respects n) v v' w w' h k
  compared_respects n op.NotEqual v v' w w' h k = next c (values_respect (pair_equal n) (pair_respects n) v v' w w' h k) λ b d e. same_answer _ _ (ap (λ x. not x) e)
  compared_respects n op.In v v' w w' h k = is_in_respects (pair_equal n) (pair_respects n) v v' w w' h k
  compared_respects n op.NotIn v v' w w' h k = next c (is_in_respects (pair_equal n) (pair_respects n) v v' w w' h k) λ b d e. same_answer _ _ (ap (λ x. not x) e)
  compared_respects n op.Less v v' w w' h k = in_order n op.Less v v' w w' h k
  compared_respects n op.AtMost v v' w w' h k = in_order n op.AtMost v v' w w' h k
  compared_respects n op.More v v' w w' h k = in_order n op.More v v' w w' h k
  compared_respects n op.AtLeast v v' w w' h k = in_order n op.AtLeast v v' w w' h k
  compared_respects n op.Plus v v' w w' h k = in_order n op.Plus v v' w w' h k
  compared_respects n op.Minus v v' w w' h k = in_order n op.Minus v v' w w' h k
  compared_respects n op.Times v v' w w' h k = in_order n op.Times v v' w w' h k
  compared_respects n op.Floor v v' w w' h k = in_order n op.Floor v v' w w' h k
  compared_respects n op.Mod v v' w w' h k = in_order n op.Mod v v' w w' h k
