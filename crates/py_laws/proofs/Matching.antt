-- What matches by some pairs matches by more, by the turned ones, by such as lead on, and by those that pair what it names with
-- itself.
use Rattle.std.proofs.Common.{ℕ, List, [], ◌∷◌, Option, Some, None, arith, refl, sym, ◌∙◌}
use Rattle.std.specs.Prelude.{Contains}
use Rattle.std.specs.List.{AllZip, flat_map}
use Rattle.std.proofs.lemmas.List.Elements.{Contains-append_left, Contains-append_right}
use Rattle.py_value.specs.declared.key.Key.{Key}
use Rattle.py_value.specs.declared.value.Value.{Value}
use Rattle.py_value.specs.declared.value.Value.TheVariants as value
use Rattle.py_heap.specs.declared.heap.Object.{Object}
use Rattle.py_heap.specs.declared.heap.Object.TheVariants as object
use Rattle.py_heap.specs.References.{value_refs, pair_refs, object_refs}
use Rattle.py_heap.specs.Reaching.{held_refs}
use Rattle.py_laws.specs.Same.{ValuesMatch, equal, refs, PairsMatch, ObjectsMatch, BothOrNone, Both}

-- ---- lists item by item, and what two may hold

module _ {A : Type 0} where
  pub AllZip-more : (R S : A → A → Type 0) → ((a b : A) → R a b → S a b) → (xs ys : List A) → AllZip R xs ys → AllZip S xs ys
  AllZip-more R S k [] [] h = tt
  AllZip-more R S k (x ∷ xs) (y ∷ ys) h = (k x y h.0, AllZip-more R S k xs ys h.1)
  AllZip-more R S k [] (y ∷ ys) h = absurd h
  AllZip-more R S k (x ∷ xs) [] h = absurd h

  pub AllZip-turned : (R S : A → A → Type 0) → ((a b : A) → R a b → S b a) → (xs ys : List A) → AllZip R xs ys → AllZip S ys xs
  AllZip-turned R S k [] [] h = tt
  AllZip-turned R S k (x ∷ xs) (y ∷ ys) h = (k x y h.0, AllZip-turned R S k xs ys h.1)
  AllZip-turned R S k [] (y ∷ ys) h = absurd h
  AllZip-turned R S k (x ∷ xs) [] h = absurd h

  pub AllZip-through : (R S T : A → A → Type 0) → ((a b c : A) → R a b → S b c → T a c) → (xs ys zs : List A) → AllZip R xs ys → AllZip S ys zs → AllZip T xs zs
  AllZip-through R S T k [] [] [] h g = tt
  AllZip-through R S T k (x ∷ xs) (y ∷ ys) (z ∷ zs) h g = (k x y z h.0 g.0, AllZip-through R S T k xs ys zs h.1 g.1)
  AllZip-through R S T k [] (y ∷ ys) zs h g = absurd h
  AllZip-through R S T k (x ∷ xs) [] zs h g = absurd h
  AllZip-through R S T k [] [] (z ∷ zs) h g = absurd g
  AllZip-through R S T k (x ∷ xs) (y ∷ ys) [] h g = absurd g

  pub Both-more : (R S : A → A → Type 0) → ((a b : A) → R a b → S a b) → (o u : Option A) → Both R o u → Both S o u
  Both-more R S k (Some a) (Some b) h = k a b h
  Both-more R S k (Some a) None h = absurd h
  Both-more R S k None u h = absurd h

  pub Both-turned : (R S : A → A → Type 0) → ((a b : A) → R a b → S b a) → (o u : Option A) → Both R o u → Both S u o
  Both-turned R S k (Some a) (Some b) h = k a b h
  Both-turned R S k (Some a) None h = absurd h
  Both-turned R S k None u h = absurd h

  pub Both-through : (R S T : A → A → Type 0) → ((a b c : A) → R a b → S b c → T a c) → (o u v : Option A) → Both R o u → Both S u v → Both T o v
  Both-through R S T k (Some a) (Some b) (Some c) h g = k a b c h g
  Both-through R S T k (Some a) (Some b) None h g = absurd g
  Both-through R S T k (Some a) None v h g = absurd h
  Both-through R S T k None u v h g = absurd h

  pub BothOrNone-more : (R S : A → A → Type 0) → ((a b : A) → R a b → S a b) → (o u : Option A) → BothOrNone R o u → BothOrNone S o u
  BothOrNone-more R S k (Some a) (Some b) h = k a b h
  BothOrNone-more R S k None None h = tt
  BothOrNone-more R S k (Some a) None h = absurd h
  BothOrNone-more R S k None (Some b) h = absurd h

  pub BothOrNone-turned : (R S : A → A → Type 0) → ((a b : A) → R a b → S b a) → (o u : Option A) → BothOrNone R o u → BothOrNone S u o
  BothOrNone-turned R S k (Some a) (Some b) h = k a b h
  BothOrNone-turned R S k None None h = tt
  BothOrNone-turned R S k (Some a) None h = absurd h
  BothOrNone-turned R S k None (Some b) h = absurd h

  pub BothOrNone-through : (R S T : A → A → Type 0) → ((a b c : A) → R a b → S b c → T a c) → (o u v : Option A) → BothOrNone R o u → BothOrNone S u v → BothOrNone T o v
  BothOrNone-through R S T k (Some a) (Some b) (Some c) h g = k a b c h g
  BothOrNone-through R S T k None None None h g = tt
  BothOrNone-through R S T k (Some a) (Some b) None h g = absurd g
  BothOrNone-through R S T k None None (Some c) h g = absurd g
  BothOrNone-through R S T k (Some a) None v h g = absurd h
  BothOrNone-through R S T k None (Some b) v h g = absurd h

-- ---- values and objects

abbrev pub IsWithin : (ℕ → ℕ → Type 0) → (ℕ → ℕ → Type 0) → Type 0
IsWithin ps qs = (a b : ℕ) → ps a b → qs a b

abbrev pub Turned : (ℕ → ℕ → Type 0) → ℕ → ℕ → Type 0
Turned ps a b = ps b a

-- pairs with an address between them
abbrev pub Through : (ℕ → ℕ → Type 0) → (ℕ → ℕ → Type 0) → ℕ → ℕ → Type 0
Through ps qs a c = (b : ℕ) × ps a b × qs b c

pub more_value : (ps qs : ℕ → ℕ → Type 0) → IsWithin ps qs → (v w : Value) → ValuesMatch ps v w → ValuesMatch qs v w
more_value ps qs k _ _ (equal v n) = equal v n
more_value ps qs k _ _ (refs a b p) = refs a b (k a b p)

pub more_object : (ps qs : ℕ → ℕ → Type 0) → IsWithin ps qs → (o u : Object) → ObjectsMatch ps o u → ObjectsMatch qs o u
more_object ps qs k (object.List items) (object.List others) h = AllZip-more (ValuesMatch ps) (ValuesMatch qs) (more_value ps qs k) items others h
more_object ps qs k (object.Tuple items) (object.Tuple others) h = AllZip-more (ValuesMatch ps) (ValuesMatch qs) (more_value ps qs k) items others h
more_object ps qs k (object.Dict pairs) (object.Dict others) h = AllZip-more (PairsMatch ps) (PairsMatch qs) (λ p q m. (m.0, more_value ps qs k p.1 q.1 m.1)) pairs others h
more_object ps qs k (object.Function def) (object.Function other) h = h
more_object ps qs k (object.Handle name uses) (object.Handle other others) h = h
more_object ps qs k _ _ h = absurd h

pub turned_value : (ps : ℕ → ℕ → Type 0) (v w : Value) → ValuesMatch ps v w → ValuesMatch (Turned ps) w v
turned_value ps _ _ (equal v n) = equal v n
turned_value ps _ _ (refs a b p) = refs b a p

pub turned_object : (ps : ℕ → ℕ → Type 0) (o u : Object) → ObjectsMatch ps o u → ObjectsMatch (Turned ps) u o
turned_object ps (object.List items) (object.List others) h = AllZip-turned (ValuesMatch ps) (ValuesMatch (Turned ps)) (turned_value ps) items others h
turned_object ps (object.Tuple items) (object.Tuple others) h = AllZip-turned (ValuesMatch ps) (ValuesMatch (Turned ps)) (turned_value ps) items others h
turned_object ps (object.Dict pairs) (object.Dict others) h = AllZip-turned (PairsMatch ps) (PairsMatch (Turned ps)) (λ p q m. (sym m.0, turned_value ps p.1 q.1 m.1)) pairs others h
turned_object ps (object.Function def) (object.Function other) h = sym h
turned_object ps (object.Handle name uses) (object.Handle other others) h = (sym h.0, sym h.1)
turned_object ps _ _ h = absurd h

pub value_through : (ps qs : ℕ → ℕ → Type 0) (u v w : Value) → ValuesMatch ps u v → ValuesMatch qs v w → ValuesMatch (Through ps qs) u w
value_through ps qs _ _ w (equal v n) (equal _ m) = equal v n
value_through ps qs _ _ _ (equal _ n) (refs a b q) = cc
value_through ps qs _ _ _ (refs a b p) (refs _ c q) = refs a c (b, p, q)
value_through ps qs _ _ _ (refs a b p) (equal _ n) = cc

pub object_through : (ps qs : ℕ → ℕ → Type 0) (o u w : Object) → ObjectsMatch ps o u → ObjectsMatch qs u w → ObjectsMatch (Through ps qs) o w
object_through ps qs (object.List vs) (object.List ws) (object.List xs) h g =
    AllZip-through (ValuesMatch ps) (ValuesMatch qs) (ValuesMatch (Through ps qs)) (value_through ps qs) vs ws xs h g
object_through ps qs (object.Tuple vs) (object.Tuple ws) (object.Tuple xs) h g =
    AllZip-through (ValuesMatch ps) (ValuesMatch qs) (ValuesMatch (Through ps qs)) (value_through ps qs) vs ws xs h g
object_through ps qs (object.Dict vs) (object.Dict ws) (object.Dict xs) h g =
    AllZip-through (PairsMatch ps) (PairsMatch qs) (PairsMatch (Through ps qs)) (λ p q r m n. (m.0 ∙ n.0, value_through ps qs p.1 q.1 r.1 m.1 n.1)) vs ws xs h g
object_through ps qs (object.Function def) (object.Function other) (object.Function third) h g = h ∙ g
object_through ps qs (object.Handle name uses) (object.Handle other others) (object.Handle third last) h g = (h.0 ∙ g.0, h.1 ∙ g.1)
object_through ps qs (object.List vs) (object.List ws) _ h g = absurd g
object_through ps qs (object.Tuple vs) (object.Tuple ws) _ h g = absurd g
object_through ps qs (object.Dict vs) (object.Dict ws) _ h g = absurd g
object_through ps qs (object.Function def) (object.Function other) _ h g = absurd g
object_through ps qs (object.Handle name uses) (object.Handle other others) _ h g = absurd g
object_through ps qs _ _ _ h g = absurd h

-- ---- with itself, if each address in it is paired with itself

module _ (ps : ℕ → ℕ → Type 0) where
  pub value_itself : (v : Value) → ((a : ℕ) → Contains (value_refs v) a → ps a a) → ValuesMatch ps v v
  value_itself (value.Ref a) k = refs a a (k a (0, omega arith, refl))
  value_itself value.Nothing k = equal value.Nothing refl
  value_itself (value.Bool truth) k = equal (value.Bool truth) refl
  value_itself (value.Number number) k = equal (value.Number number) refl
  value_itself (value.Text text) k = equal (value.Text text) refl
  value_itself (value.Builtin builtin) k = equal (value.Builtin builtin) refl

  items_themselves : (vs : List Value) → ((a : ℕ) → Contains (flat_map value_refs vs) a → ps a a) → AllZip (ValuesMatch ps) vs vs
  items_themselves [] k = tt
  items_themselves (v ∷ vs) k =
      (value_itself v (λ a c. k a (Contains-append_left (value_refs v) (flat_map value_refs vs) a c)), items_themselves vs (λ a c. k a (Contains-append_right (value_refs v) (flat_map value_refs vs) a c)))

  pairs_themselves : (vs : List (Key × Value)) → ((a : ℕ) → Contains (flat_map pair_refs vs) a → ps a a) → AllZip (PairsMatch ps) vs vs
  pairs_themselves [] k = tt
  pairs_themselves (v ∷ vs) k = (
    (refl, value_itself v.1 (λ a c. k a (Contains-append_left (pair_refs v) (flat_map pair_refs vs) a c))),
    pairs_themselves vs (λ a c. k a (Contains-append_right (pair_refs v) (flat_map pair_refs vs) a c)),
  )

  pub object_itself : (o : Object) → ((a : ℕ) → Contains (object_refs o) a → ps a a) → ObjectsMatch ps o o
  object_itself (object.List items) k = items_themselves items k
  object_itself (object.Tuple items) k = items_themselves items k
  object_itself (object.Dict pairs) k = pairs_themselves pairs k
  object_itself (object.Function def) k = refl
  object_itself (object.Handle name uses) k = (refl, refl)

  pub held_itself : (o : Option Value) → ((a : ℕ) → Contains (held_refs value_refs o) a → ps a a) → BothOrNone (ValuesMatch ps) o o
  held_itself None k = tt
  held_itself (Some v) k = value_itself v k
