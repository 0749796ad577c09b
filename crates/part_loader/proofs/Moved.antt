-- Lists that are made item by item, and dicts pair by pair.
use Rattle.std.proofs.Common.{◌≡◌, ℕ, zero, suc, ◌+◌, ◌<◌, false, List, [], ◌∷◌, ◌++◌, length, get_or, take, map, Some, refl, sym, ap, ◌∙◌, rules}
use Rattle.std.specs.Prelude.{slice_get}
use Rattle.std.specs.List.{IsDistinct, AllByRecursion}
use Rattle.std.specs.Cmp.{IsEquivalence}
use Rattle.std.specs.Cmp.Rules.{comparing}
use Rattle.std.proofs.lemmas.List.{map-append, take_more}
use Rattle.std.proofs.lemmas.Option.{none-some, same_Some, slice_get_within, get_or_from_slice_get}
use Rattle.py_value.specs.declared.key.Key.{Key}
use Rattle.py_value.specs.declared.value.Value.{Value}
use Rattle.py_value.specs.Keys.{same_key}
use Rattle.py_heap.specs.Dicts.{Pairs, HasNoKeyTwice, with_pair}
use Rattle.part_bytes.specs.Parts.{numbered, numbered_pair}

-- ---- one more

front_more : {A B : Type 0} (f : A → B) (xs : List A) (i : ℕ) (x : A) → i < length xs → x ≡ get_or xs i x → map f (take i xs) ++ f x ∷ [] ≡ map f (take (i + 1) xs)
front_more {A = A} f xs i x l is = sym (ap (map f) (take_more xs i x l) ∙ (map-append f (take i xs) (get_or xs i x ∷ []) ∙ ap (λ (y : A). map f (take i xs) ++ f y ∷ []) (sym is)))

pub map_more : {A B : Type 0} (f : A → B) (xs : List A) (i : ℕ) (x : A) (out more : List B) (y : B) → i < length xs → x ≡ get_or xs i x → out ≡ map f (take i xs) → y ≡ f x → more ≡ out ++ y ∷ [] → more ≡ map f (take (i + 1) xs)
map_more {B = B} f xs i x out more y l is e k m = m ∙ (ap (λ (zs : List B). zs ++ y ∷ []) e ∙ (ap (λ (z : B). map f (take i xs) ++ z ∷ []) k ∙ front_more f xs i x l is))

-- ---- pairs

equal_keys : IsEquivalence same_key
equal_keys = search (comparing, rules)

apart_at : (key : Key) (pairs : Pairs) (i : ℕ) (k : Key) (v : Value) → AllByRecursion (λ other. same_key key other ≡ false) (map (λ pair. pair.0) pairs) → slice_get pairs i ≡ Some (k, v) → same_key key k ≡ false
apart_at key [] i k v a e = absurd (none-some (k, v) e)
apart_at key (p ∷ pairs) zero k v a e = ap (λ (q : Key × Value). same_key key q.0) (sym (same_Some p (k, v) e)) ∙ a.0
apart_at key (p ∷ pairs) (suc i) k v a e = apart_at key pairs i k v a.1 e

module _ (f : ℕ → ℕ) where
  fresh_at : (pairs : Pairs) (i : ℕ) (k : Key) (v w : Value) → HasNoKeyTwice pairs → slice_get pairs i ≡ Some (k, v)
      → with_pair (map (numbered_pair f) (take i pairs)) k w ≡ map (numbered_pair f) (take i pairs) ++ (k, w) ∷ []
  unfolding IsDistinct
  fresh_at [] i k v w d e = absurd (none-some (k, v) e)
  fresh_at (p ∷ pairs) zero k v w d e = refl
  fresh_at (p ∷ pairs) (suc i) k v w d e =
      let other : same_key k p.0 ≡ false = equal_keys.symm k p.0 ∙ apart_at p.0 pairs i k v d.0 e in
      rw other (ap (λ (rest : Pairs). numbered_pair f p ∷ rest) (fresh_at pairs i k v w d.1 e))

  pub pair_more : (pairs out more : Pairs) (i : ℕ) (k key : Key) (v w : Value) → HasNoKeyTwice pairs → slice_get pairs i ≡ Some (k, v) → out ≡ map (numbered_pair f) (take i pairs)
      → key ≡ k → w ≡ numbered f v → more ≡ with_pair out key w → more ≡ map (numbered_pair f) (take (i + 1) pairs)
  pair_more pairs out more i k key v w d e o same moved put =
      let pair : Key × Value = (k, v) in
      let new : more ≡ with_pair (map (numbered_pair f) (take i pairs)) k (numbered f v) =
      put ∙ (ap (λ (ps : Pairs). with_pair ps key w) o ∙ (ap (λ (q : Key). with_pair (map (numbered_pair f) (take i pairs)) q w) same ∙ ap (with_pair (map (numbered_pair f) (take i pairs)) k) moved)) in
      new ∙ (fresh_at pairs i k v (numbered f v) d e ∙ front_more (numbered_pair f) pairs i pair (slice_get_within pairs i pair e) (sym (get_or_from_slice_get pairs i pair pair e)))
