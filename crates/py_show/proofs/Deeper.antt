-- A level with one left is made of the one below; the pairs of a dict one by one.
use Rattle.std.proofs.Common.{◌≡◌, ℕ, zero, suc, ◌+◌, ◌-◌, ◌<◌, List, ◌∷◌, drop, Some, refl, ap, ◌∙◌, arith}
use Rattle.std.specs.Prelude.{slice_get, codes}
use Rattle.std.proofs.lemmas.List.{drop_more}
use Rattle.std.proofs.lemmas.Option.{slice_get_within, get_or_from_slice_get}
use Rattle.py_value.specs.declared.key.Key.{Key}
use Rattle.py_heap.specs.Dicts.{Pairs}
use Rattle.py_show.specs.Limits.{Limit}
use Rattle.py_value.specs.declared.value.Value.{Value}
use Rattle.py_heap.specs.declared.state.State.{State}
use Rattle.py_meaning.specs.Meaning.{level}
use Rattle.py_show.specs.OnState.{Puts, ◌>>◌, puts, pair_shown, more_pairs}

pub deeper : {X : Type 0} (f : ℕ → X) (n : ℕ) → 0 < n → f n ≡ f (suc (n - 1))
deeper f n some = let e : n ≡ suc (n - 1) = omega arith in ap f e

-- the levels that are left at a level
pub level-left : (n : ℕ) → (level n).left ≡ n
unfolding level
level-left zero = refl
level-left (suc n) = refl

-- the list from an index on
pub dropped : {A : Type 0} (xs : List A) (i : ℕ) (x : A) → slice_get xs i ≡ Some x → drop i xs ≡ x ∷ drop (i + 1) xs
dropped xs i x h = drop_more xs i x (slice_get_within xs i x h) ∙ ap (λ z. z ∷ drop (i + 1) xs) (get_or_from_slice_get xs i x x h)

-- one pair more of a dict
pub next_pair : (state : State) (s : List ℕ → Value → Puts) (path : List ℕ) (pairs : Pairs) (i : ℕ) (pair : Key × Value) (text : Limit) (steps : ℕ) → slice_get pairs i ≡ Some pair
    → more_pairs state s path (drop i pairs) text steps ≡ (puts (codes ", ") >> pair_shown state s path pair >> more_pairs state s path (drop (i + 1) pairs)) text steps
next_pair state s path pairs i pair text steps h = ap (λ ps. more_pairs state s path ps text steps) (dropped pairs i pair h)
