-- Names and addresses after a change.
use Rattle.std.proofs.Common.{◌≡◌, ℕ, zero, suc, ◌<◌, cond, List, [], ◌∷◌, ◌++◌, length, Some, None, refl, ap, set, arith}
use Rattle.std.specs.Prelude.{slice_get}
use Rattle.std.specs.FinMap as finite
use Rattle.std.specs.Ordering.{nat_cmp}
use Rattle.std.specs.Cmp.Lexicographic.{slice_cmp, nat_list_cmp_total}
use Rattle.py_value.specs.declared.value.Value.{Value}
use Rattle.py_machine.specs.Runs.{Name}
use Rattle.py_laws.proofs.Members.{same_name, other_name}

abbrev pub Named : Type 0 → Type 0
Named A = finite.FinMap (slice_cmp nat_cmp) A

pub bound : {A : Type 0} (g : Named A) (name x : Name) (v : A) → finite.get (finite.insert g name v) x ≡ cond (same_name x name) (Some v) (finite.get g x)
bound g name x v = finite.get-insert nat_list_cmp_total g name v x

pub unbound : {A : Type 0} (g : Named A) (name x : Name) → finite.get (finite.remove g name) x ≡ cond (same_name x name) None (finite.get g x)
unbound g name x = finite.get-remove nat_list_cmp_total g name x

pub bound_other : (g : Named Value) (name x : Name) (v : Value) → (x ≡ name → ⊥) → finite.get (finite.insert g name v) x ≡ finite.get g x
bound_other g name x v h = rw (bound g name x v, other_name x name h) refl

pub unbound_other : (g : Named Value) (name x : Name) → (x ≡ name → ⊥) → finite.get (finite.remove g name) x ≡ finite.get g x
unbound_other g name x h = rw (unbound g name x, other_name x name h) refl

module _ {X : Type 0} where
  pub get_kept : (xs : List X) (x : X) (i : ℕ) → i < length xs → slice_get (xs ++ x ∷ []) i ≡ slice_get xs i
  get_kept [] x i h = absurd (omega arith)
  get_kept (y ∷ ys) x zero h = refl
  get_kept (y ∷ ys) x (suc i) h = get_kept ys x i (omega arith)

  pub get_new : (xs : List X) (x : X) → slice_get (xs ++ x ∷ []) (length xs) ≡ Some x
  get_new [] x = refl
  get_new (y ∷ ys) x = get_new ys x

  pub set_same : (xs : List X) (i : ℕ) (x : X) → i < length xs → slice_get (set xs i x) i ≡ Some x
  set_same [] i x h = absurd (omega arith)
  set_same (y ∷ ys) zero x h = refl
  set_same (y ∷ ys) (suc i) x h = set_same ys i x (omega arith)

  pub set_other : (xs : List X) (i j : ℕ) (x : X) → (i ≡ j → ⊥) → slice_get (set xs i x) j ≡ slice_get xs j
  set_other [] i j x h = refl
  set_other (y ∷ ys) zero zero x h = absurd (h refl)
  set_other (y ∷ ys) zero (suc j) x h = refl
  set_other (y ∷ ys) (suc i) zero x h = refl
  set_other (y ∷ ys) (suc i) (suc j) x h = set_other ys i j x (λ e. h (ap suc e))
