-- Finite maps to nothing, as sets.
use Rattle.std.proofs.Common.{◌≡◌, Bool, true, false, cond, Option, Some, None, refl, sym, ap, subst, ◌⊎◌, inl, inr, Ordering, Less, Equal, Greater}
use Rattle.std.specs.Prelude.{is_some}
use Rattle.std.specs.FinMap as finite
use Rattle.std.specs.FinMap.{IsAntisymmetric, slice_cmp-IsAntisymmetric, nat_cmp-IsAntisymmetric}
use Rattle.std.specs.Ordering.{nat_cmp, eq_by_cmp, is_eq}
use Rattle.std.specs.Cmp.{IsTotalOrder, eq_by_cmp_equiv}
use Rattle.std.specs.Cmp.Lexicographic.{slice_cmp, nat_list_cmp_total}
use Rattle.py_machine.specs.Marked.{Name, SetOf, with_member, IsIn}

equal_from : (o : Ordering) → is_eq o ≡ true → o ≡ Equal
equal_from Equal h = refl
equal_from Less h = cc
equal_from Greater h = cc

module _ {K : Type 0} {R : K → K → Ordering} (total : IsTotalOrder R) (anti : IsAntisymmetric R) where
  abbrev pub same : K → K → Bool
  same = eq_by_cmp R

  pub itself : (x : K) → same x x ≡ true
  itself x = (eq_by_cmp_equiv total).refl x

  pub from_same : (x y : K) → same x y ≡ true → x ≡ y
  from_same x y h = anti x y (equal_from (R x y) h)

  differ_from : (x y : K) → same x y ≡ false → x ≡ y → ⊥
  differ_from x y h e = let is : same x y ≡ true = subst (λ z. same x z ≡ true) e (itself x) in cc

  cases_by : (x y : K) (b : Bool) → same x y ≡ b → (x ≡ y) ⊎ (x ≡ y → ⊥)
  cases_by x y true h = inl (from_same x y h)
  cases_by x y false h = inr (differ_from x y h)

  -- two are one, or they differ
  pub cases : (x y : K) → (x ≡ y) ⊎ (x ≡ y → ⊥)
  cases x y = cases_by x y (same x y) refl

  other_by : (x y : K) (b : Bool) → same x y ≡ b → (x ≡ y → ⊥) → same x y ≡ false
  other_by x y true e h = absurd (h (from_same x y e))
  other_by x y false e h = e

  pub other : (x y : K) → (x ≡ y → ⊥) → same x y ≡ false
  other x y h = other_by x y (same x y) refl h

  pub got : (s : SetOf R) (x y : K) → finite.get (with_member s x) y ≡ cond (same y x) (Some tt) (finite.get s y)
  got s x y = finite.get-insert total s x tt y

  some_in : (b : Bool) (o : Option (Unit {0})) → is_some o ≡ true → is_some (cond b (Some tt) o) ≡ true
  some_in true o h = refl
  some_in false o h = h

  -- ---- one member more

  pub kept : (s : SetOf R) (x y : K) → IsIn s y → IsIn (with_member s x) y
  kept s x y h = record { is = rw (got s x y) (some_in (same y x) (finite.get s y) h.is) }

  pub newly : (s : SetOf R) (x : K) → IsIn (with_member s x) x
  newly s x = record { is = rw (got s x x, itself x) refl }

  before_by : (s : SetOf R) (x y : K) (b : Bool) → same y x ≡ b → IsIn (with_member s x) y → (y ≡ x) ⊎ IsIn s y
  before_by s x y true e i = inl (from_same y x e)
  before_by s x y false e i = inr (record { is = rw (got s x y, e) at i.is })

  -- it is the new member, or was there before
  pub before : (s : SetOf R) (x y : K) → IsIn (with_member s x) y → (y ≡ x) ⊎ IsIn s y
  before s x y i = before_by s x y (same y x) refl i

  pub none_in : (x : K) → IsIn (finite.empty {R = R}) x → ⊥
  none_in x i = let e = ap (λ (o : Option (Unit {0})). is_some o) (finite.get-empty R x) in let f = i.is in let none : ⊥ = cc (e, f) in none

  -- ---- what is there already

  there_by : (s : SetOf R) (x y : K) (b : Bool) → same y x ≡ b → finite.get s x ≡ Some tt → finite.get (with_member s x) y ≡ finite.get s y
  there_by s x y true e h = rw (got s x y, e) (sym (subst (λ z. finite.get s z ≡ Some tt) (sym (from_same y x e)) h))
  there_by s x y false e h = rw (got s x y, e) refl

  pub there : (s : SetOf R) (x : K) → finite.get s x ≡ Some tt → with_member s x ≡ s
  there s x h = finite.same_map total anti (with_member s x) s (λ y. there_by s x y (same y x) refl h)

abbrev pub Names : Type 0
Names = SetOf (slice_cmp nat_cmp)

abbrev pub Numbers : Type 0
Numbers = SetOf nat_cmp

pub names_antisymmetric : IsAntisymmetric (slice_cmp nat_cmp)
names_antisymmetric = slice_cmp-IsAntisymmetric nat_cmp-IsAntisymmetric

unit_held : (o : Option (Unit {0})) → is_some o ≡ true → o ≡ Some tt
unit_held (Some u) h = refl
unit_held None h = cc

pub name_there : (s : Names) (x : Name) → is_some (finite.get s x) ≡ true → with_member s x ≡ s
name_there s x h = there nat_list_cmp_total names_antisymmetric s x (unit_held (finite.get s x) h)
