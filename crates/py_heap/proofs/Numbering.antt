-- Names that are numbered by their positions.
use Rattle.std.proofs.Common.{◌≡◌, ℕ, zero, suc, ◌+◌, ◌<◌, Bool, true, false, cond, List, [], ◌∷◌, ◌++◌, length, get_or, take, Option, Some, refl, sym, ap, subst, ◌∙◌, inl, inr, Ordering, Less, Equal, Greater}
use Rattle.std.specs.Prelude.{is_some, slice_get}
use Rattle.std.specs.Ordering.{nat_cmp, eq_by_cmp, is_eq}
use Rattle.std.specs.Cmp.{eq_by_cmp_equiv}
use Rattle.std.specs.Cmp.Lexicographic.{slice_cmp, nat_list_cmp_total}
use Rattle.std.specs.FinMap as finite
use Rattle.std.specs.FinMap.{slice_cmp-IsAntisymmetric, nat_cmp-IsAntisymmetric}
use Rattle.std.proofs.lemmas.List.{length-take-le, take_more}
use Rattle.std.proofs.lemmas.List.Elements.{Contains-push_cases}
use Rattle.std.proofs.lemmas.Option.{none-some, same_Some, slice_get_within}
use native.Mathlib.Omega.{arith}
use Rattle.py_heap.specs.Numbering.{Numbers, AreNumbersOf, IsNumbering}

abbrev Name : Type 0
Name = List ℕ

abbrev is_same : Name → Name → Bool
is_same = eq_by_cmp (slice_cmp nat_cmp)

equal_from : (o : Ordering) → is_eq o ≡ true → o ≡ Equal
equal_from Equal h = refl
equal_from Less h = cc
equal_from Greater h = cc

from_same : (x y : Name) → is_same x y ≡ true → x ≡ y
from_same x y h = slice_cmp-IsAntisymmetric nat_cmp-IsAntisymmetric x y (equal_from (slice_cmp nat_cmp x y) h)

got : (m : Numbers) (k : Name) (n : ℕ) (q : Name) → finite.get (finite.insert m k n) q ≡ cond (is_same q k) (Some n) (finite.get m q)
got m k n q = finite.get-insert nat_list_cmp_total m k n q

-- ---- the numbers are below the count and apart

pub is_numbering : (names : List Name) (m : Numbers) → AreNumbersOf names m → IsNumbering m (length names)
is_numbering names m h = record {
  below = λ name at e. slice_get_within names at name (h.position name at e);
  apart = λ name other at e f. same_Some name other (sym (h.position name at e) ∙ h.position other at f);
}

-- ---- one name after the other

pub none_numbered : AreNumbersOf [] finite.empty
none_numbered = record {
  each = λ name c. let less : c.0 < 0 = c.1 in absurd (omega (arith, less));
  position = λ name at e. absurd (none-some at (sym (finite.get-empty (slice_cmp nat_cmp) name) ∙ e));
}

some_by : (b : Bool) (o : Option ℕ) (n : ℕ) → is_some o ≡ true → is_some (cond b (Some n) o) ≡ true
some_by true o n h = refl
some_by false o n h = h

get_front : (names : List Name) (last name : Name) (i : ℕ) → slice_get names i ≡ Some name → slice_get (names ++ last ∷ []) i ≡ Some name
get_front [] last name i e = absurd (none-some name e)
get_front (x ∷ names) last name zero e = e
get_front (x ∷ names) last name (suc i) e = get_front names last name i e

get_last : (names : List Name) (last : Name) → slice_get (names ++ last ∷ []) (length names) ≡ Some last
get_last [] last = refl
get_last (x ∷ names) last = get_last names last

position_by : (names : List Name) (m : Numbers) (last name : Name) (at : ℕ) (b : Bool) → is_same name last ≡ b → AreNumbersOf names m
    → cond b (Some (length names)) (finite.get m name) ≡ Some at → slice_get (names ++ last ∷ []) at ≡ Some name
position_by names m last name at true same h e =
    subst (λ k. slice_get (names ++ last ∷ []) k ≡ Some name) (same_Some (length names) at e) (get_last names last ∙ ap (λ (x : Name). Some x) (sym (from_same name last same)))
position_by names m last name at false same h e = get_front names last name at (h.position name at e)

-- with one name more, whose number is the count
one_more : (names : List Name) (m : Numbers) (last : Name) → AreNumbersOf names m → AreNumbersOf (names ++ last ∷ []) (finite.insert m last (length names))
one_more names m last h =
    let n = length names in
    let itself : is_same last last ≡ true = (eq_by_cmp_equiv nat_list_cmp_total).refl last in
    record {
      each = λ name c. ap (λ (o : Option ℕ). is_some o) (got m last n name) ∙ (elim (Contains-push_cases names last name c) [
        | inl k ↦ some_by (is_same name last) (finite.get m name) n (h.each name k)
        | inr e ↦ ap (λ b. is_some (cond b (Some n) (finite.get m name))) (subst (λ (other : Name). is_same other last ≡ true) e itself)
      ]);
      position = λ name at e. position_by names m last name at (is_same name last) refl h (sym (got m last n name) ∙ e);
    }

-- the names before a position, and the one that stands there
pub front_more : (names : List Name) (at : ℕ) (name : Name) (m more : Numbers) → at < length names → name ≡ get_or names at name → AreNumbersOf (take at names) m
    → more ≡ finite.insert m name at → AreNumbersOf (take (at + 1) names) more
front_more names at name m more l is h e =
    let size : length (take at names) ≡ at = length-take-le at names (omega (arith, l)) in
    let longer : take at names ++ name ∷ [] ≡ take (at + 1) names = sym (take_more names at name l ∙ ap (λ (x : Name). take at names ++ x ∷ []) (sym is)) in
    let next : AreNumbersOf (take at names ++ name ∷ []) (finite.insert m name at) =
    subst (λ (k : ℕ). AreNumbersOf (take at names ++ name ∷ []) (finite.insert m name k)) size (one_more (take at names) m name h) in
    subst (AreNumbersOf (take (at + 1) names)) (sym e) (subst (λ (front : List Name). AreNumbersOf front (finite.insert m name at)) longer next)
