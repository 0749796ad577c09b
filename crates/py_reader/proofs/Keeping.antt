-- What is kept of codes stays what the reader gives for them.
use Rattle.std.proofs.Common.{◌≡◌, ℕ, Bool, true, false, cond, List, Some, Ok, refl, sym, subst, ◌∙◌, Ordering, Less, Equal, Greater}
use Rattle.std.specs.Ordering.{nat_cmp, eq_by_cmp, is_eq}
use Rattle.std.specs.Cmp.Lexicographic.{slice_cmp, nat_list_cmp_total}
use Rattle.std.specs.FinMap as finite
use Rattle.std.specs.FinMap.{slice_cmp-IsAntisymmetric, nat_cmp-IsAntisymmetric}
use Rattle.std.proofs.lemmas.Option.{none-some, same_Some}
use Rattle.py_tree.specs.declared.statements.Stmt.{Stmt}
use Rattle.py_reader.specs.Verdict.{verdict}
use Rattle.py_reader.specs.Kept.{Bodies, AreRead}

pub none_read : AreRead finite.empty
none_read code body e = absurd (none-some body (sym (finite.get-empty (slice_cmp nat_cmp) code) ∙ e))

abbrev same : List ℕ → List ℕ → Bool
same = eq_by_cmp (slice_cmp nat_cmp)

equal_from : (o : Ordering) → is_eq o ≡ true → o ≡ Equal
equal_from Equal h = refl
equal_from Less h = cc
equal_from Greater h = cc

from_same : (x y : List ℕ) → same x y ≡ true → x ≡ y
from_same x y h = (slice_cmp-IsAntisymmetric nat_cmp-IsAntisymmetric) x y (equal_from (slice_cmp nat_cmp x y) h)

-- the code that came last, or one that was kept before
one_of : (bodies : Bodies) (code : List ℕ) (body : List Stmt) (other : List ℕ) (found : List Stmt) (b : Bool) → AreRead bodies → verdict code ≡ Ok body
    → same other code ≡ b → cond b (Some body) (finite.get bodies other) ≡ Some found → verdict other ≡ Ok found
one_of bodies code body other found true h is e got =
    subst (λ (x : List ℕ). verdict x ≡ Ok found) (sym (from_same other code e)) (subst (λ (y : List Stmt). verdict code ≡ Ok y) (same_Some body found got) is)
one_of bodies code body other found false h is e got = h other found got

pub one_more_read : (bodies : Bodies) (code : List ℕ) (body : List Stmt) → AreRead bodies → verdict code ≡ Ok body → AreRead (finite.insert bodies code body)
one_more_read bodies code body h is other found e =
    one_of bodies code body other found (same other code) h is refl (sym (finite.get-insert nat_list_cmp_total bodies code body other) ∙ e)
