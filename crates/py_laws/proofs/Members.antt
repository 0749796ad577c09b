-- Names and addresses in sets.
use Rattle.std.proofs.Common.{◌≡◌, ℕ, Bool, true, false, cond, ◌⊎◌}
use Rattle.std.specs.FinMap as finite
use Rattle.std.specs.FinMap.{nat_cmp-IsAntisymmetric}
use Rattle.std.specs.Ordering.{nat_cmp, eq_by_cmp}
use Rattle.std.specs.Cmp.{nat_cmp_total}
use Rattle.std.specs.Cmp.Lexicographic.{slice_cmp, nat_list_cmp_total}
use Rattle.py_machine.specs.Marked.{with_member, IsIn}
use Rattle.py_machine.specs.Runs.{Name}
use Rattle.py_machine.proofs.Sets.{Names, Numbers, names_antisymmetric}
use Rattle.py_machine.proofs.Sets as sets

-- ---- names

abbrev pub same_name : Name → Name → Bool
same_name = eq_by_cmp (slice_cmp nat_cmp)

pub name_itself : (x : Name) → same_name x x ≡ true
name_itself x = sets.itself nat_list_cmp_total names_antisymmetric x

pub name_cases : (x y : Name) → (x ≡ y) ⊎ (x ≡ y → ⊥)
name_cases x y = sets.cases nat_list_cmp_total names_antisymmetric x y

pub other_name : (x y : Name) → (x ≡ y → ⊥) → same_name x y ≡ false
other_name x y h = sets.other nat_list_cmp_total names_antisymmetric x y h

pub name_kept : (s : Names) (x y : Name) → IsIn s y → IsIn (with_member s x) y
name_kept s x y i = sets.kept nat_list_cmp_total names_antisymmetric s x y i

pub name_newly : (s : Names) (x : Name) → IsIn (with_member s x) x
name_newly s x = sets.newly nat_list_cmp_total names_antisymmetric s x

pub name_before : (s : Names) (x y : Name) → IsIn (with_member s x) y → (y ≡ x) ⊎ IsIn s y
name_before s x y i = sets.before nat_list_cmp_total names_antisymmetric s x y i

pub no_name : (x : Name) → IsIn (finite.empty {R = slice_cmp nat_cmp}) x → ⊥
no_name x i = sets.none_in nat_list_cmp_total names_antisymmetric x i

-- a look that is noted, or not
pub looked_kept : (b : Bool) (s : Names) (x y : Name) → IsIn s y → IsIn (cond b s (with_member s x)) y
looked_kept true s x y i = i
looked_kept false s x y i = name_kept s x y i

pub looked_newly : (b : Bool) (s : Names) (x : Name) → b ≡ false → IsIn (cond b s (with_member s x)) x
looked_newly true s x e = absurd (let none : ⊥ = cc e in none)
looked_newly false s x e = name_newly s x

-- ---- addresses

pub number_kept : (s : Numbers) (x y : ℕ) → IsIn s y → IsIn (with_member s x) y
number_kept s x y i = sets.kept nat_cmp_total nat_cmp-IsAntisymmetric s x y i

pub number_newly : (s : Numbers) (x : ℕ) → IsIn (with_member s x) x
number_newly s x = sets.newly nat_cmp_total nat_cmp-IsAntisymmetric s x

pub number_before : (s : Numbers) (x y : ℕ) → IsIn (with_member s x) y → (y ≡ x) ⊎ IsIn s y
number_before s x y i = sets.before nat_cmp_total nat_cmp-IsAntisymmetric s x y i

pub no_number : (x : ℕ) → IsIn (finite.empty {R = nat_cmp}) x → ⊥
no_number x i = sets.none_in nat_cmp_total nat_cmp-IsAntisymmetric x i
