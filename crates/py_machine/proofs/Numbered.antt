-- A `BTreeMap` from numbers to nothing, as a finite map.
use Rattle.std.proofs.Common.{◌≡◌, ℕ, Bool, cond, List, [], ◌∷◌, Option, Some, None, refl, sym, ap, ◌∙◌}
use Rattle.std.specs.Prelude.{is_some, option_map}
use Rattle.std.specs.Ordering.{is_eq, nat_cmp}
use Rattle.std.specs.Cmp.{eq_by_cmp_equiv, nat_cmp_total}
use Rattle.std.specs.Map.{lookup}
use Rattle.std.specs.FinMap as finite
use Rattle.std.specs.FinMap.{find, nat_cmp-IsAntisymmetric}

abbrev pub by_number : ℕ → ℕ → Bool
by_number q x = is_eq (nat_cmp q x)

abbrev Entries : Type 0
Entries = List (ℕ × Unit {0})

find-lookup : (q : ℕ) (es : Entries) → find nat_cmp q es ≡ lookup (by_number q) es
find-lookup q [] = refl
find-lookup q (e ∷ es) = ap (cond (by_number q e.0) (Some e.1)) (find-lookup q es)

pub get_is : (es : Entries) (q : ℕ) → finite.get (finite.from_entries {R = nat_cmp} es) q ≡ lookup (by_number q) es
get_is es q = finite.get-from_entries nat_cmp_total es q ∙ find-lookup q es

pub inserted : (es fs : Entries) (k : ℕ) (v : Unit {0}) → ((q : ℕ) → lookup (by_number q) fs ≡ cond (by_number k q) (Some v) (lookup (by_number q) es))
    → finite.from_entries {R = nat_cmp} fs ≡ finite.insert (finite.from_entries es) k v
inserted es fs k v h = finite.same_map nat_cmp_total nat_cmp-IsAntisymmetric _ _
    (λ q. get_is fs q ∙ h q ∙ ap (λ b. cond b (Some v) (lookup (by_number q) es)) ((eq_by_cmp_equiv nat_cmp_total).symm k q)
    ∙ ap (cond (by_number q k) (Some v)) (sym (get_is es q)) ∙ sym (finite.get-insert nat_cmp_total (finite.from_entries es) k v q))

pub still_some : {A B : Type 0} (f : A → B) (o : Option A) → is_some o ≡ is_some (option_map f o)
still_some f (Some a) = refl
still_some f None = refl
