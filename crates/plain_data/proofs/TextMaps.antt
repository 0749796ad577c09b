-- A `BTreeMap` over texts, as a finite map.
use Rattle.std.proofs.Common.{◌≡◌, ℕ, Bool, cond, List, [], ◌∷◌, Some, None, refl, sym, ap, ◌∙◌, map, length}
use Rattle.std.specs.Ordering.{is_eq, nat_cmp}
use Rattle.std.specs.Cmp.Lexicographic.{slice_cmp, nat_list_cmp_total}
use Rattle.std.specs.Cmp.{eq_by_cmp_equiv}
use Rattle.std.specs.Map.{lookup}
use Rattle.std.specs.FinMap as finite
use Rattle.std.specs.FinMap.{find, put, slice_cmp-IsAntisymmetric, nat_cmp-IsAntisymmetric}
use Rattle.std.specs.List.Sorted.{IsStrictlySortedBy}
use native.Mathlib.Omega.{arith}

abbrev pub by_name : List ℕ → List ℕ → Bool
by_name q x = is_eq (slice_cmp nat_cmp q x)

rest_sorted : (k : List ℕ) (ks : List (List ℕ)) → IsStrictlySortedBy (slice_cmp nat_cmp) (k ∷ ks) → IsStrictlySortedBy (slice_cmp nat_cmp) ks
unfolding IsStrictlySortedBy
rest_sorted k ks s = s.1

no_length : {A : Type 0} (xs : List A) → length xs ≡ 0 → xs ≡ []
no_length [] e = refl
no_length (x ∷ xs) e = absurd (omega arith)

module _ {V : Type 0} where
  find-lookup : (q : List ℕ) (es : List (List ℕ × V)) → find (slice_cmp nat_cmp) q es ≡ lookup (by_name q) es
  find-lookup q [] = refl
  find-lookup q (e ∷ es) = ap (cond (by_name q e.0) (Some e.1)) (find-lookup q es)

  pub get_is : (es : List (List ℕ × V)) (q : List ℕ) → finite.get (finite.from_entries {R = slice_cmp nat_cmp} es) q ≡ lookup (by_name q) es
  get_is es q = finite.get-from_entries nat_list_cmp_total es q ∙ find-lookup q es

  pub inserted : (es fs : List (List ℕ × V)) (k : List ℕ) (v : V) → ((q : List ℕ) → lookup (by_name q) fs ≡ cond (by_name k q) (Some v) (lookup (by_name q) es))
      → finite.from_entries {R = slice_cmp nat_cmp} fs ≡ finite.insert (finite.from_entries es) k v
  inserted es fs k v h = finite.same_map nat_list_cmp_total (slice_cmp-IsAntisymmetric nat_cmp-IsAntisymmetric) _ _
      (λ q. get_is fs q ∙ h q ∙ ap (λ b. cond b (Some v) (lookup (by_name q) es)) ((eq_by_cmp_equiv nat_list_cmp_total).symm k q)
      ∙ ap (cond (by_name q k) (Some v)) (sym (get_is es q)) ∙ sym (finite.get-insert nat_list_cmp_total (finite.from_entries es) k v q))

  pub removed : (es fs : List (List ℕ × V)) (k : List ℕ) → ((q : List ℕ) → lookup (by_name q) fs ≡ cond (by_name k q) None (lookup (by_name q) es))
      → finite.from_entries {R = slice_cmp nat_cmp} fs ≡ finite.remove (finite.from_entries es) k
  removed es fs k h = finite.same_map nat_list_cmp_total (slice_cmp-IsAntisymmetric nat_cmp-IsAntisymmetric) _ _
      (λ q. get_is fs q ∙ h q ∙ ap (λ b. cond b None (lookup (by_name q) es)) ((eq_by_cmp_equiv nat_list_cmp_total).symm k q)
      ∙ ap (cond (by_name q k) None) (sym (get_is es q)) ∙ sym (finite.get-remove nat_list_cmp_total (finite.from_entries es) k q))

  in_front : (k : List ℕ) (v : V) (es : List (List ℕ × V)) → IsStrictlySortedBy (slice_cmp nat_cmp) (k ∷ map (λ e. e.0) es) → put (slice_cmp nat_cmp) k v es ≡ (k, v) ∷ es
  unfolding IsStrictlySortedBy
  in_front k v [] s = refl
  in_front k v (e ∷ es) s = rw s.0.0 refl

  -- entries that ascend are those of the map that is made from them
  entries_are : (es : List (List ℕ × V)) → IsStrictlySortedBy (slice_cmp nat_cmp) (map (λ e. e.0) es) → finite.entries (finite.from_entries {R = slice_cmp nat_cmp} es) ≡ es
  entries_are [] s = no_length _ (sym (finite.len-entries finite.empty) ∙ finite.len-empty (slice_cmp nat_cmp) V)
  entries_are (e ∷ es) s = finite.entries-insert nat_list_cmp_total _ _ _ ∙ ap (put (slice_cmp nat_cmp) e.0 e.1) (entries_are es (rest_sorted _ _ s)) ∙ in_front e.0 e.1 es s

  pub keys_are : (es : List (List ℕ × V)) → IsStrictlySortedBy (slice_cmp nat_cmp) (map (λ e. e.0) es) → finite.keys (finite.from_entries {R = slice_cmp nat_cmp} es) ≡ map (λ e. e.0) es
  keys_are es s = ap (map (λ e. e.0)) (entries_are es s)
