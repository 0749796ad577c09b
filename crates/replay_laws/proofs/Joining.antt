-- Two states are the same over all names if they are over each active version, these share nothing, and no other name has
-- a value.
use Rattle.std.proofs.Common.{◌≡◌, ℕ, zero, suc, ◌-◌, ◌≤◌, List, [], ◌++◌, length, Option, Some, None, refl, sym, ◌⊎◌, inl, inr, subst, arith}
use Rattle.std.specs.Prelude.{Contains, slice_get}
use Rattle.std.proofs.lemmas.Bool.{cases_eq}
use Rattle.std.proofs.lemmas.List.Elements.{Contains-append_left, Contains-append_right, Contains-append_cases}
use Rattle.py_value.specs.declared.value.Value.{Value}
use Rattle.py_heap.specs.declared.state.State.{State}
use Rattle.py_heap.specs.References.{IsClosed}
use Rattle.py_heap.specs.Reaching.{Reach}
use Rattle.py_machine.specs.Runs.{Name}
use Rattle.py_laws.specs.Same.{HasPair, ValuesMatch, BothOrNone, Same, SameWithin, Every}
use Rattle.py_laws.proofs.Joining.{reached_only, joined}
use Rattle.py_laws.proofs.Partners.{none_in}
use Rattle.graph_model.specs.declared.graph.Version.{Version}
use Rattle.graph_model.specs.declared.graph.Graph.{Graph}
use Rattle.graph_model.specs.Graphs.{VersionAt, IsActive}
use Rattle.graph_model.proofs.Lookups.{version_within}
use Rattle.linked_parts.specs.Parts.{HasNone, Apart}
use Rattle.run_graph.proofs.Lists.{has_name}
use Rattle.run_graph.proofs.Reached.{reach_from_one, reach_by_one}
use Rattle.run_graph.proofs.Standing.{within_nothing}

none_matches : (M : Value → Value → Type 0) (o u : Option Value) → o ≡ None → u ≡ None → BothOrNone M o u
none_matches M o u e f = subst (λ z. BothOrNone M z u) (sym e) (subst (λ z. BothOrNone M None z) (sym f) tt)

module _ (g : Graph) (s t : State) (closed_s : IsClosed s) (closed_t : IsClosed t)
    (same : (v : ℕ) (x : Version) → IsActive g v x → Same (Contains x.names) s t)
    (apart_s : (v : ℕ) (x : Version) → IsActive g v x → Apart s x.names) (apart_t : (v : ℕ) (x : Version) → IsActive g v x → Apart t x.names)
    (disjoint : (u v : ℕ) (x y : Version) (name : Name) → IsActive g u x → IsActive g v y → Contains x.names name → Contains y.names name → u ≡ v) where
  -- ---- the names of the active versions up to a number

  names_by : (x : Version) → (x.replaced ≡ 0) ⊎ (¬ (x.replaced ≡ 0)) → List Name
  names_by x (inl active) = x.names
  names_by x (inr old) = []

  own : Option Version → List Name
  own None = []
  own (Some x) = names_by x (cases_eq x.replaced 0)

  upto : ℕ → List Name
  upto zero = []
  upto (suc n) = own (slice_get g.versions n) ++ upto n

  at_suc : (n : ℕ) (x : Version) → slice_get g.versions n ≡ Some x → VersionAt g (suc n) x
  at_suc n x e = let f : suc n - 1 ≡ n = omega arith in (omega arith, subst (λ m. slice_get g.versions m ≡ Some x) (sym f) e)

  in_named : (n : ℕ) (x : Version) → slice_get g.versions n ≡ Some x → (a : (x.replaced ≡ 0) ⊎ (¬ (x.replaced ≡ 0))) (z : Name) → Contains (names_by x a) z
      → (y : Version) × IsActive g (suc n) y × Contains y.names z
  unfolding names_by
  in_named n x e (inl a) z k = (x, (at_suc n x e, a), k)
  in_named n x e (inr old) z k = absurd (none_in z k)

  in_own : (n : ℕ) (o : Option Version) → slice_get g.versions n ≡ o → (z : Name) → Contains (own o) z → (y : Version) × IsActive g (suc n) y × Contains y.names z
  unfolding own
  in_own n None e z k = absurd (none_in z k)
  in_own n (Some x) e z k = in_named n x e (cases_eq x.replaced 0) z k

  named_in : (x : Version) → x.replaced ≡ 0 → (a : (x.replaced ≡ 0) ⊎ (¬ (x.replaced ≡ 0))) (z : Name) → Contains x.names z → Contains (names_by x a) z
  unfolding names_by
  named_in x e (inl a) z k = k
  named_in x e (inr old) z k = absurd (old e)

  to_own : (n : ℕ) (o : Option Version) (x : Version) → o ≡ Some x → x.replaced ≡ 0 → (z : Name) → Contains x.names z → Contains (own o) z
  unfolding own
  to_own n o x e a z k = subst (λ q. Contains (own q) z) (sym e) (named_in x a (cases_eq x.replaced 0) z k)

  in_upto : (n : ℕ) (z : Name) → Contains (upto n) z → (v : ℕ) × (y : Version) × IsActive g v y × (v ≤ n) × Contains y.names z
  unfolding upto
  in_upto zero z k = absurd (none_in z k)
  in_upto (suc n) z k = elim (Contains-append_cases (own (slice_get g.versions n)) (upto n) z k) [
    | inl q ↦ let w = in_own n (slice_get g.versions n) refl z q in (suc n, w.0, w.1, omega arith, w.2)
    | inr q ↦ let w = in_upto n z q in (w.0, w.1, w.2, let l = w.3 in omega (arith, l), w.4)
  ]

  to_upto : (n v : ℕ) (x : Version) → IsActive g v x → v ≤ n → (z : Name) → Contains x.names z → Contains (upto n) z
  unfolding upto
  to_upto zero v x a l z k = let p = a.0.0 in let none : ⊥ = omega (arith, p, l) in absurd none
  to_upto (suc n) v x a l z k = elim (cases_eq v (suc n)) [
    | inl e ↦
        let f : v - 1 ≡ n = omega (arith, e) in
        Contains-append_left (own (slice_get g.versions n)) (upto n) z (to_own n (slice_get g.versions n) x (subst (λ m. slice_get g.versions m ≡ Some x) f a.0.1) a.1 z k)
    | inr other ↦ Contains-append_right (own (slice_get g.versions n)) (upto n) z (to_upto n v x a (omega (arith, l, other)) z k)
  ]

  -- ---- they are the same

  nothing : SameWithin [] s t
  nothing = within_nothing [] s t (λ z n. absurd (none_in z n)) (λ z n. absurd (none_in z n))

  same_named : (n : ℕ) (x : Version) → slice_get g.versions n ≡ Some x → (a : (x.replaced ≡ 0) ⊎ (¬ (x.replaced ≡ 0))) → SameWithin (names_by x a) s t
  unfolding names_by
  same_named n x e (inl a) = reached_only x.names s t closed_s closed_t (same (suc n) x (at_suc n x e, a))
  same_named n x e (inr old) = nothing

  same_own : (n : ℕ) (o : Option Version) → slice_get g.versions n ≡ o → SameWithin (own o) s t
  unfolding own
  same_own n None e = nothing
  same_own n (Some x) e = same_named n x e (cases_eq x.replaced 0)

  -- a version shares nothing with those before it
  shares_nothing : (S : State) → ((v : ℕ) (x : Version) → IsActive g v x → Apart S x.names) → (n at : ℕ) → Reach S (own (slice_get g.versions n)) at → ¬ Reach S (upto n) at
  shares_nothing S aparts n at q m =
      let w = reach_from_one S (own (slice_get g.versions n)) at q in
      let x = in_own n (slice_get g.versions n) refl w.0 w.1 in
      let z = reach_from_one S (upto n) at m in
      let y = in_upto n z.0 z.1 in
      let l = y.3 in
      aparts (suc n) x.0 x.1 at (reach_by_one S x.0.names w.0 at x.2 w.2) z.0
      (λ both. let e : suc n ≡ y.0 = disjoint (suc n) y.0 x.0 y.1 z.0 x.1 y.2 both y.4 in omega (arith, e, l)) z.2

  same_upto : (n : ℕ) → SameWithin (upto n) s t
  unfolding upto
  same_upto zero = nothing
  same_upto (suc n) = joined s t (own (slice_get g.versions n)) (upto n) (same_own n (slice_get g.versions n) refl) (same_upto n)
      (shares_nothing s apart_s n) (shares_nothing t apart_t n)

  abbrev Whole : SameWithin (upto (length g.versions)) s t
  Whole = same_upto (length g.versions)

  pub same_everywhere : ((z : Name) → ((v : ℕ) (x : Version) → IsActive g v x → ¬ Contains x.names z) → HasNone s z × HasNone t z) → Same Every s t
  same_everywhere none = record {
    by = Whole.by;
    same = record {
      pairs = Whole.same.pairs;
      names = λ z every. elim (has_name (upto (length g.versions)) z) [
        | inl n ↦ Whole.same.names z n
        | inr out ↦
            let k = none z (λ v x a n. out (to_upto (length g.versions) v x a (version_within g v x a.0).1 z n)) in
            none_matches (ValuesMatch (HasPair Whole.by)) _ _ k.0 k.1
      ];
      objects = Whole.same.objects;
    };
  }
