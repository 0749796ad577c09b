-- What two small runs share: sets of few names, names with values, and parts of one name.
use Rattle.std.proofs.Common.{◌≡◌, ℕ, zero, suc, ◌-◌, List, [], ◌∷◌, get_or, Some, refl, sym, ap, ◌∙◌, ◌⊎◌, inl, inr, subst, arith}
use Rattle.std.specs.Prelude.{Contains, slice_get}
use Rattle.std.specs.FinMap as finite
use Rattle.std.specs.Ordering.{nat_cmp}
use Rattle.std.specs.Cmp.Lexicographic.{slice_cmp}
use Rattle.std.proofs.lemmas.Option.{none-some, same_Some}
use Rattle.py_value.specs.declared.value.Value.{Value}
use Rattle.py_heap.specs.declared.state.State.{State}
use Rattle.py_heap.specs.States.{empty, with_name}
use Rattle.py_machine.specs.Marked.{IsIn}
use Rattle.py_machine.specs.Runs.{Name}
use Rattle.py_laws.proofs.Members.{name_cases, name_kept, name_newly, name_before, no_name}
use Rattle.py_laws.proofs.Partners.{one_in, first_in, later_in}
use Rattle.py_laws.proofs.Bindings.{bound_other}
use Rattle.graph_model.specs.declared.graph.Version.{Version}
use Rattle.graph_model.specs.declared.graph.Graph.{Graph}
use Rattle.graph_model.specs.Graphs.{VersionAt}
use Rattle.linked_parts.specs.Parts.{HasValue, Reaches, Linked, itself, shared, back, on, IsPart}
use Rattle.run_graph.specs.Examples.{X, Y, Print, set_of}
use Rattle.run_graph.proofs.Lists.{cons_cases}

-- ---- sets of few names

pub to_set : (names : List Name) (x : Name) → Contains names x → IsIn (set_of names) x
to_set [] x h = let l = h.1 in let none : ⊥ = omega (arith, l) in absurd none
to_set (y ∷ names) x h = elim (cons_cases y names x h) [
  | inl e ↦ subst (λ z. IsIn (set_of (y ∷ names)) z) e (name_newly (set_of names) y)
  | inr more ↦ name_kept (set_of names) y x (to_set names x more)
]

pub of_set : (names : List Name) (x : Name) → IsIn (set_of names) x → Contains names x
of_set [] x i = absurd (no_name x i)
of_set (y ∷ names) x i = elim (name_before (set_of names) y x i) [
  | inl e ↦ subst (λ z. Contains (y ∷ names) z) (sym e) (first_in y names)
  | inr old ↦ later_in y names x (of_set names x old)
]

pub of_one : (y x : Name) → IsIn (set_of (y ∷ [])) x → x ≡ y
of_one y x i = sym (one_in y x (of_set (y ∷ []) x i))

pub of_none : (x : Name) → ¬ IsIn (set_of []) x
of_none x i = no_name x i

-- ---- names with values

pub insert_value : (s : State) (a : Name) (v : Value) (z : Name) → HasValue (with_name s a v) z → (z ≡ a) ⊎ HasValue s z
insert_value s a v z h = elim (name_cases z a) [ inl e ↦ inl e | inr other ↦ inr (h.0, sym (bound_other s.globals a z v other) ∙ h.1) ]

pub empty_value : (z : Name) → ¬ HasValue empty z
empty_value z h = none-some h.0 (sym (finite.get-empty (slice_cmp nat_cmp) z) ∙ h.1)

-- ---- if no two names meet, each name with a value is a part

module _ (s : State) (meet : (a b : Name) (at : ℕ) → Reaches s a at → Reaches s b at → a ≡ b) where
  pub linked_same : (a b : Name) → Linked s a b → a ≡ b
  linked_same _ _ (itself a h) = refl
  linked_same _ _ (shared a b at p q) = meet a b at p q
  linked_same _ _ (back a b l) = sym (linked_same a b l)
  linked_same _ _ (on a b c l m) = linked_same a b l ∙ linked_same b c m

  pub one_part : (z : Name) → HasValue s z → IsPart s (z ∷ [])
  one_part z h = record {
    ascends = tt;
    some = (z, first_in z []);
    linked = λ a b c.
        let e : z ≡ a = one_in z a c in (
          λ d. subst (λ m. Linked s m b) e (subst (λ m. Linked s z m) (one_in z b d) (itself z h)),
          λ l. subst (λ m. Contains (z ∷ []) m) (linked_same a b l) c,
        );
  }

-- ---- four versions

pub four_cases : {A : Type 0} (a b c d x : A) (n : ℕ) → slice_get (a ∷ b ∷ c ∷ d ∷ []) n ≡ Some x → ((n ≡ 0) × (a ≡ x)) ⊎ ((n ≡ 1) × (b ≡ x)) ⊎ ((n ≡ 2) × (c ≡ x)) ⊎ ((n ≡ 3) × (d ≡ x))
four_cases a b c d x zero h = inl (refl, same_Some a x h)
four_cases a b c d x (suc zero) h = inr (inl (refl, same_Some b x h))
four_cases a b c d x (suc (suc zero)) h = inr (inr (inl (refl, same_Some c x h)))
four_cases a b c d x (suc (suc (suc zero))) h = inr (inr (inr (refl, same_Some d x h)))
four_cases a b c d x (suc (suc (suc (suc n)))) h = absurd (none-some x h)

-- ---- the names differ

pub x_not_y : X ≡ Y → ⊥
x_not_y e = let f : 120 ≡ 121 = ap (λ ns. get_or ns 0 0) e in let none : ⊥ = omega (arith, f) in none

pub print_not_x : Print ≡ X → ⊥
print_not_x e = let f : 112 ≡ 120 = ap (λ ns. get_or ns 0 0) e in let none : ⊥ = omega (arith, f) in none

pub print_not_y : Print ≡ Y → ⊥
print_not_y e = let f : 112 ≡ 121 = ap (λ ns. get_or ns 0 0) e in let none : ⊥ = omega (arith, f) in none

-- ---- four versions, one by one

module _ (g : Graph) (a b c d : Version) (all : g.versions ≡ a ∷ b ∷ c ∷ d ∷ []) where
  pub each : (P : ℕ → Version → Type 0) → P 1 a → P 2 b → P 3 c → P 4 d → (v : ℕ) (x : Version) → VersionAt g v x → P v x
  each P pa pb pc pd v x at =
      let p = at.0 in
      elim (four_cases a b c d x (v - 1) (subst (λ vs. slice_get vs (v - 1) ≡ Some x) all at.1)) [
        | inl e ↦ let f = e.0 in subst (P v) e.1 (subst (λ n. P n a) (let i : 1 ≡ v = omega (arith, f, p) in i) pa)
        | inr (inl e) ↦ let f = e.0 in subst (P v) e.1 (subst (λ n. P n b) (let i : 2 ≡ v = omega (arith, f, p) in i) pb)
        | inr (inr (inl e)) ↦ let f = e.0 in subst (P v) e.1 (subst (λ n. P n c) (let i : 3 ≡ v = omega (arith, f, p) in i) pc)
        | inr (inr (inr e)) ↦ let f = e.0 in subst (P v) e.1 (subst (λ n. P n d) (let i : 4 ≡ v = omega (arith, f, p) in i) pd)
      ]
