-- What one of the first items of a list has, and the sets with it.
use Rattle.std.proofs.Common.{◌≡◌, ℕ, ◌+◌, ◌<◌, ◌≤◌, List, [], ◌∷◌, ◌++◌, length, get_or, take, sym, ◌∙◌, ◌⊎◌, inl, inr, subst, take_all}
use Rattle.std.specs.Prelude.{Contains}
use Rattle.std.proofs.lemmas.List.{take_more}
use Rattle.std.proofs.lemmas.List.Elements.{Contains-push_cases, Contains-push, Contains-append_left}
use Rattle.py_machine.specs.Marked.{Name, with_member}
use Rattle.history_graph.specs.Sets.{Names}
use Rattle.history_graph.specs.Texts.{OneHas, IsWithAll}
use Rattle.history_graph.proofs.Adding.{added, stays, newly}

-- ---- one item more

module _ {X : Type 0} (HasIt : X → Name → Type 0) (xs : List X) where
  module _ (i : ℕ) (x : X) (l : i < length xs) (at : x ≡ get_or xs i x) where
    pub one_more : (t : Name) → OneHas HasIt (take (i + 1) xs) t → OneHas HasIt (take i xs) t ⊎ HasIt x t
    one_more t h = elim (Contains-push_cases (take i xs) (get_or xs i x) h.0 (subst (λ ys. Contains ys h.0) (take_more xs i x l) h.1)) [
      | inl k ↦ inl (h.0, k, h.2)
      | inr e ↦ inr (subst (λ y. HasIt y t) (sym e ∙ sym at) h.2)
    ]

    pub one_before : (t : Name) → OneHas HasIt (take i xs) t → OneHas HasIt (take (i + 1) xs) t
    one_before t h = (h.0, subst (λ ys. Contains ys h.0) (sym (take_more xs i x l)) (Contains-append_left (take i xs) (get_or xs i x ∷ []) h.0 h.1), h.2)

    pub one_here : (t : Name) → HasIt x t → OneHas HasIt (take (i + 1) xs) t
    one_here t h = (
      x,
      subst (λ ys. Contains ys x) (sym (take_more xs i x l)) (subst (λ y. Contains (take i xs ++ y ∷ []) x) at (Contains-push (take i xs) x)),
      h,
    )

-- ---- the set with all such texts

pub with_none : (P : Name → Type 0) (s : Names) → ((t : Name) → ¬ P t) → IsWithAll s P s
with_none P s none = λ t. (λ h. inl h, λ h. elim h [ inl o ↦ o | inr p ↦ absurd (none t p) ])

pub with_one : (s : Names) (text : Name) → IsWithAll s (λ t. t ≡ text) (with_member s text)
with_one s text = λ t. (
  λ h. elim (added s text t h) [ inl o ↦ inl o | inr e ↦ inr (sym e) ],
  λ h. elim h [ inl o ↦ stays s text t o | inr e ↦ newly s text t (sym e) ],
)

pub with_such : (P Q : Name → Type 0) (s now : Names) → ((t : Name) → P t → Q t) → ((t : Name) → Q t → P t) → IsWithAll s P now → IsWithAll s Q now
with_such P Q s now forth back h = λ t. (
  λ k. elim ((h t).0 k) [ inl o ↦ inl o | inr p ↦ inr (forth t p) ],
  λ k. (h t).1 (elim k [ inl o ↦ inl o | inr q ↦ inr (back t q) ]),
)

pub with_both : (P Q : Name → Type 0) (s then now : Names) → IsWithAll s P then → IsWithAll then Q now → IsWithAll s (λ t. P t ⊎ Q t) now
with_both P Q s then now h k = λ t. (
  λ m. elim ((k t).0 m) [
    | inl o ↦ elim ((h t).0 o) [ inl a ↦ inl a | inr p ↦ inr (inl p) ]
    | inr q ↦ inr (inr q)
  ],
  λ m. (k t).1 (elim m [
    | inl a ↦ inl ((h t).1 (inl a))
    | inr (inl p) ↦ inl ((h t).1 (inr p))
    | inr (inr q) ↦ inr q
  ]),
)

module _ {X : Type 0} (HasIt : X → Name → Type 0) (xs : List X) (i : ℕ) (old s : Names) where
  pub items_more : (now : Names) (x : X) → i < length xs → x ≡ get_or xs i x → IsWithAll old (OneHas HasIt (take i xs)) s → IsWithAll s (HasIt x) now
      → IsWithAll old (OneHas HasIt (take (i + 1) xs)) now
  items_more now x l at h k =
      with_such (λ t. OneHas HasIt (take i xs) t ⊎ HasIt x t) (OneHas HasIt (take (i + 1) xs)) old now
      (λ t m. elim m [ inl b ↦ one_before HasIt xs i x l at t b | inr w ↦ one_here HasIt xs i x l at t w ]) (one_more HasIt xs i x l at)
      (with_both (OneHas HasIt (take i xs)) (HasIt x) old s now h k)

  pub items_all : length xs ≤ i → IsWithAll old (OneHas HasIt (take i xs)) s → IsWithAll old (OneHas HasIt xs) s
  items_all l h = subst (λ ys. IsWithAll old (OneHas HasIt ys) s) (take_all i xs l) h
