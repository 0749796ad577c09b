-- Sets of names with names added.
use Rattle.std.proofs.Common.{◌≡◌, ℕ, ◌+◌, ◌<◌, true, false, Option, Some, None, is_some, Bor, List, [], ◌∷◌, length, get_or, take, refl, sym, ap, ◌∙◌, ◌⊎◌, inl, inr, subst, arith}
use Rattle.std.specs.Prelude.{Contains, slice_get}
use Rattle.std.specs.Option.{option_copied}
use Rattle.std.proofs.lemmas.Bool.{false≢true}
use Rattle.std.proofs.lemmas.Option.{none-some, slice_get_read}
use Rattle.std.proofs.lemmas.List.{take_more, get_or_default}
use Rattle.std.proofs.lemmas.List.Elements.{Contains-push_cases, Contains-push, Contains-append_left}
use Rattle.py_machine.specs.Marked.{Name, with_member}
use Rattle.py_laws.proofs.Members.{name_kept, name_newly, name_before}
use Rattle.history_graph.specs.Sets.{Names, Has, IsWith, IsWithThose}

-- one more
pub added : (s : Names) (x y : Name) → Has (with_member s x) y → Has s y ⊎ (x ≡ y)
added s x y h = elim (name_before s x y (record { is = h })) [ inl e ↦ inr (sym e) | inr i ↦ inl i.is ]

pub stays : (s : Names) (x y : Name) → Has s y → Has (with_member s x) y
stays s x y h = (name_kept s x y (record { is = h })).is

pub newly : (s : Names) (x y : Name) → x ≡ y → Has (with_member s x) y
newly s x y e = subst (λ z. Has (with_member s x) z) e (name_newly s x).is

-- ---- the first names, and one name more

module _ (names : List Name) (i : ℕ) (x : Name) (l : i < length names) (e : get_or names i [] ≡ x) where
  pub shorter : (y : Name) → Contains (take (i + 1) names) y → Contains (take i names) y ⊎ (x ≡ y)
  shorter y h = elim (Contains-push_cases (take i names) (get_or names i []) y (subst (λ ns. Contains ns y) (take_more names i [] l) h)) [
    | inl k ↦ inl k
    | inr f ↦ inr (sym e ∙ f)
  ]

  pub earlier : (y : Name) → Contains (take i names) y → Contains (take (i + 1) names) y
  earlier y h = subst (λ ns. Contains ns y) (sym (take_more names i [] l)) (Contains-append_left (take i names) (get_or names i [] ∷ []) y h)

  pub here : Contains (take (i + 1) names) x
  here = subst (λ z. Contains (take (i + 1) names) z) e (subst (λ ns. Contains ns (get_or names i [])) (sym (take_more names i [] l)) (Contains-push (take i names) (get_or names i [])))

  pub here_too : (y : Name) → x ≡ y → Contains (take (i + 1) names) y
  here_too y same = subst (λ z. Contains (take (i + 1) names) z) same here

  module _ (old s : Names) where
    pub with_more : IsWith old (take i names) s → IsWith old (take (i + 1) names) (with_member s x)
    with_more h = λ y. (
      λ k. elim (added s x y k) [
        | inl before ↦ elim ((h y).0 before) [ inl o ↦ inl o | inr c ↦ inr (earlier y c) ]
        | inr same ↦ inr (here_too y same)
      ],
      λ k. elim k [
        | inl o ↦ stays s x y ((h y).1 (inl o))
        | inr c ↦ elim (shorter y c) [ inl b ↦ stays s x y ((h y).1 (inr b)) | inr same ↦ newly s x y same ]
      ],
    )

    pub those_more : (those : Names) → Has those x → IsWithThose old (take i names) those s → IsWithThose old (take (i + 1) names) those (with_member s x)
    those_more those t h = λ y. (
      λ k. elim (added s x y k) [
        | inl before ↦ elim ((h y).0 before) [ inl o ↦ inl o | inr c ↦ inr (earlier y c.0, c.1) ]
        | inr same ↦ inr (here_too y same, subst (λ z. Has those z) same t)
      ],
      λ k. elim k [
        | inl o ↦ stays s x y ((h y).1 (inl o))
        | inr c ↦ elim (shorter y c.0) [ inl b ↦ stays s x y ((h y).1 (inr (b, c.1))) | inr same ↦ newly s x y same ]
      ],
    )

    pub those_skip : (those : Names) → ¬ Has those x → IsWithThose old (take i names) those s → IsWithThose old (take (i + 1) names) those s
    those_skip those n h = λ y. (
      λ k. elim ((h y).0 k) [ inl o ↦ inl o | inr c ↦ inr (earlier y c.0, c.1) ],
      λ k. elim k [
        | inl o ↦ (h y).1 (inl o)
        | inr c ↦ elim (shorter y c.0) [ inl b ↦ (h y).1 (inr (b, c.1)) | inr same ↦ absurd (n (subst (λ z. Has those z) (sym same) c.1)) ]
      ],
    )

-- ---- an element by its index

pub place_is : {X : Type 0} (xs : List X) (i : ℕ) (x d : X) → i < length xs → x ≡ get_or xs i x → get_or xs i d ≡ x
place_is xs i x d l e = get_or_default xs i d x l ∙ sym e

pub headed_list : {X : Type 0} (xs : List X) (x : X) → 0 < length xs → x ≡ get_or xs 0 x → (more : List X) × (xs ≡ x ∷ more)
headed_list [] x l e = absurd (let none : ⊥ = omega (arith, l) in none)
headed_list (y ∷ ys) x l e = (ys, ap (λ z. z ∷ ys) (sym e))

-- ---- what a look gave

pub none_of : {A : Type 0} (o : Option (Bor A)) (g : Option A) → option_copied o ≡ g → is_some o ≡ false → g ≡ None
none_of None g e t = sym e
none_of (Some b) g e t = absurd (false≢true (sym t))

pub some_of : {A : Type 0} (o : Option (Bor A)) (g : Option A) → option_copied o ≡ g → is_some o ≡ true → ¬ (g ≡ None)
some_of None g e t none = absurd (false≢true t)
some_of (Some b) g e t none = none-some b.now (sym none ∙ sym e)

pub got_at : {X : Type 0} (ys xs : List X) (i : ℕ) (x : X) → ys ≡ xs → i < length ys → x ≡ get_or ys i x → slice_get xs i ≡ Some x
got_at ys xs i x same l e = subst (λ zs. slice_get zs i ≡ Some x) same (slice_get_read ys (length ys) i x refl l e)
