-- Lists of numbers of versions: those that hold, and those of them that are such.
use Rattle.std.proofs.Common.{◌≡◌, ℕ, zero, suc, ◌+◌, ◌<◌, ◌≤◌, List, [], ◌∷◌, ◌++◌, length, get_or, take, ap, sym, ◌∙◌, ◌⊎◌, inl, inr, subst, arith, add-one, take_all}
use Rattle.std.specs.Prelude.{Contains}
use Rattle.std.proofs.lemmas.Bool.{cases_eq}
use Rattle.std.proofs.lemmas.List.{take_more}
use Rattle.std.proofs.lemmas.List.Elements.{Contains-get_or, Contains-push_cases, Contains-push, Contains-append_left}
use Rattle.graph_model.specs.declared.graph.Version.{Version}
use Rattle.graph_model.specs.declared.graph.Graph.{Graph}
use Rattle.graph_model.specs.Graphs.{VersionAt}
use Rattle.graph_model.specs.Faults.{Ascends}
use Rattle.graph_model.proofs.Ascending.{ascends-push}
use Rattle.graph_model.proofs.Lookups.{same_version, version_within}
use Rattle.py_laws.proofs.Partners.{later_in}
use Rattle.linked_parts.proofs.Lists.{none_in, first_in, cons_cases}
use Rattle.history_graph.specs.Active.{Holds, AreActive, AreThose}
use Rattle.history_graph.specs.Grown.{count_on}

abbrev pub Ascend : List ℕ → Type 0
Ascend = Ascends (λ m n. m < n)

-- ---- numbers that ascend

later : (x : ℕ) (xs : List ℕ) → Ascend (x ∷ xs) → Ascend xs
later x [] a = tt
later x (y ∷ xs) a = a.1

below : (x : ℕ) (xs : List ℕ) → Ascend (x ∷ xs) → (u : ℕ) → Contains xs u → x < u
below x [] a u c = absurd (none_in u c)
below x (y ∷ xs) a u c = elim (cons_cases y xs u c) [
  | inl e ↦ subst (λ n. x < n) e a.0
  | inr more ↦ let l = a.0 in let m = below y xs a.1 u more in omega (arith, l, m)
]

pub before : (xs : List ℕ) (i d : ℕ) → Ascend xs → i < length xs → (u : ℕ) → Contains (take i xs) u → u < get_or xs i d
before [] i d a l u c = absurd (let none : ⊥ = omega (arith, l) in none)
before (x ∷ xs) zero d a l u c = absurd (none_in u c)
before (x ∷ xs) (suc i) d a l u c =
    let m : i < length xs = omega (arith, l) in
    elim (cons_cases x (take i xs) u c) [
      | inl e ↦ subst (λ n. n < get_or xs i d) e (below x xs a (get_or xs i d) (Contains-get_or xs i d m))
      | inr k ↦ before xs i d (later x xs a) m u k
    ]

-- ---- the first of a list, and one more

pub taken : {X : Type 0} (xs : List X) (i : ℕ) (x : X) → i < length xs → x ≡ get_or xs i x → take i xs ++ x ∷ [] ≡ take (i + 1) xs
taken xs i x l is = ap (λ y. take i xs ++ y ∷ []) is ∙ sym (take_more xs i x l)

-- ---- those that are such, number after number

module _ (IsSuch : ℕ → Type 0) where
  pub those_none : AreThose IsSuch [] []
  those_none = record { ascends = tt; those = λ v. (λ c. absurd (none_in v c), λ k. k.0) }

  module _ (among those : List ℕ) (v : ℕ) (h : AreThose IsSuch among those) where
    pub push_those : ((u : ℕ) → Contains among u → u < v) → IsSuch v → AreThose IsSuch (among ++ v ∷ []) (those ++ v ∷ [])
    push_those lower s = record {
      ascends = ascends-push (λ m n. m < n) those v h.ascends (λ u c. lower u ((h.those u).0 c).0);
      those = λ u. (
        λ c. elim (Contains-push_cases those v u c) [
          | inl k ↦ let w = (h.those u).0 k in (Contains-append_left among (v ∷ []) u w.0, w.1)
          | inr e ↦ (subst (λ n. Contains (among ++ v ∷ []) n) e (Contains-push among v), subst IsSuch e s)
        ],
        λ k. elim (Contains-push_cases among v u k.0) [
          | inl c ↦ Contains-append_left those (v ∷ []) u ((h.those u).1 (c, k.1))
          | inr e ↦ subst (λ n. Contains (those ++ v ∷ []) n) e (Contains-push those v)
        ],
      );
    }

    pub skip_those : ¬ IsSuch v → AreThose IsSuch (among ++ v ∷ []) those
    skip_those n = record {
      ascends = h.ascends;
      those = λ u. (
        λ c. let w = (h.those u).0 c in (Contains-append_left among (v ∷ []) u w.0, w.1),
        λ k. elim (Contains-push_cases among v u k.0) [
          | inl c ↦ (h.those u).1 (c, k.1)
          | inr e ↦ absurd (n (subst IsSuch (sym e) k.1))
        ],
      );
    }

  -- of the first numbers of a list
  module _ (xs : List ℕ) (i v : ℕ) (a : Ascend xs) (l : i < length xs) (is : v ≡ get_or xs i v) (those : List ℕ) (h : AreThose IsSuch (take i xs) those) where
    pub those_push : IsSuch v → AreThose IsSuch (take (i + 1) xs) (those ++ v ∷ [])
    those_push s = subst (λ ns. AreThose IsSuch ns (those ++ v ∷ [])) (taken xs i v l is)
        (push_those (take i xs) those v h (λ u c. subst (λ n. u < n) (sym is) (before xs i v a l u c)) s)

    pub those_skip : ¬ IsSuch v → AreThose IsSuch (take (i + 1) xs) those
    those_skip n = subst (λ ns. AreThose IsSuch ns those) (taken xs i v l is) (skip_those (take i xs) those v h n)

  pub those_all : (xs : List ℕ) (i : ℕ) (those : List ℕ) → length xs ≤ i → AreThose IsSuch (take i xs) those → AreThose IsSuch xs those
  those_all xs i those l h = subst (λ ns. AreThose IsSuch ns those) (take_all i xs l) h

pub in_or_not : (xs : List ℕ) (u : ℕ) → Contains xs u ⊎ (¬ Contains xs u)
in_or_not [] u = inr (none_in u)
in_or_not (x ∷ xs) u = elim (cases_eq x u) [
  | inl e ↦ inl (subst (λ n. Contains (x ∷ xs) n) e (first_in x xs))
  | inr other ↦ elim (in_or_not xs u) [
    | inl c ↦ inl (later_in x xs u c)
    | inr n ↦ inr (λ c. elim (cons_cases x xs u c) [ inl e ↦ other e | inr k ↦ n k ])
  ]
]

-- ---- the numbers after one

pub counted : (last n v : ℕ) → Contains (count_on last n) v → (last < v) × (v ≤ last + n)
counted last zero v c = absurd (none_in v c)
counted last (suc n) v c = elim (Contains-push_cases (count_on last n) (last + n + 1) v c) [
  | inl k ↦ let b = counted last n v k in let l = b.0 in let m = b.1 in (l, omega (arith, m))
  | inr e ↦ (omega (arith, e), omega (arith, e))
]

pub count_to : (last n v : ℕ) → last < v → v ≤ last + n → Contains (count_on last n) v
count_to last zero v l m = absurd (let none : ⊥ = omega (arith, l, m) in none)
count_to last (suc n) v l m = elim (cases_eq v (last + n + 1)) [
  | inl e ↦ subst (λ u. Contains (count_on last n ++ (last + n + 1) ∷ []) u) (sym e) (Contains-push (count_on last n) (last + n + 1))
  | inr other ↦ Contains-append_left (count_on last n) ((last + n + 1) ∷ []) v (count_to last n v l (omega (arith, l, m, other)))
]

pub count_ascends : (last n : ℕ) → Ascend (count_on last n)
count_ascends last zero = tt
count_ascends last (suc n) =
    ascends-push (λ m k. m < k) (count_on last n) (last + n + 1) (count_ascends last n) (λ u c. let b = (counted last n u c).1 in omega (arith, b))

pub count_more : (last n : ℕ) → count_on last (n + 1) ≡ count_on last n ++ (last + n + 1) ∷ []
count_more last n = ap (count_on last) (add-one n)

-- ---- those of the first versions that hold

module _ (g : Graph) (i : ℕ) (active : List ℕ) (h : AreThose (Holds g) (count_on 0 i) active) (x : Version) (at : VersionAt g (i + 1) x) where
  next : count_on 0 i ++ (i + 1) ∷ [] ≡ count_on 0 (i + 1)
  next = let e : i + 1 ≡ 0 + i + 1 = omega arith in ap (λ n. count_on 0 i ++ n ∷ []) e ∙ sym (count_more 0 i)

  pub holds_push : x.replaced ≡ 0 → AreThose (Holds g) (count_on 0 (i + 1)) (active ++ (i + 1) ∷ [])
  holds_push e = subst (λ ns. AreThose (Holds g) ns (active ++ (i + 1) ∷ [])) next
      (push_those (Holds g) (count_on 0 i) active (i + 1) h (λ u c. let b = (counted 0 i u c).1 in omega (arith, b)) (x, (at, e)))

  pub holds_skip : ¬ (x.replaced ≡ 0) → AreThose (Holds g) (count_on 0 (i + 1)) active
  holds_skip n = subst (λ ns. AreThose (Holds g) ns active) next
      (skip_those (Holds g) (count_on 0 i) active (i + 1) h (λ k. n (subst (λ (y : Version). y.replaced ≡ 0) (same_version g (i + 1) k.0 x k.1.0 at) k.1.1)))

pub all_held : (g : Graph) (i : ℕ) (active : List ℕ) → length g.versions ≤ i → AreThose (Holds g) (count_on 0 i) active → AreActive g active
all_held g i active l h = record {
  ascends = h.ascends;
  holds = λ v. (
    λ c. ((h.those v).0 c).1,
    λ k. let b = version_within g v k.0 k.1.0 in let p = b.0 in let m = b.1 in (h.those v).1 (count_to 0 i v p (omega (arith, l, m)), k),
  );
}

-- ---- what the list of those that hold says of the number at a place

pub holds_at : (g : Graph) (active : List ℕ) (i v : ℕ) → AreActive g active → i < length active → v ≡ get_or active i v → Holds g v
holds_at g active i v h l is = (h.holds v).0 (i, l, sym is)
