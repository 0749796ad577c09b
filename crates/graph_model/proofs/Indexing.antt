-- The index of names, and that the first version that clashes by it is the first that isn't replaced as it should be.
use Rattle.std.proofs.Common.{◌≡◌, ◌≢◌, ◌⊎◌, ℕ, zero, suc, ◌+◌, ◌-◌, ◌<◌, ◌≤◌, ◌↔◌, not, ◌==◌, ltb, Bool, true, false, Option, Some, None, List, [], length, get_or, refl, sym, ap, ◌∙◌, subst, inl, inr, arith}
use Rattle.std.specs.Prelude.{Contains, IsTrue}
use Rattle.std.specs.FinMap as finite
use Rattle.std.specs.Ordering.{eq_by_cmp, nat_cmp}
use Rattle.std.specs.Cmp.{eq_by_cmp_equiv}
use Rattle.std.specs.Cmp.Lexicographic.{slice_cmp, nat_list_cmp_total}
use Rattle.std.proofs.lemmas.Bool.{cases_Bool, cases_eq, cases_lt, cond-true, cond-false, false≢true, not-true, not_from_false, eqb-false, ne_eqb, ltb-true, lt-ltb}
use Rattle.std.proofs.lemmas.List.{get_or_default}
use Rattle.std.proofs.lemmas.Option.{slice_get_read}
use Rattle.std.proofs.lemmas.Map.Views.{tells_apart}
use Rattle.flow_model.specs.First.{IsFirst}
use Rattle.graph_model.specs.declared.graph.Version.{Version}
use Rattle.graph_model.specs.declared.graph.Graph.{Graph}
use Rattle.graph_model.specs.Graphs.{VersionAt}
use Rattle.graph_model.specs.Faults.{HasName, IsNextWith, HasBadWriter, IsTwoActive, WrittenBefore, Never}
use Rattle.graph_model.specs.Walks.{NameIndex, Indexes, IsIndex, ClashesBy, Clashes, IsLeastClash}
use Rattle.graph_model.proofs.Walking.{first_unique}
use Rattle.graph_model.proofs.Lookups.{same_version, of_version, version_within}

abbrev tied : List ℕ → List ℕ → Bool
tied = eq_by_cmp (slice_cmp nat_cmp)

-- what fails of each first number fails of each number
least_not : (P : ℕ → Type 0) → ((n : ℕ) → IsFirst P n → ⊥) → (n : ℕ) → P n → ⊥
least_not P h n p = below (suc n) n (omega arith) p
  where
    below : (k n : ℕ) → n < k → P n → ⊥
    below zero n l p = absurd (omega arith)
    below (suc k) n l p = h n (p, λ m s q. below k m (omega arith) q)

-- ---- the order of the versions

version_there : (g : Graph) (v : ℕ) (y : Version) → 0 < v → v ≤ length g.versions → (x : Version) × VersionAt g v x
version_there g v y p l =
    let b : v - 1 < length g.versions = omega arith in
    (get_or g.versions (v - 1) y, (p, slice_get_read g.versions (length g.versions) (v - 1) (get_or g.versions (v - 1) y) refl b (get_or_default g.versions (v - 1) y _ b)))

module _ (g : Graph) (w : Never (HasBadWriter g)) where
  in_order : (v : ℕ) (y x : Version) → VersionAt g (v - 1) y → VersionAt g v x → y.writer ≤ x.writer
  in_order v y x aty at = elim (cases_lt x.writer y.writer) [
    | inl l ↦ absurd (w v (x, at, inr (y, aty, λ c. elim c [ inl a ↦ (omega arith) | inr e ↦ (let s = e.0 in omega arith) ])))
    | inr l ↦ omega arith
  ]

  pub writers_rise : (d u v : ℕ) (y x : Version) → v ≡ d + u → VersionAt g u y → VersionAt g v x → y.writer ≤ x.writer
  writers_rise zero u v y x e aty at =
      let q : v ≡ u = omega arith in
      let s = same_version g u y x aty (subst (λ n. VersionAt g n x) q at) in
      let t = ap (λ (z : Version). z.writer) s in
      omega arith
  writers_rise (suc d) u v y x e aty at =
      let a = version_within g u y aty in
      let b = version_within g v x at in
      let c = a.0 in
      let k = b.1 in
      let z = version_there g (v - 1) x (omega arith) (omega arith) in
      let r = writers_rise d u (v - 1) y z.0 (omega arith) aty z.1 in
      let i = in_order v z.0 x z.1 at in
      omega arith

  has_writer : (v : ℕ) (x : Version) → VersionAt g v x → x.writer ≢ 0
  has_writer v x at e = w v (x, at, inl (inl e))

  replaced_later : (v : ℕ) (x : Version) → VersionAt g v x → x.replaced ≢ 0 → x.writer < x.replaced
  replaced_later v x at ne = elim (cases_lt x.writer x.replaced) [
    | inl l ↦ l
    | inr l ↦ absurd (w v (x, at, inl (inr (inr (ne, inl (omega arith))))))
  ]

  -- ---- clashes and replacements

  clash : (v : ℕ) (x : Version) (name : List ℕ) → VersionAt g v x → Contains x.names name → ClashesBy g v x name → Clashes g v
  clash v x name at c k = (x, at, (name, c, k))

  pub clash_is_two : (v : ℕ) → Clashes g v → IsTwoActive g v
  clash_is_two v (x, at, s) = elim s.2 [
    | inl a ↦ (x, at, inl (s.0, a.0, a.1, s.1, a.2, a.3, a.4))
    | inr b ↦ (
      x,
      at,
      inr (inl (
        b.0,
        s.0,
        s.1,
        λ u y aty e n. elim (cases_lt v u) [
          | inl l ↦ b.1 u l (y, aty, n)
          | inr l ↦ absurd (let r = writers_rise (v - u) u v y x (omega arith) aty at in let q = replaced_later v x at b.0 in omega arith)
        ],
      )),
    )
  ]

  -- two versions of one writer share a name: the first clashes
  shared : (v u : ℕ) (x y : Version) (name : List ℕ) → VersionAt g v x → VersionAt g u y → Contains x.names name → Contains y.names name → v < u → y.writer ≡ x.writer → (Clashes g v → ⊥) → ⊥
  shared v u x y name at aty cx cy l e h = least_not (λ n. (v < n) × HasName g name n) (λ n f.
      let z = f.0.1 in
      let s : v < n = f.0.0 in
      let t : n ≤ u = elim (cases_lt u n) [ inl b ↦ absurd (f.1 u b (l, (y, aty, cy))) | inr b ↦ omega arith ] in
      let a = writers_rise (n - v) v n x z.0 (omega arith) at z.1 in
      let b = writers_rise (u - n) n u z.0 y (omega arith) z.1 aty in
      let d : z.0.writer ≢ x.replaced = (λ q. elim (cases_eq x.replaced 0) [
        | inl o ↦ (let r = has_writer v x at in r (omega arith))
        | inr o ↦ (let r = replaced_later v x at o in omega arith)
      ]) in
      h (clash v x name at cx (inl (n, z.0, f, z.1, d)))) u (l, (y, aty, cy))

  pub two_has_clash : (m : ℕ) → IsTwoActive g m → ((k : ℕ) → k ≤ m → Clashes g k → ⊥) → ⊥
  two_has_clash m (x, at, t) h = elim t [
    | inl a ↦ h m (omega arith) (clash m x a.0 at a.3 (inl (a.1, a.2, a.4, a.5, a.6)))
    | inr r ↦ elim r [
      | inl b ↦ h m (omega arith) (clash m x b.1 at b.2 (inr (
        b.0,
        λ u l n.
            least_not (λ n. (m < n) × HasName g b.1 n) (λ k f. elim (cases_eq f.0.1.0.writer x.replaced) [
              | inl e ↦ b.3 k f.0.1.0 f.0.1.1 e f.0.1.2
              | inr ne ↦ h m (omega arith) (clash m x b.1 at b.2 (inl (k, f.0.1.0, f, f.0.1.1, ne)))
            ]) u (l, n),
      )))
      | inr e ↦ elim (cases_lt m e.1) [
        | inl l ↦ shared m e.1 x e.2 e.0 at e.5 e.4 e.7 l e.6 (h m (omega arith))
        | inr l ↦ (let s = e.3 in let k : e.1 < m = omega arith in shared e.1 m e.2 x e.0 e.5 at e.7 e.4 k (sym e.6) (h e.1 (omega arith)))
      ]
    ]
  ]

  pub never_two : IsLeastClash g 0 None → Never (IsTwoActive g)
  never_two h m t = two_has_clash m t (λ k l c. let p : 0 < k = c.1.0 in h k p c)

  pub first_two : (n : ℕ) → IsLeastClash g 0 (Some n) → IsFirst (IsTwoActive g) n
  first_two n h = (clash_is_two n h.1, λ m l t. two_has_clash m t (λ k s c. let p : 0 < k = c.1.0 in h.2 k p (omega arith) c))

-- ---- one version more

pub least_here : (g : Graph) (v : ℕ) → 0 < v → Clashes g v → IsLeastClash g (v - 1) (Some v)
least_here g v p c = (omega arith, c, λ m l s. absurd (omega arith))

pub least_down : (g : Graph) (v : ℕ) (o : Option ℕ) → (Clashes g v → ⊥) → IsLeastClash g v o → IsLeastClash g (v - 1) o
least_down g v None n h = λ m l c. elim (cases_lt v m) [
  | inl s ↦ h m s c
  | inr s ↦ (let e : m ≡ v = omega arith in n (subst (Clashes g) e c))
]
least_down g v (Some u) n h = (
  let l = h.0 in omega arith,
  h.1,
  λ m l s c. elim (cases_lt v m) [
    | inl t ↦ h.2 m t s c
    | inr t ↦ (let e : m ≡ v = omega arith in n (subst (Clashes g) e c))
  ],
)

indexes_here : (g : Graph) (v : ℕ) (name : List ℕ) → 0 < v → HasName g name v → Indexes g (v - 1) name (Some v)
indexes_here g v name p n = ((omega arith, n), λ m l s. absurd (let a = s.0 in omega arith))

indexes_down : (g : Graph) (v : ℕ) (name : List ℕ) (o : Option ℕ) → (HasName g name v → ⊥) → Indexes g v name o → Indexes g (v - 1) name o
indexes_down g v name None n h = λ u l c. elim (cases_lt v u) [
  | inl s ↦ h u s c
  | inr s ↦ (let e : u ≡ v = omega arith in n (subst (HasName g name) e c))
]
indexes_down g v name (Some u) n h = (
  (let l = h.0.0 in omega arith, h.0.1),
  λ m l s. elim (cases_lt v m) [
    | inl t ↦ h.1 m l (t, s.1)
    | inr t ↦ (let a = s.0 in let e : m ≡ v = omega arith in n (subst (HasName g name) e s.1))
  ],
)

pub index_down : (g : Graph) (v : ℕ) (index : NameIndex) → ((x : Version) → VersionAt g v x → ⊥) → IsIndex g v index → IsIndex g (v - 1) index
index_down g v index n h = λ name. indexes_down g v name (finite.get index name) (λ c. n c.0 c.1) (h name)

pub no_index : (g : Graph) (v : ℕ) → length g.versions ≤ v → IsIndex g v finite.empty
no_index g v l = λ name. subst (λ o. Indexes g v name o) (sym (finite.get-empty (slice_cmp nat_cmp) name)) (λ u s c. let b = (version_within g u c.0 c.1).1 in omega arith)

pub no_clash : (g : Graph) (v : ℕ) → length g.versions ≤ v → IsLeastClash g v None
no_clash g v l = λ m s c. let b = (version_within g m c.0 c.1).1 in omega arith

-- the first names of a version are in the index, and the others are as before
abbrev pub IsBegun : Graph → ℕ → List (List ℕ) → ℕ → NameIndex → Type 0
IsBegun g v names i index = (name : List ℕ) → ((k : ℕ) × (k < i) × (get_or names k [] ≡ name) × (finite.get index name ≡ Some v))
    ⊎ (((k : ℕ) → k < i → get_or names k [] ≢ name) × Indexes g v name (finite.get index name))

tied_same : (x y : List ℕ) → tied x y ≡ true → x ≡ y
tied_same x y t = tells_apart (finite.slice_cmp-IsAntisymmetric finite.nat_cmp-IsAntisymmetric) x y t

pub index_goes_on : (g : Graph) (v : ℕ) (names : List (List ℕ)) (i : ℕ) (index : NameIndex) (name : List ℕ) → name ≡ get_or names i [] → IsBegun g v names i index → IsBegun g v names (i + 1) (finite.insert index name v)
index_goes_on g v names i index name s h = λ q.
    let looked = finite.get-insert nat_list_cmp_total index name v q in
    elim (cases_Bool (tied q name)) [
      | inl t ↦ inl (i, omega arith, sym s ∙ sym (tied_same q name t), looked ∙ cond-true (tied q name) _ _ t)
      | inr f ↦ elim (h q) [
        | inl a ↦ inl (a.0, let b = a.1 in omega arith, a.2, (looked ∙ cond-false (tied q name) _ _ f) ∙ a.3)
        | inr b ↦ inr (
          λ k l e. elim (cases_lt k i) [
            | inl c ↦ b.0 k c e
            | inr c ↦ (let z : k ≡ i = omega arith in
                let r : name ≡ q = s ∙ (ap (λ j. get_or names j []) (sym z) ∙ e) in
                false≢true (sym f ∙ subst (λ y. tied y name ≡ true) r ((eq_by_cmp_equiv nat_list_cmp_total).refl name)))
          ],
          subst (λ o. Indexes g v q o) (sym (looked ∙ cond-false (tied q name) _ _ f)) b.1,
        )
      ]
    ]

pub index_ends : (g : Graph) (v : ℕ) (x : Version) (i : ℕ) (index : NameIndex) → VersionAt g v x → i ≡ length x.names → IsBegun g v x.names i index → IsIndex g (v - 1) index
index_ends g v x i index at e h = λ name. elim (h name) [
  | inl a ↦ (let b = a.1 in
      let l : a.0 < length x.names = omega arith in
      subst (λ o. Indexes g (v - 1) name o) (sym a.3) (indexes_here g v name at.0 (x, at, (a.0, l, sym (get_or_default x.names a.0 [] name l) ∙ a.2))))
  | inr b ↦ indexes_down g v name (finite.get index name) (λ c.
      let k = of_version (λ y. Contains y.names name) g v x c.0 at c.1 c.2 in
      let l = k.1 in
      b.0 k.0 (omega arith) (get_or_default x.names k.0 [] name l ∙ k.2)) b.1
]

-- ---- names that were written before

pub written_if : (g : Graph) (c : ℕ) (name : List ℕ) (u : ℕ) (y : Version) → IsNextWith g 0 name u → VersionAt g u y → y.writer < c → WrittenBefore g c name
written_if g c name u y n at l = (
  u,
  y,
  at,
  of_version (λ z. Contains z.names name) g u y n.0.1.0 at n.0.1.1 n.0.1.2,
  l,
)

pub written_only_if : (g : Graph) (c : ℕ) (name : List ℕ) (u : ℕ) (y : Version) → Never (HasBadWriter g) → IsNextWith g 0 name u → VersionAt g u y → WrittenBefore g c name → y.writer < c
written_only_if g c name u y w n at b =
    let p : 0 < b.0 = b.2.0 in
    let l : u ≤ b.0 = elim (cases_lt b.0 u) [ inl s ↦ absurd (n.1 b.0 s (p, (b.1, b.2, b.3))) | inr s ↦ omega arith ] in
    let r = writers_rise g w (b.0 - u) u b.0 y b.1 (omega arith) at b.2 in
    let k = b.4 in
    omega arith

-- ---- what the code's tests say

next_same : (g : Graph) (v : ℕ) (name : List ℕ) (u w : ℕ) (x y : Version) → IsNextWith g v name u → VersionAt g u x → IsNextWith g v name w → VersionAt g w y → x ≡ y
next_same g v name u w x y h at i bt =
    let e : w ≡ u = first_unique _ w u i h in
    same_version g u x y at (subst (λ n. VersionAt g n y) e bt)

pub clash_some : (g : Graph) (v : ℕ) (x : Version) (name : List ℕ) (o : Option ℕ) (u : ℕ) (next : Version) → o ≡ Some u → Indexes g v name o → VersionAt g u next
    → IsTrue (not (next.writer == x.replaced)) ↔ ClashesBy g v x name
clash_some g v x name o u next e i at =
    let h : IsNextWith g v name u = subst (λ p. Indexes g v name p) e i in (
      λ t. inl (u, next, h, at, eqb-false _ _ (not-true _ t)),
      λ k. elim k [
        | inl a ↦ not_from_false _ (ne_eqb _ _ (λ q. a.4 (ap (λ (z : Version). z.writer) (next_same g v name a.0 u a.1 next a.2 a.3 h at) ∙ q)))
        | inr b ↦ absurd (b.1 u h.0.0 h.0.1)
      ],
    )

pub clash_none : (g : Graph) (v : ℕ) (x : Version) (name : List ℕ) (o : Option ℕ) → o ≡ None → Indexes g v name o → IsTrue (not (x.replaced == 0)) ↔ ClashesBy g v x name
clash_none g v x name o e i =
    let h : (u : ℕ) → v < u → HasName g name u → ⊥ = subst (λ p. Indexes g v name p) e i in (
      λ t. inr (eqb-false _ _ (not-true _ t), h),
      λ k. elim k [
        | inl a ↦ absurd (h a.0 a.2.0.0 a.2.0.1)
        | inr b ↦ not_from_false _ (ne_eqb _ _ b.0)
      ],
    )

pub written_some : (g : Graph) (c : ℕ) (name : List ℕ) (o : Option ℕ) (u : ℕ) (y : Version) → Never (HasBadWriter g) → o ≡ Some u → Indexes g 0 name o → VersionAt g u y → IsTrue (ltb y.writer c) ↔ WrittenBefore g c name
written_some g c name o u y w e i at =
    let h : IsNextWith g 0 name u = subst (λ p. Indexes g 0 name p) e i in
    (λ t. written_if g c name u y h at (ltb-true y.writer c t), λ b. lt-ltb y.writer c (written_only_if g c name u y w h at b))

pub written_none : (g : Graph) (c : ℕ) (name : List ℕ) (o : Option ℕ) → o ≡ None → Indexes g 0 name o → IsTrue false ↔ WrittenBefore g c name
written_none g c name o e i =
    let h : (u : ℕ) → 0 < u → HasName g name u → ⊥ = subst (λ p. Indexes g 0 name p) e i in
    (λ t. absurd (false≢true t), λ b. absurd (h b.0 b.2.0 (b.1, b.2, b.3)))
