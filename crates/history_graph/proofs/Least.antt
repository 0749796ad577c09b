-- The parts by their least names, and which names were a part.
use Rattle.std.proofs.Common.{◌≡◌, ℕ, zero, suc, ◌+◌, ◌<◌, Bool, true, false, not, List, [], ◌∷◌, length, is_some, Some, None, refl, sym, ap, ◌∙◌, inl, inr, subst, arith}
use Rattle.std.specs.Prelude.{Contains, IsTrue, ◌↔◌, slice_get}
use Rattle.std.specs.FinMap as finite
use Rattle.std.specs.Ordering.{nat_cmp}
use Rattle.std.specs.Cmp.Lexicographic.{slice_cmp}
use Rattle.std.proofs.lemmas.Bool.{cases_eq, false≢true}
use Rattle.std.proofs.lemmas.Option.{none-some, same_Some, slice_get_within}
use Rattle.py_laws.proofs.Members.{name_cases}
use Rattle.py_heap.specs.declared.state.State.{State}
use Rattle.py_machine.specs.declared.marks.Marks.{Marks}
use Rattle.py_machine.specs.Marked.{Name, IsIn}
use Rattle.graph_model.specs.Faults.{TextBelow, Ascends, least_name}
use Rattle.part_table.specs.declared.part.Part.{Part}
use Rattle.linked_parts.specs.PartList.{PartList}
use Rattle.linked_parts.specs.Parts.{LeastBelow, ArePartsOf}
use Rattle.linked_parts.proofs.Lists.{cons_cases, none_in, below_on, never_below_itself}
use Rattle.run_graph.proofs.Growing.{in_of_get, get_of_in}
use Rattle.history_graph.specs.Sets.{HasOneOf}
use Rattle.history_graph.specs.Written.{WasPart, IsSorted, Numbered, IsByLeast}
use Rattle.history_graph.proofs.Keys.{got_here, got_there}

pub least_none : (parts : PartList) → IsByLeast parts 0 finite.empty
least_none parts = record {
  found = λ name n e. absurd (none-some n (sym (finite.get-empty (slice_cmp nat_cmp) name) ∙ e));
  has = λ n q l e. absurd (let none : n < 0 = l in omega arith);
}

module _ (parts : PartList) (i : ℕ) (index : Numbered) (h : IsByLeast parts i index) (q : Part) (at : slice_get parts.list i ≡ Some q) (name : Name) (e : name ≡ least_name q.names) where
  now_found : (other : Name) (n : ℕ) → finite.get (finite.insert index name i) other ≡ Some n → (p : Part) × (slice_get parts.list n ≡ Some p) × (least_name p.names ≡ other)
  now_found other n g = elim (name_cases name other) [
    | inl same ↦
        let f : i ≡ n = same_Some i n (sym (got_here index name other i same) ∙ g) in
        (q, subst (λ m. slice_get parts.list m ≡ Some q) f at, sym e ∙ same)
    | inr different ↦ h.found other n (sym (got_there index name other i different) ∙ g)
  ]

  now_has : (n : ℕ) (p : Part) → n < i + 1 → slice_get parts.list n ≡ Some p → is_some (finite.get (finite.insert index name i) (least_name p.names)) ≡ true
  now_has n p l g = elim (name_cases name (least_name p.names)) [
    | inl is ↦ ap is_some (got_here index name (least_name p.names) i is)
    | inr different ↦ elim (cases_eq n i) [
      | inl same ↦
          let f : q ≡ p = same_Some q p (sym at ∙ subst (λ m. slice_get parts.list m ≡ Some p) same g) in
          absurd (different (e ∙ ap (λ (z : Part). least_name z.names) f))
      | inr other ↦ ap is_some (got_there index name (least_name p.names) i different) ∙ h.has n p (omega (arith, l, other)) g
    ]
  ]

  pub least_more : IsByLeast parts (i + 1) (finite.insert index name i)
  least_more = record { found = now_found; has = now_has }

-- ---- two parts with one least name

lower : (p : Part) (ps : List Part) → Ascends LeastBelow (p ∷ ps) → (q : Part) → Contains ps q → LeastBelow p q
lower p [] a q h = absurd (none_in q h)
lower p (z ∷ ps) a q h = elim (cons_cases z ps q h) [
  | inl e ↦ subst (LeastBelow p) e a.0
  | inr k ↦ below_on (least_name p.names) (least_name z.names) (least_name q.names) a.0 (lower z ps a.1 q k)
]

rest : (p : Part) (ps : List Part) → Ascends LeastBelow (p ∷ ps) → Ascends LeastBelow ps
rest p [] a = tt
rest p (q ∷ ps) a = a.1

pub not_below : (p q : Part) → least_name p.names ≡ least_name q.names → ¬ LeastBelow p q
not_below p q e h = never_below_itself (least_name q.names) (subst (λ x. TextBelow x (least_name q.names)) e h)

pub one_least : (ps : List Part) → Ascends LeastBelow ps → (p q : Part) → Contains ps p → Contains ps q → least_name p.names ≡ least_name q.names → p ≡ q
one_least [] a p q c d e = absurd (none_in p c)
one_least (z ∷ zs) a p q c d e = elim (cons_cases z zs p c) [
  | inl f ↦ elim (cons_cases z zs q d) [
    | inl g ↦ sym f ∙ g
    | inr g ↦ absurd (not_below z q (ap (λ (y : Part). least_name y.names) f ∙ e) (lower z zs a q g))
  ]
  | inr f ↦ elim (cons_cases z zs q d) [
    | inl g ↦ absurd (not_below z p (ap (λ (y : Part). least_name y.names) g ∙ sym e) (lower z zs a p f))
    | inr g ↦ one_least zs (rest z zs a) p q f g e
  ]
]

-- of two parts the first has the lower least name
pub ordered : (ps : List Part) → Ascends LeastBelow ps → (m n : ℕ) (p q : Part) → m < n → slice_get ps m ≡ Some p → slice_get ps n ≡ Some q → LeastBelow p q
ordered [] a m n p q l g k = absurd (none-some p g)
ordered (z ∷ zs) a zero zero p q l g k = absurd (omega (arith, l))
ordered (z ∷ zs) a zero (suc n) p q l g k = subst (λ y. LeastBelow y q) (same_Some z p g) (lower z zs a q (in_of_get zs n q k))
ordered (z ∷ zs) a (suc m) zero p q l g k = absurd (omega (arith, l))
ordered (z ∷ zs) a (suc m) (suc n) p q l g k = ordered zs (rest z zs a) m n p q (omega (arith, l)) g k

-- ---- which names were a part

module _ (s : State) (parts : PartList) (are : ArePartsOf s parts) where
  module _ (index : Numbered) (h : IsByLeast parts (length parts.list) index) (names : List Name) (least : Name) (more : List Name) (e : names ≡ least ∷ more) where
    is_least : (q : Part) → q.names ≡ names → least_name q.names ≡ least
    is_least q f = ap least_name (f ∙ e)

    pub was_none : finite.get index least ≡ None → ¬ WasPart parts names
    was_none none (q, c, f) =
        let n = get_of_in parts.list q c in
        let some = h.has n.0 q (slice_get_within parts.list n.0 q n.1) n.1 in
        false≢true (sym (ap is_some (subst (λ x. finite.get index x ≡ None) (sym (is_least q f)) none)) ∙ some)

    pub was_found : (n : ℕ) → finite.get index least ≡ Some n → (b : Bool) → IsTrue b ↔ ((q : Part) × (slice_get parts.list n ≡ Some q) × (q.names ≡ names)) → IsTrue b ↔ WasPart parts names
    was_found n some b w = (
      λ t. let q = w.0 t in (q.0, in_of_get parts.list n q.0 q.1, q.2),
      λ (q, c, f).
          let p = h.found least n some in
          let same : p.0 ≡ q = one_least parts.list are.ascends p.0 q (in_of_get parts.list n p.0 p.1) c (p.2 ∙ sym (is_least q f)) in
          w.1 (p.0, p.1, ap (λ (z : Part). z.names) same ∙ f),
    )

-- ---- written or kept

pub sorted_by : (before : PartList) (marks : Marks) (p : Part) (b : Bool) → IsTrue b ↔ WasPart before p.names → ¬ HasOneOf marks.bound p.names
    → ¬ ((at : ℕ) × Contains p.objects at × IsIn marks.changed at) → IsSorted before marks p (not b)
sorted_by before marks p true w n m = record {
  names_stay = λ x c i. n (x, c, i.is);
  objects_stay = λ at c i. m (at, c, i);
  was = w.0 refl;
}
sorted_by before marks p false w n m = inr (inr (λ k. false≢true (w.1 k)))
