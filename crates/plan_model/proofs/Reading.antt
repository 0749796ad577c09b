-- What the words of the plan network say of a graph.
use Rattle.std.proofs.Common.{◌≡◌, ℕ, suc, ◌-◌, ◌<◌, ◌≤◌, Bool, true, false, not, cond, ◌&&◌, List, [], ◌∷◌, length, get_or, Option, Some, None, sym, ap, ◌∙◌, subst, inl, inr, arith}
use Rattle.std.specs.Prelude.{Contains, ◌==◌, nat_lt, count_by}
use Rattle.std.specs.List.{list_any}
use Rattle.std.proofs.lemmas.Bool.{true≢false, cases_lt, cond-true, cond-false, eq-eqb, eqb-true, ne_eqb, not-true, not_from_false, and_parts, and_from, lt-ltb, le-ltb}
use Rattle.std.proofs.lemmas.Option.{slice_get_cases}
use Rattle.std.proofs.lemmas.List.Folds.{Any-from_list_any, list_any-from_Any}
use Rattle.std.proofs.lemmas.List.Sums.{sum_by-cons}
use Rattle.graph_model.specs.declared.graph.CellRecord.{CellRecord}
use Rattle.graph_model.specs.declared.graph.Version.{Version}
use Rattle.graph_model.specs.declared.graph.Graph.{Graph}
use Rattle.graph_model.specs.Graphs.{CellAt, VersionAt, IsActive, ReadsOldOf}
use Rattle.graph_model.specs.Faults.{IsGraph}
use Rattle.graph_model.specs.Networks.{count_up, cell_numbers, is_active_at, actives, is_old_of, reads_of, old_writers, writer_of}
use Rattle.graph_model.proofs.Lookups.{version_within}
use Rattle.graph_model.proofs.Needing.{writer_within}
use Rattle.plan_model.proofs.Ascents.{Rises, rises-tail}
use Rattle.plan_model.proofs.Deciding.{contains-cases, contains-nil}
use Rattle.plan_model.proofs.Listing.{count_up-from, count_up-to, count_up-has, count_up-rises, filter-has, filter-from, filter-rises, rises-above, sum-zero}
use Rattle.plan_model.proofs.Costing.{at_option}

-- a test of what a list has at an index, and false past its end
abbrev pub at_test : {X : Type 0} → (X → Bool) → Option X → Bool
at_test p None = false
at_test p (Some x) = p x

pub version_there : (g : Graph) (v : ℕ) → 0 < v → v ≤ length g.versions → (x : Version) × VersionAt g v x
version_there g v pos l = elim (slice_get_cases g.versions (v - 1)).1 [
  | inl h ↦ (h.0, (pos, h.2))
  | inr h ↦ let m : length g.versions ≤ v - 1 = h.0 in absurd (omega arith)
]

pub cell_there : (g : Graph) (c : ℕ) → 0 < c → c ≤ length g.cells → (x : CellRecord) × CellAt g c x
cell_there g c pos l = elim (slice_get_cases g.cells (c - 1)).1 [
  | inl h ↦ (h.0, (pos, h.2))
  | inr h ↦ let m : length g.cells ≤ c - 1 = h.0 in absurd (omega arith)
]

-- the numbers of the cells are those at which there is a record

pub cell_numbers-at : (g : Graph) (c : ℕ) → Contains (cell_numbers g) c → (x : CellRecord) × CellAt g c x
cell_numbers-at g c m =
    let l = count_up-from 1 (length g.cells) c m in
    let h = count_up-to 1 (length g.cells) c m in
    cell_there g c (omega arith) (omega arith)

pub cell_numbers-has : (g : Graph) (c : ℕ) → 0 < c → c ≤ length g.cells → Contains (cell_numbers g) c
cell_numbers-has g c p l = count_up-has 1 (length g.cells) c (omega arith) (omega arith)

-- the active versions

pub actives-at : (g : Graph) (v : ℕ) → Contains (actives g) v → (x : Version) × IsActive g v x
actives-at g v m =
    let f = filter-from (is_active_at g) (count_up 1 (length g.versions)) v m in
    let l = count_up-from 1 (length g.versions) v f.0 in
    let h = count_up-to 1 (length g.versions) v f.0 in
    let x = version_there g v (omega arith) (omega arith) in
    (x.0, (x.1, eqb-true x.0.replaced 0 (sym (ap (at_test (λ (y : Version). y.replaced == 0)) x.1.1) ∙ f.1)))

pub active_at-true : (g : Graph) (v : ℕ) (x : Version) → IsActive g v x → is_active_at g v ≡ true
active_at-true g v x a = ap (at_test (λ (y : Version). y.replaced == 0)) a.0.1 ∙ eq-eqb x.replaced 0 a.1

pub actives-has : (g : Graph) (v : ℕ) (x : Version) → IsActive g v x → Contains (actives g) v
actives-has g v x a =
    let w = version_within g v x a.0 in
    let l : 0 < v = w.0 in
    let h : v ≤ length g.versions = w.1 in
    filter-has (is_active_at g) (count_up 1 (length g.versions)) v (count_up-has 1 (length g.versions) v (omega arith) (omega arith)) (active_at-true g v x a)

pub actives-rise : (g : Graph) → Rises (actives g)
actives-rise g = filter-rises (is_active_at g) (count_up 1 (length g.versions)) (count_up-rises 1 (length g.versions))

pub writer_of-at : (g : Graph) (v : ℕ) (x : Version) → VersionAt g v x → writer_of g v ≡ x.writer
writer_of-at g v x at = ap (at_option (λ (y : Version). y.writer)) at.1

-- the writers of the replaced versions that a cell read

abbrev pub at_reads : Option CellRecord → List ℕ
at_reads None = []
at_reads (Some x) = x.reads

pub reads_of-at : (g : Graph) (c : ℕ) (x : CellRecord) → CellAt g c x → reads_of g c ≡ x.reads
reads_of-at g c x at = ap at_reads at.1

-- what a cell of a graph read is a version
pub read_there : (g : Graph) → IsGraph g → (c v : ℕ) (x : CellRecord) → CellAt g c x → Contains x.reads v → (y : Version) × VersionAt g v y
read_there g is c v x at r = elim (cases_lt 0 v) [
  | inl p ↦ elim (slice_get_cases g.versions (v - 1)).1 [
    | inl h ↦ (h.0, (p, h.2))
    | inr h ↦ absurd (is.reads c (x, at, inl (inr (v, r, inl (λ y a. none y (sym h.1 ∙ a.1))))))
  ]
  | inr z ↦ absurd (is.reads c (x, at, inl (inr (v, r, inl (λ y a. let l : 0 < v = a.0 in omega arith)))))
]
  where
    none : (y : Version) → None ≡ Some y → ⊥
    none y e = cc

pub is_old_of-at : (g : Graph) (w v : ℕ) (x : Version) → VersionAt g v x → is_old_of g w v ≡ (not (x.replaced == 0) && (x.writer == w))
is_old_of-at g w v x at = ap (at_test (λ (y : Version). not (y.replaced == 0) && (y.writer == w))) at.1

pub old_writers-from : (g : Graph) → IsGraph g → (c w : ℕ) (x : CellRecord) → CellAt g c x → Contains (old_writers g c) w → Contains (cell_numbers g) w × ReadsOldOf g c w
old_writers-from g is c w x at m =
    let f = filter-from (λ u. list_any (is_old_of g u) (reads_of g c)) (cell_numbers g) w m in
    let P : List ℕ → Type 0 = λ reads. list_any (is_old_of g w) reads ≡ true in
    let a = Any-from_list_any (is_old_of g w) x.reads (subst P (reads_of-at g c x at) f.1) in
    let r : Contains x.reads a.1 = (a.0, a.2, a.3) in
    let y = read_there g is c a.1 x at r in
    let b = and_parts (not (y.0.replaced == 0)) (y.0.writer == w) (sym (is_old_of-at g w a.1 y.0 y.1) ∙ a.4) in
    (f.0, (x, a.1, y.0, at, r, y.1, (λ z. true≢false (sym (eq-eqb y.0.replaced 0 z) ∙ not-true (y.0.replaced == 0) b.0)), eqb-true y.0.writer w b.1))

pub old_writers-has : (g : Graph) → IsGraph g → (c w : ℕ) → ReadsOldOf g c w → Contains (old_writers g c) w
old_writers-has g is c w o =
    let x = o.0 in
    let v = o.1 in
    let y = o.2 in
    let i = writer_within g is v y o.5 in
    let Q : ℕ → Type 0 = λ n. Contains (cell_numbers g) n in
    let n = subst Q o.7 (cell_numbers-has g y.writer i.0 i.1) in
    let t = is_old_of-at g w v y o.5 ∙ and_from (not (y.replaced == 0)) (y.writer == w) (not_from_false (y.replaced == 0) (ne_eqb y.replaced 0 o.6)) (eq-eqb y.writer w o.7) in
    let P : List ℕ → Type 0 = λ reads. list_any (is_old_of g w) reads ≡ true in
    let r = o.4 in
    filter-has (λ u. list_any (is_old_of g u) (reads_of g c)) (cell_numbers g) w n
    (subst P (sym (reads_of-at g c x o.3)) (list_any-from_Any (is_old_of g w) x.reads (r.0, v, r.1, r.2, t)))

-- in numbers that rise, the count of those below one of them is its index

pub rank-below : (xs : List ℕ) (v : ℕ) → Rises xs → Contains xs v → count_by (λ u. nat_lt u v) xs < length xs
rank-below [] v r c = absurd (contains-nil v c)
rank-below (x ∷ xs) v r c =
    let s = sum_by-cons (λ u. cond (nat_lt u v) 1 0) x xs in
    elim (contains-cases x xs v c) [
      | inl e ↦
          let a = cond-false {A = ℕ} (nat_lt x v) 1 0 (le-ltb x v (omega arith)) in
          let z = sum-zero (λ u. cond (nat_lt u v) 1 0) xs (λ n m. let l = rises-above x xs r n m in cond-false {A = ℕ} (nat_lt n v) 1 0 (le-ltb n v (omega arith))) in
          omega (arith, s, a, z)
      | inr d ↦
          let l = rises-above x xs r v d in
          let a = cond-true {A = ℕ} (nat_lt x v) 1 0 (lt-ltb x v l) in
          let i = rank-below xs v (rises-tail x xs r) d in
          omega (arith, s, a, i)
    ]

pub rank-at : (xs : List ℕ) (v d : ℕ) → Rises xs → Contains xs v → get_or xs (count_by (λ u. nat_lt u v) xs) d ≡ v
rank-at [] v d r c = absurd (contains-nil v c)
rank-at (x ∷ xs) v d r c =
    let s = sum_by-cons (λ u. cond (nat_lt u v) 1 0) x xs in
    let at : ℕ → ℕ = λ k. get_or (x ∷ xs) k d in
    elim (contains-cases x xs v c) [
      | inl e ↦
          let a = cond-false {A = ℕ} (nat_lt x v) 1 0 (le-ltb x v (omega arith)) in
          let z = sum-zero (λ u. cond (nat_lt u v) 1 0) xs (λ n m. let l = rises-above x xs r n m in cond-false {A = ℕ} (nat_lt n v) 1 0 (le-ltb n v (omega arith))) in
          let k : count_by (λ u. nat_lt u v) (x ∷ xs) ≡ 0 = omega (arith, s, a, z) in
          ap at k ∙ e
      | inr m ↦
          let l = rises-above x xs r v m in
          let a = cond-true {A = ℕ} (nat_lt x v) 1 0 (lt-ltb x v l) in
          let k : count_by (λ u. nat_lt u v) (x ∷ xs) ≡ suc (count_by (λ u. nat_lt u v) xs) = omega (arith, s, a) in
          ap at k ∙ rank-at xs v d (rises-tail x xs r) m
    ]
