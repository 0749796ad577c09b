-- The plan network is a network, and what a cut of it may carry is a sum over versions and cells.
use Rattle.std.proofs.Common.{◌≡◌, ℕ, ◌+◌, ◌<◌, ◌≤◌, Bool, true, false, not, cond, ◌&&◌, List, [], ◌∷◌, ◌++◌, map, length, refl, sym, ap, ◌∙◌, subst, arith}
use Rattle.std.specs.Prelude.{Contains, sum_by}
use Rattle.std.specs.List.{flat_map, AllByRecursion}
use Rattle.std.proofs.lemmas.Bool.{false≢true}
use Rattle.std.proofs.lemmas.List.Sums.{sum_by-cons, sum_by-append}
use Rattle.flow_model.specs.Flows.{Joins, IsNet, cut_capacity}
use Rattle.graph_model.specs.declared.graph.Graph.{Graph}
use Rattle.graph_model.specs.declared.plan.Weights.{Weights}
use Rattle.graph_model.specs.declared.plan.Node.TheVariants as node
use Rattle.graph_model.specs.Faults.{IsGraph}
use Rattle.graph_model.specs.Networks.{PlanArc, cell_numbers, actives, old_writers, writer_of, copy_arc, writer_arc, read_arc, rerun_arc, network, number_of, numbered, net_of}
use Rattle.graph_model.proofs.Needing.{writer_within}
use Rattle.plan_model.proofs.Listing.{count_up-from, count_up-to, every-append, every-map, every-flat_map, sum-map, sum-flat_map, sum-same}
use Rattle.plan_model.proofs.Reading.{actives-at, actives-rise, writer_of-at, cell_numbers-at, cell_numbers-has, old_writers-from, rank-below}

-- the numbers of the nodes

pub version-number : (g : Graph) (v : ℕ) → Contains (actives g) v → (2 ≤ number_of g (node.Version v)) × (number_of g (node.Version v) < 2 + length (actives g))
version-number g v c = let r = rank-below (actives g) v (actives-rise g) c in (omega arith, omega (arith, r))

pub cell-number : (g : Graph) (c : ℕ) → Contains (cell_numbers g) c → (2 + length (actives g) ≤ number_of g (node.Cell c)) × (number_of g (node.Cell c) < 2 + length (actives g) + length g.cells)
cell-number g c m =
    let l = count_up-from 1 (length g.cells) c m in
    let h = count_up-to 1 (length g.cells) c m in
    (omega (arith, l), omega (arith, h))

-- the writer of an active version is a cell
pub writer-numbered : (g : Graph) → IsGraph g → (v : ℕ) → Contains (actives g) v → Contains (cell_numbers g) (writer_of g v)
writer-numbered g is v c =
    let a = actives-at g v c in
    let w = writer_within g is v a.0 a.1.0 in
    let P : ℕ → Type 0 = λ n. Contains (cell_numbers g) n in
    subst P (sym (writer_of-at g v a.0 a.1.0)) (cell_numbers-has g a.0.writer w.0 w.1)

-- the plan network is a network

abbrev IsJoined : Graph → PlanArc → Type 0
IsJoined g arc = Joins (2 + length (actives g) + length g.cells) (numbered g arc)

joined-map : (g : Graph) (arcs : List PlanArc) → AllByRecursion (IsJoined g) arcs → AllByRecursion (Joins (2 + length (actives g) + length g.cells)) (map (numbered g) arcs)
joined-map g [] h = tt
joined-map g (arc ∷ arcs) h = (h.0, joined-map g arcs h.1)

joined-copy : (g : Graph) (w : Weights) (v : ℕ) → Contains (actives g) v → IsJoined g (copy_arc g w v)
joined-copy g w v c =
    let n = version-number g v c in
    let lo = n.0 in
    let hi = n.1 in
    record { from = omega arith; to = omega (arith, hi); leaves = λ e. omega (arith, e); enters = λ e. omega (arith, e, lo) }

joined-writer : (g : Graph) → IsGraph g → (v : ℕ) → Contains (actives g) v → IsJoined g (writer_arc g v)
joined-writer g is v c =
    let n = version-number g v c in
    let m = cell-number g (writer_of g v) (writer-numbered g is v c) in
    let a = n.0 in
    let b = n.1 in
    let d = m.0 in
    let e = m.1 in
    record { from = omega (arith, b); to = omega (arith, e); leaves = λ f. omega (arith, f, a); enters = λ f. omega (arith, f, d) }

joined-read : (g : Graph) (c d : ℕ) → Contains (cell_numbers g) c → Contains (cell_numbers g) d → IsJoined g (read_arc c d)
joined-read g c d i j =
    let m = cell-number g c i in
    let n = cell-number g d j in
    let a = m.0 in
    let b = m.1 in
    let e = n.0 in
    let h = n.1 in
    record { from = omega (arith, b); to = omega (arith, h); leaves = λ f. omega (arith, f, a); enters = λ f. omega (arith, f, e) }

joined-rerun : (g : Graph) (w : Weights) (c : ℕ) → Contains (cell_numbers g) c → IsJoined g (rerun_arc g w c)
joined-rerun g w c i =
    let m = cell-number g c i in
    let a = m.0 in
    let b = m.1 in
    record { from = omega (arith, b); to = omega arith; leaves = λ f. omega (arith, f, a); enters = λ f. omega (arith, f) }

pub plan_network_is_net : (g : Graph) (w : Weights) → IsGraph g → IsNet (net_of g w)
plan_network_is_net g w is = record {
  ends = omega arith;
  joined = joined-map g (network g w)
      (every-append (IsJoined g) ((map (copy_arc g w) (actives g) ++ map (writer_arc g) (actives g)) ++ flat_map (λ c. map (read_arc c) (old_writers g c)) (cell_numbers g)) (map (rerun_arc g w) (cell_numbers g))
      (every-append (IsJoined g) (map (copy_arc g w) (actives g) ++ map (writer_arc g) (actives g)) (flat_map (λ c. map (read_arc c) (old_writers g c)) (cell_numbers g))
      (every-append (IsJoined g) (map (copy_arc g w) (actives g)) (map (writer_arc g) (actives g))
      (every-map (IsJoined g) (copy_arc g w) (actives g) (joined-copy g w))
      (every-map (IsJoined g) (writer_arc g) (actives g) (joined-writer g is)))
      (every-flat_map (IsJoined g) (λ c. map (read_arc c) (old_writers g c)) (cell_numbers g) (λ c i.
      every-map (IsJoined g) (read_arc c) (old_writers g c) (λ d j.
      let x = cell_numbers-at g c i in joined-read g c d i (old_writers-from g is c d x.0 x.1 j).0))))
      (every-map (IsJoined g) (rerun_arc g w) (cell_numbers g) (joined-rerun g w)));
}

-- what an arc adds to what the arcs that leave the set may carry
abbrev pub cut_term : (ℕ → Bool) → Graph → PlanArc → ℕ
cut_term side g arc = cond (side (number_of g arc.from) && not (side (number_of g arc.to))) arc.capacity 0

cut-sum : (side : ℕ → Bool) (g : Graph) (arcs : List PlanArc) → cut_capacity side (map (numbered g) arcs) ≡ sum_by (cut_term side g) arcs
cut-sum side g [] = refl
cut-sum side g (arc ∷ arcs) =
    let s = sum_by-cons (cut_term side g) arc arcs in
    let r = cut-sum side g arcs in
    ap (λ (n : ℕ). cut_term side g arc + n) r ∙ sym s

abbrev pub copies_cut : (ℕ → Bool) → Graph → Weights → ℕ
copies_cut side g w = sum_by (λ v. cut_term side g (copy_arc g w v)) (actives g)

abbrev pub writers_cut : (ℕ → Bool) → Graph → ℕ
writers_cut side g = sum_by (λ v. cut_term side g (writer_arc g v)) (actives g)

abbrev pub reads_cut : (ℕ → Bool) → Graph → ℕ
reads_cut side g = sum_by (λ c. sum_by (λ d. cut_term side g (read_arc c d)) (old_writers g c)) (cell_numbers g)

abbrev pub reruns_cut : (ℕ → Bool) → Graph → Weights → ℕ
reruns_cut side g w = sum_by (λ c. cut_term side g (rerun_arc g w c)) (cell_numbers g)

pub cut-parts : (side : ℕ → Bool) (g : Graph) (w : Weights)
    → cut_capacity side (net_of g w).arcs ≡ copies_cut side g w + writers_cut side g + reads_cut side g + reruns_cut side g w
cut-parts side g w =
    let T : PlanArc → ℕ = cut_term side g in
    let A = map (copy_arc g w) (actives g) in
    let B = map (writer_arc g) (actives g) in
    let C = flat_map (λ c. map (read_arc c) (old_writers g c)) (cell_numbers g) in
    let D = map (rerun_arc g w) (cell_numbers g) in
    let a = sum-map T (copy_arc g w) (actives g) in
    let b = sum-map T (writer_arc g) (actives g) in
    let c = sum-flat_map T (λ c. map (read_arc c) (old_writers g c)) (cell_numbers g) in
    let e = sum-same (λ c. sum_by T (map (read_arc c) (old_writers g c))) (λ c. sum_by (λ d. T (read_arc c d)) (old_writers g c)) (cell_numbers g)
    (λ n m. sum-map T (read_arc n) (old_writers g n)) in
    let d = sum-map T (rerun_arc g w) (cell_numbers g) in
    let p = sum_by-append T (A ++ B ++ C) D in
    let q = sum_by-append T (A ++ B) C in
    let r = sum_by-append T A B in
    let s = cut-sum side g (network g w) in
    s ∙ omega (arith, a, b, c, d, e, p, q, r)

-- one arc, by the sides of its ends

pub cross-out : (p q : Bool) (c : ℕ) → (p ≡ true → q ≡ true) → cond (p && not q) c 0 ≡ 0
cross-out true true c h = refl
cross-out true false c h = absurd (false≢true (h refl))
cross-out false true c h = refl
cross-out false false c h = refl

pub cross-in : (p q : Bool) (c : ℕ) → cond (p && not q) c 0 < c → p ≡ true → q ≡ true
cross-in true true c l h = refl
cross-in true false c l h = absurd (omega arith)
cross-in false q c l h = absurd (false≢true h)

pub cross-source : (p q : Bool) (c k : ℕ) → p ≡ true → (q ≡ false → c ≡ k) → cond (p && not q) c 0 ≡ cond (not q) k 0
cross-source true true c k h e = refl
cross-source true false c k h e = e refl
cross-source false q c k h e = absurd (false≢true h)

pub cross-sink : (p q : Bool) (c k : ℕ) → q ≡ false → (p ≡ true → c ≡ k) → cond (p && not q) c 0 ≡ cond p k 0
cross-sink true true c k h e = absurd (false≢true (sym h))
cross-sink true false c k h e = e refl
cross-sink false true c k h e = refl
cross-sink false false c k h e = refl
