-- A cut of finite capacity is a feasible plan, and its capacity is what the plan costs.
use Rattle.std.proofs.Common.{◌≡◌, ℕ, ◌<◌, Bool, true, false, not, cond, ◌&&◌, length, sym, ◌∙◌, subst, inl, inr, arith}
use Rattle.std.specs.Prelude.{Contains, sum_by}
use Rattle.std.proofs.lemmas.Bool.{false≢true, true≢false, cases_Bool, not_from_false, not-true, false_from_ne_true}
use Rattle.flow_model.specs.Flows.{IsCut, cut_capacity}
use Rattle.graph_model.specs.declared.graph.CellRecord.{CellRecord}
use Rattle.graph_model.specs.declared.graph.Version.{Version}
use Rattle.graph_model.specs.declared.graph.Graph.{Graph}
use Rattle.graph_model.specs.declared.plan.Weights.{Weights}
use Rattle.graph_model.specs.declared.plan.Node.TheVariants as node
use Rattle.graph_model.specs.Graphs.{CellAt, VersionAt}
use Rattle.graph_model.specs.Faults.{IsGraph}
use Rattle.graph_model.specs.Plans.{NamesOf, IsFeasible, copy_cost, rerun_cost, cost}
use Rattle.graph_model.specs.Networks.{unbounded, cell_numbers, actives, old_writers, writer_of, copy_capacity, rerun_capacity, copy_arc, writer_arc, read_arc, rerun_arc, number_of, net_of, plan_of_cut}
use Rattle.plan_model.proofs.Listing.{filter-has, filter-from, filter-rises, count_up-rises, sum-filter, sum-same, sum-zero, term-le}
use Rattle.plan_model.proofs.Reading.{cell_numbers-at, actives-at, actives-has, actives-rise, writer_of-at, old_writers-from, old_writers-has}
use Rattle.plan_model.proofs.Cutting.{writer-numbered, cut_term, cut-parts, cross-out, cross-in, cross-source, cross-sink}
use Rattle.plan_model.proofs.Duality.{copy_capacity-free, copy_capacity-held, rerun_capacity-free, rerun_capacity-drawn}

-- a cut of the plan network whose capacity is below that of an unbounded arc
record IsFinite (g : Graph) (w : Weights) (side : ℕ → Bool) : Type 0 where
  graph : IsGraph g
  cut : IsCut side
  finite : cut_capacity side (net_of g w).arcs < 9223372036854775808

-- no unbounded arc crosses

copy-below : (g : Graph) (w : Weights) (side : ℕ → Bool) → IsFinite g w side → (v : ℕ) → Contains (actives g) v → cut_term side g (copy_arc g w v) < unbounded
copy-below g w side h v m =
    let l = h.finite in
    let e = cut-parts side g w in
    let t = term-le (λ v. cut_term side g (copy_arc g w v)) (actives g) v m in
    omega (arith, l, e, t)

writer-below : (g : Graph) (w : Weights) (side : ℕ → Bool) → IsFinite g w side → (v : ℕ) → Contains (actives g) v → cut_term side g (writer_arc g v) < unbounded
writer-below g w side h v m =
    let l = h.finite in
    let e = cut-parts side g w in
    let t = term-le (λ v. cut_term side g (writer_arc g v)) (actives g) v m in
    omega (arith, l, e, t)

read-below : (g : Graph) (w : Weights) (side : ℕ → Bool) → IsFinite g w side → (c d : ℕ) → Contains (cell_numbers g) c → Contains (old_writers g c) d → cut_term side g (read_arc c d) < unbounded
read-below g w side h c d m o =
    let l = h.finite in
    let e = cut-parts side g w in
    let s = term-le (λ c. sum_by (λ d. cut_term side g (read_arc c d)) (old_writers g c)) (cell_numbers g) c m in
    let t = term-le (λ d. cut_term side g (read_arc c d)) (old_writers g c) d o in
    omega (arith, l, e, s, t)

rerun-below : (g : Graph) (w : Weights) (side : ℕ → Bool) → IsFinite g w side → (c : ℕ) → Contains (cell_numbers g) c → cut_term side g (rerun_arc g w c) < unbounded
rerun-below g w side h c m =
    let l = h.finite in
    let e = cut-parts side g w in
    let t = term-le (λ c. cut_term side g (rerun_arc g w c)) (cell_numbers g) c m in
    omega (arith, l, e, t)

writer-inside : (g : Graph) (w : Weights) (side : ℕ → Bool) → IsFinite g w side → (v : ℕ) → Contains (actives g) v → side (number_of g (node.Version v)) ≡ true → side (number_of g (node.Cell (writer_of g v))) ≡ true
writer-inside g w side h v m = cross-in (side (number_of g (node.Version v))) (side (number_of g (node.Cell (writer_of g v)))) unbounded (writer-below g w side h v m)

read-inside : (g : Graph) (w : Weights) (side : ℕ → Bool) → IsFinite g w side → (c d : ℕ) → Contains (cell_numbers g) c → Contains (old_writers g c) d → side (number_of g (node.Cell c)) ≡ true → side (number_of g (node.Cell d)) ≡ true
read-inside g w side h c d m o = cross-in (side (number_of g (node.Cell c))) (side (number_of g (node.Cell d))) unbounded (read-below g w side h c d m o)

handle-inside : (g : Graph) (w : Weights) (side : ℕ → Bool) → IsFinite g w side → (v : ℕ) (x : Version) → Contains (actives g) v → VersionAt g v x → side (number_of g (node.Version v)) ≡ false → x.handle ≡ false
handle-inside g w side h v x m at q = false_from_ne_true x.handle (λ t.
    let l = copy-below g w side h v m in
    let e = copy_capacity-held g w v x at t in
    let P : ℕ → Type 0 = λ n. cond (side 0 && not (side (number_of g (node.Version v)))) n 0 < unbounded in
    true≢false (sym (cross-in (side 0) (side (number_of g (node.Version v))) unbounded (subst P e l) h.cut.source) ∙ q))

drew-inside : (g : Graph) (w : Weights) (side : ℕ → Bool) → IsFinite g w side → (c : ℕ) (x : CellRecord) → Contains (cell_numbers g) c → CellAt g c x → side (number_of g (node.Cell c)) ≡ true → x.drew ≡ false
drew-inside g w side h c x m at q = false_from_ne_true x.drew (λ t.
    let l = rerun-below g w side h c m in
    let e = rerun_capacity-drawn g w c x at t in
    let P : ℕ → Type 0 = λ n. cond (side (number_of g (node.Cell c)) && not (side 1)) n 0 < unbounded in
    false≢true (sym h.cut.sink ∙ cross-in (side (number_of g (node.Cell c))) (side 1) unbounded (subst P e l) q))

-- the plan

abbrev outside : Graph → (ℕ → Bool) → ℕ → Bool
outside g side v = not (side (number_of g (node.Version v)))

abbrev inside : Graph → (ℕ → Bool) → ℕ → Bool
inside g side c = side (number_of g (node.Cell c))

cut-names : (g : Graph) (side : ℕ → Bool) → NamesOf g (plan_of_cut g side)
cut-names g side = record {
  copied_ascends = filter-rises (outside g side) (actives g) (actives-rise g);
  rerun_ascends = filter-rises (inside g side) (cell_numbers g) (count_up-rises 1 (length g.cells));
  copied = λ v c. actives-at g v (filter-from (outside g side) (actives g) v c).0;
  rerun = λ c m. cell_numbers-at g c (filter-from (inside g side) (cell_numbers g) c m).0;
}

cut-feasible : (g : Graph) (w : Weights) (side : ℕ → Bool) → IsFinite g w side → IsFeasible g (plan_of_cut g side)
cut-feasible g w side h = record {
  covered = λ v x a.
      let m = actives-has g v x a in
      elim (cases_Bool (side (number_of g (node.Version v)))) [
        | inl t ↦
            let P : ℕ → Type 0 = λ n. Contains (plan_of_cut g side).rerun n in
            inr (subst P (writer_of-at g v x a.0) (filter-has (inside g side) (cell_numbers g) (writer_of g v) (writer-numbered g h.graph v m) (writer-inside g w side h v m t)))
        | inr t ↦ inl (filter-has (outside g side) (actives g) v m (not_from_false (side (number_of g (node.Version v))) t))
      ];
  closed = λ c d r o.
      let i = filter-from (inside g side) (cell_numbers g) c r in
      let n = old_writers-has g h.graph c d o in
      let x = cell_numbers-at g c i.0 in
      filter-has (inside g side) (cell_numbers g) d (old_writers-from g h.graph c d x.0 x.1 n).0 (read-inside g w side h c d i.0 n i.1);
  no_handle = λ v x c at.
      let i = filter-from (outside g side) (actives g) v c in
      handle-inside g w side h v x i.0 at (not-true (side (number_of g (node.Version v))) i.1);
  no_draw = λ c x r at.
      let i = filter-from (inside g side) (cell_numbers g) c r in
      drew-inside g w side h c x i.0 at i.1;
}

cut-cost : (g : Graph) (w : Weights) (side : ℕ → Bool) → IsFinite g w side → cost g w (plan_of_cut g side) ≡ cut_capacity side (net_of g w).arcs
cut-cost g w side h =
    let parts = cut-parts side g w in
    let a = sum-filter (copy_cost g w) (outside g side) (actives g) in
    let b = sum-same (λ v. cut_term side g (copy_arc g w v)) (λ v. cond (outside g side v) (copy_cost g w v) 0) (actives g) (λ v m.
    cross-source (side 0) (side (number_of g (node.Version v))) (copy_capacity g w v) (copy_cost g w v) h.cut.source (λ q.
    let x = actives-at g v m in copy_capacity-free g w v x.0 x.1.0 (handle-inside g w side h v x.0 m x.1.0 q))) in
    let c = sum-zero (λ v. cut_term side g (writer_arc g v)) (actives g) (λ v m.
    cross-out (side (number_of g (node.Version v))) (side (number_of g (node.Cell (writer_of g v)))) unbounded (writer-inside g w side h v m)) in
    let d = sum-zero (λ c. sum_by (λ d. cut_term side g (read_arc c d)) (old_writers g c)) (cell_numbers g) (λ c m.
    sum-zero (λ d. cut_term side g (read_arc c d)) (old_writers g c) (λ d o.
    cross-out (side (number_of g (node.Cell c))) (side (number_of g (node.Cell d))) unbounded (read-inside g w side h c d m o))) in
    let e = sum-filter (rerun_cost g w) (inside g side) (cell_numbers g) in
    let f = sum-same (λ c. cut_term side g (rerun_arc g w c)) (λ c. cond (inside g side c) (rerun_cost g w c) 0) (cell_numbers g) (λ c m.
    cross-sink (side (number_of g (node.Cell c))) (side 1) (rerun_capacity g w c) (rerun_cost g w c) h.cut.sink (λ q.
    let x = cell_numbers-at g c m in rerun_capacity-free g w c x.0 x.1 (drew-inside g w side h c x.0 m x.1 q))) in
    omega (arith, parts, a, b, c, d, e, f)

pub finite_cut_is_plan : (g : Graph) (w : Weights) (side : ℕ → Bool) → IsGraph g → IsCut side → cut_capacity side (net_of g w).arcs < 9223372036854775808
    → NamesOf g (plan_of_cut g side) × IsFeasible g (plan_of_cut g side) × (cost g w (plan_of_cut g side) ≡ cut_capacity side (net_of g w).arcs)
finite_cut_is_plan g w side is c l =
    let h : IsFinite g w side = record { graph = is; cut = c; finite = l } in
    (cut-names g side, cut-feasible g w side h, cut-cost g w side h)
