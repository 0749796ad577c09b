-- Plans and cuts of the plan network.
use Rattle.std.proofs.Common.{◌≡◌, ℕ, ◌+◌, ◌-◌, ◌≤◌, Bool, true, false, not, cond, length, get_or, refl, sym, ap, ◌∙◌, subst, inl, inr, arith}
use Rattle.std.specs.Prelude.{Contains, sum_by, nat_lt, count_by, ◌==◌}
use Rattle.std.proofs.lemmas.Bool.{true≢false, cases_Bool, cond-true, cond-false, ne_eqb, lt-ltb, le-ltb, not-true, false_from_ne_true}
use Rattle.flow_model.specs.Flows.{cut_capacity}
use Rattle.flow_model.proofs.Cuts.{a_cut_bounds}
use Rattle.graph_model.specs.declared.graph.CellRecord.{CellRecord}
use Rattle.graph_model.specs.declared.graph.Version.{Version}
use Rattle.graph_model.specs.declared.graph.Graph.{Graph}
use Rattle.graph_model.specs.declared.plan.Plan.{Plan}
use Rattle.graph_model.specs.declared.plan.Weights.{Weights}
use Rattle.graph_model.specs.declared.plan.Certified.{Certified}
use Rattle.graph_model.specs.declared.plan.Node.TheVariants as node
use Rattle.graph_model.specs.Graphs.{CellAt, VersionAt}
use Rattle.graph_model.specs.Faults.{IsGraph}
use Rattle.graph_model.specs.Plans.{NamesOf, IsFeasible, AreAdmitted, copy_cost, rerun_cost, copy_weight, rerun_weight, cost}
use Rattle.graph_model.specs.Networks.{unbounded, count_up, cell_numbers, is_active_at, actives, old_writers, writer_of, copy_capacity, rerun_capacity, copy_arc, writer_arc, read_arc, rerun_arc, number_of, net_of, IsCertified}
use Rattle.plan_model.proofs.Listing.{is_in, is_in-has, has-is_in, sum-filter, sum-same, sum-zero}
use Rattle.plan_model.proofs.Costing.{at_option, copied_filter, rerun_filter, copy_cost_at, rerun_cost_at}
use Rattle.plan_model.proofs.Reading.{cell_numbers-at, actives-at, actives-rise, active_at-true, writer_of-at, old_writers-from, rank-at}
use Rattle.plan_model.proofs.Cutting.{version-number, cell-number, writer-numbered, plan_network_is_net, cut_term, copies_cut, writers_cut, reads_cut, reruns_cut, cut-parts, cross-out, cross-source, cross-sink}

-- the capacity of a member's arc is its cost, if it may be a member

pub copy_capacity-free : (g : Graph) (w : Weights) (v : ℕ) (x : Version) → VersionAt g v x → x.handle ≡ false → copy_capacity g w v ≡ copy_cost g w v
copy_capacity-free g w v x at h =
    ap (at_option (λ (y : Version). cond y.handle unbounded (copy_weight w y))) at.1 ∙ (cond-false x.handle unbounded (copy_weight w x) h ∙ sym (copy_cost_at g w v x at))

pub copy_capacity-held : (g : Graph) (w : Weights) (v : ℕ) (x : Version) → VersionAt g v x → x.handle ≡ true → copy_capacity g w v ≡ unbounded
copy_capacity-held g w v x at h = ap (at_option (λ (y : Version). cond y.handle unbounded (copy_weight w y))) at.1 ∙ cond-true x.handle unbounded (copy_weight w x) h

pub rerun_capacity-free : (g : Graph) (w : Weights) (c : ℕ) (x : CellRecord) → CellAt g c x → x.drew ≡ false → rerun_capacity g w c ≡ rerun_cost g w c
rerun_capacity-free g w c x at h =
    ap (at_option (λ (y : CellRecord). cond y.drew unbounded (rerun_weight w y))) at.1 ∙ (cond-false x.drew unbounded (rerun_weight w x) h ∙ sym (rerun_cost_at g w c x at))

pub rerun_capacity-drawn : (g : Graph) (w : Weights) (c : ℕ) (x : CellRecord) → CellAt g c x → x.drew ≡ true → rerun_capacity g w c ≡ unbounded
rerun_capacity-drawn g w c x at h = ap (at_option (λ (y : CellRecord). cond y.drew unbounded (rerun_weight w y))) at.1 ∙ cond-true x.drew unbounded (rerun_weight w x) h

-- a cut that stands for a plan: the sides say what is copied and what runs again

pub record StandsFor (side : ℕ → Bool) (g : Graph) (p : Plan) : Type 0 where
  pub source : side 0 ≡ true
  pub sink : side 1 ≡ false
  pub versions : (v : ℕ) → Contains (actives g) v → side (number_of g (node.Version v)) ≡ not (is_in p.copied v)
  pub cells : (c : ℕ) → Contains (cell_numbers g) c → side (number_of g (node.Cell c)) ≡ is_in p.rerun c

not-not : (b : Bool) → not (not b) ≡ b
not-not true = refl
not-not false = refl

copies-cost : (side : ℕ → Bool) (g : Graph) (w : Weights) (p : Plan) → StandsFor side g p → NamesOf g p → IsFeasible g p → copies_cut side g w ≡ sum_by (copy_cost g w) p.copied
copies-cost side g w p s n f =
    let U = count_up 1 (length g.versions) in
    let K : ℕ → ℕ = λ v. cond (is_in p.copied v) (copy_cost g w v) 0 in
    let a = sum-same (λ v. cut_term side g (copy_arc g w v)) K (actives g) (λ v m.
    let e = s.versions v m in
    cross-source (side 0) (side (number_of g (node.Version v))) (copy_capacity g w v) (copy_cost g w v) s.source (λ q.
    let x = actives-at g v m in
    let t : is_in p.copied v ≡ true = sym (not-not (is_in p.copied v)) ∙ (ap not (sym e ∙ q)) in
    copy_capacity-free g w v x.0 x.1.0 (f.no_handle v x.0 (is_in-has p.copied v t) x.1.0))
    ∙ ap (λ (b : Bool). cond b (copy_cost g w v) 0) (ap not e ∙ not-not (is_in p.copied v))) in
    let b = sum-filter K (is_active_at g) U in
    let c = sum-same (λ v. cond (is_active_at g v) (K v) 0) K U (λ v m. elim (cases_Bool (is_active_at g v)) [
      | inl t ↦ cond-true (is_active_at g v) (K v) 0 t
      | inr t ↦
          let out : is_in p.copied v ≡ false = false_from_ne_true (is_in p.copied v) (λ i.
          let x = n.copied v (is_in-has p.copied v i) in true≢false (sym (active_at-true g v x.0 x.1) ∙ t)) in
          cond-false (is_active_at g v) (K v) 0 t ∙ sym (cond-false (is_in p.copied v) (copy_cost g w v) 0 out)
    ]) in
    let d = sum-filter (copy_cost g w) (is_in p.copied) U in
    let e = ap (sum_by (copy_cost g w)) (copied_filter g p n) in
    a ∙ (b ∙ (c ∙ (sym d ∙ e)))

writers-none : (side : ℕ → Bool) (g : Graph) → IsGraph g → (p : Plan) → StandsFor side g p → IsFeasible g p → writers_cut side g ≡ 0
writers-none side g is p s f = sum-zero (λ v. cut_term side g (writer_arc g v)) (actives g) (λ v m.
    cross-out (side (number_of g (node.Version v))) (side (number_of g (node.Cell (writer_of g v)))) unbounded (λ t.
    let x = actives-at g v m in
    let k : is_in p.copied v ≡ false = not-true (is_in p.copied v) (sym (s.versions v m) ∙ t) in
    s.cells (writer_of g v) (writer-numbered g is v m) ∙ has-is_in p.rerun (writer_of g v) (elim (f.covered v x.0 x.1) [
      | inl c ↦ absurd (true≢false (sym (has-is_in p.copied v c) ∙ k))
      | inr r ↦ subst (Contains p.rerun) (sym (writer_of-at g v x.0 x.1.0)) r
    ])))

reads-none : (side : ℕ → Bool) (g : Graph) → IsGraph g → (p : Plan) → StandsFor side g p → IsFeasible g p → reads_cut side g ≡ 0
reads-none side g is p s f = sum-zero (λ c. sum_by (λ d. cut_term side g (read_arc c d)) (old_writers g c)) (cell_numbers g) (λ c m.
    let x = cell_numbers-at g c m in
    sum-zero (λ d. cut_term side g (read_arc c d)) (old_writers g c) (λ d o.
    let r = old_writers-from g is c d x.0 x.1 o in
    cross-out (side (number_of g (node.Cell c))) (side (number_of g (node.Cell d))) unbounded (λ t.
    s.cells d r.0 ∙ has-is_in p.rerun d (f.closed c d (is_in-has p.rerun c (sym (s.cells c m) ∙ t)) r.1))))

reruns-cost : (side : ℕ → Bool) (g : Graph) (w : Weights) (p : Plan) → StandsFor side g p → NamesOf g p → IsFeasible g p → reruns_cut side g w ≡ sum_by (rerun_cost g w) p.rerun
reruns-cost side g w p s n f =
    let a = sum-same (λ c. cut_term side g (rerun_arc g w c)) (λ c. cond (is_in p.rerun c) (rerun_cost g w c) 0) (cell_numbers g) (λ c m.
    let e = s.cells c m in
    cross-sink (side (number_of g (node.Cell c))) (side 1) (rerun_capacity g w c) (rerun_cost g w c) s.sink (λ t.
    let x = cell_numbers-at g c m in
    rerun_capacity-free g w c x.0 x.1 (f.no_draw c x.0 (is_in-has p.rerun c (sym e ∙ t)) x.1))
    ∙ ap (λ (b : Bool). cond b (rerun_cost g w c) 0) e) in
    let d = sum-filter (rerun_cost g w) (is_in p.rerun) (cell_numbers g) in
    let e = ap (sum_by (rerun_cost g w)) (rerun_filter g p n) in
    a ∙ (sym d ∙ e)

-- the capacity of a cut that stands for a feasible plan is the plan's cost
pub cut-costs : (side : ℕ → Bool) (g : Graph) (w : Weights) (p : Plan) → IsGraph g → StandsFor side g p → NamesOf g p → IsFeasible g p
    → cut_capacity side (net_of g w).arcs ≡ cost g w p
cut-costs side g w p is s n f =
    let parts = cut-parts side g w in
    let a = copies-cost side g w p s n f in
    let b = writers-none side g is p s f in
    let c = reads-none side g is p s f in
    let d = reruns-cost side g w p s n f in
    parts ∙ omega (arith, a, b, c, d)

-- each plan has such a cut
pub side_of : Graph → Plan → ℕ → Bool
side_of g p n = cond (n == 0) true (cond (n == 1) false (cond (nat_lt n (2 + length (actives g))) (not (is_in p.copied (get_or (actives g) (n - 2) 0))) (is_in p.rerun (n - 1 - length (actives g)))))

pub side_of-stands : (g : Graph) (p : Plan) → StandsFor (side_of g p) g p
unfolding side_of
side_of-stands g p = record {
  source = refl;
  sink = refl;
  versions = λ v m.
      let r = version-number g v m in
      let lo = r.0 in
      let hi = r.1 in
      let n = number_of g (node.Version v) in
      let A = length (actives g) in
      let C : Bool = not (is_in p.copied (get_or (actives g) (n - 2) 0)) in
      let R : Bool = is_in p.rerun (n - 1 - A) in
      let k : n - 2 ≡ count_by (λ u. nat_lt u v) (actives g) = omega arith in
      cond-false (n == 0) true (cond (n == 1) false (cond (nat_lt n (2 + A)) C R)) (ne_eqb n 0 (λ e. omega (arith, e, lo)))
      ∙ (cond-false (n == 1) false (cond (nat_lt n (2 + A)) C R) (ne_eqb n 1 (λ e. omega (arith, e, lo)))
      ∙ (cond-true (nat_lt n (2 + A)) C R (lt-ltb n (2 + A) hi)
      ∙ ap (λ (j : ℕ). not (is_in p.copied j)) (ap (λ (j : ℕ). get_or (actives g) j 0) k ∙ rank-at (actives g) v 0 (actives-rise g) m)));
  cells = λ c m.
      let r = cell-number g c m in
      let lo = r.0 in
      let n = number_of g (node.Cell c) in
      let A = length (actives g) in
      let C : Bool = not (is_in p.copied (get_or (actives g) (n - 2) 0)) in
      let R : Bool = is_in p.rerun (n - 1 - A) in
      let k : n - 1 - A ≡ c = omega arith in
      cond-false (n == 0) true (cond (n == 1) false (cond (nat_lt n (2 + A)) C R)) (ne_eqb n 0 (λ e. omega (arith, e, lo)))
      ∙ (cond-false (n == 1) false (cond (nat_lt n (2 + A)) C R) (ne_eqb n 1 (λ e. omega (arith, e, lo)))
      ∙ (cond-false (nat_lt n (2 + A)) C R (le-ltb n (2 + A) lo)
      ∙ ap (is_in p.rerun) k));
}

-- no feasible plan costs less than one that is certified
pub certified_is_least : (g : Graph) (w : Weights) (c : Certified) (p : Plan) → IsGraph g → AreAdmitted g w → IsCertified g w c → NamesOf g p → IsFeasible g p → c.cost ≤ cost g w p
certified_is_least g w c p is a k n f =
    let s = side_of-stands g p in
    let b = a_cut_bounds (net_of g w) k.flow (side_of g p) (plan_network_is_net g w is) k.legal (record { source = s.source; sink = s.sink }) in
    let e = cut-costs (side_of g p) g w p is s n f in
    let v = k.is_value in
    omega (arith, b, e, v)
