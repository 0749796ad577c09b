-- If nothing is stuck, no flow of the plan network reaches 2^63.
use Rattle.std.proofs.Common.{◌≡◌, ℕ, ◌<◌, not, List, length, sym, ap, ◌∙◌, inl, inr, arith}
use Rattle.std.specs.Prelude.{filter}
use Rattle.std.proofs.lemmas.Bool.{cases_Bool, not_from_false, not-true, false_from_ne_true}
use Rattle.flow_model.specs.Flows.{IsLegal, value}
use Rattle.flow_model.proofs.Cuts.{a_cut_bounds}
use Rattle.graph_model.specs.declared.graph.Version.{Version}
use Rattle.graph_model.specs.declared.graph.Graph.{Graph}
use Rattle.graph_model.specs.declared.plan.Plan.{Plan}
use Rattle.graph_model.specs.declared.plan.Weights.{Weights}
use Rattle.graph_model.specs.Graphs.{VersionAt, IsStuck}
use Rattle.graph_model.specs.Faults.{IsGraph}
use Rattle.graph_model.specs.Plans.{NamesOf, IsFeasible, AreAdmitted}
use Rattle.graph_model.specs.Networks.{cell_numbers, actives, net_of}
use Rattle.graph_model.proofs.Needing.{writer_within}
use Rattle.plan_model.proofs.Listing.{filter-has, filter-from, filter-rises, count_up-rises}
use Rattle.plan_model.proofs.Reading.{at_test, cell_numbers-at, cell_numbers-has, actives-at, actives-has, actives-rise, old_writers-from, old_writers-has}
use Rattle.plan_model.proofs.Costing.{cost_within}
use Rattle.plan_model.proofs.Cutting.{plan_network_is_net}
use Rattle.plan_model.proofs.Duality.{side_of, side_of-stands, cut-costs}
use Rattle.graph_model.proofs.Lookups.{cell_within}
use Rattle.cut_network.proofs.Spreading.{handle_at, is_needed, needed-sound, handle-needs, spread-closed, begun}

-- copies each active version without a handle, and runs again what the others need
abbrev pub free_plan : Graph → Plan
free_plan g = record {
  copied = filter (λ v. not (handle_at g v)) (actives g);
  rerun = filter (is_needed g) (cell_numbers g);
}

handle-at : (g : Graph) (v : ℕ) (x : Version) → VersionAt g v x → handle_at g v ≡ x.handle
handle-at g v x at = ap (at_test (λ (y : Version). y.handle)) at.1

pub free-names : (g : Graph) → NamesOf g (free_plan g)
free-names g = record {
  copied_ascends = filter-rises (λ v. not (handle_at g v)) (actives g) (actives-rise g);
  rerun_ascends = filter-rises (is_needed g) (cell_numbers g) (count_up-rises 1 (length g.cells));
  copied = λ v c. actives-at g v (filter-from (λ u. not (handle_at g u)) (actives g) v c).0;
  rerun = λ c m. cell_numbers-at g c (filter-from (is_needed g) (cell_numbers g) c m).0;
}

pub free-feasible : (g : Graph) → IsGraph g → ((v c : ℕ) → IsStuck g v c → ⊥) → IsFeasible g (free_plan g)
free-feasible g is free = record {
  covered = λ v x a. elim (cases_Bool x.handle) [
    | inl t ↦
        let w = writer_within g is v x a.0 in
        inr (filter-has (is_needed g) (cell_numbers g) x.writer (cell_numbers-has g x.writer w.0 w.1) (handle-needs g v x a t))
    | inr t ↦ inl (filter-has (λ u. not (handle_at g u)) (actives g) v (actives-has g v x a) (not_from_false (handle_at g v) (handle-at g v x a.0 ∙ t)))
  ];
  closed = λ c w r o.
      let i = filter-from (is_needed g) (cell_numbers g) c r in
      let b = cell_within g c o.0 o.3 in
      let n = old_writers-has g is c w o in
      let x = cell_numbers-at g c i.0 in
      filter-has (is_needed g) (cell_numbers g) w (old_writers-from g is c w x.0 x.1 n).0
      (spread-closed g is (length g.cells) (omega arith) (begun g) c w b.0 b.1 i.1 o);
  no_handle = λ v x c at.
      let i = filter-from (λ u. not (handle_at g u)) (actives g) v c in
      sym (handle-at g v x at) ∙ not-true (handle_at g v) i.1;
  no_draw = λ c x r at. false_from_ne_true x.drew (λ d.
      let n = needed-sound g is c (filter-from (is_needed g) (cell_numbers g) c r).1 in
      free n.number c (record { version = n.version; active = n.active; handle = n.handle; cell = x; needed = n.needed; at = at; drew = d }));
}

pub value-low : (g : Graph) (w : Weights) → IsGraph g → AreAdmitted g w → ((v c : ℕ) → IsStuck g v c → ⊥) → (flow : List ℕ) → IsLegal (net_of g w) flow → value (net_of g w) flow < 9223372036854775808
value-low g w is a free flow legal =
    let p = free_plan g in
    let n = free-names g in
    let f = free-feasible g is free in
    let s = side_of-stands g p in
    let b = a_cut_bounds (net_of g w) flow (side_of g p) (plan_network_is_net g w is) legal (record { source = s.source; sink = s.sink }) in
    let e = cut-costs (side_of g p) g w p is s n f in
    let k = cost_within g w p n f in
    let t = a.total in
    omega (arith, b, e, k, t)
