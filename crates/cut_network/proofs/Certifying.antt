-- The plan of a least cut, with its flow, is certified.
use Rattle.std.proofs.Common.{◌≡◌, ℕ, ◌<◌, Bool, List, map, sym, ap, ◌∙◌, subst, arith}
use Rattle.flow_model.specs.declared.Arc.{Arc}
use Rattle.flow_model.specs.Flows.{Net, IsLegal, IsCut, value, cut_capacity}
use Rattle.graph_model.specs.declared.graph.Graph.{Graph}
use Rattle.graph_model.specs.declared.plan.Plan.{Plan}
use Rattle.graph_model.specs.declared.plan.Weights.{Weights}
use Rattle.graph_model.specs.declared.plan.FlowArc.{FlowArc}
use Rattle.graph_model.specs.Graphs.{IsStuck}
use Rattle.graph_model.specs.Faults.{IsGraph}
use Rattle.graph_model.specs.Plans.{NamesOf, IsFeasible, AreAdmitted, cost}
use Rattle.graph_model.specs.Networks.{actives, network, numbered, net_of, carrying, IsCertified, plan_of_cut}
use Rattle.plan_model.proofs.Uncut.{finite_cut_is_plan}
use Rattle.cut_network.specs.Shown.{shown}
use Rattle.cut_network.proofs.Bounding.{value-low}
use Rattle.cut_network.proofs.Showing.{shown-network}

pub value_fits : (g : Graph) (w : Weights) → IsGraph g → AreAdmitted g w → ((v c : ℕ) → IsStuck g v c → ⊥) → (net : Net) (on : List ℕ) → net ≡ net_of g w → IsLegal net on → value net on < 9223372036854775808
value_fits g w is a free net on e l =
    let b = value-low g w is a free on (subst (λ (n : Net). IsLegal n on) e l) in
    subst (λ (n : Net). value n on < 9223372036854775808) (sym e) b

-- what is shown of the network is what its flow carries
pub carrying_from : (g : Graph) (w : Weights) → IsGraph g → (net : Net) (on on' active : List ℕ) (arcs : List Arc) (found : List FlowArc) → net ≡ net_of g w → active ≡ actives g → arcs ≡ net.arcs → on' ≡ on
    → found ≡ shown active arcs on' → found ≡ carrying (network g w) on
carrying_from g w is net on on' active arcs found e a b o f =
    f ∙ (ap (λ (xs : List ℕ). shown xs arcs on') a ∙ (ap (λ (xs : List Arc). shown (actives g) xs on') (b ∙ ap (λ (n : Net). n.arcs) e)
    ∙ (ap (λ (xs : List ℕ). shown (actives g) (map (numbered g) (network g w)) xs) o ∙ shown-network g w is on)))

pub certified_from : (g : Graph) (w : Weights) → IsGraph g → AreAdmitted g w → ((v c : ℕ) → IsStuck g v c → ⊥) → (net : Net) (on : List ℕ) (s : ℕ → Bool) (plan : Plan) (price : ℕ) (arcs : List FlowArc)
    → net ≡ net_of g w → IsLegal net on → IsCut s → cut_capacity s net.arcs ≡ value net on → plan ≡ plan_of_cut g s → price ≡ value net on → arcs ≡ carrying (network g w) on
    → IsCertified g w (record { plan = plan; cost = price; arcs = arcs })
certified_from g w is a free net on s plan price arcs e l cut least p c shown =
    let legal = subst (λ (n : Net). IsLegal n on) e l in
    let v = value-low g w is a free on legal in
    let k = subst (λ (n : Net). cut_capacity s n.arcs ≡ value n on) e least in
    let f = finite_cut_is_plan g w s is cut (omega (arith, v, k)) in
    let q : price ≡ value (net_of g w) on = c ∙ ap (λ (n : Net). value n on) e in
    record {
      names = subst (NamesOf g) (sym p) f.0;
      feasible = subst (IsFeasible g) (sym p) f.1;
      is_cost = q ∙ (sym k ∙ (sym f.2 ∙ ap (cost g w) (sym p)));
      flow = on;
      legal = legal;
      shown = shown;
      is_value = sym q;
    }
