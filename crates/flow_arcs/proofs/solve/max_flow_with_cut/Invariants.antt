use Rattle.std.proofs.Common.{◌≡◌, ◌-◌}
use Rattle.flow_model.specs.Flows.{IsLegal, value}
use Rattle.flow_arcs.specs.Pairs.{heads, carried, IsPaired}
use Rattle.flow_arcs.proofs.Solving.{total_capacity}
use Rattle.flow_arcs.proofs.solve.max_flow_with_cut.Given as goal

abbrev pub invariant-rounds : goal.invariant-rounds
invariant-rounds l = record {
  ends : l.links.to.items ≡ heads l.net.arcs;
  paired : IsPaired l.net.arcs l.sender.rest.items;
  legal : IsLegal l.net (carried l.sender.rest.items);
}

abbrev pub decreases-rounds : goal.decreases-rounds
decreases-rounds l = total_capacity l.net.arcs - value l.net (carried l.sender.rest.items)
