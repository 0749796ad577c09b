use Rattle.std.proofs.Common.{◌≡◌, ◌<◌, length, take, get_or}
use Rattle.flow_arcs.specs.Pairs.{tails}
use Rattle.flow_arcs.specs.Lists.{AreListsOf}
use Rattle.flow_arcs.proofs.links.Links.relink.Given as goal

abbrev pub invariant-loop-arc : goal.invariant-loop-arc
invariant-loop-arc l = record {
  firsts : length l.first.items ≡ l.net.nodes;
  lists : AreListsOf (λ e. 0 < get_or l.rest e 0) (take l.arc (tails l.net.arcs)) l.first.items l.next.items;
}
