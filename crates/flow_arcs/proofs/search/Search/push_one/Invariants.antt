use Rattle.std.proofs.Common.{get_or}
use Rattle.flow_arcs.proofs.Pushing.{IsPushed}
use Rattle.flow_arcs.proofs.search.Search.push_one.Given as goal

abbrev pub invariant-arcs : goal.invariant-arcs
invariant-arcs l = IsPushed l.net l.fn.rest.items l.rest.items l.self.level.items l.node

abbrev pub decreases-arcs : goal.decreases-arcs
decreases-arcs l = get_or l.self.level.items l.node 0
