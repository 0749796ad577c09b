use Rattle.std.proofs.Common.{ℕ, ◌-◌, ◌<◌, ◌≤◌, length, get_or}
use Rattle.flow_arcs.specs.Searches.{IsSearch, IsDone}
use Rattle.flow_arcs.proofs.search.search_levels.Given as goal

abbrev pub invariant-nodes : goal.invariant-nodes
invariant-nodes l = record {
  search : IsSearch l.net l.rest l.search.level.items l.search.by.items l.search.order.items;
  done : (k : ℕ) → k < l.done → k < length l.search.order.items → IsDone l.net.arcs l.rest l.search.level.items (get_or l.search.order.items k 0);
  low : l.done ≤ length l.search.order.items;
}

abbrev pub decreases-nodes : goal.decreases-nodes
decreases-nodes l = l.net.nodes - l.done
