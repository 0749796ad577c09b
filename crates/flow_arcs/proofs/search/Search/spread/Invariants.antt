use Rattle.std.proofs.Common.{◌≡◌, ℕ, ◌+◌, ◌<◌, ◌≤◌, length, get_or}
use Rattle.flow_arcs.specs.Pairs.{heads, tails}
use Rattle.flow_arcs.specs.Searches.{IsSearch, Grows, IsShut}
use Rattle.flow_arcs.proofs.search.Search.spread.Given as goal

abbrev pub invariant-arcs : goal.invariant-arcs
invariant-arcs l = record {
  low : l.position ≤ length (tails l.net.arcs);
  leaves : (e : ℕ) → l.position ≡ e + 1 → get_or (tails l.net.arcs) e 0 ≡ l.node;
  search : IsSearch l.net l.rest l.self.level.items l.self.by.items l.self.order.items;
  grows : Grows l.fn.self.level.items l.self.level.items l.fn.self.order.items l.self.order.items;
  done : (e : ℕ) → e < length (heads l.net.arcs) → l.position ≤ e → get_or (tails l.net.arcs) e 0 ≡ l.node → IsShut l.net.arcs l.rest l.self.level.items e;
}

abbrev pub decreases-arcs : goal.decreases-arcs
decreases-arcs l = l.position
