use Rattle.std.proofs.Common.{◌≡◌, ℕ, ◌+◌, ◌≤◌, get_or, length}
use Rattle.flow_model.specs.Flows.{given, taken}
use Rattle.flow_arcs.specs.Pairs.{tails}
use Rattle.flow_arcs.proofs.Listing.{below, outs, ins}
use Rattle.flow_arcs.proofs.flow.sums_at.Given as goal

abbrev pub invariant-arcs : goal.invariant-arcs
invariant-arcs l = record {
  given : l.given + below l.position (tails l.net.arcs) (outs l.on) l.node ≡ given l.net.arcs l.on l.node;
  taken : l.taken + below l.position (tails l.net.arcs) (ins l.on) l.node ≡ taken l.net.arcs l.on l.node;
  low : l.position ≤ length (tails l.net.arcs);
  leaves : (e : ℕ) → l.position ≡ e + 1 → get_or (tails l.net.arcs) e 0 ≡ l.node;
}

abbrev pub decreases-arcs : goal.decreases-arcs
decreases-arcs l = l.position
