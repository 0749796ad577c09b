use Rattle.std.proofs.Common.{◌≡◌, ℕ, ◌<◌, ◌≤◌, get_or}
use Rattle.flow_model.specs.Flows.{given, taken}
use Rattle.flow_arcs.specs.Arcs.{no_arc}
use Rattle.flow_arcs.proofs.check.check_flow.Given as goal

abbrev pub invariant-loop-i : goal.invariant-loop-i
invariant-loop-i l = (k : ℕ) → k < l.i → get_or l.on k 0 ≤ (get_or l.arcs k no_arc).capacity

abbrev pub invariant-loop-node : goal.invariant-loop-node
invariant-loop-node l = (k : ℕ) → 1 < k → k < l.node → taken l.net.arcs l.flow.on k ≡ given l.net.arcs l.flow.on k
