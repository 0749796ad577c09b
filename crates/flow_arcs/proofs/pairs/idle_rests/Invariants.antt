use Rattle.std.proofs.Common.{◌≡◌, ℕ, List, ◌++◌, drop, replicate}
use Rattle.flow_arcs.specs.Pairs.{IsPaired, carried}
use Rattle.flow_arcs.proofs.pairs.idle_rests.Given as goal

abbrev pub invariant-loop-arc : goal.invariant-loop-arc
invariant-loop-arc l = record {
  paired : (more : List ℕ) → IsPaired (drop l.arc-index l.arcs) more → IsPaired l.arcs (l.rest.items ++ more);
  carried : (more : List ℕ) → carried (l.rest.items ++ more) ≡ replicate l.arc-index 0 ++ carried more;
}
