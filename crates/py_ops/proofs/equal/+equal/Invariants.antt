use Rattle.std.proofs.Common.{◌≡◌, ◌+◌, ◌*◌, drop, List}
use Rattle.nb_outside.specs.declared.feed.Drawn.{Drawn}
use Rattle.py_heap.specs.Objects.{items_at, pairs_at}
use Rattle.py_meaning.specs.Acts.{run}
use Rattle.py_meaning.specs.Compared as spec
use Rattle.py_ops.proofs.equal.+equal.Given as goal

abbrev pub decreases-pair_equal : goal.decreases-pair_equal
decreases-pair_equal l = 10 * l.left

abbrev pub decreases-items_equal : goal.decreases-items_equal
decreases-items_equal l = 10 * l.left + 1

abbrev pub decreases-with_equal : goal.decreases-with_equal
decreases-with_equal l = 10 * l.left + 1

abbrev pub decreases-pairs_equal : goal.decreases-pairs_equal
decreases-pairs_equal l = 10 * l.left + 2

abbrev pub decreases-sequences_equal : goal.decreases-sequences_equal
decreases-sequences_equal l = 10 * l.left + 3

abbrev pub decreases-refs_equal : goal.decreases-refs_equal
decreases-refs_equal l = 10 * l.left + 4

abbrev pub decreases-others_equal : goal.decreases-others_equal
decreases-others_equal l = 10 * l.left + 5

abbrev pub decreases-values_equal : goal.decreases-values_equal
decreases-values_equal l = 10 * l.left + 6

abbrev pub decreases-elements_equal : goal.decreases-elements_equal
decreases-elements_equal l = 10 * l.left + 7

abbrev pub decreases-one_equal : goal.decreases-one_equal
decreases-one_equal l = 10 * l.left + 8

abbrev pub invariant-items_equal-loop-position : goal.invariant-items_equal-loop-position
invariant-items_equal-loop-position l = record {
  runs : (draws : List Drawn) → run (spec.items_equal (spec.pair_equal l.left) (items_at l.initial.machine.state.heap l.a) (items_at l.initial.machine.state.heap l.b)) draws l.initial.machine
      ≡ run (spec.items_equal (spec.pair_equal l.left) (drop l.position (items_at l.initial.machine.state.heap l.a)) (drop l.position (items_at l.initial.machine.state.heap l.b))) draws l.machine;
  drawn : l.machine.drawn ≡ l.initial.machine.drawn;
  same : l.machine.state ≡ l.initial.machine.state;
}

abbrev pub invariant-pairs_equal-loop-position : goal.invariant-pairs_equal-loop-position
invariant-pairs_equal-loop-position l = record {
  runs : (draws : List Drawn) → run (spec.pairs_equal (spec.pair_equal l.left) (pairs_at l.initial.machine.state.heap l.a) (pairs_at l.initial.machine.state.heap l.b)) draws l.initial.machine
      ≡ run (spec.pairs_equal (spec.pair_equal l.left) (drop l.position (pairs_at l.initial.machine.state.heap l.a)) (pairs_at l.initial.machine.state.heap l.b)) draws l.machine;
  drawn : l.machine.drawn ≡ l.initial.machine.drawn;
  same : l.machine.state ≡ l.initial.machine.state;
}
