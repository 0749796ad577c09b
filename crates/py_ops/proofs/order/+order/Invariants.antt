use Rattle.std.proofs.Common.{◌≡◌, ◌+◌, ◌*◌, drop, List}
use Rattle.nb_outside.specs.declared.feed.Drawn.{Drawn}
use Rattle.py_heap.specs.Objects.{items_at}
use Rattle.py_meaning.specs.Acts.{run}
use Rattle.py_meaning.specs.Compared as spec
use Rattle.py_ops.proofs.order.+order.Given as goal

abbrev pub decreases-pair_ordered : goal.decreases-pair_ordered
decreases-pair_ordered l = 5 * l.left

abbrev pub decreases-items_ordered : goal.decreases-items_ordered
decreases-items_ordered l = 5 * l.left + 1

abbrev pub decreases-refs_ordered : goal.decreases-refs_ordered
decreases-refs_ordered l = 5 * l.left + 2

abbrev pub decreases-others_ordered : goal.decreases-others_ordered
decreases-others_ordered l = 5 * l.left + 3

abbrev pub decreases-values_ordered : goal.decreases-values_ordered
decreases-values_ordered l = 5 * l.left + 4

abbrev pub invariant-items_ordered-loop-position : goal.invariant-items_ordered-loop-position
invariant-items_ordered-loop-position l = record {
  runs : (draws : List Drawn) → run (spec.items_ordered (spec.pair_equal l.left) (spec.pair_ordered l.left) l.op (items_at l.initial.machine.state.heap l.a) (items_at l.initial.machine.state.heap l.b)) draws l.initial.machine
      ≡ run (spec.items_ordered (spec.pair_equal l.left) (spec.pair_ordered l.left) l.op (drop l.position (items_at l.initial.machine.state.heap l.a)) (drop l.position (items_at l.initial.machine.state.heap l.b))) draws l.machine;
  drawn : l.machine.drawn ≡ l.initial.machine.drawn;
  same : l.machine.state ≡ l.initial.machine.state;
}
