use Rattle.std.proofs.Common.{◌≡◌, drop, List}
use Rattle.nb_outside.specs.declared.feed.Drawn.{Drawn}
use Rattle.py_heap.specs.Objects.{items_at}
use Rattle.py_meaning.specs.Acts.{run}
use Rattle.py_meaning.specs.Compared as spec
use Rattle.py_ops.proofs.contained.in_items.Given as goal

abbrev pub invariant-loop-position : goal.invariant-loop-position
invariant-loop-position l = record {
  runs : (draws : List Drawn) → run (spec.in_items (spec.pair_equal l.left) l.value (items_at l.initial.machine.state.heap l.at)) draws l.initial.machine
      ≡ run (spec.in_items (spec.pair_equal l.left) l.value (drop l.position (items_at l.initial.machine.state.heap l.at))) draws l.machine;
  drawn : l.machine.drawn ≡ l.initial.machine.drawn;
  same : l.machine.state ≡ l.initial.machine.state;
}
