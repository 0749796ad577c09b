use Rattle.std.proofs.Common.{◌≡◌, drop, List}
use Rattle.nb_outside.specs.declared.feed.Drawn.{Drawn}
use Rattle.py_meaning.specs.Acts.{run}
use Rattle.py_meaning.specs.Meaning as spec
use Rattle.py_items.proofs.filled.fill.Given as goal

abbrev pub invariant-loop-pair : goal.invariant-loop-pair
invariant-loop-pair l = record {
  runs : (draws : List Drawn) → run (spec.filled l.address l.pairs) draws l.initial.machine ≡ run (spec.filled l.address (drop l.pair-index l.pairs)) draws l.machine;
  drawn : l.machine.drawn ≡ l.initial.machine.drawn;
}
