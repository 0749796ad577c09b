use Rattle.std.proofs.Common.{◌≡◌, List, length}
use Rattle.nb_outside.specs.declared.feed.Drawn.{Drawn}
use Rattle.py_meaning.specs.Acts.{run}
use Rattle.py_meaning.specs.Meaning as spec
use Rattle.py_kernel.proofs.statements.store_names.Given as goal

abbrev pub invariant-loop-ahead : goal.invariant-loop-ahead
invariant-loop-ahead l = record {
  runs : (draws : List Drawn) → run (spec.names_stored l.fn.names l.fn.values) draws l.initial.machine ≡ run (spec.names_stored l.ahead l.rest) draws l.machine;
  drawn : l.machine.drawn ≡ l.initial.machine.drawn;
}

abbrev pub decreases-loop-ahead : goal.decreases-loop-ahead
decreases-loop-ahead l = length l.ahead
