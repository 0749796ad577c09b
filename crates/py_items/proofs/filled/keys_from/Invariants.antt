use Rattle.std.proofs.Common.{◌≡◌, drop, List, []}
use Rattle.nb_outside.specs.declared.feed.Drawn.{Drawn}
use Rattle.py_meaning.specs.Acts.{run}
use Rattle.py_meaning.specs.Meaning as spec
use Rattle.py_items.proofs.filled.keys_from.Given as goal

abbrev pub invariant-loop-pair : goal.invariant-loop-pair
invariant-loop-pair l = (draws : List Drawn) → run (spec.keys_from [] l.pairs) draws l.machine ≡ run (spec.keys_from l.all (drop l.pair-index l.pairs)) draws l.machine
