use Rattle.std.proofs.Common.{◌≡◌, drop}
use Rattle.py_show.specs.OnState as spec
use Rattle.py_show.proofs.printed.put_words.Given as goal

abbrev pub invariant-loop-value : goal.invariant-loop-value
invariant-loop-value l = spec.words l.state l.left l.values l.initial.out l.initial.steps ≡ spec.words l.state l.left (drop l.value-index l.values) l.out l.steps
