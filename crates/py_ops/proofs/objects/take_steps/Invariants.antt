use Rattle.std.proofs.Common.{◌≡◌, ◌-◌, List}
use Rattle.nb_outside.specs.declared.feed.Drawn.{Drawn}
use Rattle.py_meaning.specs.Acts.{run}
use Rattle.py_meaning.specs.Operators.{steps}
use Rattle.py_ops.proofs.objects.take_steps.Given as goal

abbrev pub invariant-loop-step : goal.invariant-loop-step
invariant-loop-step l = record {
  runs : (draws : List Drawn) → run (steps l.count) draws l.initial.machine ≡ run (steps (l.count - l._step)) draws l.machine;
  drawn : l.machine.drawn ≡ l.initial.machine.drawn;
}
