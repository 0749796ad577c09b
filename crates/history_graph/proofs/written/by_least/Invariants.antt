use Rattle.history_graph.specs.Written.{IsByLeast}
use Rattle.history_graph.proofs.written.by_least.Given as goal

abbrev pub invariant-loop-n : goal.invariant-loop-n
invariant-loop-n l = IsByLeast l.parts l.n l.index
