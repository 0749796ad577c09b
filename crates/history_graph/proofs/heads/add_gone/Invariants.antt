use Rattle.std.proofs.Common.{take}
use Rattle.history_graph.specs.Left.{AddsGone}
use Rattle.history_graph.proofs.heads.add_gone.Given as goal

abbrev pub invariant-loop-name : goal.invariant-loop-name
invariant-loop-name l = AddsGone l.state (take l.name-index l.names) l.initial.heads l.heads
