use Rattle.history_graph.specs.Active.{Holds, AreThose}
use Rattle.history_graph.specs.Grown.{count_on}
use Rattle.history_graph.proofs.active.active_of.Given as goal

abbrev pub invariant-loop-index : goal.invariant-loop-index
invariant-loop-index l = AreThose (Holds l.graph) (count_on 0 l.index) l.active
