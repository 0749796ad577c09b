use Rattle.std.proofs.Common.{take}
use Rattle.history_graph.specs.Active.{AreThose}
use Rattle.history_graph.specs.Grown.{HasFresh}
use Rattle.history_graph.proofs.growth.turnover_of.Given as goal

abbrev pub invariant-loop-v : goal.invariant-loop-v
invariant-loop-v l =
    AreThose (λ v. ¬ HasFresh l.graph l.fresh v) (take l.v-index l.active) l.stay × AreThose (HasFresh l.graph l.fresh) (take l.v-index l.active) l.go
