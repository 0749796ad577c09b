use Rattle.std.proofs.Common.{arith}
use Rattle.std.proofs.lemmas.Bool.{false≢true}
use Rattle.graph_model.specs.Faults.{WrittenBefore}
use Rattle.graph_model.proofs.Walking.{none_more, none_contained}
use Rattle.graph_model.proofs.graph.Graph.misses_are_bad.Goals as goal

pub loop-name-preserved : goal.loop-name-preserved
loop-name-preserved c =
    none_more (WrittenBefore c.args.self.now c.args.c) c.args.names.now c.loop-name.name-index c.name-item.result c.loop-name-test.true
    c.name-item.is c.loop-name.invariant (λ p. false≢true (c.if-written_before.ensures.1 p))

pub returns : goal.returns
returns c = (
  λ e. absurd (false≢true e),
  λ h. absurd (none_contained (WrittenBefore c.args.self.now c.args.c) c.args.names.now (λ k d l p. c.loop-name.invariant k d (omega arith) p) h.0 h.1 h.2),
)
