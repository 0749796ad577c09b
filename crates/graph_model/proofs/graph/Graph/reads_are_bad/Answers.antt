use Rattle.std.proofs.Common.{get_or, arith}
use Rattle.std.proofs.lemmas.Bool.{false≢true}
use Rattle.std.proofs.lemmas.List.{get_or_default}
use Rattle.graph_model.specs.Faults.{CannotRead}
use Rattle.graph_model.proofs.Walking.{none_more, none_contained}
use Rattle.graph_model.proofs.graph.Graph.reads_are_bad.Goals as goal

pub loop-v-preserved : goal.loop-v-preserved
loop-v-preserved c =
    let reads = c.args.reads.now in
    let i = c.loop-v.v-index in
    none_more (CannotRead c.args.self.now c.args.c) reads i (get_or reads i 0) c.loop-v-test.true
    (get_or_default reads i 0 _ c.loop-v-test.true) c.loop-v.invariant (λ p. false≢true (c.if-cannot_read.ensures.1 p))

pub returns : goal.returns
returns c = (
  λ e. absurd (false≢true e),
  λ h. absurd (none_contained (CannotRead c.args.self.now c.args.c) c.args.reads.now (λ k d l p. c.loop-v.invariant k d (omega arith) p) h.0 h.1 h.2),
)
