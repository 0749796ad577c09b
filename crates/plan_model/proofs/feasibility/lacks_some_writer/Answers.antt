use Rattle.std.proofs.Common.{get_or, arith}
use Rattle.std.proofs.lemmas.Bool.{false≢true}
use Rattle.std.proofs.lemmas.List.{get_or_default}
use Rattle.graph_model.proofs.Walking.{none_more, none_contained}
use Rattle.plan_model.specs.Failing.{LacksWriter}
use Rattle.plan_model.proofs.feasibility.lacks_some_writer.Goals as goal

pub loop-v-preserved : goal.loop-v-preserved
loop-v-preserved c =
    let reads = c.args.reads.now in
    let i = c.loop-v.v-index in
    none_more (LacksWriter c.args.graph.now c.args.rerun.now) reads i (get_or reads i 0) c.loop-v-test.true
    (get_or_default reads i 0 _ c.loop-v-test.true) c.loop-v.invariant (λ p. false≢true (c.if-lacks_writer.ensures.1 p))

pub returns : goal.returns
returns c = (
  λ e. absurd (false≢true e),
  λ h. absurd (none_contained (LacksWriter c.args.graph.now c.args.rerun.now) c.args.reads.now (λ k d l p. c.loop-v.invariant k d (omega arith) p) h.0 h.1 h.2),
)
