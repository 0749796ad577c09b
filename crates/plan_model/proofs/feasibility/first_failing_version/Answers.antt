use Rattle.std.proofs.Common.{arith}
use Rattle.std.proofs.lemmas.Bool.{false≢true}
use Rattle.graph_model.proofs.Walking.{never_start, never_more}
use Rattle.graph_model.proofs.Lookups.{version_within}
use Rattle.plan_model.specs.Failing.{FailsVersion}
use Rattle.plan_model.proofs.feasibility.first_failing_version.Goals as goal

pub loop-before-init : goal.loop-before-init
loop-before-init c = never_start (FailsVersion c.args.graph.now c.args.plan.now) (λ h. let p = h.1.0 in omega arith)

pub loop-before-preserved : goal.loop-before-preserved
loop-before-preserved c = never_more (FailsVersion c.args.graph.now c.args.plan.now) c.loop-before.before c.loop-before.invariant (λ p. false≢true (c.if-fails_version.ensures.1 p))

pub returns-then-fails_version : goal.returns-then-fails_version
returns-then-fails_version c = (c.fails_version.ensures.0 c.if-fails_version.true, c.loop-before.invariant)

pub returns : goal.returns
returns c = λ n h.
    let w = version_within c.args.graph.now n h.0 h.1 in
    c.loop-before.invariant n (omega arith) h
