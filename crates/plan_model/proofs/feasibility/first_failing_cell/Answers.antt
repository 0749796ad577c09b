use Rattle.std.proofs.Common.{arith}
use Rattle.std.proofs.lemmas.Bool.{false≢true}
use Rattle.graph_model.proofs.Walking.{never_start, never_more}
use Rattle.graph_model.proofs.Lookups.{cell_within}
use Rattle.plan_model.specs.Failing.{FailsCell}
use Rattle.plan_model.proofs.feasibility.first_failing_cell.Goals as goal

pub loop-before-init : goal.loop-before-init
loop-before-init c = never_start (FailsCell c.args.graph.now c.args.plan.now) (λ h. let p = h.1.0 in omega arith)

pub loop-before-preserved : goal.loop-before-preserved
loop-before-preserved c = never_more (FailsCell c.args.graph.now c.args.plan.now) c.loop-before.before c.loop-before.invariant (λ p. false≢true (c.if-fails_cell.ensures.1 p))

pub returns-then-fails_cell : goal.returns-then-fails_cell
returns-then-fails_cell c = (c.fails_cell.ensures.0 c.if-fails_cell.true, c.loop-before.invariant)

pub returns : goal.returns
returns c = λ n h.
    let w = cell_within c.args.graph.now n h.0 h.1 in
    c.loop-before.invariant n (omega arith) h
