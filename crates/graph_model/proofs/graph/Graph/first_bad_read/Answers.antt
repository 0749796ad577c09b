use Rattle.std.proofs.Common.{arith}
use Rattle.std.proofs.lemmas.Bool.{false≢true}
use Rattle.graph_model.specs.Faults.{HasBadRead}
use Rattle.graph_model.proofs.Walking.{never_start, never_more}
use Rattle.graph_model.proofs.Lookups.{cell_within}
use Rattle.graph_model.proofs.graph.Graph.first_bad_read.Goals as goal

pub loop-before-init : goal.loop-before-init
loop-before-init c = never_start (HasBadRead c.args.self.now) (λ h. let p = h.1.0 in omega arith)

pub loop-before-preserved : goal.loop-before-preserved
loop-before-preserved c = never_more (HasBadRead c.args.self.now) c.loop-before.before c.loop-before.invariant (λ p. false≢true (c.if-has_bad_read.ensures.1 p))

pub returns-then-has_bad_read : goal.returns-then-has_bad_read
returns-then-has_bad_read c = (c.has_bad_read.ensures.0 c.if-has_bad_read.true, c.loop-before.invariant)

pub returns : goal.returns
returns c = λ n h.
    let w = cell_within c.args.self.now n h.0 h.1 in
    c.loop-before.invariant n (omega arith) h
