use Rattle.std.proofs.Common.{arith}
use Rattle.node_intake.proofs.Admitting.{found_at, passed_at}
use Rattle.node_intake.proofs.node.index_of.Goals as goal

pub returns-then-kernel : goal.returns-then-kernel
returns-then-kernel g c =
    let below = c.loop-at-test.true in
    let many = c.sessions-at-end.ensures.count in (
      omega (arith, below, many),
      λ ts holds.
          let all = c.sessions-at-end.ensures.all ts holds in
          found_at c.args.kernel c.kernel.result ts c.loop-at.at (omega (arith, below, all)) (λ s there. c.kernel.ensures ts s holds there) c.if-kernel.true (c.loop-at.invariant ts holds),
    )

pub loop-at-preserved : goal.loop-at-preserved
loop-at-preserved g c = λ ts holds.
    let below = c.loop-at-test.true in
    let all = c.sessions-at-end.ensures.all ts holds in
    passed_at c.args.kernel c.kernel.result ts c.loop-at.at (omega (arith, below, all)) (λ s there. c.kernel.ensures ts s holds there) c.if-kernel.false (c.loop-at.invariant ts holds)
