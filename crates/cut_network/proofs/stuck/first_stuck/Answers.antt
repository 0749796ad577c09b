use Rattle.std.proofs.Common.{arith}
use Rattle.cut_network.proofs.Sticking.{first_stuck_at, not_stuck_at, never_stuck}
use Rattle.cut_network.proofs.stuck.first_stuck.Goals as goal

pub returns-in-Some : goal.returns-in-Some
returns-in-Some c = first_stuck_at c.args.graph.now c.loop-before.before c.in_ok-cell.field-0 c.in-Some.cell c.in-Some.is c.in_ok-cell.ensures c.loop-before.invariant

pub loop-before-preserved : goal.loop-before-preserved
loop-before-preserved c = not_stuck_at c.args.graph.now c.loop-before.before c.in_ok-cell.field-0 c.in_default.is c.in_ok-cell.ensures c.loop-before.invariant

pub returns : goal.returns
returns c = never_stuck c.args.graph.now c.loop-before.before (omega arith) c.loop-before.invariant

pub returns-then-not-some_drew : goal.returns-then-not-some_drew
returns-then-not-some_drew c = λ v d s. c.some_drew.ensures c.if-not-some_drew.true d (s.cell, s.at, s.drew)
