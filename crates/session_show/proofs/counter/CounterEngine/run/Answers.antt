use Rattle.std.proofs.Common.{arith}
use Rattle.session_show.proofs.Counting.{passes_count, runs_on, stands_then, added_at_most}
use Rattle.session_show.proofs.counter.CounterEngine.run.Goals as goal

pub returns-then-next-eq4-clause-reply : goal.returns-then-next-eq4-clause-reply
returns-then-next-eq4-clause-reply g c = λ served h whole.
    let four = c.if-next-eq4.true in
    passes_count c.args.self.now.total c.added-next.result served c.args.ask.now _ h.0 c.added-next.ensures (omega (arith, four))

pub returns-in-Ok-executed-clause-reply : goal.returns-in-Ok-executed-clause-reply
returns-in-Ok-executed-clause-reply g c = λ served h whole.
    let other = c.if-next-eq4.false in
    let most = added_at_most c.args.self.now.total c.args.ask.now in
    let is = c.added-next.ensures in
    let total = h.0 in
    let less = h.1 in
    runs_on c.args.self.now.total c.added-next.result served c.args.ask.now _ _ h.0 is (omega (arith, other, most, is, total, less)) c.in-Ok-executed.ensures

pub returns-in-Ok-executed-clause-stands : goal.returns-in-Ok-executed-clause-stands
returns-in-Ok-executed-clause-stands g c = λ served h whole.
    let other = c.if-next-eq4.false in
    let most = added_at_most c.args.self.now.total c.args.ask.now in
    let is = c.added-next.ensures in
    let total = h.0 in
    let less = h.1 in
    stands_then c.args.self.now.total c.added-next.result served c.args.ask.now _ h.0 is (omega (arith, other, most, is, total, less))
