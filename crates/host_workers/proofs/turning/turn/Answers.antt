use Rattle.std.proofs.Common.{sym, subst}
use Rattle.host_workers.specs.Turns.{HasTurned}
use Rattle.host_workers.proofs.Answering.{answered, turned_as}
use Rattle.host_workers.proofs.turning.turn.Goals as goal

pub returns-clause-turned : goal.returns-clause-turned
returns-clause-turned g c = let m = g.E.Engine.meaning in let seen = g.F.Feed.seen in
    let old = c.args.lease.now in
    let mid = c.reserve.new.self in
    let popped = c.pop.new.self in
    let new = c.serve-served.new.self in
    let served = c.serve-served.result in
    let told = c.serve-served.ensures in
    subst (λ t. HasTurned m old t new) (sym c.told.ensures)
    (turned_as seen m served old new
    (answered seen m served old mid popped new c.in-Some.request told.entry.0 c.reserve.ensures.same c.in-Some.ensures.same c.in-Some.ensures.popped.0 told.same.0 told.entry.1 told.entry.2 told.owes c.is_legal.ensures.settled c.is_legal-2.ensures.legal))
