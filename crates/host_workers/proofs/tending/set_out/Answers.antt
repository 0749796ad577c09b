use Rattle.host_workers.proofs.Leaving.{refused_as, resumed_as, sealed_as}
use Rattle.host_workers.proofs.Holding.{answered_tenure, claimed_and_sealed}
use Rattle.host_workers.proofs.tending.set_out.Goals as goal

pub returns-in-Refused : goal.returns-in-Refused
returns-in-Refused g c = let m = g.E.Engine.meaning in let seen = g.F.Feed.seen in let l = c.args.lease in let told = c.in-Refused.ensures in
    answered_tenure seen m l c.in-Refused.lease told.does.0 (refused_as seen m l c.args.request c.in-Refused.lease told.started) told.does.1

pub returns-in-Resumed : goal.returns-in-Resumed
returns-in-Resumed g c = let m = g.E.Engine.meaning in let seen = g.F.Feed.seen in let l = c.args.lease in let told = c.in-Resumed.ensures in
    answered_tenure seen m l c.in-Resumed.lease told.does.0 (resumed_as seen m l c.args.request c.in-Resumed.lease told.started) told.does.1

pub returns-in-Sealed : goal.returns-in-Sealed
returns-in-Sealed g c = let m = g.E.Engine.meaning in let seen = g.F.Feed.seen in let l = c.args.lease in let p = c.in-Sealed.parcel in let told = c.in-Sealed.ensures in (
  sealed_as seen m l c.args.request p told.started,
  (told.does.0, claimed_and_sealed m l.hosts l.entries p.held.entries told.does.0 p.to told.does.1 told.does.2),
)
