use Rattle.session_gate.proofs.Keeping.{whole_here}
use Rattle.session_gate.proofs.cell.SessionCell.finish.Goals as goal

pub returns-in-Ok-clause-whole : goal.returns-in-Ok-clause-whole
returns-in-Ok-clause-whole g c = λ holds.
    whole_here g.N.Name.hosts g.N.Name.queues g.N.Name.gives g.F.Feed.seen c.args.pass c.into_inner-slot.result c.in-Ok.resident c.in-Ok.ensures.rest c.in-Ok.ensures.finishes holds
