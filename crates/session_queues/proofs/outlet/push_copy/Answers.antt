use Rattle.session_queues.proofs.Outgoing.{may_push}
use Rattle.session_queues.proofs.outlet.push_copy.Goals as goal

pub push_or_drop-requires-clause-may : goal.push_or_drop-requires-clause-may
push_or_drop-requires-clause-may g c = may_push c.args.seat.now.me.view.client _ c.requires.view
