use Rattle.std.proofs.Common.{sym, subst}
use Rattle.session_queues.specs.Ends.{Outgoing, IsOpen}
use Rattle.session_queues.proofs.Outgoing.{open_is}
use Rattle.session_queues.proofs.outlet.Outlet.publish.Goals as goal

pub push_copy-requires-clause-view : goal.push_copy-requires-clause-view
push_copy-requires-clause-view g c = let f = c.self.inside in
    (open_is f.closed f.out.me.view.client f.count (subst (λ (o : Outgoing). IsOpen o.pushed) (sym c.self.view_is) c.requires.open) c.self.invariant.2).1
