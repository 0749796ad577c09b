use Rattle.std.proofs.Common.{◌≡◌, ap, sym, subst}
use Rattle.session_queues.specs.Ends.{Outgoing, AreFirst, GoesOn}
use Rattle.session_queues.proofs.Outgoing.{still_first, gone_on}
use Rattle.session_queues.proofs.outlet.Outlet.publish_all.Goals as goal

pub returns-in_err-publish-clause-first : goal.returns-in_err-publish-clause-first
returns-in_err-publish-clause-first g c = let i = c.loop-entry.invariant in
    subst (λ (o : Outgoing). (o.out_queue ≡ c.args.self.now.out_queue) × AreFirst o.pushed c.args.entries.now) (sym c.in_err-publish.ensures)
    (ap (λ (o : Outgoing). o.out_queue) i.now, still_first _ _ _ _ _ i)

pub returns-in_err-publish-clause-goes_on : goal.returns-in_err-publish-clause-goes_on
returns-in_err-publish-clause-goes_on g c = subst (λ (o : Outgoing). GoesOn c.args.self.now.pushed o.pushed) (sym c.in_err-publish.ensures) (gone_on _ _ _ _ _ c.loop-entry.invariant)
