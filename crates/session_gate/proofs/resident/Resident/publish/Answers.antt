use Rattle.std.proofs.Common.{sym, ap, ◌∙◌, subst}
use Rattle.session_queues.specs.declared.shared.SharedQueues.{SharedQueues}
use Rattle.session_queues.specs.Ends.{AreFirst}
use Rattle.session_gate.proofs.resident.Resident.publish.Goals as goal

pub publish_all-requires-clause-queue : goal.publish_all-requires-clause-queue
publish_all-requires-clause-queue g c = c.self.invariant.published.0 ∙ ap (λ (q : SharedQueues). q.out) (sym c.shared.ensures)

pub publish_all-requires-clause-first : goal.publish_all-requires-clause-first
publish_all-requires-clause-first g c = subst (AreFirst c.self.inside.outlet.pushed) (sym c.entries.ensures) c.self.invariant.published.1
