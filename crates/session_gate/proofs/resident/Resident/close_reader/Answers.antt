use Rattle.std.proofs.Common.{◌≡◌, List, ◌++◌, sym, ap, ◌∙◌, subst}
use Rattle.session_core.specs.declared.entry.Entry.{Entry}
use Rattle.session_queues.specs.declared.shared.SharedQueues.{SharedQueues}
use Rattle.session_gate.specs.Facts.{Holds}
use Rattle.session_gate.proofs.Noting.{taken_first}
use Rattle.session_gate.proofs.resident.Resident.close_reader.Goals as goal

pub close-requires-clause-queue : goal.close-requires-clause-queue
close-requires-clause-queue g c = c.self.invariant.published.0 ∙ ap (λ (q : SharedQueues). q.out) (sym c.shared.ensures)

pub returns-clause-first : goal.returns-clause-first
returns-clause-first g c = let i = c.self.inside in
    subst (λ (h : Holds g.row.E.Denot g.row.F.Denot). (rest : List Entry) × (h.entries ≡ c.args.reader.entries ++ rest)) c.self.view_is
    (taken_first i.outlet.pushed c.args.reader.entries i.journal.entries c.self.invariant.published.1 c.close.ensures.taken)
