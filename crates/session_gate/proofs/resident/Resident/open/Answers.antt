use Rattle.std.proofs.Common.{ap, ◌∙◌}
use Rattle.session_core.specs.declared.request.Header.{Header}
use Rattle.session_core.specs.declared.entry.Entry.TheVariants.{Opened}
use Rattle.std.specs.Prelude.{[], ◌∷◌}
use Rattle.session_gate.proofs.Beginning.{opened_resident}
use Rattle.session_gate.proofs.resident.Resident.open.Goals as goal

pub begin-requires : goal.begin-requires
begin-requires g c = let e = g.E.Engine in let a = c.args in record {
  new = opened_resident e.meaning (e.stands_for a.engine) (e.host_of a.engine) (g.F.Feed.seen a.feed) a.hosts a.queues a.kernel a.host a.request a.channel c.in-Ok-opened.journal.entries c.in-Ok-open.opened.ends c.in-Ok-open.opened.outlet
      c.requires.host c.requires.engine.0 c.requires.engine.1 c.requires.feed (c.in-Ok-opened.ensures ∙ ap (λ (r : Header). Opened a.host r a.channel ∷ []) c.in-Ok.ensures) c.in-Ok-open.ensures.0 c.in-Ok-open.ensures.2;
}
