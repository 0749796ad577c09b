use Rattle.std.proofs.Common.{sym, ap, ◌∙◌}
use Rattle.session_core.specs.Legal.{progress_of}
use Rattle.session_core.specs.Answering.{is_away}
use Rattle.session_core.proofs.Progressing.{progress_more}
use Rattle.session_core.proofs.journal.Journal.push.Goals as goal

pub invariant_of-self : goal.invariant_of-self
invariant_of-self c =
    let p = progress_of c.self.inside.entries.items in
    let now = sym (progress_more c.self.inside.entries.items c.args.entry) ∙ ap progress_of (sym c.push_reserved.ensures.items) in (
      c.host_after-self-inside.ensures p (sym c.self.invariant.0) ∙ ap (λ q. q.owner) now,
      c.is_away_after-self-inside.ensures p (sym c.self.invariant.1) ∙ ap (λ q. is_away q.phase) now,
    )
