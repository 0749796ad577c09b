use Rattle.std.proofs.Common.{refl, sym, ap, ◌∙◌, subst}
use Rattle.session_queues.specs.declared.items.MainItem.TheVariants.{Opening}
use Rattle.session_queues.specs.Items.{number_of}
use Rattle.session_queues.specs.Ends.{opened_ends, first_pass, nothing_on, nothing_pushed}
use Rattle.ruled_queue.specs.Rule.{grown}
use Rattle.session_queues.proofs.Steps.{IsOpened}
use Rattle.session_queues.proofs.queues.Queues.open.Goals as goal
use Rattle.session_queues.proofs.queues.Queues.open.Goals.{in-Ok, in-Err}

pub returns : goal.returns
returns g c = elim c.match-push.branch [
  | in-Ok w ↦ subst (IsOpened c.args.self (Opening c.args.kernel c.args.host c.args.request c.args.channel)) (sym w.result-is) (
    w.separated.ensures.ends (Opening c.args.kernel c.args.host c.args.request c.args.channel) refl (w.in-Ok.ensures.done ∙ ap (λ v. grown number_of v (Opening c.args.kernel c.args.host c.args.request c.args.channel)) c.self.invariant.0.1) ∙ ap (λ q. opened_ends q (Opening c.args.kernel c.args.host c.args.request c.args.channel)) c.self.view_is,
    w.separated.ensures.pass (Opening c.args.kernel c.args.host c.args.request c.args.channel) refl (w.in-Ok.ensures.done ∙ ap (λ v. grown number_of v (Opening c.args.kernel c.args.host c.args.request c.args.channel)) c.self.invariant.0.1) ∙ ap (λ q. first_pass q (Opening c.args.kernel c.args.host c.args.request c.args.channel)) c.self.view_is,
    w.separated.ensures.outlet ∙ ap nothing_pushed c.self.view_is,
    w.separated.ensures.reader ∙ ap nothing_on c.self.view_is,
  )
  | in-Err w ↦ subst (IsOpened c.args.self (Opening c.args.kernel c.args.host c.args.request c.args.channel)) (sym w.result-is) c.self.view_is
]
