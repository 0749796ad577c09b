use Rattle.std.proofs.Common.{◌≡◌, refl, sym, ◌∙◌, subst}
use Rattle.session_queues.specs.Items.{number_of, frontend_of}
use Rattle.session_queues.specs.declared.items.MainItem.TheVariants.{Asked}
use Rattle.session_queues.specs.Passes.{Counts}
use Rattle.session_queues.proofs.Steps.{admits}
use Rattle.session_queues.proofs.pass.Pass.admit.Goals as goal

pub invariant_of-self : goal.invariant_of-self
invariant_of-self g c = let i = c.self.invariant in let f = c.self.inside in
    let p = admits frontend_of (λ y. y ≡ c.args.request) _ c.args.request f.number f.main.me.view.client.given f.control.me.view.client _ (i.1.1, i.3, i.4.1) c.push.ensures.done in
    ((i.0.0, i.0.1, c.push.ensures.queue.1, c.push.ensures.queue.2), (i.1.0, p.0), i.2, p.1, (i.4.0, p.2))

pub invariant_of-self-else-is_control : goal.invariant_of-self-else-is_control
invariant_of-self-else-is_control g c = let i = c.self.invariant in let f = c.self.inside in
    let p = admits number_of (λ y. y ≡ c.args.request) _ (Asked c.args.request) f.number f.main.me.view.client.given f.main.me.view.client _ (i.1.0, i.2, refl) c.push_main.ensures.done in
    ((c.push_main.ensures.queue.1, c.push_main.ensures.queue.2, i.0.2, i.0.3), (p.0, i.1.1), p.1, i.3, (subst (Counts f.given) (sym p.2) i.4.0, i.4.1 ∙ sym p.2))
