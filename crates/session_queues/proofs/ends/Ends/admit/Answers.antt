use Rattle.std.proofs.Common.{sym, ap, ◌∙◌, subst}
use Rattle.session_queues.specs.Ends.{Held}
use Rattle.ruled_queue.specs.Rule.{Keeps, MayPush}
use Rattle.session_queues.specs.Items.{frontend_of, IsForControl, opens_control}
use Rattle.session_queues.proofs.Steps.{may_admit_control}
use Rattle.session_queues.proofs.ends.Ends.admit.Goals as goal

pub push-requires-clause-may : goal.push-requires-clause-may
push-requires-clause-may g c = let v = c.self.view_is in
    subst (λ (h : Held). MayPush frontend_of IsForControl opens_control h.control c.args.request) (sym v)
    (may_admit_control c.args.self.now c.args.request c.requires.whole.1 c.requires.given (ap (λ (h : Held). h.control.given) (sym v) ∙ (c.self.invariant.2 ∙ ap (λ (h : Held). h.main.given) v)) (sym c.is_control.ensures ∙ c.if-is_control.true))

pub push_main-requires-clause-number : goal.push_main-requires-clause-number
push_main-requires-clause-number g c = let v = c.self.view_is in
    subst (λ (h : Held). (l : _) × Keeps c.args.request.frontend l h.main.lists) (sym v) (c.requires.whole.0.1 c.args.request.frontend c.requires.given)
