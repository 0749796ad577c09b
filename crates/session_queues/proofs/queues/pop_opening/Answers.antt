use Rattle.std.proofs.Common.{inl, refl, sym, subst, [], ◌∷◌}
use Rattle.ruled_queue.specs.declared.rule.View.{View}
use Rattle.ruled_queue.specs.Rule.{Keeps}
use Rattle.session_queues.specs.declared.items.MainItem.{MainItem}
use Rattle.session_queues.proofs.Steps.{popped_is}
use Rattle.session_queues.proofs.queues.pop_opening.Goals as goal

pub returns-clause-popped : goal.returns-clause-popped
returns-clause-popped g c = λ opening zero is.
    popped_is opening c.args.seat.now.me.view.client _ _ is (subst (λ (v : View MainItem). Keeps 0 (opening ∷ []) v.lists) (sym is) (inl (refl, refl))) c.pop.ensures.done
