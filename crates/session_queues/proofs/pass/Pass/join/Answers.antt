use Rattle.std.proofs.Common.{◌+◌, ◌%◌, refl, sym, ap₂, ◌∙◌, subst}
use Rattle.session_queues.specs.Passes.{Counts}
use Rattle.session_queues.proofs.Steps.{joins, counts_join}
use Rattle.session_queues.proofs.pass.Pass.join.Goals as goal

pub invariant_of-self : goal.invariant_of-self
invariant_of-self c = let i = c.self.invariant in let f = c.self.inside in let j = c.other.invariant in let o = c.other.inside in
    let m = joins f.number f.main.me.view.client.given f.main.me.view.client o.main.me.view.client _ (i.1.0, i.2, refl) c.join.ensures.view in
    let n = joins f.number f.control.me.view.client.given f.control.me.view.client o.control.me.view.client _ (i.1.1, i.3, refl) c.join-2.ensures.view in (
      (c.join.ensures.queue.1, c.join.ensures.queue.2, c.join-2.ensures.queue.1, c.join-2.ensures.queue.2),
      (m.0, n.0),
      m.1,
      n.1,
      (
        subst (Counts ((f.given + o.given) % 4294967296)) (sym m.2) (counts_join f.given o.given f.main.me.view.client.given o.main.me.view.client.given i.4.0 j.4.0),
        n.2 ∙ (ap₂ (λ a b. a + b) i.4.1 j.4.1 ∙ sym m.2),
      ),
    )
