use Rattle.std.proofs.Common.{length, ap, subst, ◌∙◌, arith}
use Rattle.session_core.specs.declared.entry.Entry.{Entry}
use Rattle.ruled_queue.specs.declared.rule.View.{View}
use Rattle.session_queues.specs.Ends.{Outgoing, OnOut, pushed_by, pushed_while, IsTakenOf}
use Rattle.session_queues.proofs.Outgoing.{consumer, producer, first_taken, known_joined, taken_of, counted, counted_taken}
use Rattle.session_queues.proofs.outlet.Outlet.close.Goals as goal

pub one_consumer-requires-clause-consumers : goal.one_consumer-requires-clause-consumers
one_consumer-requires-clause-consumers g c = let f = c.self.inside in
    (consumer f.closed f.out.me.view.client f.count c.if-self.true c.self.invariant.2, ap (λ (u : View Entry). u.pops) c.reader.invariant.2)

pub take_back-requires-clause-producer : goal.take_back-requires-clause-producer
take_back-requires-clause-producer g c = let f = c.self.inside in producer f.closed f.out.me.view.client f.count c.if-self.false c.self.invariant.2

pub invariant_of-self-else-self : goal.invariant_of-self-else-self
invariant_of-self-else-self g c = let f = c.self.inside in let v = f.out.me.view.client in let r = c.reader.inside.out.me.view.client in (
  c.drop_left.ensures.queue.1,
  c.drop_left.ensures.queue.2,
  (pushed_by v, c.drop_left.ensures.drained (pushed_by v) (known_joined f.closed r v _ f.count c.if-self.false c.reader.invariant.2 c.self.invariant.2 c.take_back.ensures.view)),
)

pub returns-else-self-clause-taken : goal.returns-else-self-clause-taken
returns-else-self-clause-taken g c = let f = c.self.inside in let v = f.out.me.view.client in let r = c.reader.inside.out.me.view.client in
    let t = first_taken f.closed r v _ f.count c.if-self.false c.reader.invariant.2 c.self.invariant.2 c.take_back.ensures.view c.drop_left.ensures.first in
    subst (λ (o : Outgoing). IsTakenOf o.pushed c.args.reader.entries) c.self.view_is
    (subst (λ (o : OnOut). IsTakenOf (pushed_while f.closed v) o.entries) c.reader.view_is (taken_of f.closed v r.popped t.0 c.if-self.false t.1))

pub returns-else-self-clause-count : goal.returns-else-self-clause-count
returns-else-self-clause-count g c = let f = c.self.inside in let v = f.out.me.view.client in let r = c.reader.inside.out.me.view.client in
    let t = first_taken f.closed r v _ f.count c.if-self.false c.reader.invariant.2 c.self.invariant.2 c.take_back.ensures.view c.drop_left.ensures.first in
    counted_taken c.reader.inside.taken r.popped (pushed_by v) t.0 f.count c.reader.invariant.3 t.1 (counted f.closed v f.count c.if-self.false c.self.invariant.2) (omega (arith, c.self.ranges))
    ∙ ap (λ (o : OnOut). length o.entries) c.reader.view_is
