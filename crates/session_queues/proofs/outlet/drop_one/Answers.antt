use Rattle.std.proofs.Common.{rules}
use Rattle.session_queues.proofs.Outgoing.{pops_on, first_pushed, known_on, drained_at_none}
use Rattle.session_queues.proofs.outlet.drop_one.Goals as goal

pub returns-clause-consumer : goal.returns-clause-consumer
returns-clause-consumer g c = pops_on c.pop_and_drop.result _ _ c.pop_and_drop.ensures.done c.requires.consumer

pub returns-clause-first : goal.returns-clause-first
returns-clause-first g c = λ pushed is. first_pushed c.pop_and_drop.result c.args.seat.now.me.view.client _ pushed c.pop_and_drop.ensures.done is

pub returns-clause-known : goal.returns-clause-known
returns-clause-known g c = λ pushed is. known_on c.pop_and_drop.result c.args.seat.now.me.view.client _ pushed c.pop_and_drop.ensures.done is

pub returns-clause-drained : goal.returns-clause-drained
returns-clause-drained g c = λ none pushed is.
    drained_at_none c.pop_and_drop.result c.args.seat.now.me.view.client c.pop_and_drop.new.seat.me.view.client pushed (search rules) c.pop_and_drop.ensures.done is
