use Rattle.session_queues.proofs.outlet.drop_rest.Goals as goal

pub returns-then-not-drop_one-clause-drained : goal.returns-then-not-drop_one-clause-drained
returns-then-not-drop_one-clause-drained g c = λ pushed is. c.drop_one.ensures.drained c.if-not-drop_one.true pushed (c.loop.invariant.4 pushed is)

pub loop-preserved : goal.loop-preserved
loop-preserved g c = (tt, tt, c.drop_one.ensures.queue, c.drop_one.ensures.consumer, λ pushed is. c.drop_one.ensures.known pushed (c.loop.invariant.4 pushed is))
