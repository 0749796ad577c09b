use Rattle.session_queues.proofs.outlet.drop_left.Goals as goal

pub returns-then-drop_one-clause-drained : goal.returns-then-drop_one-clause-drained
returns-then-drop_one-clause-drained g c = λ pushed is. c.drop_rest.ensures.drained pushed (c.drop_one.ensures.known pushed is)

pub returns-else-drop_one-clause-drained : goal.returns-else-drop_one-clause-drained
returns-else-drop_one-clause-drained g c = λ pushed is. c.drop_one.ensures.drained c.if-drop_one.false pushed is
