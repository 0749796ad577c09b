use Rattle.host_workers.proofs.Answering.{looked_nothing}
use Rattle.host_workers.proofs.finishing.answer.Goals as goal

pub returns-in-Nothing-clause-nothing : goal.returns-in-Nothing-clause-nothing
returns-in-Nothing-clause-nothing g c = λ _. looked_nothing c.args.lease.ends c.turn.new.lease.ends c.in-Nothing.ensures.turned.1 c.in-Nothing.ensures.turned.2
