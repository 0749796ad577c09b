use Rattle.std.proofs.Common.{refl, ◌∙◌}
use Rattle.node_serve.proofs.service.Service.tell_sessions.Goals as goal

pub loop-at-init : goal.loop-at-init
loop-at-init g c = ((λ start s. s), refl, refl)

pub loop-at-preserved : goal.loop-at-preserved
loop-at-preserved g c =
    let i = c.loop-at.invariant in
    ((λ start s. c.in-Ok.ensures.serves start (i.0 start s)), c.in-Ok.ensures.held ∙ i.1, c.in-Ok.ensures.count ∙ i.2)

pub returns-in-Err-clause-serves : goal.returns-in-Err-clause-serves
returns-in-Err-clause-serves g c = λ start s. c.in-Err.ensures.serves start (c.loop-at.invariant.0 start s)
