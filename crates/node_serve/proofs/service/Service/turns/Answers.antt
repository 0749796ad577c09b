use Rattle.std.proofs.Common.{◌<◌, length, arith}
use Rattle.node_serve.proofs.service.Service.turns.Goals as goal

pub loop-init : goal.loop-init
loop-init g c = (tt, tt, (λ start s. s), c.requires.begun, c.requires.room, c.requires.whole)

pub loop-preserved : goal.loop-preserved
loop-preserved g c =
    let i = c.loop.invariant in
    let ends = rw c.in-Ok-None.field-0-is at c.in-Ok-None.ensures.ends in
    let has_room : 0 < length c.turn.new.room = omega (arith, c.in-Ok-None.ensures.room, i.4) in
    (tt, tt, (λ start s. c.in-Ok-None.ensures.serves start (i.2 start s)), ends.0, has_room, ends.1)

pub returns-in-Ok-Some-clause-serves : goal.returns-in-Ok-Some-clause-serves
returns-in-Ok-Some-clause-serves g c = λ start s. c.in-Ok-Some.ensures.serves start (c.loop.invariant.2 start s)

pub returns-in-Err-clause-serves : goal.returns-in-Err-clause-serves
returns-in-Err-clause-serves g c = λ start s. c.in-Err.ensures.serves start (c.loop.invariant.2 start s)
