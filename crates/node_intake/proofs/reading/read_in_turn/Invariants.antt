use Rattle.std.proofs.Common.{◌≡◌, take}
use Rattle.std.specs.Prelude.{map}
use Rattle.jupyter_messages.specs.Reading.{message_in}
use Rattle.node_intake.proofs.reading.read_in_turn.Given as goal

abbrev pub invariant-loop-body : goal.invariant-loop-body
invariant-loop-body l = l.all.items ≡ map message_in (take l.body-index l.bodies)
