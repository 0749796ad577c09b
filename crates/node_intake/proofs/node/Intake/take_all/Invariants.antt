use Rattle.std.proofs.Common.{◌≡◌, List, ◌++◌, Result}
use Rattle.jupyter_messages.specs.declared.message.Message.{Message}
use Rattle.jupyter_messages.specs.declared.fault.MessageFault.{MessageFault}
use Rattle.node_intake.specs.Intake.{Node, with_messages}
use Rattle.node_intake.specs.Standing.{Becomes, HasKept}
use Rattle.node_intake.proofs.node.Intake.take_all.Given as goal

abbrev pub invariant-loop-read : goal.invariant-loop-read
invariant-loop-read g l = record {
  done : List (Result Message MessageFault);
  parts : l.fn.all.items ≡ done ++ l.read-iterator.rest.items;
  becomes : Becomes g.D.Desk.holds (λ node. with_messages l.hosts node done) l.initial.self l.self;
  kept : HasKept g.D.Desk.keeps l.initial.self l.self;
}
