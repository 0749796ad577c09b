use Rattle.std.proofs.Common.{◌≡◌, replicate}
use Rattle.py_machine.specs.declared.frame.FrameSlot.TheVariants.{Empty}
use Rattle.py_machine.proofs.slots.Slots.new.Given as goal

abbrev pub invariant-loop-slot : goal.invariant-loop-slot
invariant-loop-slot l = l.values.items ≡ replicate l._slot Empty
