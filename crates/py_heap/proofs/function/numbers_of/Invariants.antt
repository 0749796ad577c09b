use Rattle.std.proofs.Common.{take}
use Rattle.py_heap.specs.Numbering.{AreNumbersOf}
use Rattle.py_heap.proofs.function.numbers_of.Given as goal

abbrev pub invariant-loop-at : goal.invariant-loop-at
invariant-loop-at l = AreNumbersOf (take l.at l.names) l.numbers
