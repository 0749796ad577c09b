use Rattle.std.proofs.Common.{take}
use Rattle.checkpoint_bytes.specs.Marks.{AreMarksOf}
use Rattle.checkpoint_bytes.proofs.marks.marks_of.Given as goal

abbrev pub invariant-loop-number : goal.invariant-loop-number
invariant-loop-number l = AreMarksOf (take l.number-index l.numbers) l.len l.marks
