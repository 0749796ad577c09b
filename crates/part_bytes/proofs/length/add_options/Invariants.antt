use Rattle.std.proofs.Common.{take}
use Rattle.part_bytes.specs.Texts as spec
use Rattle.part_bytes.proofs.Lengths.{Reaches}
use Rattle.part_bytes.proofs.length.add_options.Given as goal

abbrev pub invariant-loop-held : goal.invariant-loop-held
invariant-loop-held l = Reaches spec.held_bytes l.fn.total l.total (take l.held-index l.values)
