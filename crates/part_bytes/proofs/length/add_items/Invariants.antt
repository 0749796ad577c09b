use Rattle.std.proofs.Common.{take}
use Rattle.part_bytes.specs.Texts as spec
use Rattle.part_bytes.proofs.Lengths.{Reaches}
use Rattle.part_bytes.proofs.length.add_items.Given as goal

abbrev pub invariant-loop-value : goal.invariant-loop-value
invariant-loop-value l = Reaches spec.value_bytes l.fn.total l.total (take l.value-index l.items)
