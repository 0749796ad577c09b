use Rattle.std.proofs.Common.{take}
use Rattle.part_bytes.specs.Lengths.{held_at}
use Rattle.part_bytes.proofs.Lengths.{Reaches}
use Rattle.part_bytes.proofs.length.add_all_held.Given as goal

abbrev pub invariant-loop-name : goal.invariant-loop-name
invariant-loop-name l = Reaches (held_at l.state) l.fn.total l.total (take l.name-index l.names)
