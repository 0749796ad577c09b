use Rattle.std.proofs.Common.{◌≡◌, ◌++◌, take}
use Rattle.std.specs.List.{flat_map}
use Rattle.part_bytes.specs.Parts.{number_in, objects_of}
use Rattle.part_loader.proofs.tidying.add_numbered.Given as goal

abbrev pub invariant-loop-at : goal.invariant-loop-at
invariant-loop-at l = (l.fresh.heap ≡ l.initial.fresh.heap ++ flat_map (objects_of l.state (number_in l.numbers.order)) (take l.at-index l.numbers.order)) × (l.fresh ≡ record l.initial.fresh { heap = l.fresh.heap })
