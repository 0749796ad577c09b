use Rattle.std.proofs.Common.{◌≡◌, take}
use Rattle.part_bytes.specs.Parts.{number_in}
use Rattle.part_loader.specs.Loading.{AreMovedNames}
use Rattle.part_loader.proofs.tidying.bind_numbered.Given as goal

abbrev pub invariant-loop-name : goal.invariant-loop-name
invariant-loop-name l = AreMovedNames l.state (number_in l.numbers.order) (take l.name-index l.names) l.fresh.globals × (l.fresh ≡ record l.initial.fresh { globals = l.fresh.globals })
