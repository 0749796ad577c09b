use Rattle.std.proofs.Common.{◌≡◌, false, take}
use Rattle.std.specs.List.{list_any}
use Rattle.part_loader.specs.References.{is_reference}
use Rattle.part_loader.proofs.moving.any_reference_under_a_key.Given as goal

abbrev pub invariant-loop-index : goal.invariant-loop-index
invariant-loop-index l = list_any (λ pair. is_reference pair.1) (take l.index l.dict) ≡ false
