use Rattle.std.proofs.Common.{◌≡◌, take, map}
use Rattle.part_bytes.specs.Parts.{numbered}
use Rattle.part_loader.proofs.moving.moved_items.Given as goal

abbrev pub invariant-loop-value : goal.invariant-loop-value
invariant-loop-value g l = l.moved ≡ map (numbered (g.P.Addresses.goes_to l.addresses)) (take l.value-index l.items)
