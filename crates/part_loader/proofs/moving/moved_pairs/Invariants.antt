use Rattle.std.proofs.Common.{◌≡◌, take, map}
use Rattle.part_bytes.specs.Parts.{numbered_pair}
use Rattle.part_loader.proofs.moving.moved_pairs.Given as goal

abbrev pub invariant-loop-index : goal.invariant-loop-index
invariant-loop-index g l = l.moved ≡ map (numbered_pair (g.P.Addresses.goes_to l.addresses)) (take l.index l.dict)
