use Rattle.std.proofs.Common.{◌≡◌, take}
use Rattle.std.specs.List.{flat_map}
use Rattle.part_bytes.specs.Tables.{with_texts}
use Rattle.part_bytes.specs.Uses as spec
use Rattle.part_bytes.proofs.texts.add_pairs.Given as goal

abbrev pub invariant-loop-index : goal.invariant-loop-index
invariant-loop-index l = l.texts ≡ with_texts l.fn.texts (flat_map spec.pair_texts (take l.index l.dict))
