use Rattle.std.proofs.Common.{◌≡◌, take}
use Rattle.std.specs.List.{flat_map}
use Rattle.part_bytes.specs.Tables.{with_texts}
use Rattle.part_bytes.specs.Uses as spec
use Rattle.part_bytes.proofs.texts.add_values.Given as goal

abbrev pub invariant-loop-value : goal.invariant-loop-value
invariant-loop-value l = l.texts ≡ with_texts l.fn.texts (flat_map spec.value_texts (take l.value-index l.values))
