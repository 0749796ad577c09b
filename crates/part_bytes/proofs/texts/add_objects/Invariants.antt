use Rattle.std.proofs.Common.{◌≡◌, take}
use Rattle.std.specs.List.{flat_map}
use Rattle.part_bytes.specs.Tables.{with_texts}
use Rattle.part_bytes.specs.Gathering.{object_texts_at}
use Rattle.part_bytes.proofs.texts.add_objects.Given as goal

abbrev pub invariant-loop-at : goal.invariant-loop-at
invariant-loop-at l = l.texts ≡ with_texts l.fn.texts (flat_map (object_texts_at l.state) (take l.at-index l.found))
