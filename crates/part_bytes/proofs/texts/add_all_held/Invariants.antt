use Rattle.std.proofs.Common.{◌≡◌, take}
use Rattle.std.specs.List.{flat_map}
use Rattle.part_bytes.specs.Tables.{with_texts}
use Rattle.part_bytes.specs.Gathering.{held_texts_at}
use Rattle.part_bytes.proofs.texts.add_all_held.Given as goal

abbrev pub invariant-loop-name : goal.invariant-loop-name
invariant-loop-name l = l.texts ≡ with_texts l.fn.texts (flat_map (held_texts_at l.state) (take l.name-index l.names))
