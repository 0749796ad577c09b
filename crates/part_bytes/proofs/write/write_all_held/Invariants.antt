use Rattle.std.proofs.Common.{◌≡◌, ◌++◌, map, take}
use Rattle.std.specs.List.{flat_map, AllWithin}
use Rattle.part_bytes.specs.Parts.{number_in, held_of}
use Rattle.part_bytes.specs.Plain.{IsPlainIn}
use Rattle.part_bytes.specs.Texts as spec
use Rattle.part_bytes.specs.Spellings.{spells}
use Rattle.part_bytes.proofs.write.write_all_held.Given as goal

abbrev pub invariant-loop-name : goal.invariant-loop-name
invariant-loop-name l = record {
  bytes : l.out ≡ l.fn.out ++ flat_map (spec.spelled_held (spells l.spelling)) (map (held_of l.state (number_in l.numbers.order)) (take l.name-index l.names));
  plain : AllWithin (IsPlainIn l.state) l.names 0 l.name-index;
}
