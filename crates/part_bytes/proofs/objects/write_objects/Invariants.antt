use Rattle.std.proofs.Common.{◌≡◌, ◌++◌, take}
use Rattle.std.specs.List.{flat_map, AllWithin}
use Rattle.part_bytes.specs.Parts.{number_in, objects_of}
use Rattle.part_bytes.specs.Plain.{IsPlainAt}
use Rattle.part_bytes.specs.Texts as spec
use Rattle.part_bytes.specs.Spellings.{spells}
use Rattle.part_bytes.proofs.objects.write_objects.Given as goal

abbrev pub invariant-loop-at : goal.invariant-loop-at
invariant-loop-at l = record {
  bytes : l.out ≡ l.fn.out ++ flat_map (spec.spelled_object (spells l.spelling)) (flat_map (objects_of l.state (number_in l.numbers.order)) (take l.at-index l.numbers.order));
  plain : AllWithin (IsPlainAt l.state) l.numbers.order 0 l.at-index;
}
