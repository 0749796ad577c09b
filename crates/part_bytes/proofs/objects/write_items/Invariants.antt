use Rattle.std.proofs.Common.{◌≡◌, ◌++◌, map, take}
use Rattle.std.specs.List.{flat_map, AllWithin}
use Rattle.part_bytes.specs.Parts.{number_in, numbered}
use Rattle.part_bytes.specs.Plain.{IsPlain}
use Rattle.part_bytes.specs.Texts as spec
use Rattle.part_bytes.specs.Spellings.{spells}
use Rattle.part_bytes.proofs.objects.write_items.Given as goal

abbrev pub invariant-loop-value : goal.invariant-loop-value
invariant-loop-value l = record {
  bytes : l.out ≡ l.fn.out ++ flat_map (spec.spelled_value (spells l.spelling)) (map (numbered (number_in l.numbers.order)) (take l.value-index l.items));
  plain : AllWithin IsPlain l.items 0 l.value-index;
}
