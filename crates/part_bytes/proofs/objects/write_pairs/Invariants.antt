use Rattle.std.proofs.Common.{◌≡◌, ◌++◌, map, take}
use Rattle.std.specs.List.{flat_map, AllWithin}
use Rattle.part_bytes.specs.Parts.{number_in, numbered_pair}
use Rattle.part_bytes.specs.Plain.{IsPlainPair}
use Rattle.part_bytes.specs.Texts as spec
use Rattle.part_bytes.specs.Spellings.{spells}
use Rattle.part_bytes.proofs.objects.write_pairs.Given as goal

abbrev pub invariant-loop-index : goal.invariant-loop-index
invariant-loop-index l = record {
  bytes : l.out ≡ l.fn.out ++ flat_map (spec.spelled_pair (spells l.spelling)) (map (numbered_pair (number_in l.numbers.order)) (take l.index l.dict));
  plain : AllWithin IsPlainPair l.dict 0 l.index;
}
