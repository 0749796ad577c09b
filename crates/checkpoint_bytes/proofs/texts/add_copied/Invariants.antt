use Rattle.std.proofs.Common.{◌≡◌, take}
use Rattle.part_bytes.specs.Tables.{with_texts}
use Rattle.checkpoint_bytes.specs.Texts as spec
use Rattle.checkpoint_bytes.proofs.texts.add_copied.Given as goal

abbrev pub invariant-loop-index : goal.invariant-loop-index
invariant-loop-index l = l.texts ≡ with_texts l.fn.texts (spec.each_from (spec.copied_texts l.state l.plan) 1 (take l.index l.versions))
