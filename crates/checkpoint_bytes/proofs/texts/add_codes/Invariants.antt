use Rattle.std.proofs.Common.{◌≡◌, take}
use Rattle.part_bytes.specs.Tables.{with_texts}
use Rattle.checkpoint_bytes.specs.Texts as spec
use Rattle.checkpoint_bytes.proofs.texts.add_codes.Given as goal

abbrev pub invariant-loop-cell : goal.invariant-loop-cell
invariant-loop-cell l = l.texts ≡ with_texts l.fn.texts (spec.codes_of (take l.cell-index l.cells))
