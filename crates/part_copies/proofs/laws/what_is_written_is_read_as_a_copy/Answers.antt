use Rattle.part_bytes.specs.Parts.{part_of}
use Rattle.checkpoint_laws.proofs.WholeParts.{read_back}
use Rattle.part_copies.proofs.Written.{part_is}
use Rattle.part_copies.proofs.laws.what_is_written_is_read_as_a_copy.Goals as goal

pub returns-clause-text : goal.returns-clause-text
returns-clause-text c = λ s names closed w. part_is s names closed w

pub returns-clause-read : goal.returns-clause-read
returns-clause-read c = λ s names rest closed w. read_back (part_of s names) rest (part_is s names closed w)
