use Rattle.std.proofs.Common.{refl}
use Rattle.checkpoint_reader.proofs.PartNames.{no_variable}
use Rattle.checkpoint_reader.proofs.part.name_of.Goals as goal

pub returns-in-Err : goal.returns-in-Err
returns-in-Err c = λ t. rw (no_variable c.args.xs.now c.in-Err.ensures.cases.0) refl
