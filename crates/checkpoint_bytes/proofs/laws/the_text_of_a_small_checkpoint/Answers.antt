use Rattle.checkpoint_bytes.proofs.Small.{small_checkpoint, small_checkpoint1}
use Rattle.checkpoint_bytes.proofs.laws.the_text_of_a_small_checkpoint.Goals as goal

pub returns-clause-one : goal.returns-clause-one
returns-clause-one c = small_checkpoint1

pub returns-clause-two : goal.returns-clause-two
returns-clause-two c = small_checkpoint
