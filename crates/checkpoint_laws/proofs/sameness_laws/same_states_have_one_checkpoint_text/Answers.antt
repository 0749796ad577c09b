use Rattle.checkpoint_laws.proofs.Alike.{one_checkpoint_text, one_checkpoint_text1}
use Rattle.checkpoint_laws.proofs.sameness_laws.same_states_have_one_checkpoint_text.Goals as goal

pub returns-clause-one : goal.returns-clause-one
returns-clause-one c = λ s t graph plan closed other same. one_checkpoint_text1 s t closed other same plan graph

pub returns-clause-two : goal.returns-clause-two
returns-clause-two c = λ s t graph plan closed other same. one_checkpoint_text s t closed other same plan graph
