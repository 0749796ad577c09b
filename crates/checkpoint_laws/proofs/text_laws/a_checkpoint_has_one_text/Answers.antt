use Rattle.checkpoint_laws.proofs.OneText.{one_text, no_prefix}
use Rattle.checkpoint_laws.proofs.text_laws.a_checkpoint_has_one_text.Goals as goal

pub returns-clause-alone : goal.returns-clause-alone
returns-clause-alone c = λ a b k small also version h i. one_text a b k small also version h i

pub returns-clause-no_prefix : goal.returns-clause-no_prefix
returns-clause-no_prefix c = λ a more k l small h i. no_prefix a more k l small h i
