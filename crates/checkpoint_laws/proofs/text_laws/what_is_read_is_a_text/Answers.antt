use Rattle.checkpoint_laws.proofs.WholeTexts.{read_is_text, read_version}
use Rattle.checkpoint_laws.proofs.text_laws.what_is_read_is_a_text.Goals as goal

pub returns-clause-version : goal.returns-clause-version
returns-clause-version c = λ bytes read end h e. read_version bytes h read end e

pub returns-clause-text : goal.returns-clause-text
returns-clause-text c = λ bytes read end h e. read_is_text bytes h read end e
