use Rattle.checkpoint_laws.proofs.WholeParts.{read_back, one_text}
use Rattle.checkpoint_laws.proofs.part_laws.a_part_text_is_read_back.Goals as goal

pub returns-clause-read : goal.returns-clause-read
returns-clause-read c = λ part rest h. read_back part rest h

pub returns-clause-alone : goal.returns-clause-alone
returns-clause-alone c = λ part other rest more h k e. one_text part other rest more h k e
