use Rattle.checkpoint_laws.proofs.Answered.{answer_is, answer_is1}
use Rattle.checkpoint_laws.proofs.spelling_laws.a_text_is_read_back.Goals as goal

pub returns-clause-one : goal.returns-clause-one
returns-clause-one c = λ s g p h graph names feasible like. answer_is1 s g p h names like graph feasible

pub returns-clause-two : goal.returns-clause-two
returns-clause-two c = λ s g p h graph names feasible like. answer_is s g p h.one names like h.texts graph feasible
