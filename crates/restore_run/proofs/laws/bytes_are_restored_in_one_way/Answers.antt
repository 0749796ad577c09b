use Rattle.restore_run.proofs.OneWay.{apart, one_restored, one_fault}
use Rattle.restore_run.proofs.laws.bytes_are_restored_in_one_way.Goals as goal

pub returns-clause-apart : goal.returns-clause-apart
returns-clause-apart c = λ bytes on r f restored fault. apart bytes on r f restored fault

pub returns-clause-one_session : goal.returns-clause-one_session
returns-clause-one_session c = λ bytes on r other a b. one_restored bytes on r other a b

pub returns-clause-one_fault : goal.returns-clause-one_fault
returns-clause-one_fault c = λ bytes f other a b. one_fault bytes f other a b
