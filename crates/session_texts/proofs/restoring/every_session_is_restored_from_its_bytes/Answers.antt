use Rattle.session_texts.proofs.Restored.{restored, objects, no_fault}
use Rattle.session_texts.proofs.restoring.every_session_is_restored_from_its_bytes.Goals as goal

pub returns-clause-restored : goal.returns-clause-restored
returns-clause-restored c = λ served run words g s stands p names feasible on r h. restored served run words g s stands p names feasible on r h

pub returns-clause-objects : goal.returns-clause-objects
returns-clause-objects c = λ served run words g s stands p names feasible on r h order are. objects served run words g s stands p names feasible on r h order are

pub returns-clause-no_fault : goal.returns-clause-no_fault
returns-clause-no_fault c = λ served run words g s stands p names feasible f h. no_fault served run words g s stands p names feasible f h
