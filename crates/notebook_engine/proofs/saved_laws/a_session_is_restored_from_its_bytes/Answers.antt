use Rattle.notebook_engine.proofs.Restored.{restored_so, objects_so, no_fault}
use Rattle.notebook_engine.proofs.saved_laws.a_session_is_restored_from_its_bytes.Goals as goal

pub returns-clause-restored : goal.returns-clause-restored
returns-clause-restored c = λ entries g s p stands graph names feasible has on r h. restored_so entries g s p stands graph names feasible has on r h

pub returns-clause-objects : goal.returns-clause-objects
returns-clause-objects c = λ entries g s p stands graph names feasible has on r h order are. objects_so entries g s p stands graph names feasible has on r h order are

pub returns-clause-no_fault : goal.returns-clause-no_fault
returns-clause-no_fault c = λ entries g s p stands graph names feasible has f h. no_fault entries g s p stands graph names feasible has f h
