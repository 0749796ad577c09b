use Rattle.notebook_meaning.proofs.Recorded.{is_code, reads_alike}
use Rattle.notebook_meaning.proofs.laws.a_recorded_code_reads_alike.Goals as goal

pub returns-clause-code : goal.returns-clause-code
returns-clause-code c = λ code u. is_code code u

pub returns-clause-reads : goal.returns-clause-reads
returns-clause-reads c = λ code u. reads_alike code u
