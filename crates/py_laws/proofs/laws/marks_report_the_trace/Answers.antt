use Rattle.py_laws.proofs.Reporting.{cell_looked, cell_bound, cell_changed, cell_drew}
use Rattle.py_laws.proofs.laws.marks_report_the_trace.Goals as goal

pub returns-clause-looked : goal.returns-clause-looked
returns-clause-looked c = λ body s draws name. cell_looked body draws s name

pub returns-clause-bound : goal.returns-clause-bound
returns-clause-bound c = λ body s draws name. cell_bound body draws s name

pub returns-clause-changed : goal.returns-clause-changed
returns-clause-changed c = λ body s draws at. cell_changed body draws s at

pub returns-clause-drew : goal.returns-clause-drew
returns-clause-drew c = λ body s draws. cell_drew body draws s
