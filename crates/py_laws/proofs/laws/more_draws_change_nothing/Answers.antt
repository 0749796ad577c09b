use Rattle.py_machine.specs.Runs.{start}
use Rattle.py_meaning.specs.Meaning.{cell}
use Rattle.py_meaning.proofs.Telling.{more_draws}
use Rattle.py_laws.proofs.laws.more_draws_change_nothing.Goals as goal

pub returns : goal.returns
returns c = λ body s draws more h. more_draws (cell body) draws more (start s) h
