use Rattle.std.proofs.Common.{[], sym, ◌∙◌, subst}
use Rattle.std.proofs.lemmas.Bool.{false≢true}
use Rattle.notebook_engine.specs.declared.session.Session.{Session}
use Rattle.notebook_engine.specs.Holding.{HoldsCells}
use Rattle.notebook_engine.proofs.notebook.Notebook.shut.Goals as goal
use Rattle.notebook_engine.proofs.notebook.Notebook.shut.Goals.{then-restart, else-restart}

pub returns-clause-anew : goal.returns-clause-anew
returns-clause-anew c = λ is. elim c.if-restart.branch [
  | then-restart w ↦ subst (λ (s : Session). HoldsCells s []) (sym w.self-is) w.new.ensures.holds
  | else-restart w ↦ absurd (false≢true (sym w.if-restart.false ∙ is))
]
