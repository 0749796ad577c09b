use Rattle.std.proofs.Common.{List, ◌∙◌, subst}
use Rattle.run_graph.specs.RunLists.{ListedCell}
use Rattle.notebook_meaning.specs.Cells.{recorded}
use Rattle.notebook_engine.specs.declared.session.Session.{Session}
use Rattle.notebook_engine.specs.Holding.{HoldsCells, PassesWith, HasRun}
use Rattle.notebook_engine.proofs.notebook.Notebook.execute.Goals as goal

pub returns-in-Ok-clause-ran : goal.returns-in-Ok-clause-ran
returns-in-Ok-clause-ran g c =
    subst (λ (old : Session). (cells : List ListedCell) → HoldsCells old cells
    → HasRun c.execute.new.self cells c.args.silent c.args.code.now (record { code = recorded c.args.code.now; draws = c.in-Ok.done.draws; counted = c.args.counted }) c.in-Ok.done.reply)
    c.self.view_is c.in-Ok.ensures.ran

pub returns-in-Err-clause-passes : goal.returns-in-Err-clause-passes
returns-in-Err-clause-passes g c = λ which draws e.
    subst (λ (old : Session). PassesWith old (record { code = recorded c.args.code.now; draws = draws; counted = c.args.counted }) which) c.self.view_is
    (c.execute.ensures.passes which draws (c.in-Err.is ∙ e))
