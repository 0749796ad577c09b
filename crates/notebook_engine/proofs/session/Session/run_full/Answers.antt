use Rattle.std.proofs.Common.{List, true, subst}
use Rattle.nb_outside.specs.declared.feed.Drawn.{Drawn}
use Rattle.graph_model.specs.declared.plan.Tally.{Tally}
use Rattle.notebook_meaning.specs.Cells.{recorded}
use Rattle.notebook_engine.specs.Holding.{PassesWith}
use Rattle.notebook_engine.proofs.Passing.{same_number, same_draws, fills_the_count}
use Rattle.notebook_engine.proofs.session.Session.run_full.Goals as goal

pub returns-clause-passes : goal.returns-clause-passes
returns-clause-passes g c = λ which draws same.
    let n = c.args.self.now in
    let code = c.args.code.now in
    let drew = c.in-Ok.ran.0.draws in
    subst (λ (d : List Drawn). PassesWith n (record { code = recorded code; draws = d; counted = true }) which) (same_draws _ which drew draws same)
    (subst (λ (w : Tally). PassesWith n (record { code = recorded code; draws = drew; counted = true }) w) (same_number _ which drew draws same)
    (fills_the_count n code drew c.utf8.code c.requires c.in-Ok.ensures.uses))
