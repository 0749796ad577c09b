use Rattle.std.proofs.Common.{◌≡◌, Bool, sym, subst}
use Rattle.session_core.specs.declared.engine.RunFault.TheVariants as fault
use Rattle.notebook_meaning.specs.Cells.{recorded}
use Rattle.notebook_engine.specs.Holding.{PassesWith}
use Rattle.notebook_engine.proofs.session.Session.execute.Goals as goal

pub returns-then-count_in-clause-passes : goal.returns-then-count_in-clause-passes
returns-then-count_in-clause-passes g c = λ which draws same.
    let is : c.run_full.result ≡ fault.TooMany which draws = cc same in
    subst (λ (b : Bool). PassesWith c.args.self.now (record { code = recorded c.args.code.now; draws = draws; counted = b }) which) (sym c.if-counted.true)
    (c.run_full.ensures.passes which draws is)
