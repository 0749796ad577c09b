use Rattle.std.proofs.Common.{Ok, ap, ◌∙◌}
use Rattle.restore_run.proofs.Passing.{again_valid, began_within}
use Rattle.restore_run.proofs.walk.pass.Goals as goal

pub run_again-requires : goal.run_again-requires
run_again-requires g c = began_within g.k c.requires.0.restorable.bounds c.args.number c.args.cell.now c.requires.1.1.0

pub returns-in-Ended-clause-valid : goal.returns-in-Ended-clause-valid
returns-in-Ended-clause-valid g c =
    again_valid c.as_str.result.now c.args.cell.now.meter c.args.kernel.now.state c.run_again.new.kernel.state c.as_str.utf8 (began_within g.k c.requires.0.restorable.bounds c.args.number c.args.cell.now c.requires.1.1.0) c.requires.1.1.1
    (c.run_again.ensures.ended (c.in_ok-run_again.was ∙ ap (λ r. Ok r) c.in-Ended.is)).1
