use Rattle.std.proofs.Common.{refl}
use Rattle.std.proofs.lemmas.Result.{err_from_is_err_and}
use Rattle.restore_run.proofs.Finishing.{restored_on, fault_of, stopped_early}
use Rattle.restore_run.proofs.run.restore.Goals as goal

pub returns-clause-restored : goal.returns-clause-restored
returns-clause-restored c =
    let k = c.in-Ok.read in
    restored_on c.args.bytes.now k c.in_ok-last.last c.in_ok-state.state (c.in-Ok.ensures.exact refl) c.in_ok-last.ensures.walked c.in_ok-state.ensures.tidied c.args.host c.restored.result c.restored.ensures.ok

pub returns-clause-fault : goal.returns-clause-fault
returns-clause-fault c =
    let k = c.in-Ok.read in
    fault_of c.args.bytes.now k c.in_ok-last.last c.in_ok-state.state (c.in-Ok.ensures.exact refl) c.in_ok-last.ensures.walked c.in_ok-state.ensures.tidied c.restored.result c.restored.ensures.fault

pub returns-in_err-last-clause-fault : goal.returns-in_err-last-clause-fault
returns-in_err-last-clause-fault c =
    let p = err_from_is_err_and c.from_residual.result c.from_residual.ensures.1 in
    rw (p.1, p.2) (stopped_early c.args.bytes.now c.in-Ok.read c.in_err-last.field-0.0 (c.in-Ok.ensures.exact refl) c.in_err-last.ensures.fault)
