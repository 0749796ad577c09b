use Rattle.std.specs.Prelude.{Result, Ok, Err, IfOk}
use Rattle.std.proofs.Common.{sym, subst}
use Rattle.py_heap.specs.declared.state.State.{State}
use Rattle.py_heap.proofs.Validity.{count_valid, meter_valid}
use Rattle.reader_laws.specs.Texts.{IsItsText}
use Rattle.reader_laws.specs.Valid.{IsValidState}
use Rattle.replay_laws.specs.Tidied.{IsTidied}
use Rattle.part_loader.proofs.Validity.{tidied_valid}
use Rattle.restore_run.proofs.run.finished.Goals as goal

valid_if_ok : {E : Type 0} (t : State) (result : Result State E) → IsValidState t → IfOk result (IsTidied t) → IfOk result IsValidState
valid_if_ok t (Ok u) v h = tidied_valid IsItsText t u h v
valid_if_ok t (Err e) v h = tt

pub returns-clause-valid : goal.returns-clause-valid
returns-clause-valid c =
    let counted : IsValidState c.set_count.new.self = subst IsValidState (sym c.set_count.ensures) (count_valid IsItsText c.args.last c.args.count c.requires.valid) in
    let metered : IsValidState c.set_meter.new.self = subst IsValidState (sym c.set_meter.ensures) (meter_valid IsItsText c.set_count.new.self c.args.meter counted c.requires.meter) in
    valid_if_ok c.set_meter.new.self c.tidied.result metered c.tidied.ensures.tidied
