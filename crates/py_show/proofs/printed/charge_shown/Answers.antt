use Rattle.std.proofs.Common.{length, Err, refl, sym, ap, ◌∙◌}
use Rattle.std.proofs.lemmas.Result.{err_from_is_err_and}
use Rattle.py_show.proofs.Limiting.{limited_is}
use Rattle.py_show.proofs.Ending.{charge_err, refused}
use Rattle.py_show.proofs.printed.charge_shown.Goals as goal

pub returns-in_err-charge-in-Some-clause-runs : goal.returns-in_err-charge-in-Some-clause-runs
returns-in_err-charge-in-Some-clause-runs c = λ bytes h told.
    let same = limited_is bytes c.in-Some.text (h ∙ sym c.in-Some.ensures.value) in
    let p = err_from_is_err_and c.from_residual.result c.from_residual.ensures.1 in
    rw (ap length same ∙ sym c.len.ensures)
    (charge_err c.in_err-charge-in-Some.field-0.0 c.from_residual.result _ _ (p.1 ∙ ap (λ z. Err z) p.2) told (λ t. c.in_err-charge-in-Some.ensures.runs t))

pub returns-in_ok-charge-in-Some-clause-runs : goal.returns-in_ok-charge-in-Some-clause-runs
returns-in_ok-charge-in-Some-clause-runs c = λ bytes h told.
    let same = limited_is bytes c.in-Some.text (h ∙ sym c.in-Some.ensures.value) in
    rw (ap length same ∙ sym c.len.ensures) (c.in_ok-charge-in-Some.ensures.runs refl)

pub returns-in_ok-memory_error-in-None-clause-runs : goal.returns-in_ok-memory_error-in-None-clause-runs
returns-in_ok-memory_error-in-None-clause-runs c = λ bytes h told.
    let error = c.in_ok-memory_error-in-None.ensures in
    rw error (refused bytes c.args.machine.now (h ∙ sym c.in-None.ensures.value))
