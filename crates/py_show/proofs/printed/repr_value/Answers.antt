use Rattle.std.proofs.Common.{Err, refl, ap, ◌∙◌}
use Rattle.std.proofs.lemmas.Result.{err_from_is_err_and}
use Rattle.py_show.proofs.Ending.{ended, stopped, repr_at}
use Rattle.py_show.proofs.printed.repr_value.Goals as goal

pub returns-clause-runs : goal.returns-clause-runs
returns-clause-runs c = λ draws told.
    repr_at c.args.left c.args.value.now draws c.args.machine.now
    ∙ ended _ c.in_ok-out.out _ _ _ (c.in_ok-out.ensures.shows draws refl) (λ bytes h. c.made_of.ensures.runs bytes h draws told)

pub returns-in_err-out-clause-runs : goal.returns-in_err-out-clause-runs
returns-in_err-out-clause-runs c = λ draws told.
    let p = err_from_is_err_and c.from_residual.result c.from_residual.ensures.1 in
    repr_at c.args.left c.args.value.now draws c.args.machine.now
    ∙ stopped c.in_err-out.field-0.0 c.from_residual.result _ _ _ (p.1 ∙ ap (λ z. Err z) p.2) told (λ t. c.in_err-out.ensures.shows draws t)
