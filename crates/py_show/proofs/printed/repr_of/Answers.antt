use Rattle.std.proofs.Common.{[], Err, refl, sym, ap, ◌∙◌}
use Rattle.std.proofs.lemmas.Result.{err_from_is_err_and}
use Rattle.py_show.proofs.Ending.{empty_limited, text_err}
use Rattle.py_show.proofs.printed.repr_of.Goals as goal

pub returns-clause-shows : goal.returns-clause-shows
returns-clause-shows c = λ draws told. c.in_ok-put_repr.ensures [] draws c.args.machine.now refl refl (empty_limited ∙ sym c.in_ok-out.ensures) refl

pub returns-in_err-put_repr-clause-shows : goal.returns-in_err-put_repr-clause-shows
returns-in_err-put_repr-clause-shows c = λ draws told.
    let p = err_from_is_err_and c.from_residual-in_err-put_repr.result c.from_residual-in_err-put_repr.ensures.1 in
    text_err c.in_err-put_repr.field-0.0 c.from_residual-in_err-put_repr.result _ _ _ (p.1 ∙ ap (λ z. Err z) p.2) told
    (λ t. c.in_err-put_repr.ensures [] draws c.args.machine.now refl refl (empty_limited ∙ sym c.in_ok-out.ensures) t)
