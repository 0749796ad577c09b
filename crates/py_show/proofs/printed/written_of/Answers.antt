use Rattle.std.proofs.Common.{[], Err, refl, sym, ap, ◌∙◌}
use Rattle.std.proofs.lemmas.Result.{err_from_is_err_and}
use Rattle.py_show.proofs.Ending.{empty_limited, text_err}
use Rattle.py_show.proofs.printed.written_of.Goals as goal

pub returns-clause-shows : goal.returns-clause-shows
returns-clause-shows c = λ draws told. c.in_ok-put_written.ensures [] draws c.args.machine.now refl refl (empty_limited ∙ sym c.in_ok-out.ensures) refl

pub returns-in_err-put_written-clause-shows : goal.returns-in_err-put_written-clause-shows
returns-in_err-put_written-clause-shows c = λ draws told.
    let p = err_from_is_err_and c.from_residual-in_err-put_written.result c.from_residual-in_err-put_written.ensures.1 in
    text_err c.in_err-put_written.field-0.0 c.from_residual-in_err-put_written.result _ _ _ (p.1 ∙ ap (λ z. Err z) p.2) told
    (λ t. c.in_err-put_written.ensures [] draws c.args.machine.now refl refl (empty_limited ∙ sym c.in_ok-out.ensures) t)
