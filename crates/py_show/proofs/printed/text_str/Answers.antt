use Rattle.std.proofs.Common.{Ok, Err, refl, sym, ap, ◌∙◌, arith}
use Rattle.std.proofs.lemmas.Result.{err_from_is_err_and}
use Rattle.py_value.specs.declared.value.Value.TheVariants as value
use Rattle.py_show.proofs.Ending.{text_steps, text_at_last, after_err}
use Rattle.py_show.proofs.printed.text_str.Goals as goal

pub returns-then-left-eq0-clause-runs : goal.returns-then-left-eq0-clause-runs
returns-then-left-eq0-clause-runs c = λ draws told.
    let error = c.in_ok-recursion_error.ensures in
    rw error (text_at_last c.args.left c.args.text.now draws c.args.machine.now (omega arith))

pub returns-in_err-step-clause-runs : goal.returns-in_err-step-clause-runs
returns-in_err-step-clause-runs c = λ draws told.
    let p = err_from_is_err_and c.from_residual-in_err-step.result c.from_residual-in_err-step.ensures.1 in
    text_steps c.args.left c.args.text.now draws c.args.machine.now (omega arith)
    ∙ after_err c.in_err-step.field-0.0 c.from_residual-in_err-step.result _ _ _ (p.1 ∙ ap (λ z. Err z) p.2) told (λ t. c.in_err-step.ensures.runs t)

pub returns-clause-runs : goal.returns-clause-runs
returns-clause-runs c = λ draws told.
    text_steps c.args.left c.args.text.now draws c.args.machine.now (omega arith)
    ∙ rw (c.in_ok-step.ensures.runs refl) (ap (λ z. (Ok (value.Text z), c.step.new.self)) (sym c.in_ok-share.ensures))
