use Rattle.std.proofs.Common.{refl, ap, ◌∙◌, Err}
use Rattle.std.proofs.lemmas.Result.{err_from_is_err_and}
use Rattle.py_meaning.specs.Operators.{joined}
use Rattle.py_ops.proofs.Deeper.{after_err}
use Rattle.py_ops.proofs.operators.joined.Goals as goal

pub returns-in_err-charge_sequence-clause-runs : goal.returns-in_err-charge_sequence-clause-runs
unfolding joined
returns-in_err-charge_sequence-clause-runs c = λ draws told.
    let items = c.as_slice.ensures in
    let p = err_from_is_err_and c.from_residual.result c.from_residual.ensures.1 in
    after_err c.in_err-charge_sequence.field-0.0 c.from_residual.result _ _ _ (p.1 ∙ ap (λ z. Err z) p.2) told (λ t. rw items at (c.in_err-charge_sequence.ensures.runs t))

pub returns-clause-runs : goal.returns-clause-runs
unfolding joined
returns-clause-runs c = λ draws told.
    let items = c.as_slice.ensures in
    let charged = c.in_ok-charge_sequence.ensures.runs refl in
    rw (rw items at charged) (c.copied.ensures.runs draws told)
