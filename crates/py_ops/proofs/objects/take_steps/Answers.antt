use Rattle.std.proofs.Common.{◌≡◌, ◌-◌, ◌+◌, suc, Err, refl, ap, ◌∙◌, arith}
use Rattle.std.proofs.lemmas.Result.{err_from_is_err_and}
use Rattle.py_ops.proofs.Stepping.{one_step, no_step, failed_step}
use Rattle.py_ops.proofs.objects.take_steps.Goals as goal

pub loop-step-preserved : goal.loop-step-preserved
loop-step-preserved c =
    let e : c.args.count - c.loop-step._step ≡ suc (c.args.count - (c.loop-step._step + 1)) = omega arith in
    record {
      runs = λ draws. c.loop-step.invariant.runs draws ∙ one_step _ _ draws c.loop-step.machine c.step.new.self e (c.in_ok-step.ensures.runs refl);
      drawn = c.step.ensures.drawn ∙ c.loop-step.invariant.drawn;
    }

pub returns-clause-runs : goal.returns-clause-runs
returns-clause-runs c = λ draws told.
    let none : c.args.count - c.loop-step._step ≡ 0 = omega arith in
    c.loop-step.invariant.runs draws ∙ no_step _ draws c.loop-step.machine none

pub returns-in_err-step-clause-runs : goal.returns-in_err-step-clause-runs
returns-in_err-step-clause-runs c = λ draws told.
    let e : c.args.count - c.loop-step._step ≡ suc (c.args.count - (c.loop-step._step + 1)) = omega arith in
    let p = err_from_is_err_and c.from_residual.result c.from_residual.ensures.1 in
    c.loop-step.invariant.runs draws
    ∙ failed_step _ _ draws c.loop-step.machine c.step.new.self c.in_err-step.field-0.0 c.from_residual.result e (p.1 ∙ ap (λ z. Err z) p.2) told (λ t. c.in_err-step.ensures.runs t)
