use Rattle.std.proofs.Common.{List, ℕ, Some, Ok, Err, refl, ap, ◌∙◌}
use Rattle.std.proofs.lemmas.Result.{err_from_is_err_and}
use Rattle.py_meaning.specs.Meaning as kernel
use Rattle.py_show.proofs.Limiting.{limited_is}
use Rattle.py_show.proofs.Ending.{ended, stopped, uncharged}
use Rattle.py_show.proofs.printed.result_text.Goals as goal

pub returns-clause-runs : goal.returns-clause-runs
unfolding kernel.result_text
returns-clause-runs c = λ draws told.
    ended _ c.in_ok-out.out _ _ _ (c.in_ok-out.ensures.shows draws refl)
    (λ bytes h. rw (c.in_ok-charge_shown.ensures.runs bytes h refl) (ap (λ z. (Ok (Some z), c.charge_shown.new.machine)) (limited_is bytes c.in_ok-charge_shown.field-0 (h ∙ c.in_ok-charge_shown.ensures.text))))

pub returns-in_err-out-clause-runs : goal.returns-in_err-out-clause-runs
unfolding kernel.result_text
returns-in_err-out-clause-runs c = λ draws told.
    let p = err_from_is_err_and c.from_residual.result c.from_residual.ensures.1 in
    stopped c.in_err-out.field-0.0 c.from_residual.result _ _ _ (p.1 ∙ ap (λ z. Err z) p.2) told (λ t. c.in_err-out.ensures.shows draws t)

pub returns-in_err-charge_shown-clause-runs : goal.returns-in_err-charge_shown-clause-runs
unfolding kernel.result_text
returns-in_err-charge_shown-clause-runs c = λ draws told.
    let p = err_from_is_err_and c.from_residual-in_err-charge_shown.result c.from_residual-in_err-charge_shown.ensures.1 in
    ended _ c.in_ok-out.out _ _ _ (c.in_ok-out.ensures.shows draws refl)
    (λ bytes h. uncharged (List ℕ) c.in_err-charge_shown.field-0.0 c.from_residual-in_err-charge_shown.result _ _ _ (p.1 ∙ ap (λ z. Err z) p.2) told (λ t. c.in_err-charge_shown.ensures.runs bytes h t))
