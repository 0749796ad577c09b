use Rattle.std.proofs.Common.{List, ℕ, Err, refl, sym, ap, ◌∙◌}
use Rattle.std.proofs.lemmas.Result.{err_from_is_err_and}
use Rattle.py_meaning.specs.Meaning as kernel
use Rattle.py_show.proofs.Limiting.{limited_is}
use Rattle.py_show.proofs.Ending.{ended, stopped, uncharged, after_err}
use Rattle.py_show.proofs.printed.print_line.Goals as goal

pub returns-in_err-line-clause-runs : goal.returns-in_err-line-clause-runs
unfolding kernel.print
returns-in_err-line-clause-runs c = λ draws told.
    let p = err_from_is_err_and c.from_residual.result c.from_residual.ensures.1 in
    stopped c.in_err-line.field-0.0 c.from_residual.result _ _ _ (p.1 ∙ ap (λ z. Err z) p.2) told (λ t. c.in_err-line.ensures.shows draws t)

pub returns-in_err-text-clause-runs : goal.returns-in_err-text-clause-runs
unfolding kernel.print
returns-in_err-text-clause-runs c = λ draws told.
    let p = err_from_is_err_and c.from_residual-in_err-text.result c.from_residual-in_err-text.ensures.1 in
    ended _ c.in_ok-line.line _ _ _ (c.in_ok-line.ensures.shows draws refl)
    (λ bytes h. uncharged (List ℕ) c.in_err-text.field-0.0 c.from_residual-in_err-text.result _ _ _ (p.1 ∙ ap (λ z. Err z) p.2) told (λ t. c.in_err-text.ensures.runs bytes h t))

pub returns-in_err-write-clause-runs : goal.returns-in_err-write-clause-runs
unfolding kernel.print
returns-in_err-write-clause-runs c = λ draws told.
    let p = err_from_is_err_and c.from_residual-in_err-write.result c.from_residual-in_err-write.ensures.1 in
    ended _ c.in_ok-line.line _ _ _ (c.in_ok-line.ensures.shows draws refl)
    (λ bytes h. rw (c.in_ok-text.ensures.runs bytes h refl, limited_is bytes c.in_ok-text.text (h ∙ c.in_ok-text.ensures.text) ∙ sym c.as_str.ensures)
    (after_err c.in_err-write.field-0.0 c.from_residual-in_err-write.result _ _ _ (p.1 ∙ ap (λ z. Err z) p.2) told (λ t. c.in_err-write.ensures.runs t)))

pub returns-clause-runs : goal.returns-clause-runs
unfolding kernel.print
returns-clause-runs c = λ draws told.
    ended _ c.in_ok-line.line _ _ _ (c.in_ok-line.ensures.shows draws refl)
    (λ bytes h. rw (c.in_ok-text.ensures.runs bytes h refl, limited_is bytes c.in_ok-text.text (h ∙ c.in_ok-text.ensures.text) ∙ sym c.as_str.ensures, c.in_ok-write.ensures.runs refl) refl)
