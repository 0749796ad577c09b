use Rattle.std.proofs.Common.{[], Ok, Err, refl, sym, ap, ◌∙◌}
use Rattle.std.proofs.lemmas.Result.{err_from_is_err_and}
use Rattle.py_show.proofs.Ending.{empty_limited, text_err, puts_run, line_at}
use Rattle.py_show.proofs.printed.line_of.Goals as goal

pub returns-clause-shows : goal.returns-clause-shows
returns-clause-shows c = λ draws told.
    puts_run c.in_ok-out.out c.args.machine.now.steps (Ok tt) c.put_line.new.out c.put_line.new.steps (line_at c.args.machine.now.state c.args.left c.args.values.now) c.in_ok-put_line.ensures
    [] draws c.args.machine.now refl refl (empty_limited ∙ sym c.in_ok-out.ensures) refl

pub returns-in_err-put_line-clause-shows : goal.returns-in_err-put_line-clause-shows
returns-in_err-put_line-clause-shows c = λ draws told.
    let p = err_from_is_err_and c.from_residual-in_err-put_line.result c.from_residual-in_err-put_line.ensures.1 in
    text_err c.in_err-put_line.field-0.0 c.from_residual-in_err-put_line.result c.put_line.new.out _ _ (p.1 ∙ ap (λ z. Err z) p.2) told
    (λ t. puts_run c.in_ok-out.out c.args.machine.now.steps (Err c.in_err-put_line.field-0.0) c.put_line.new.out c.put_line.new.steps (line_at c.args.machine.now.state c.args.left c.args.values.now) c.in_err-put_line.ensures
    [] draws c.args.machine.now refl refl (empty_limited ∙ sym c.in_ok-out.ensures) t)
