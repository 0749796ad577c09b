use Rattle.std.proofs.Common.{Err, refl, ap, ◌∙◌}
use Rattle.std.proofs.lemmas.Result.{err_from_is_err_and}
use Rattle.py_show.proofs.Ending.{ended, stopped, str_at}
use Rattle.py_show.proofs.printed.str_value.Goals as goal

pub returns-in_ok-out-in_default : goal.returns-in_ok-out-in_default
returns-in_ok-out-in_default c = record {
  runs = λ draws told.
      str_at c.args.left c.args.value.now draws c.args.machine.now c.in_default.not-Text
      ∙ ended _ c.in_ok-out-in_default.out _ _ _ (c.in_ok-out-in_default.ensures.shows draws refl) (λ bytes h. c.made_of.ensures.runs bytes h draws told);
  drawn = c.made_of.ensures.drawn ∙ c.in_ok-out-in_default.ensures.drawn;
}

pub returns-in_err-out-in_default : goal.returns-in_err-out-in_default
returns-in_err-out-in_default c = record {
  runs = λ draws told.
      let p = err_from_is_err_and c.from_residual.result c.from_residual.ensures.1 in
      str_at c.args.left c.args.value.now draws c.args.machine.now c.in_default.not-Text
      ∙ stopped c.in_err-out-in_default.field-0.0 c.from_residual.result _ _ _ (p.1 ∙ ap (λ z. Err z) p.2) told (λ t. c.in_err-out-in_default.ensures.shows draws t);
  drawn = c.in_err-out-in_default.ensures.drawn;
}
