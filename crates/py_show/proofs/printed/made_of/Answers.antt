use Rattle.std.proofs.Common.{Ok, refl, sym, ap, ◌∙◌}
use Rattle.py_value.specs.declared.value.Value.TheVariants as value
use Rattle.py_meaning.specs.Operators.{made_text}
use Rattle.py_show.proofs.Limiting.{limited_is}
use Rattle.py_show.proofs.printed.made_of.Goals as goal

pub returns-clause-runs : goal.returns-clause-runs
unfolding made_text
returns-clause-runs c = λ bytes h draws told.
    let same = limited_is bytes c.in_ok-text.text (h ∙ c.in_ok-text.ensures.text) in
    rw (c.in_ok-text.ensures.runs bytes h refl) (ap (λ z. (Ok (value.Text z), c.charge_shown.new.machine)) (same ∙ sym c.in_ok-new.ensures))
