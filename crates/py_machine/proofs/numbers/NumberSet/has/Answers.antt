use Rattle.std.proofs.Common.{◌∙◌, ap, sym, is_some}
use Rattle.py_machine.proofs.Numbered.{get_is, still_some}
use Rattle.py_machine.proofs.numbers.NumberSet.has.Goals as goal

pub returns : goal.returns
returns c = rw (← c.self.view_is) (c.is_some.ensures ∙ still_some (λ x. x.now) c.get.result ∙ ap is_some (c.get.ensures.value ∙ sym (get_is c.self.inside.numbers.entries c.args.number)))
