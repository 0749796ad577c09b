use Rattle.std.proofs.Common.{◌∙◌}
use Rattle.py_heap.proofs.Pairs.{looked_up, removed}
use Rattle.py_heap.proofs.dict.Dict.remove.Goals as goal

pub returns-clause-value : goal.returns-clause-value
returns-clause-value c = rw (← c.self.view_is) (c.shift_remove.ensures.value ∙ looked_up c.self.inside.pairs.entries c.args.key.now)

pub returns-clause-rest : goal.returns-clause-rest
returns-clause-rest c = rw (← c.self.view_is) (c.shift_remove.ensures.entries ∙ removed c.self.inside.pairs.entries c.args.key.now)
