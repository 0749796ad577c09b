use Rattle.std.proofs.Common.{◌∙◌}
use Rattle.py_heap.proofs.Pairs.{inserted}
use Rattle.py_heap.proofs.dict.Dict.put.Goals as goal

pub returns-clause-ok : goal.returns-clause-ok
returns-clause-ok c = rw (← c.self.view_is) (c.in_ok-insert.ensures.entries ∙ inserted c.self.inside.pairs.entries c.args.key c.args.value)
