use Rattle.std.proofs.Common.{◌∙◌}
use Rattle.py_heap.proofs.Pairs.{looked_up}
use Rattle.py_heap.proofs.dict.Dict.get.Goals as goal

pub returns : goal.returns
returns c = rw (← c.self.view_is) (c.get.ensures.value ∙ looked_up c.self.inside.pairs.entries c.args.key.now)
