use Rattle.std.proofs.Common.{◌≡◌, ◌++◌, take}
use Rattle.std.specs.Prelude.{filter, not}
use Rattle.py_tree.specs.Locals.{is_among}
use Rattle.py_tree.proofs.locals.copy_locals.Given as goal

abbrev pub invariant-loop-name : goal.invariant-loop-name
invariant-loop-name l = l.names ≡ l.initial.names ++ filter (λ name. not (is_among l.globals name)) (take l.name-index l.others)
