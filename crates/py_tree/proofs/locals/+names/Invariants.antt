use Rattle.std.proofs.Common.{◌≡◌, take}
use Rattle.py_tree.specs.Added.{added}
use Rattle.py_tree.specs.Locals.{bound_in, globals_in, bound_in_arms, globals_in_arms}
use Rattle.py_tree.proofs.locals.+names.Given as goal

abbrev pub invariant-collect-loop-statement : goal.invariant-collect-loop-statement
invariant-collect-loop-statement l =
    l.names ≡ added l.initial.names (bound_in (take l.statement-index l.body)) (globals_in (take l.statement-index l.body))

abbrev pub invariant-collect_arms-loop-arm : goal.invariant-collect_arms-loop-arm
invariant-collect_arms-loop-arm l =
    l.names ≡ added l.initial.names (bound_in_arms (take l.arm-index l.arms)) (globals_in_arms (take l.arm-index l.arms))
