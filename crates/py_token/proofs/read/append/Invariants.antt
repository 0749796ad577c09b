use Rattle.std.proofs.Common.{◌≡◌, ◌++◌}
use Rattle.py_token.proofs.read.append.Given as goal

abbrev pub invariant-loop-token : goal.invariant-loop-token
invariant-loop-token l = l.all ≡ l.initial.all ++ l.yielded
