use Rattle.std.proofs.Common.{◌≡◌, not, take}
use Rattle.std.specs.Prelude.{filter}
use Rattle.py_machine.specs.Marked.{has_member}
use Rattle.history_graph.proofs.missing.outside.Given as goal

abbrev pub invariant-loop-name : goal.invariant-loop-name
invariant-loop-name l = l.rest ≡ filter (λ name. not (has_member l.set name)) (take l.name-index l.names)
