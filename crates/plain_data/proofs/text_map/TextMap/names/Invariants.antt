use Rattle.std.proofs.Common.{◌≡◌, ◌++◌}
use Rattle.plain_data.proofs.text_map.TextMap.names.Given as goal

abbrev pub invariant-loop-name : goal.invariant-loop-name
invariant-loop-name g l = l.names.items ++ l.name-iterator ≡ l.initial.name-iterator
