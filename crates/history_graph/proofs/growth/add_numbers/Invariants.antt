use Rattle.std.proofs.Common.{◌≡◌, ◌++◌}
use Rattle.history_graph.specs.Grown.{count_on}
use Rattle.history_graph.proofs.growth.add_numbers.Given as goal

abbrev pub invariant-loop-index : goal.invariant-loop-index
invariant-loop-index l = l.numbers ≡ l.initial.numbers ++ count_on l.last l.index
