use Rattle.std.proofs.Common.{ℕ, ◌<◌, get_or}
use Rattle.py_machine.specs.Marked.{IsIn}
use Rattle.history_graph.proofs.written.has_changed.Given as goal

abbrev pub invariant-loop-at : goal.invariant-loop-at
invariant-loop-at l = (k d : ℕ) → k < l.at-index → ¬ IsIn l.marks.changed (get_or l.objects k d)
