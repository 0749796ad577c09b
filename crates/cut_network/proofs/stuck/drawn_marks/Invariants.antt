use Rattle.std.proofs.Common.{◌≡◌, ℕ, ◌+◌, ◌<◌, length}
use Rattle.graph_model.specs.Marks.{IsMarked}
use Rattle.cut_network.specs.Drawn.{HasDrawn, LeadsTo}
use Rattle.cut_network.proofs.stuck.drawn_marks.Given as goal

abbrev pub invariant-loop-before : goal.invariant-loop-before
invariant-loop-before l = record {
  room : length l.marks.items ≡ length l.graph.cells + 1;
  marks : (c d : ℕ) → c < l.before + 1 → LeadsTo l.graph c d → HasDrawn l.graph d → IsMarked l.marks.items c;
}
