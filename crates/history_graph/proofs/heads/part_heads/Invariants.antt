use Rattle.py_heap.specs.declared.state.State.{State}
use Rattle.linked_parts.specs.Parts.{ArePartsOf}
use Rattle.history_graph.specs.Left.{ArePartHeads, AreWithin}
use Rattle.history_graph.proofs.heads.part_heads.Given as goal

abbrev pub invariant-loop-n : goal.invariant-loop-n
invariant-loop-n l = record {
  heads : (s t : State) → ArePartsOf s l.before → ArePartsOf t l.now → ArePartHeads l.before l.now l.marks l.n l.heads;
  within : AreWithin l.now l.heads;
}
