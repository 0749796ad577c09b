-- Cells whose draws are words of 64 bits.
use Rattle.std.specs.Prelude.{List}
use Rattle.std.specs.List.{AllByRecursion}
use Rattle.run_graph.specs.RunLists.{ListedCell}
use Rattle.plain_states.specs.Plain.{AreWords}

abbrev pub HasWords : ListedCell → Type 0
HasWords e = AreWords e.draws

abbrev pub HaveWords : List ListedCell → Type 0
HaveWords cells = AllByRecursion HasWords cells
