-- Cells whose codes are texts, within their bound.
use Rattle.std.specs.Prelude.{List}
use Rattle.std.specs.List.{AllByRecursion}
use Rattle.run_graph.specs.RunLists.{ListedCell}
use Rattle.checkpoint_laws.specs.Spelled.{IsCode}

abbrev pub HasCode : ListedCell → Type 0
HasCode e = IsCode e.code

abbrev pub HaveCodes : List ListedCell → Type 0
HaveCodes cells = AllByRecursion HasCode cells
