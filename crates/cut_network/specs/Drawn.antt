-- Cells that drew, and cells that can't run again without others.
use Rattle.std.specs.Prelude.{◌≡◌, ℕ, true}
use Rattle.graph_model.specs.declared.graph.CellRecord.{CellRecord}
use Rattle.graph_model.specs.declared.graph.Graph.{Graph}
use Rattle.graph_model.specs.Graphs.{CellAt, ReadsOldOf}

abbrev pub HasDrawn : Graph → ℕ → Type 0
HasDrawn g c = (x : CellRecord) × CellAt g c x × (x.drew ≡ true)

-- cell d is among the least set that holds c and, with each cell, the writers of the replaced versions that it read
pub data LeadsTo (g : Graph) (c : ℕ) : ℕ → Type 0 where
  itself : LeadsTo g c c
  further : (d w : ℕ) → LeadsTo g c d → ReadsOldOf g d w → LeadsTo g c w
