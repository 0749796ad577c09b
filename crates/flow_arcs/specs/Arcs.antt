-- An arc of a list by its number.
use Rattle.std.specs.Prelude.{ℕ, List, slice_index_or}
use Rattle.flow_model.specs.declared.Arc.{Arc}

-- what is read after the end of a list of arcs
abbrev pub no_arc : Arc
no_arc = record { from = 0; to = 0; capacity = 0 }

abbrev pub arc_at : List Arc → ℕ → Arc
arc_at arcs number = slice_index_or arcs number no_arc
