-- A history of no cells may go on from the empty state.
use Rattle.std.proofs.Common.{◌≡◌, ℕ, [], sym, ◌∙◌, arith}
use Rattle.std.specs.FinMap as finite
use Rattle.std.specs.Ordering.{nat_cmp}
use Rattle.std.specs.Cmp.Lexicographic.{slice_cmp}
use Rattle.std.proofs.lemmas.List.Elements.{All-nil}
use Rattle.std.proofs.lemmas.Option.{none-some}
use Rattle.py_heap.specs.States.{empty}
use Rattle.py_heap.proofs.Closed.{empty_closed}
use Rattle.py_machine.specs.Marked.{Name}
use Rattle.graph_model.specs.declared.graph.CellRecord.{CellRecord}
use Rattle.graph_model.specs.declared.graph.Version.{Version}
use Rattle.graph_model.specs.declared.graph.Graph.{Graph}
use Rattle.graph_model.specs.Graphs.{CellAt, VersionAt}
use Rattle.graph_model.specs.Faults.{IsGraph}
use Rattle.linked_parts.specs.declared.parts.Parts.{Parts}
use Rattle.linked_parts.specs.Parts.{HasValue, IsPartOf, ArePartsOf}
use Rattle.checkpoint_bytes.specs.Sessions.{AreVersionsOf}
use Rattle.history_graph.specs.Histories.{HistoryView}
use Rattle.history_graph.specs.Usable.{IsUsableHistory}

abbrev pub no_graph : Graph
no_graph = record { cells = []; versions = [] }

abbrev pub no_parts : Parts
no_parts = record { list = [] }

none_named : (x : Name) → ¬ HasValue empty x
none_named x h = none-some h.0 (sym (finite.get-empty (slice_cmp nat_cmp) x) ∙ h.1)

no_version : (v : ℕ) (x : Version) → ¬ VersionAt no_graph v x
no_version v x at = none-some x at.1

no_cell : (c : ℕ) (x : CellRecord) → ¬ CellAt no_graph c x
no_cell c x at = none-some x at.1

begun_graph : IsGraph no_graph
begun_graph = record {
  cells = omega arith;
  versions = omega arith;
  names = λ n w. no_version n w.0 w.1;
  writers = λ n w. no_version n w.0 w.1;
  replacements = λ n w. no_version n w.0 w.1;
  reads = λ n w. no_cell n w.0 w.1;
}

begun_versions : AreVersionsOf empty no_graph
begun_versions = record {
  are_parts = λ v x a e. absurd (no_version v x a.0);
  all_parts = λ name has. absurd (none_named name has);
  are_absent = λ v x a e name c. absurd (no_version v x a.0);
  handles = λ v x a. absurd (no_version v x a.0);
  sizes = λ v x a. absurd (no_version v x a.0);
}

pub begun_parts : ArePartsOf empty no_parts
begun_parts = record {
  parts = All-nil (IsPartOf empty);
  ascends = tt;
  whole = λ x h. absurd (none_named x h);
}

pub begun : IsUsableHistory empty (record { graph = no_graph; parts = no_parts })
begun = record {
  tells = record { closed = empty_closed; graph = begun_graph; versions = begun_versions };
  parts = begun_parts;
}
