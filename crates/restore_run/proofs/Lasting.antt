-- A session that was restored may go on.
use Rattle.std.proofs.Common.{ℕ, List}
use Rattle.std.specs.Prelude.{All, Contains}
use Rattle.std.proofs.lemmas.List.Elements.{All-weaker}
use Rattle.py_heap.specs.declared.state.State.{State}
use Rattle.py_machine.specs.Runs.{Name}
use Rattle.reader_laws.specs.Valid.{IsValidState}
use Rattle.graph_model.specs.declared.graph.Graph.{Graph}
use Rattle.graph_model.specs.Faults.{Never, IsGraph}
use Rattle.linked_parts.specs.declared.parts.Parts.{Parts}
use Rattle.linked_parts.specs.Parts.{ArePartsOf}
use Rattle.checkpoint_bytes.specs.Sessions.{IsWithinBounds}
use Rattle.checkpoint_reader.specs.Numbered.{IsEmptyIfAbsent}
use Rattle.history_graph.specs.Histories.{HistoryView}
use Rattle.state_judge.specs.Agreeing.{IsUnlike, IsLoose, IsPlainIfAbsent}
use Rattle.state_judge.proofs.Versions.{agreed}
use Rattle.restore_run.specs.Usable.{IsUsableSession}

-- a valid state that agrees with a graph without a fault, whose cells are within their bounds
pub agreed_lasts : (s : State) (g : Graph) (parts : Parts) → IsValidState s → IsGraph g → All IsWithinBounds g.cells → All IsEmptyIfAbsent g.versions → ArePartsOf s parts
    → Never (IsUnlike g s) → ((name : Name) → ¬ IsLoose g s name) → IsUsableSession s (record { graph = g; parts = parts })
agreed_lasts s g parts valid graph cells absent are like none_loose = record {
  valid = valid;
  history = record {
    tells = record {
      closed = valid.closed;
      graph = graph;
      versions = agreed g s parts valid.closed are like none_loose (All-weaker IsEmptyIfAbsent IsPlainIfAbsent (λ x e active. e) g.versions absent) graph;
    };
    parts = are;
  };
  cells = cells;
}
