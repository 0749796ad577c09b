-- A session of asks has a history without a fault and a text, so it is restored from its bytes.
use Rattle.std.proofs.Common.{◌≡◌, ℕ, List, length}
use Rattle.py_heap.specs.declared.state.State.{State}
use Rattle.py_laws.specs.Same.{SameStates}
use Rattle.graph_model.specs.declared.graph.Graph.{Graph}
use Rattle.graph_model.specs.declared.plan.Plan.{Plan}
use Rattle.graph_model.specs.Faults.{IsGraph}
use Rattle.graph_model.specs.Plans.{NamesOf, IsFeasible}
use Rattle.run_graph.specs.RunLists.{ListedCell, run_of}
use Rattle.run_graph.proofs.Checking.{checks}
use Rattle.run_graph.proofs.Runs.{is_run}
use Rattle.every_history.specs.Reading.{read}
use Rattle.every_history.proofs.Names.{has_names}
use Rattle.checkpoint_bytes.specs.Texts.{checkpoint_text}
use Rattle.checkpoint_laws.specs.Spelled.{HasText}
use Rattle.part_bytes.specs.Sizing.{size_of}
use Rattle.replay_laws.specs.Sessions.{StandsFor}
use Rattle.replay_laws.specs.Tidied.{AreObjectsOf}
use Rattle.restore_run.specs.declared.restored.Restored.{Restored}
use Rattle.restore_run.specs.declared.fault.RestoreFault.{RestoreFault}
use Rattle.restore_run.specs.Restoring.{IsRestoredOn, IsRestoreFault}
use Rattle.session_core.specs.Meanings.{Served}
use Rattle.notebook_meaning.specs.Cells.{cells_of, unmoved}
use Rattle.notebook_meaning.specs.Lists.{IsRunOfAsks}
use Rattle.notebook_engine.proofs.Restored as engine
use Rattle.session_texts.specs.Words.{HaveWords}
use Rattle.session_texts.proofs.First.{fits_of}
use Rattle.session_texts.proofs.Written.{graph_of, text_of_standing}

module _ (served : List Served) (run : IsRunOfAsks served) (words : HaveWords (cells_of served)) (g : Graph) (s : State) (stands : StandsFor read size_of (cells_of served) g s) (p : Plan) (plan : NamesOf g p)
    (feasible : IsFeasible g p) where
  abbrev Cells : List ListedCell
  Cells = cells_of served

  no_graph_fault : IsGraph g
  no_graph_fault =
      let of = graph_of Cells (fits_of served run) g stands.history in
      checks (run_of read size_of Cells) (is_run read Cells size_of) g stands.history (has_names size_of Cells) of.few_cells of.few_versions

  has : HasText s g p
  has = text_of_standing served run words g s stands p plan feasible

  pub restored : (on : ℕ) (r : Restored) → IsRestoredOn (checkpoint_text s g p) on r → SameStates s r.kernel.state × StandsFor read size_of Cells g r.kernel.state × (r.history.graph ≡ g)
  restored on r h = engine.restored_so Cells g s p stands no_graph_fault plan feasible has on r h

  pub objects : (on : ℕ) (r : Restored) → IsRestoredOn (checkpoint_text s g p) on r → (order : List ℕ) → AreObjectsOf (unmoved Cells) order → r.objects ≡ length order
  objects on r h order are = engine.objects_so Cells g s p stands no_graph_fault plan feasible has on r h order are

  pub no_fault : (f : RestoreFault) → IsRestoreFault (checkpoint_text s g p) f → ⊥
  no_fault f h = engine.no_fault Cells g s p stands no_graph_fault plan feasible has f h
