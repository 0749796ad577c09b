-- What a notebook is packed as, and what a pack gives back.
use Rattle.std.proofs.Common.{◌≡◌, ◌≢◌, ℕ, ◌<◌, ◌^◌, List, length, Err, refl, ap, sym, ◌∙◌, subst}
use Rattle.py_heap.specs.declared.state.State.{State}
use Rattle.py_heap.specs.References.{IsClosed}
use Rattle.py_kernel.specs.declared.kernel.Kernel.{Kernel}
use Rattle.py_laws.specs.Same.{SameStates}
use Rattle.py_laws.proofs.Sameness.{states_turned, states_through, states_themselves}
use Rattle.graph_model.specs.declared.graph.Graph.{Graph}
use Rattle.graph_model.specs.declared.plan.Plan.{Plan}
use Rattle.graph_model.specs.declared.plan.Weights.{Weights}
use Rattle.graph_model.specs.Graphs.{VersionAt, IsFirstStuck}
use Rattle.graph_model.specs.Plans.{NamesOf, IsFeasible, AreAdmitted}
use Rattle.history_graph.specs.declared.history.History.{History}
use Rattle.linked_parts.specs.Parts.{ArePartsOf}
use Rattle.run_graph.specs.RunLists.{ListedCell}
use Rattle.run_graph.proofs.Runs.{is_run}
use Rattle.every_history.specs.Reading.{read}
use Rattle.part_bytes.specs.Sizing.{size_of}
use Rattle.replay_laws.specs.Sessions.{StandsFor}
use Rattle.replay_laws.proofs.Tidying.{tidied_same, tidied_objects, tidied_size}
use Rattle.replay_laws.proofs.Renumbering.{can_be_tidied}
use Rattle.restore_run.specs.declared.restored.Restored.{Restored}
use Rattle.restore_run.specs.declared.fault.RestoreFault.{RestoreFault}
use Rattle.restore_run.specs.declared.fault.RestoreFault.TheVariants as fault
use Rattle.restore_run.specs.Restoring.{IsRestoredOn, IsRestoreFault}
use Rattle.notebook_engine.proofs.Restored.{restored_so, no_fault}
use Rattle.session_core.specs.declared.engine.PackFault.{PackFault}
use Rattle.session_core.specs.declared.engine.PackFault.TheVariants as pack
use Rattle.session_core.specs.Meanings.{Served, IsPacked}
use Rattle.session_core.specs.Engines.{Packs}
use Rattle.notebook_meaning.specs.Cells.{cells_of, unmoved}
use Rattle.notebook_meaning.specs.Notebooks.{IsGraphOf, HasObjectsOf, notebooks}
use Rattle.notebook_meaning.proofs.Lists.{list_of, codes_of}
use Rattle.notebook_engine.specs.declared.session.Session.{Session}
use Rattle.notebook_engine.specs.Holding.{HoldsCells, StandsForAsks, IsImage}
use Rattle.notebook_engine.specs.Packing.{IsStuckFault}
use Rattle.notebook_engine.specs.Laws.{has_one_graph, is_graph}

pub graph_of : (n : Session) (cells : List ListedCell) → HoldsCells n cells → IsGraphOf cells n.history.graph
graph_of n cells h = record {
  history = h.session.history;
  few_cells = subst (λ (k : ℕ). k < 2 ^ 32) h.session.history.cells h.few_cells;
  few_versions = h.few_versions;
}

pub stuck_packs : (served : List Served) (w : Weights) (g : Graph) (v c : ℕ) (f : PackFault) → IsGraphOf (cells_of served) g → AreAdmitted g w → IsFirstStuck g v c → IsStuckFault g v c f
    → Packs notebooks served w (Err f)
stuck_packs served w g v c (pack.Stuck version cell names) is admitted stuck k = (
  g,
  is,
  admitted,
  subst (λ (n : ℕ). IsFirstStuck g n cell) (sym k.0) (subst (λ (n : ℕ). IsFirstStuck g v n) (sym k.1) stuck),
  (k.2.0, subst (λ (n : ℕ). VersionAt g n k.2.0) (sym k.0) k.2.1, k.2.2),
)
stuck_packs served w g v c pack.OutOfMemory is admitted stuck k = (g, is, admitted)
stuck_packs served w g v c (pack.BadWeights f) is admitted stuck k = absurd k

-- ---- the image

pub image_of : (bytes : List ℕ) (host : ℕ) (r : Restored) (n : Session) → n.kernel ≡ r.kernel → n.history ≡ r.history → IsRestoredOn bytes host r → IsImage n bytes host
image_of bytes host r n k h is =
    subst (λ (z : Kernel). IsRestoredOn bytes host (record { kernel = z; history = n.history; objects = length z.state.heap })) (sym k)
    (subst (λ (z : History). IsRestoredOn bytes host (record { kernel = r.kernel; history = z; objects = length r.kernel.state.heap })) (sym h)
    (subst (λ (z : ℕ). IsRestoredOn bytes host (record { kernel = r.kernel; history = r.history; objects = z })) is.objects is))

module _ (served : List Served) (plan : Plan) (bytes : List ℕ) (packed : IsPacked notebooks served plan bytes) where
  abbrev Cells : List ListedCell
  Cells = cells_of served

  abbrev U : State
  U = unmoved Cells

  abbrev G : Graph
  G = packed.text.graph

  U_closed : IsClosed U
  U_closed = (is_run read Cells size_of).closed (length Cells)

  base : StandsFor read size_of Cells G U
  base = record { list = list_of served packed.is_run; history = packed.text.is_graph.history; closed = U_closed; same = states_themselves U U_closed }

  same_graph : packed.graph ≡ G
  same_graph = has_one_graph Cells packed.graph G packed.is_graph packed.text.is_graph

  pub no_fault_in : (f : RestoreFault) → IsRestoreFault bytes f → ⊥
  no_fault_in f h = no_fault Cells G U plan base (is_graph Cells G packed.text.is_graph) (subst (λ (g : Graph). NamesOf g plan) same_graph packed.names)
      (subst (λ (g : Graph). IsFeasible g plan) same_graph packed.feasible) packed.text.has_text f (subst (λ (b : List ℕ). IsRestoreFault b f) packed.text.text h)

  module _ (host : ℕ) (r : Restored) (is : IsRestoredOn bytes host r) where
    so : SameStates U r.kernel.state × StandsFor read size_of Cells G r.kernel.state × (r.history.graph ≡ G)
    so = restored_so Cells G U plan base (is_graph Cells G packed.text.is_graph) (subst (λ (g : Graph). NamesOf g plan) same_graph packed.names)
        (subst (λ (g : Graph). IsFeasible g plan) same_graph packed.feasible) packed.text.has_text host r (subst (λ (b : List ℕ). IsRestoredOn b host r) packed.text.text is)

    pub stands_again : (n : Session) → n.kernel ≡ r.kernel → n.history ≡ r.history → StandsForAsks n served
    stands_again n k h =
        let graph : n.history.graph ≡ G = ap (λ (z : History). z.graph) h ∙ so.2 in (
          packed.is_run,
          record {
            session = subst (λ (z : Kernel). StandsFor read size_of Cells n.history.graph z.state) (sym k) (subst (λ (g : Graph). StandsFor read size_of Cells g r.kernel.state) (sym graph) so.1);
            parts = subst (λ (z : Kernel). ArePartsOf z.state n.history.parts) (sym k) (subst (λ (z : History). ArePartsOf r.kernel.state z.parts) (sym h) is.parts);
            few_cells = subst (λ (g : Graph). length g.cells < 2 ^ 32) (sym graph) (subst (λ (m : ℕ). m < 2 ^ 32) (sym packed.text.is_graph.history.cells) packed.text.is_graph.few_cells);
            few_versions = subst (λ (g : Graph). length g.versions < 2 ^ 32) (sym graph) packed.text.is_graph.few_versions;
            codes = codes_of served packed.is_run;
          },
        )

    -- as many objects as the names of the unmoved state reach
    pub objects_again : HasObjectsOf Cells r.objects
    objects_again =
        let w = can_be_tidied U U_closed in
        let last = is.state.last in
        let t : State = record last { count = is.checkpoint.count; meter = is.checkpoint.meter } in
        let same : SameStates U t = states_through U r.kernel.state t so.0 (states_turned t r.kernel.state (tidied_same t r.kernel.state is.state.tidied)) in
        (w.1.order, tidied_objects U w.0 w.1, is.objects ∙ tidied_size U t r.kernel.state same.names is.state.tidied w.1.order (tidied_objects U w.0 w.1))

-- ---- why bytes of a pack aren't restored

pub only_memory : (f : RestoreFault) → (f ≢ fault.OutOfMemory → ⊥) → f ≡ fault.OutOfMemory
only_memory fault.OutOfMemory h = refl
only_memory (fault.Checkpoint k) h = absurd (h (λ e. cc))
only_memory (fault.DrewAgain c) h = absurd (h (λ e. cc))
only_memory (fault.Unlike v) h = absurd (h (λ e. cc))
only_memory (fault.Loose name) h = absurd (h (λ e. cc))
