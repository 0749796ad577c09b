-- A session is restored from its bytes.
use Rattle.std.proofs.Common.{◌≡◌, ◌≢◌, ℕ, suc, ◌-◌, List, map, length, Ok, Err, sym, ap, ◌∙◌, subst, inl, inr, arith}
use Rattle.std.specs.Prelude.{Contains}
use Rattle.std.proofs.lemmas.Bool.{false≢true}
use Rattle.std.proofs.lemmas.Option.{none-some}
use Rattle.py_heap.specs.declared.state.State.{State}
use Rattle.py_machine.specs.Runs.{Name}
use Rattle.py_laws.specs.Same.{SameStates}
use Rattle.py_laws.proofs.Sameness.{states_turned, states_through}
use Rattle.graph_model.specs.declared.graph.Graph.{Graph}
use Rattle.graph_model.specs.declared.graph.GraphFault.{GraphFault}
use Rattle.graph_model.specs.declared.graph.GraphFault.TheVariants.{BadWriter, BadRead, TwoActive, BadNames}
use Rattle.graph_model.specs.declared.plan.Plan.{Plan}
use Rattle.graph_model.specs.Graphs.{CellAt}
use Rattle.graph_model.specs.Faults.{IsFault, IsGraph}
use Rattle.graph_model.specs.Plans.{NamesOf, IsFeasible}
use Rattle.plan_model.specs.declared.feasibility.Item.{Item}
use Rattle.plan_model.specs.declared.feasibility.Item.TheVariants as item
use Rattle.plan_model.specs.Failing.{FailsVersion, FailsCell, IsFirstFailing}
use Rattle.run_graph.specs.RunLists.{ListedCell, state_after}
use Rattle.every_history.specs.Reading.{read}
use Rattle.checkpoint_bytes.specs.Texts.{checkpoint_text}
use Rattle.checkpoint_reader.specs.declared.checkpoint.Checkpoint.{Checkpoint}
use Rattle.checkpoint_reader.specs.declared.fault.CheckpointFault.{CheckpointFault}
use Rattle.checkpoint_reader.specs.declared.fault.CheckpointFault.TheVariants as checkpoint
use Rattle.checkpoint_reader.specs.Reads.{Answer}
use Rattle.checkpoint_reader.specs.declared.fields.Fields.{Fields}
use Rattle.checkpoint_reader.specs.Fields.{fields}
use Rattle.checkpoint_reader.specs.Judging.{IsAnswer}
use Rattle.checkpoint_laws.specs.Spelled.{EachCopied, HasText, IsLike, part_at, checkpoint_for}
use Rattle.checkpoint_laws.proofs.Marked.{versions_of}
use Rattle.checkpoint_laws.proofs.Answered.{Exactly, read_exactly}
use Rattle.replay_laws.specs.Walks.{Walked}
use Rattle.replay_laws.specs.Restored.{with_tallies, HasVersions}
use Rattle.part_bytes.specs.Sizing.{size_of}
use Rattle.replay_laws.specs.Sessions.{StandsFor}
use Rattle.replay_laws.specs.Tidied.{IsTidied, AreObjectsOf}
use Rattle.replay_laws.proofs.GoingOn.{moved, tidied_so, never_asks_so, versions_so, sizes_so}
use Rattle.replay_laws.proofs.Sizing.{tells_alike}
use Rattle.replay_laws.proofs.Tidying.{tidied_size}
use Rattle.state_judge.specs.Agreeing.{IsUnlike, IsLoose}
use Rattle.restore_run.specs.declared.restored.Restored.{Restored}
use Rattle.restore_run.specs.declared.fault.RestoreFault.{RestoreFault}
use Rattle.restore_run.specs.declared.fault.RestoreFault.TheVariants as fault
use Rattle.restore_run.specs.Restoring.{copies, AreCheckpoint, IsRestoredFrom, DrawsAgain, IsRestoredOn, IsRestoreFault}
use Rattle.notebook_engine.proofs.Like.{like}
use Rattle.notebook_engine.proofs.Copies.{are_copies}

-- ---- a graph without a fault has none, and a feasible plan doesn't fail

no_graph_fault : (g : Graph) (f : GraphFault) → IsGraph g → IsFault g f → ⊥
no_graph_fault g (BadNames v) h f = h.names v f.0
no_graph_fault g (BadWriter v) h f = h.writers v f.1.0
no_graph_fault g (TwoActive v) h f = h.replacements v f.2.0
no_graph_fault g (BadRead c) h f = h.reads c f.3.0

no_failing_version : (g : Graph) (p : Plan) (v : ℕ) → IsFeasible g p → FailsVersion g p v → ⊥
no_failing_version g p v h f = elim f.2 [
  | inl lost ↦ elim (h.covered v f.0 (f.1, lost.0)) [ inl c ↦ lost.1 c | inr c ↦ lost.2 c ]
  | inr copied ↦ false≢true (sym (h.no_handle v f.0 copied.0 f.1) ∙ copied.1)
]

no_failing_cell : (g : Graph) (p : Plan) (c : ℕ) → IsFeasible g p → FailsCell g p c → ⊥
no_failing_cell g p c h f = elim f.3 [
  | inl lacks ↦ lacks.2 (h.closed c lacks.0 f.2 lacks.1)
  | inr drew ↦ false≢true (sym (h.no_draw c f.0 f.2 f.1) ∙ drew)
]

no_failing : (g : Graph) (p : Plan) (i : Item) → IsFeasible g p → IsFirstFailing g p i → ⊥
no_failing g p (item.Version v) h f = no_failing_version g p v h f.0
no_failing g p (item.Cell c) h f = no_failing_cell g p c h f.1.0

module _ (entries : List ListedCell) (g : Graph) (s : State) (p : Plan) (stands : StandsFor read size_of entries g s) (graph : IsGraph g) (plan : NamesOf g p)
    (feasible : IsFeasible g p) (has : HasText s g p) where
  abbrev Text : List ℕ
  Text = checkpoint_text s g p

  abbrev K : Checkpoint
  K = checkpoint_for s g p

  all_like : EachCopied g p (IsLike s)
  all_like = like entries g s p stands plan feasible has.one.parts

  -- what is read of the text
  abbrev Read : Exactly s g p has.one plan all_like Text
  Read = read_exactly s g p has.one plan all_like has.texts

  -- ---- the bytes are this checkpoint, and no other

  the_checkpoint : (k : Checkpoint) → AreCheckpoint Text k → k ≡ K
  the_checkpoint k are = (subst (λ (a : Answer Fields). IsAnswer a (Ok k)) Read.is are).0

  judged : (f : CheckpointFault) → IsAnswer (Ok (
    record {
      count = s.count;
      meter = s.meter;
      cells = record { records = g.cells; rerun = p.rerun; known = Read.mid };
      versions = versions_of g.versions p.copied (map (part_at s g) p.copied) Read.last;
    },
    length Text,
  )) (Err f) → ⊥
  judged checkpoint.OutOfMemory h = h
  judged checkpoint.BadMagic h = h
  judged (checkpoint.BadVersion n) h = h
  judged (checkpoint.Cut at) h = h
  judged (checkpoint.Part at f) h = h
  judged (checkpoint.Graph f) h = no_graph_fault g f graph h
  judged (checkpoint.PlanDisagrees i) h = no_failing g p i feasible h.1
  judged (checkpoint.Trailing at) h = h
  judged (checkpoint.BadField at) h = h

  no_bad_bytes : (f : CheckpointFault) → f ≢ checkpoint.OutOfMemory → IsAnswer (fields Text 0) (Err f) → ⊥
  no_bad_bytes f known are = judged f (subst (λ (a : Answer Fields). IsAnswer a (Err f)) Read.is are)

  -- ---- the walk

  last_cell : length g.cells ≡ length entries
  last_cell = stands.history.cells

  -- the state at the end of the walk, with the count and the meter of the session
  walked_so : (last : State) → Walked read (copies K) g p (length g.cells) last → StandsFor read size_of entries g (with_tallies s last)
  walked_so last walked =
      let end : Walked read (copies K) g p (length entries) last = subst (λ (n : ℕ). Walked read (copies K) g p n last) last_cell walked in
      moved read size_of entries g s stands p (copies K) plan feasible (are_copies s g p stands.closed) last end

  at_end : (last u : State) → Walked read (copies K) g p (length g.cells) last → IsTidied (with_tallies s last) u → StandsFor read size_of entries g u
  at_end last u walked tidied = tidied_so read size_of entries g (with_tallies s last) (walked_so last walked) u tidied

  -- the tidied state has as many objects as names reach at the end
  objects_at_end : (last u : State) → Walked read (copies K) g p (length g.cells) last → IsTidied (with_tallies s last) u
      → (order : List ℕ) → AreObjectsOf (state_after read entries (length entries)) order → length u.heap ≡ length order
  objects_at_end last u walked tidied order are =
      tidied_size (state_after read entries (length entries)) (with_tallies s last) u (walked_so last walked).same.names tidied order are

  restored_from : (u : State) → IsRestoredFrom K u → StandsFor read size_of entries g u
  restored_from u h = at_end h.last u h.walked h.tidied

  same_so : (u : State) → StandsFor read size_of entries g u → SameStates s u
  same_so u h = states_through s (state_after read entries (length entries)) u (states_turned (state_after read entries (length entries)) s stands.same) h.same

  -- ---- what is restored

  pub restored_so : (on : ℕ) (r : Restored) → IsRestoredOn Text on r → SameStates s r.kernel.state × StandsFor read size_of entries g r.kernel.state × (r.history.graph ≡ g)
  restored_so on r h =
      let e : h.checkpoint ≡ K = the_checkpoint h.checkpoint h.are in
      let so = restored_from r.kernel.state (subst (λ (k : Checkpoint). IsRestoredFrom k r.kernel.state) e h.state) in
      (same_so r.kernel.state so, so, h.graph ∙ ap (λ (k : Checkpoint). k.graph) e)

  pub objects_so : (on : ℕ) (r : Restored) → IsRestoredOn Text on r → (order : List ℕ) → AreObjectsOf (state_after read entries (length entries)) order → r.objects ≡ length order
  objects_so on r h order are =
      let from : IsRestoredFrom K r.kernel.state = subst (λ (k : Checkpoint). IsRestoredFrom k r.kernel.state) (the_checkpoint h.checkpoint h.are) h.state in
      h.objects ∙ objects_at_end from.last r.kernel.state from.walked from.tidied order are

  -- ---- no fault

  agrees : (u : State) → StandsFor read size_of entries g u → (v : ℕ) → IsUnlike g u v → ⊥
  agrees u h v unlike =
      let vs : HasVersions g u = versions_so read size_of entries g u h in
      let x = unlike.0 in
      elim unlike.2 [
        | inl absent ↦ let none = vs.are_absent v x unlike.1 absent.0 absent.1 absent.2 in none-some absent.3.0 (sym none ∙ absent.3.1)
        | inr other ↦ other.1 (record {
          part = vs.are_parts v x unlike.1 other.0;
          handle = vs.handles v x unlike.1;
          size = sizes_so read size_of entries g u h tells_alike v x unlike.1;
        })
      ]

  none_loose : (u : State) → StandsFor read size_of entries g u → (name : Name) → IsLoose g u name → ⊥
  none_loose u h name loose =
      let w = (versions_so read size_of entries g u h).all_parts name loose.0 in
      loose.1 w.0 w.1 w.2 w.4

  no_draw : (c : ℕ) → DrawsAgain K c → ⊥
  no_draw c d =
      let first = d.at.0 in
      let next : suc (c - 1) ≡ c = omega (arith, first) in
      never_asks_so read size_of entries g s stands p (copies K) plan feasible (are_copies s g p stands.closed) (c - 1) d.before d.cell d.walked
      (subst (Contains p.rerun) (sym next) d.rerun) (subst (λ (n : ℕ). CellAt g n d.cell) (sym next) d.at) d.asks

  pub no_fault : (f : RestoreFault) → IsRestoreFault Text f → ⊥
  no_fault fault.OutOfMemory h = h
  no_fault (fault.Checkpoint f) h = no_bad_bytes f h.0 h.1
  no_fault (fault.DrewAgain c) h = no_draw c (subst (λ (k : Checkpoint). DrawsAgain k c) (the_checkpoint h.0 h.1) h.2)
  no_fault (fault.Unlike v) h =
      let e : h.0 ≡ K = the_checkpoint h.0 h.2 in
      let so = restored_from h.1 (subst (λ (k : Checkpoint). IsRestoredFrom k h.1) e h.3) in
      agrees h.1 so v (subst (λ (k : Checkpoint). IsUnlike k.graph h.1 v) e h.4.0)
  no_fault (fault.Loose name) h =
      let e : h.0 ≡ K = the_checkpoint h.0 h.2 in
      let so = restored_from h.1 (subst (λ (k : Checkpoint). IsRestoredFrom k h.1) e h.3) in
      none_loose h.1 so name (subst (λ (k : Checkpoint). IsLoose k.graph h.1 name) e h.4.1.0)
