-- A graph that tells of a state tells, once a cell has ended, of the state in which it ended.
use Rattle.std.proofs.Common.{◌≡◌, ◌↔◌, ℕ, zero, suc, ◌+◌, ◌-◌, ◌<◌, ◌^◌, true, false, List, [], ◌∷◌, ◌++◌, length, refl, sym, ap, ◌∙◌, inl, inr, subst, arith, length-append}
use Rattle.std.specs.Prelude.{Contains, slice_get}
use Rattle.std.specs.FinMap as finite
use Rattle.py_heap.specs.declared.state.State.{State}
use Rattle.py_heap.specs.References.{IsClosed}
use Rattle.py_machine.specs.declared.marks.Marks.{Marks}
use Rattle.py_machine.specs.Marked.{Name, IsIn}
use Rattle.graph_model.specs.declared.graph.CellRecord.{CellRecord}
use Rattle.graph_model.specs.declared.graph.Version.{Version}
use Rattle.graph_model.specs.declared.graph.Graph.{Graph}
use Rattle.graph_model.specs.Graphs.{IsActive}
use Rattle.linked_parts.specs.Parts.{HasValue, HasNone, IsPart, ArePartsOf}
use Rattle.run_graph.specs.Parts.{HasHandle}
use Rattle.run_graph.specs.Histories.{Run, IsWeighed}
use Rattle.run_graph.specs.Growing.{IsNext}
use Rattle.run_graph.specs.Fitting.{Fits, IsStep}
use Rattle.run_graph.proofs.Fitting.{fits_still, checks_still}
use Rattle.run_graph.proofs.Weighing.{same_truth}
use Rattle.part_bytes.specs.Sizing.{holds_handle, size_of}
use Rattle.checkpoint_bytes.specs.Sessions.{AreVersionsOf, TellsOf}
use Rattle.replay_laws.proofs.Sizing.{handle_told, tells_parts, no_size, one_has_none, size_plain}
use Rattle.history_graph.specs.declared.history.History.{History}
use Rattle.history_graph.specs.Ends.{IsCellOf, LedTo, StandsAfter}
use Rattle.history_graph.proofs.Standing.{graph_has_cells}

-- the state before the cell, and the one after it
beside : State → State → ℕ → State
beside s t zero = s
beside s t (suc n) = t

module _ (h : History) (s t : State) (text : List ℕ) (units taken : ℕ) (noted : Marks) (parts : ArePartsOf s h.parts) (tells : TellsOf h.graph s) (led : LedTo s units noted t)
    (closed : IsClosed t) where
  abbrev C : ℕ
  C = length h.graph.cells

  -- a run that has the cell after as many as the graph has
  one_cell : Run
  one_cell = record {
    cells = suc C;
    state = λ n. beside s t (n - C);
    marks = λ n. noted;
    code = λ n. text;
    steps = λ n. taken;
    draws = λ n. [];
    counts = λ n. 0;
    size = λ n names. size_of names (beside s t (n - C));
  }

  before : one_cell.state C ≡ s
  unfolding one_cell beside
  before = let z : C - C ≡ 0 = omega arith in ap (beside s t) z

  after : one_cell.state (suc C) ≡ t
  unfolding one_cell beside
  after = let z : suc C - C ≡ 1 = omega arith in ap (beside s t) z

  sized : (n : ℕ) (names : List Name) → one_cell.size n names ≡ size_of names (one_cell.state n)
  unfolding one_cell
  sized n names = refl

  marked : one_cell.marks (suc C) ≡ noted
  unfolding one_cell
  marked = refl

  size_after : (names : List Name) → one_cell.size (suc C) names ≡ size_of names t
  size_after names = sized (suc C) names ∙ ap (size_of names) after

  is_cell : IsCellOf one_cell C t text units taken noted
  unfolding one_cell
  is_cell = record {
    state = after;
    code = refl;
    meter = ap (λ (z : State). z.meter) before ∙ led.meter;
    steps = refl;
    marks = refl;
    sizes = λ names part none. size_after names ∙ size_plain t names closed part none;
    handles = λ names k. size_after names ∙ no_size names t (inl ((handle_told t names closed).1 k));
    absent = λ x none. size_after (x ∷ []) ∙ no_size (x ∷ []) t (inr (one_has_none x t none));
  }

  -- ---- before it

  handle_before : (v : ℕ) (x : Version) → IsActive h.graph v x → (x.handle ≡ true) ↔ HasHandle s x.names
  handle_before v x a =
      let told = handle_told s x.names tells.closed in
      let is = tells.versions.handles v x a in
      (λ e. told.0 (sym is ∙ e), λ k. is ∙ told.1 k)

  weighed : (v : ℕ) (x : Version) → IsActive h.graph v x → IsWeighed one_cell C x
  weighed v x a = (
    subst (λ (z : State). (x.handle ≡ true) ↔ HasHandle z x.names) (sym before) (handle_before v x a),
    tells.versions.sizes v x a ∙ sym (sized C x.names ∙ ap (size_of x.names) before),
  )

  fits : Fits one_cell C h.graph
  fits = record {
    are_parts = λ v x a e. subst (λ (z : State). IsPart z x.names) (sym before) (tells.versions.are_parts v x a e);
    all_parts = λ name has. tells.versions.all_parts name (subst (λ (z : State). HasValue z name) before has);
    are_absent = λ v x a e name c. subst (λ (z : State). HasNone z name) (sym before) (tells.versions.are_absent v x a e name c);
    weights = weighed;
  }

  step : IsStep one_cell C
  step = record {
    spares = record {
      closed = subst IsClosed (sym before) tells.closed;
      values = λ x free. ap (λ (z : State). finite.get z.globals x) after
          ∙ (led.values x (λ b. free (subst (λ (m : Marks). IsIn m.bound x) (sym marked) b)) ∙ sym (ap (λ (z : State). finite.get z.globals x) before));
      objects = λ at l free. ap (λ (z : State). slice_get z.heap at) after
          ∙ (led.objects at (subst (λ (z : State). at < length z.heap) before l) (λ b. free (subst (λ (m : Marks). IsIn m.changed at) (sym marked) b))
          ∙ sym (ap (λ (z : State). slice_get z.heap at) before));
    };
    closed = subst IsClosed (sym after) closed;
    bound = λ x b. led.bound x (subst (λ (m : Marks). IsIn m.bound x) marked b);
    looked = λ x b. led.looked x (subst (λ (m : Marks). IsIn m.looked x) marked b);
  }

  -- ---- after it

  module _ (k : Graph) (next : IsNext one_cell C h.graph k) where
    fits_after : Fits one_cell (suc C) k
    fits_after = fits_still one_cell C h.graph k next tells.graph refl fits step (tells_parts one_cell sized)

    versions_after : AreVersionsOf t k
    versions_after = record {
      are_parts = λ v x a e. subst (λ (z : State). IsPart z x.names) after (fits_after.are_parts v x a e);
      all_parts = λ name has. fits_after.all_parts name (subst (λ (z : State). HasValue z name) (sym after) has);
      are_absent = λ v x a e name c. subst (λ (z : State). HasNone z name) after (fits_after.are_absent v x a e name c);
      handles = λ v x a. same_truth x.handle (holds_handle x.names t) (HasHandle t x.names)
          (subst (λ (z : State). (x.handle ≡ true) ↔ HasHandle z x.names) after (fits_after.weights v x a).0) (handle_told t x.names closed);
      sizes = λ v x a. (fits_after.weights v x a).1 ∙ size_after x.names;
    }

    told : suc C < 2 ^ 32 → length k.versions < 2 ^ 32 → TellsOf k t
    told few fewer = record {
      closed = closed;
      graph = checks_still one_cell C h.graph k next tells.graph refl fits step few fewer;
      versions = versions_after;
    }

  next_of : (k : Graph) → ((r : Run) (c : ℕ) → IsCellOf r c t text units taken noted → StandsAfter r c h → IsNext r c h.graph k) → IsNext one_cell C h.graph k
  next_of k makes = makes one_cell C is_cell (record { graph = graph_has_cells h.graph tells.graph; parts = subst (λ (z : State). ArePartsOf z h.parts) (sym before) parts })

  pub stays : (k : Graph) → ((r : Run) (c : ℕ) → IsCellOf r c t text units taken noted → StandsAfter r c h → IsNext r c h.graph k)
      → length k.cells < 2 ^ 32 → length k.versions < 2 ^ 32 → TellsOf k t
  stays k makes few fewer =
      let next = next_of k makes in
      let size : length k.cells ≡ length h.graph.cells + 1 = ap (λ (xs : List CellRecord). length xs) next.cells ∙ length-append h.graph.cells (next.cell ∷ []) in
      told k next (omega (arith, few, size)) fewer
