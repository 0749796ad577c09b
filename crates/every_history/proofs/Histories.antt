-- Each run has a history: cell by cell there is what the cell makes of the graph.
use Rattle.std.proofs.Common.{ℕ, zero, suc, [], ◌∷◌, ◌++◌, refl}
use Rattle.py_heap.specs.References.{IsClosed}
use Rattle.graph_model.specs.declared.graph.Graph.{Graph}
use Rattle.run_graph.specs.Histories.{Run, IsHistory}
use Rattle.run_graph.specs.Soundness.{IsRun}
use Rattle.run_graph.specs.Growing.{first_cells, IsNext}
use Rattle.run_graph.proofs.Growing.{nothing_yet, grown}
use Rattle.every_history.proofs.Recording.{recorded}
use Rattle.every_history.proofs.Writing.{news, aged}

-- ---- what a cell makes of a graph

pub next : (r : Run) (c : ℕ) (g : Graph) → IsClosed (r.state c) → IsClosed (r.state (suc c)) → (k : Graph) × IsNext r c g k
next r c g before after =
    let cell = recorded r g c in
    let new = news r c before after in
    let old = aged (suc c) new.0 g.versions in (
      record { cells = g.cells ++ cell.0 ∷ []; versions = old.0 ++ new.0 },
      record {
        cell = cell.0;
        cells = refl;
        is_record = cell.1;
        olds = old.0;
        news = new.0;
        versions = refl;
        aged = old.1;
        ascend = new.1.ascend;
        left = new.1.left;
        parts = new.1.parts;
        deleted = new.1.deleted;
      },
    )

-- ---- cell by cell

module _ (r : Run) (run : IsRun r) where
  of_first : (c : ℕ) → (g : Graph) × IsHistory (first_cells r c) g
  of_first zero = (record { cells = []; versions = [] }, nothing_yet r)
  of_first (suc c) =
      let before = of_first c in
      let k = next r c before.0 (run.closed c) (run.closed (suc c)) in
      (k.0, grown r c before.0 k.0 k.1 run before.1)

  pub history : (g : Graph) × IsHistory r g
  history = of_first r.cells
