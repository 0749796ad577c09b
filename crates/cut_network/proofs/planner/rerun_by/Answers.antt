use Rattle.std.proofs.Common.{ℕ, ◌+◌, ◌++◌, List, [], ◌∷◌, true, false, Vec, Global, sym, ap, ◌∙◌}
use Rattle.flow_arcs.specs.Sides.{side}
use Rattle.cut_network.proofs.Rising.{filter-next_yes, filter-next_no}
use Rattle.cut_network.proofs.Choosing.{is_inside, cell_side}
use Rattle.cut_network.proofs.planner.rerun_by.Goals.{then-inside-cells+in_ok-push, else-inside-cells}
use Rattle.cut_network.proofs.planner.rerun_by.Goals as goal

pub loop-before-preserved : goal.loop-before-preserved
loop-before-preserved c =
    let g = c.args.graph.now in
    let inside = c.args.inside.now in
    let k = c.loop-before.before in
    let p = is_inside g (side inside) in
    let items : Vec ℕ Global → List ℕ = λ v. v.items in
    elim c.if-inside-cells.branch [
      | then-inside-cells+in_ok-push w ↦
          let t = cell_side g c.args.cells (k + 1) inside true c.requires.cells w.if-inside-cells.true in
          ap items w.rerun-is ∙ (w.in_ok-push.ensures.items ∙ (ap (λ (xs : List ℕ). xs ++ (k + 1) ∷ []) c.loop-before.invariant ∙ sym (filter-next_yes p k t)))
      | else-inside-cells w ↦
          let t = cell_side g c.args.cells (k + 1) inside false c.requires.cells w.if-inside-cells.false in
          ap items w.rerun-is ∙ (c.loop-before.invariant ∙ sym (filter-next_no p k t))
    ]
