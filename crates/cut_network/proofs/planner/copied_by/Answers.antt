use Rattle.std.proofs.Common.{ℕ, ◌++◌, List, [], ◌∷◌, true, false, not, Vec, Global, get_or, sym, ap, ◌∙◌}
use Rattle.flow_arcs.specs.Sides.{side}
use Rattle.cut_network.proofs.Choosing.{is_outside, filter_yes, filter_no, version_side}
use Rattle.cut_network.proofs.planner.copied_by.Goals.{then-not-inside-i+in_ok-push, else-not-inside-i}
use Rattle.cut_network.proofs.planner.copied_by.Goals as goal

pub loop-i-preserved : goal.loop-i-preserved
loop-i-preserved c =
    let g = c.args.graph.now in
    let active = c.args.active.now in
    let inside = c.args.inside.now in
    let i = c.loop-i.i in
    let p = is_outside g (side inside) in
    let items : Vec ℕ Global → List ℕ = λ v. v.items in
    elim c.if-not-inside-i.branch [
      | then-not-inside-i+in_ok-push w ↦
          let t = ap not (version_side g active inside i false c.requires.active c.loop-i-test.true w.if-not-inside-i.true) in
          ap items w.copied-is ∙ (w.in_ok-push.ensures.items ∙ (ap (λ (xs : List ℕ). xs ++ get_or active i 0 ∷ []) c.loop-i.invariant ∙ sym (filter_yes p active i c.loop-i-test.true t)))
      | else-not-inside-i w ↦
          let t = ap not (version_side g active inside i true c.requires.active c.loop-i-test.true w.if-not-inside-i.false) in
          ap items w.copied-is ∙ (c.loop-i.invariant ∙ sym (filter_no p active i c.loop-i-test.true t))
    ]
