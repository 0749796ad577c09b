use Rattle.std.proofs.Common.{List, Vec, Global, ap, ◌∙◌}
use Rattle.graph_model.specs.declared.plan.FlowArc.{FlowArc}
use Rattle.cut_network.proofs.Showing.{walked_none, walked_some}
use Rattle.cut_network.proofs.shown.carrying_arcs.Goals.{then-flow-ne0+in_ok-push, else-flow-ne0}
use Rattle.cut_network.proofs.shown.carrying_arcs.Goals as goal

pub loop-i-preserved : goal.loop-i-preserved
loop-i-preserved c =
    let items : Vec FlowArc Global → List FlowArc = λ v. v.items in
    elim c.if-flow-ne0.branch [
      | then-flow-ne0+in_ok-push w ↦
          walked_some c.args.active.now c.args.arcs.now c.args.on.now c.loop-i.i c.loop-i.carrying.items c.if-flow-ne0.carrying.items _ w.node_of-from.result w.node_of-to.result c.loop-i-test.true c.requires
          c.loop-i.invariant w.if-flow-ne0.true w.node_of-from.ensures w.node_of-to.ensures (ap items w.carrying-is ∙ w.in_ok-push.ensures.items)
      | else-flow-ne0 w ↦
          walked_none c.args.active.now c.args.arcs.now c.args.on.now c.loop-i.i c.loop-i.carrying.items c.if-flow-ne0.carrying.items _ c.loop-i-test.true c.requires
          c.loop-i.invariant w.if-flow-ne0.false (ap items w.carrying-is)
    ]
