use Rattle.std.proofs.Common.{List, Bool, length, sym, ap, ◌∙◌, arith}
use Rattle.plan_model.proofs.Flowing.{within-length}
use Rattle.flow_arcs.specs.Sides.{side}
use Rattle.graph_model.specs.Networks.{plan_of_cut}
use Rattle.cut_network.proofs.Certifying.{value_fits, carrying_from, certified_from}
use Rattle.cut_network.proofs.planner.least_plan.Goals as goal

pub carrying_arcs-requires : goal.carrying_arcs-requires
carrying_arcs-requires c = ap length c.as_slice-2.ensures ∙ (within-length _ _ c.in_ok-flow.ensures.legal.within ∙ sym (ap length c.arcs.ensures.value))

pub value-requires : goal.value-requires
value-requires c = within-length _ _ c.in_ok-flow.ensures.legal.within

pub overflow_cast-result : goal.overflow_cast-result
overflow_cast-result c =
    let b = value_fits c.args.graph.now c.args.weights.now c.requires.graph c.requires.weights c.requires.free c.in_ok-net.net c.in_ok-flow.flow.on c.in_ok-net.ensures c.in_ok-flow.ensures.legal in
    let e = c.value.ensures in
    omega (arith, b, e)

pub returns : goal.returns
returns c =
    let g = c.args.graph.now in
    let w = c.args.weights.now in
    let plan = c.in_ok-plan.ensures ∙ ap (λ (inside : List Bool). plan_of_cut g (side inside)) c.as_slice.ensures in
    let arcs = carrying_from g w c.requires.graph c.in_ok-net.net c.in_ok-flow.flow.on c.as_slice-2.result.now c.deref-2.result.now c.arcs.result.now c.in_ok-arcs.arcs.items c.in_ok-net.ensures
    (c.deref-2.ensures.value ∙ c.in_ok-active.ensures.active) c.arcs.ensures.value c.as_slice-2.ensures c.in_ok-arcs.ensures in
    certified_from g w c.requires.graph c.requires.weights c.requires.free c.in_ok-net.net c.in_ok-flow.flow.on (side c.in_ok-flow.cut.inside) c.in_ok-plan.plan c.value.result c.from_vec.result c.in_ok-net.ensures
    c.in_ok-flow.ensures.legal c.in_ok-flow.ensures.cut c.in_ok-flow.ensures.least plan c.value.ensures (c.from_vec.ensures ∙ arcs)
