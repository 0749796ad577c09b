use Rattle.std.proofs.Common.{◌+◌, ap, ◌∙◌}
use Rattle.flow_model.specs.Flows.{Net}
use Rattle.graph_model.specs.Networks.{count_up}
use Rattle.cut_network.specs.Arcs.{rerun_numbers}
use Rattle.cut_network.proofs.Rising.{count_up-next}
use Rattle.cut_network.proofs.Adding.{added, rerun_at}
use Rattle.cut_network.proofs.network.add_reruns.Goals as goal

pub loop-before-preserved : goal.loop-before-preserved
loop-before-preserved c =
    let g = c.args.graph.now in
    let w = c.args.weights.now in
    let e = c.in_ok-add.ensures.added in
    record {
      nodes = ap (λ (n : Net). n.nodes) e ∙ c.loop-before.invariant.nodes;
      arcs = added (rerun_numbers g w) c.args.net.now c.loop-before.net c.add.new.self (count_up 1 c.loop-before.before) (count_up 1 (c.loop-before.before + 1)) (c.loop-before.before + 1) _
          (count_up-next c.loop-before.before) c.loop-before.invariant.arcs e
          (rerun_at g w c.args.cells (c.loop-before.before + 1) c.rerun_capacity.result c.requires.cells c.rerun_capacity.ensures);
    }
