use Rattle.std.proofs.Common.{ap, ◌∙◌}
use Rattle.flow_model.specs.Flows.{Net}
use Rattle.cut_network.specs.Arcs.{copy_numbers}
use Rattle.cut_network.proofs.Adding.{added_at, copy_at}
use Rattle.cut_network.proofs.network.add_copies.Goals as goal

pub loop-i-preserved : goal.loop-i-preserved
loop-i-preserved c =
    let g = c.args.graph.now in
    let w = c.args.weights.now in
    let e = c.in_ok-add.ensures.added in
    record {
      nodes = ap (λ (n : Net). n.nodes) e ∙ c.loop-i.invariant.nodes;
      arcs = added_at (copy_numbers g w) c.args.net.now c.loop-i.net c.add.new.self c.args.active.now c.loop-i.i _ c.loop-i-test.true c.loop-i.invariant.arcs e
          (copy_at g w c.args.active.now c.loop-i.i c.copy_capacity.result c.requires.active c.loop-i-test.true c.copy_capacity.ensures);
    }
