use Rattle.std.proofs.Common.{length, ap, ◌∙◌, arith}
use Rattle.flow_model.specs.Flows.{Net}
use Rattle.cut_network.specs.Arcs.{writer_numbers}
use Rattle.cut_network.proofs.Adding.{added_at, writer_at, writer_low}
use Rattle.cut_network.proofs.network.add_writers.Goals as goal

pub overflow_add-cells-in-loop-i : goal.overflow_add-cells-in-loop-i
overflow_add-cells-in-loop-i c =
    let b = writer_low c.args.graph.now c.requires.graph c.args.active.now c.loop-i.i c.requires.active c.loop-i-test.true in
    let n = ap length c.requires.active in
    omega arith

pub add-requires-clause-to_within : goal.add-requires-clause-to_within
add-requires-clause-to_within c =
    let b = writer_low c.args.graph.now c.requires.graph c.args.active.now c.loop-i.i c.requires.active c.loop-i-test.true in
    let n = ap length c.requires.active in
    omega arith

pub loop-i-preserved : goal.loop-i-preserved
loop-i-preserved c =
    let g = c.args.graph.now in
    let e = c.in_ok-add.ensures.added in
    record {
      nodes = ap (λ (n : Net). n.nodes) e ∙ c.loop-i.invariant.nodes;
      arcs = added_at (writer_numbers g) c.args.net.now c.loop-i.net c.add.new.self c.args.active.now c.loop-i.i _ c.loop-i-test.true c.loop-i.invariant.arcs e
          (writer_at g c.args.active.now c.loop-i.i c.writer_of.result c.requires.active c.loop-i-test.true c.writer_of.ensures);
    }
