use Rattle.std.proofs.Common.{◌+◌, ap, ◌∙◌, arith}
use Rattle.flow_model.specs.Flows.{Net}
use Rattle.plan_model.proofs.Reading.{cell_there}
use Rattle.cut_network.specs.Arcs.{reads_numbers}
use Rattle.graph_model.specs.Networks.{count_up}
use Rattle.cut_network.proofs.Rising.{count_up-next}
use Rattle.cut_network.proofs.Adding.{added_some}
use Rattle.cut_network.proofs.network.add_reads.Goals as goal

pub old_writers-requires-clause-cell : goal.old_writers-requires-clause-cell
old_writers-requires-clause-cell c = cell_there c.args.graph.now (c.loop-before.before + 1) (omega arith) (omega arith)

pub add_reads_of-requires-clause-cell : goal.add_reads_of-requires-clause-cell
add_reads_of-requires-clause-cell c = cell_there c.args.graph.now (c.loop-before.before + 1) (omega arith) (omega arith)

pub loop-before-preserved : goal.loop-before-preserved
loop-before-preserved c =
    let e = c.in_ok-add_reads_of.ensures in
    record {
      nodes = ap (λ (n : Net). n.nodes) e ∙ c.loop-before.invariant.nodes;
      arcs = added_some (reads_numbers c.args.graph.now) c.args.net.now c.loop-before.net c.add_reads_of.new.net
          (count_up 1 c.loop-before.before) (count_up 1 (c.loop-before.before + 1)) (c.loop-before.before + 1) (count_up-next c.loop-before.before) c.loop-before.invariant.arcs e;
    }
