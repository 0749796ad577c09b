use Rattle.std.proofs.Common.{length, ap, arith}
use Rattle.cut_network.proofs.Adding.{built}
use Rattle.cut_network.proofs.network.network_of.Goals as goal

pub returns : goal.returns
returns c =
    let a = c.in_ok-active.ensures.active in
    let n = ap length a in
    built c.args.graph.now c.args.weights.now _ c.new-net.result c.add_copies.new.net c.add_writers.new.net c.add_reads.new.net c.add_reruns.new.net
    (omega (arith, n, c.len.ensures, c.len-2.ensures)) c.new-net.ensures c.in_ok-add_copies.ensures c.in_ok-add_writers.ensures c.in_ok-add_reads.ensures c.in_ok-add_reruns.ensures
