use Rattle.std.proofs.Common.{length, ap, arith}
use Rattle.flow_arcs.proofs.Resting.{rests_paired, rests_carried, all_paired, all_idle}
use Rattle.flow_arcs.proofs.pairs.idle_rests.Goals as goal

pub loop-arc-preserved : goal.loop-arc-preserved
loop-arc-preserved c = record {
  paired = rw (c.in_ok-push-2.ensures.items, c.in_ok-push.ensures.items)
      (rests_paired c.arcs-arcs.result.now c.loop-arc.rest.items c.loop-arc.arc-index _ 0 (omega arith) (omega arith) (omega arith) c.loop-arc.invariant.paired);
  carried = rw (c.in_ok-push-2.ensures.items, c.in_ok-push.ensures.items) (rests_carried c.loop-arc.rest.items c.loop-arc.arc-index _ c.loop-arc.invariant.carried);
}

pub returns-clause-paired : goal.returns-clause-paired
returns-clause-paired c = rw (← c.arcs-arcs.ensures.value) (all_paired c.arcs-arcs.result.now c.loop-arc.rest.items c.loop-arc.arc-index (omega arith) c.loop-arc.invariant.paired)

pub returns-clause-legal : goal.returns-clause-legal
returns-clause-legal c =
    let e = ap length c.arcs-arcs.ensures.value in
    all_idle c.args.net.now c.loop-arc.rest.items c.loop-arc.arc-index (omega arith) c.loop-arc.invariant.carried
