use Rattle.part_loader.proofs.Moved.{pair_more}
use Rattle.part_loader.proofs.moving.moved_pairs.Goals as goal

pub loop-index-preserved : goal.loop-index-preserved
loop-index-preserved g c = pair_more (g.P.Addresses.goes_to c.args.addresses.now) c.args.dict.now _ _ c.loop-index.index c.pair_at.result.0.now _ c.pair_at.result.1.now _
    c.len-index-end.ensures.distinct c.pair_at.ensures c.loop-index.invariant c.in_ok-copy.ensures c.in_ok-moved_value.ensures c.in_ok-put.ensures.ok
