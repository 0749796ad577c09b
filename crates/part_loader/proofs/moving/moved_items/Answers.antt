use Rattle.part_bytes.specs.Parts.{numbered}
use Rattle.part_loader.proofs.Moved.{map_more}
use Rattle.part_loader.proofs.moving.moved_items.Goals as goal

pub loop-value-preserved : goal.loop-value-preserved
loop-value-preserved g c = map_more (numbered (g.P.Addresses.goes_to c.args.addresses.now)) c.args.items.now c.loop-value.value-index c.value-item.result _ _ _
    c.loop-value-test.true c.value-item.is c.loop-value.invariant c.in_ok-moved_value.ensures c.in_ok-push.ensures.ok
