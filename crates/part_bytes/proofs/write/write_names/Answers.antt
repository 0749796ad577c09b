use Rattle.part_bytes.specs.Texts as spec
use Rattle.part_bytes.proofs.Pieces.{plain_more}
use Rattle.part_bytes.proofs.write.write_names.Goals as goal

pub loop-name-preserved : goal.loop-name-preserved
loop-name-preserved c = plain_more spec.name_bytes c.args.out.now _ _ c.args.names.now c.loop-name.name-index c.name-item.result
    c.loop-name-test.true c.name-item.is c.loop-name.invariant c.in_ok-write_name.ensures
