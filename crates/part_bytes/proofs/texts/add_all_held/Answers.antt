use Rattle.part_bytes.specs.Gathering.{held_texts_at}
use Rattle.part_bytes.proofs.Tables.{uses_more, uses_all}
use Rattle.part_bytes.proofs.texts.add_all_held.Goals as goal

pub loop-name-preserved : goal.loop-name-preserved
loop-name-preserved c = uses_more (held_texts_at c.args.state.now) c.args.texts.now _ _ c.args.names.now c.loop-name.name-index c.name-item.result
    c.loop-name-test.true c.name-item.is c.loop-name.invariant c.in_ok-add_held.ensures

pub returns : goal.returns
returns c = uses_all (held_texts_at c.args.state.now) c.args.texts.now _ c.args.names.now c.loop-name.name-index c.loop-name-test.false c.loop-name.invariant
