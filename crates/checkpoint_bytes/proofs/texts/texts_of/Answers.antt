use Rattle.checkpoint_bytes.proofs.Gathering.{whole_table}
use Rattle.checkpoint_bytes.proofs.texts.texts_of.Goals as goal

pub returns : goal.returns
returns c = whole_table c.args.state.now c.args.graph.now c.args.plan.now _ _ _ c.as_slice.result.now c.as_slice-2.result.now c.new-texts.ensures c.as_slice.ensures c.as_slice-2.ensures
    c.in_ok-add_codes.ensures c.in_ok-add_copied.ensures
