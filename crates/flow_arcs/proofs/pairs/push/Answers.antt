use Rattle.flow_arcs.proofs.Partners.{pushed_read}
use Rattle.flow_arcs.proofs.pairs.push.Goals as goal

pub returns : goal.returns
returns c = pushed_read c.args.rest.now.items c.args.arc c.partner-back.result c.args.amount _ _ c.partner-back.ensures.value c.requires.arc c.requires.back c.index_mut.ensures.value c.index_mut-2.ensures.value
