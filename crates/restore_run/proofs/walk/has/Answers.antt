use Rattle.plan_model.proofs.Ascents.{found_contained}
use Rattle.restore_run.proofs.walk.has.Goals as goal

pub returns : goal.returns
returns c = let e = c.is_ok.ensures in found_contained c.args.numbers.now c.args.number _ c.requires c.binary_search.ensures.position c.is_ok.result c.is_ok.ensures.value
