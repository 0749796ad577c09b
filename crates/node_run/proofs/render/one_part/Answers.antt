use Rattle.std.proofs.Common.{◌∙◌}
use Rattle.node_run.proofs.Batching.{one_together}
use Rattle.node_run.proofs.render.one_part.Goals as goal

pub returns : goal.returns
returns c = one_together _ c.new-parts.result.items c.push.new.self.items c.new-parts.ensures.items c.in_ok-push.ensures.items ∙ c.in_ok-bytes.ensures
