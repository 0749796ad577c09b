use Rattle.ruled_queue.proofs.Keeping.{begins}
use Rattle.ruled_queue.proofs.queue.make.Goals as goal

pub with_rule-requires : goal.with_rule-requires
with_rule-requires g c = begins g.N.Numbering.number g.N.Numbering.is_fit g.N.Numbering.opens
