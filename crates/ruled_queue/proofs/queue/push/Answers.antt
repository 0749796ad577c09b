use Rattle.ruled_queue.proofs.Keeping.{pushes}
use Rattle.ruled_queue.proofs.queue.push.Goals as goal

pub push_as-requires-clause-rule : goal.push_as-requires-clause-rule
push_as-requires-clause-rule g c = λ n. pushes g.N.Numbering.number g.N.Numbering.is_fit g.N.Numbering.opens n _ _ _ c.requires.may
