use Rattle.ruled_queue.proofs.Keeping.{forks_number}
use Rattle.ruled_queue.proofs.queue.split_number.Goals as goal

pub another-requires-clause-rule : goal.another-requires-clause-rule
another-requires-clause-rule g c = forks_number g.N.Numbering.number g.N.Numbering.is_fit g.N.Numbering.opens _ _ c.requires.first
