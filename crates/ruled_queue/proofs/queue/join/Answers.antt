use Rattle.ruled_queue.proofs.Keeping.{merges}
use Rattle.ruled_queue.proofs.queue.join.Goals as goal

pub absorb-requires-clause-rule : goal.absorb-requires-clause-rule
absorb-requires-clause-rule g c = merges g.N.Numbering.number g.N.Numbering.is_fit g.N.Numbering.opens _ _ _ _ c.requires.producer
