use Rattle.ruled_queue.proofs.Keeping.{takes, learns}
use Rattle.ruled_queue.proofs.queue.pop.Goals as goal

pub pop_as-requires-clause-rule : goal.pop_as-requires-clause-rule
pop_as-requires-clause-rule g c = (takes g.N.Numbering.number g.N.Numbering.is_fit g.N.Numbering.opens _ _ c.requires.consumer, learns g.N.Numbering.number g.N.Numbering.is_fit g.N.Numbering.opens _ _ c.requires.consumer)
