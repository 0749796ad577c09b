use Rattle.ruled_queue.proofs.Keeping.{forks_spent, merges_spent}
use Rattle.ruled_queue.proofs.queue.count_look.Goals as goal

pub another-spent-requires-clause-rule : goal.another-spent-requires-clause-rule
another-spent-requires-clause-rule g c = forks_spent g.N.Numbering.number g.N.Numbering.is_fit g.N.Numbering.opens _ _

pub absorb-requires-clause-rule : goal.absorb-requires-clause-rule
absorb-requires-clause-rule g c = merges_spent g.N.Numbering.number g.N.Numbering.is_fit g.N.Numbering.opens _ _ _ _ c.another-spent.ensures.rule.1
