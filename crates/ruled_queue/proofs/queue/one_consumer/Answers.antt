use Rattle.ruled_queue.proofs.Keeping.{meets, never_pops, never_learns}
use Rattle.ruled_queue.proofs.queue.one_consumer.Goals as goal

pub absorb-requires-clause-rule : goal.absorb-requires-clause-rule
absorb-requires-clause-rule g c = meets g.N.Numbering.number g.N.Numbering.is_fit g.N.Numbering.opens _ _ _ _ c.requires.consumers.0 c.requires.consumers.1

pub pop_as-requires-clause-rule : goal.pop_as-requires-clause-rule
pop_as-requires-clause-rule g c =
    (never_pops g.N.Numbering.number g.N.Numbering.is_fit g.N.Numbering.opens _ _ c.absorb.ensures.rule, never_learns g.N.Numbering.number g.N.Numbering.is_fit g.N.Numbering.opens _ _ c.absorb.ensures.rule)
