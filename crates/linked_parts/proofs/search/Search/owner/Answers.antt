use Rattle.linked_parts.proofs.search.Search.owner.Goals as goal

pub unreachable-requires : goal.unreachable-requires
unreachable-requires c = let h = c.requires.owner.1 in cc
