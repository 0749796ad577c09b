use Rattle.std.proofs.Common.{rules}
use Rattle.plain_data.proofs.TextMaps.{removed, get_is}
use Rattle.plain_data.proofs.text_map.TextMap.unbind.Goals as goal

pub returns-clause-value : goal.returns-clause-value
returns-clause-value g c = rw (← c.self.view_is) rw (get_is c.self.inside.map.entries c.args.name.now) search rules

pub returns-clause-rest : goal.returns-clause-rest
returns-clause-rest g c = rw (← c.self.view_is) (removed _ _ _ c.remove.ensures.updates.0)
