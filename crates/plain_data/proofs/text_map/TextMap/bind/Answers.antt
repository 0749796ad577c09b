use Rattle.plain_data.proofs.TextMaps.{inserted}
use Rattle.plain_data.proofs.text_map.TextMap.bind.Goals as goal

pub returns-clause-ok : goal.returns-clause-ok
returns-clause-ok g c = rw (← c.self.view_is) (inserted _ _ _ _ c.in_ok-insert.ensures.updates.0)
