use Rattle.std.proofs.Common.{refl}
use Rattle.plain_data.proofs.TextMaps.{inserted}
use Rattle.plain_data.proofs.text_map.TextMap.put.Goals as goal

pub returns-in-Some-clause-ok : goal.returns-in-Some-clause-ok
returns-in-Some-clause-ok g c = rw (← c.self.view_is) (inserted c.self.inside.map.entries _ c.args.name.now c.args.value ((c.get_mut.follows.holds c.args.value).3 (rw (← c.get_mut.ensures.value, c.in-Some.is) refl)).0)
