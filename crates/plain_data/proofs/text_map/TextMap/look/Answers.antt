use Rattle.std.proofs.Common.{◌∙◌, sym}
use Rattle.plain_data.proofs.TextMaps.{get_is}
use Rattle.plain_data.proofs.text_map.TextMap.look.Goals as goal

pub returns : goal.returns
returns g c = rw (← c.self.view_is) (c.get.ensures.value ∙ sym (get_is c.self.inside.map.entries c.args.name.now))
