use Rattle.std.proofs.Common.{◌∙◌, sym, rules}
use Rattle.plain_data.proofs.TextMaps.{keys_are}
use Rattle.plain_data.proofs.text_map.TextMap.names.Goals as goal

pub returns : goal.returns
returns g c = rw (← c.self.view_is) (search rules ∙ sym (keys_are c.self.inside.map.entries c.keys-name-items.ensures.ordered))
