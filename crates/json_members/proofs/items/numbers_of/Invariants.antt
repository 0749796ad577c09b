use Rattle.std.proofs.Common.{◌≡◌, Some, map, take}
use Rattle.serde_json.specs.View.{view}
use Rattle.json_members.specs.Members.{whole}
use Rattle.json_members.proofs.items.numbers_of.Given as goal

abbrev pub invariant-loop-item : goal.invariant-loop-item
invariant-loop-item l = map Some l.numbers ≡ map (λ item. whole (view item)) (take l.item-index l.items)
