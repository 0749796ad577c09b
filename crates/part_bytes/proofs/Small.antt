-- The text of a small part.
use Rattle.std.proofs.Common.{◌≡◌, ℕ, List, [], ◌∷◌, pos, Option, Some, ap}
use Rattle.std.specs.Prelude.{codes}
use Rattle.std.specs.Option.{option_map}
use Rattle.std.specs.FinMap as finite
use Rattle.std.specs.Cmp.Lexicographic.{nat_list_cmp_total}
use Rattle.py_value.specs.declared.value.Value.{Value}
use Rattle.py_value.specs.declared.value.Value.TheVariants as value
use Rattle.part_bytes.specs.Examples.{two_in_x, two_in_x_bytes}
use Rattle.part_bytes.specs.Parts.{order, number_in, numbered}
use Rattle.part_bytes.specs.Texts.{four, sixteen, bytes_of, part_text}

pub has_two : finite.get two_in_x.globals (codes "x") ≡ Some (value.Number (pos 2))
has_two = finite.get-insert nat_list_cmp_total finite.empty (codes "x") (value.Number (pos 2)) (codes "x")

-- the text, by what `x` has
abbrev text_with : Option Value → List ℕ
text_with held = bytes_of (record { names = codes "x" ∷ []; values = option_map (numbered (number_in [])) held ∷ []; objects = [] })

pub small_text : part_text two_in_x (codes "x" ∷ []) ≡ two_in_x_bytes
unfolding order four sixteen
small_text = ap text_with has_two
