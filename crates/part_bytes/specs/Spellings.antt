-- How a writer spells texts.
use Rattle.std.specs.Prelude.{ℕ, List}
use Rattle.part_bytes.specs.declared.spelling.Spelling.{Spelling}
use Rattle.part_bytes.specs.declared.spelling.Spelling.TheVariants.{InPlace, Numbered}
use Rattle.part_bytes.specs.Texts.{text_bytes, by_number}

abbrev pub spells : Spelling → List ℕ → List ℕ
spells InPlace = text_bytes
spells (Numbered table) = by_number table.now
