use Rattle.std.proofs.Common.{◌≡◌, ◌++◌, map}
use Rattle.std.specs.Prelude.{encode_utf8}
use Rattle.std.specs.Str.{IsUtf8, chars}
use Rattle.py_value.specs.declared.value.Value.TheVariants as value
use Rattle.py_meaning.specs.Unpacking.{characters_of}
use Rattle.py_items.proofs.unpacked.characters_of.Given as goal

abbrev pub invariant-loop-character : goal.invariant-loop-character
invariant-loop-character l = (l.characters ++ map (λ c. value.Text (encode_utf8 c)) (chars l.character-iterator.rest.now) ≡ characters_of l.text) × IsUtf8 l.character-iterator.rest.now
