-- The part whose objects hold each other has a text.
use Rattle.std.proofs.Common.{◌≡◌, [], refl, arith}
use Rattle.std.specs.Prelude.{true, codes}
use Rattle.std.specs.Str.{is_utf8}
use Rattle.std.proofs.lemmas.Str.{IsUtf8-from_ascii, is_utf8-from_IsUtf8}
use Rattle.std.proofs.lemmas.Str.Ascii.{IsAscii-nil, IsAscii-cons}
use Rattle.py_names.specs.Names.{is_variable, keywords}
use Rattle.part_bytes.specs.Texts.{four, bytes_of}
use Rattle.checkpoint_reader.specs.PartReading.{follows}
use Rattle.checkpoint_laws.specs.SpelledParts.{HasPartText}
use Rattle.checkpoint_laws.specs.Examples.{knot, knot_bytes}

variable : is_variable (codes "x") ≡ true
unfolding keywords
variable = refl

first : follows [] (codes "x") ≡ true
unfolding follows
first = refl

key : is_utf8 (codes "k") ≡ true
key = is_utf8-from_IsUtf8 (codes "k") (IsUtf8-from_ascii (codes "k") (IsAscii-cons 107 [] (omega arith) IsAscii-nil))

pub knot_part : HasPartText knot
knot_part = record {
  some = omega arith;
  few = omega arith;
  names = (variable, first, tt);
  as_many = refl;
  values = (omega arith, tt);
  few_objects = omega arith;
  met = 1;
  refs = refl;
  within = omega arith;
  objects = (
    omega arith,
    (omega arith, (omega arith, (omega arith, tt))),
    (
      2,
      refl,
      omega arith,
      (
        omega arith,
        (omega arith, ((key, omega arith), refl, omega arith, tt)),
        (2, refl, omega arith, tt),
      ),
    ),
  );
}

pub knot_text : bytes_of knot ≡ knot_bytes
unfolding four
knot_text = refl
