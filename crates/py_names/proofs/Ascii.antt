-- Identifiers are ASCII, and so text.
use Rattle.std.proofs.Common.{◌≡◌, ℕ, ◌<◌, true, List, [], ◌∷◌, arith}
use Rattle.std.proofs.lemmas.Bool.{and_parts}
use Rattle.std.proofs.lemmas.Bool.Decides.{nat_tests}
use Rattle.std.proofs.lemmas.Str.Ascii.{IsAscii-nil, IsAscii-cons}
use Rattle.std.specs.Str.{IsAscii}
use Rattle.std.specs.List.{list_all}
use Rattle.py_names.specs.Names.{continues_name}

pub continues_name-ascii : (c : ℕ) → continues_name c ≡ true → c < 128
continues_name-ascii c e = grind (arith, nat_tests)

all_ascii : (cs : List ℕ) → list_all continues_name cs ≡ true → IsAscii cs
all_ascii [] e = IsAscii-nil
all_ascii (c ∷ cs) e = let both = and_parts _ _ e in IsAscii-cons c cs (continues_name-ascii c both.0) (all_ascii cs both.1)
