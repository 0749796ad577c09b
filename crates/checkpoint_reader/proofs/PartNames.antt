-- A name is text.
use Rattle.std.proofs.Common.{◌≡◌, ℕ, ◌<◌, true, false, List, [], ◌∷◌, arith}
use Rattle.std.specs.List.{list_all}
use Rattle.std.specs.Str.{IsAscii, IsUtf8}
use Rattle.std.proofs.lemmas.Bool.{and_parts, false_from_ne_true}
use Rattle.std.proofs.lemmas.Bool.Decides.{nat_tests}
use Rattle.std.proofs.lemmas.Str.{IsUtf8-from_ascii}
use Rattle.std.proofs.lemmas.Str.Ascii.{IsAscii-nil, IsAscii-cons}
use Rattle.py_names.specs.Names.{begins_name, continues_name, is_spelled_as_name, is_identifier, is_variable}

continues_name-ascii : (c : ℕ) → continues_name c ≡ true → c < 128
continues_name-ascii c e = grind (arith, nat_tests)

begins_name-ascii : (c : ℕ) → begins_name c ≡ true → c < 128
begins_name-ascii c e = grind (arith, nat_tests)

all_ascii : (cs : List ℕ) → list_all continues_name cs ≡ true → IsAscii cs
all_ascii [] e = IsAscii-nil
all_ascii (c ∷ cs) e = let both = and_parts _ _ e in IsAscii-cons c cs (continues_name-ascii c both.0) (all_ascii cs both.1)

name-ascii : (cs : List ℕ) → is_spelled_as_name cs ≡ true → IsAscii cs
name-ascii [] e = IsAscii-nil
name-ascii (c ∷ cs) e = let both = and_parts _ _ e in IsAscii-cons c cs (begins_name-ascii c both.0) (all_ascii cs both.1)

pub identifier-utf8 : (cs : List ℕ) → is_identifier cs ≡ true → IsUtf8 cs
identifier-utf8 cs e = IsUtf8-from_ascii cs (name-ascii cs (and_parts _ _ e).0)

pub no_variable : (xs : List ℕ) → (IsUtf8 xs → ⊥) → is_variable xs ≡ false
no_variable xs h = false_from_ne_true (is_variable xs) (λ e. h (identifier-utf8 xs (and_parts _ _ e).0))
