-- Names, numbers and fronts of bytes.
use Rattle.std.proofs.Common.{◌≡◌, ℕ, zero, suc, ◌+◌, ◌<◌, ◌≤◌, Bool, true, false, cond, List, [], ◌∷◌, length, take, get_or, IsUtf8, refl, arith}
use Rattle.std.proofs.Math.Numerals.{one-add}
use Rattle.std.proofs.lemmas.Bool.Decides.{nat_tests}
use Rattle.std.proofs.lemmas.Str.{IsUtf8-from_ascii}
use Rattle.std.proofs.lemmas.List.Folds.{length-prefix_len}
use Rattle.std.specs.List.{prefix_len}
use Rattle.py_names.specs.Names.{continues_name}

pub prefix_len-le : (p : ℕ → Bool) (xs : List ℕ) → prefix_len p xs ≤ length xs
prefix_len-le p [] = omega arith
prefix_len-le p (x ∷ xs) = let h = prefix_len-le p xs in grind (arith, nat_tests)

continues_ascii : (c : ℕ) → continues_name c ≡ true → c < 128
continues_ascii c h = grind (arith, nat_tests)

ascii_name : (bytes : List ℕ) (i : ℕ) → get_or (take (prefix_len continues_name bytes) bytes) i 0 < 128
ascii_name [] i = omega arith
ascii_name (c ∷ cs) i = ascii_front (continues_name c) refl i (ascii_name cs)
  where
    ascii_front : (b : Bool) → continues_name c ≡ b → (i : ℕ) → ((j : ℕ) → get_or (take (prefix_len continues_name cs) cs) j 0 < 128)
        → get_or (take (cond b (1 + prefix_len continues_name cs) 0) (c ∷ cs)) i 0 < 128
    ascii_front true h zero inner = rw one-add (continues_ascii c h)
    ascii_front true h (suc i) inner = rw one-add (inner i)
    ascii_front false h i inner = omega arith

pub name_is_utf8 : (bytes : List ℕ) (width : ℕ) → width ≡ prefix_len continues_name bytes → IsUtf8 (take width bytes)
name_is_utf8 bytes width is = rw is (IsUtf8-from_ascii _ (ascii_name bytes))

pub ruleset widths = (length-prefix_len, prefix_len-le)
