-- The numbers of a function's locals.
use Rattle.std.specs.Prelude.{◌≡◌, ℕ, ◌<◌, true, List, Some, is_some, slice_get, Contains}
use Rattle.std.specs.Ordering.{nat_cmp}
use Rattle.std.specs.Cmp.Lexicographic.{slice_cmp}
use Rattle.std.specs.FinMap as finite

abbrev pub Numbers : Type 0
Numbers = finite.FinMap (slice_cmp nat_cmp) ℕ

-- each of the names has a number, and each number is a position at which its name stands
pub record AreNumbersOf (names : List (List ℕ)) (numbers : Numbers) : Type 0 where
  pub each : (name : List ℕ) → Contains names name → is_some (finite.get numbers name) ≡ true
  pub position : (name : List ℕ) (at : ℕ) → finite.get numbers name ≡ Some at → slice_get names at ≡ Some name

-- each number is below the count, and no two names have one number
pub record IsNumbering (numbers : Numbers) (count : ℕ) : Type 0 where
  pub below : (name : List ℕ) (at : ℕ) → finite.get numbers name ≡ Some at → at < count
  pub apart : (name other : List ℕ) (at : ℕ) → finite.get numbers name ≡ Some at → finite.get numbers other ≡ Some at → name ≡ other
