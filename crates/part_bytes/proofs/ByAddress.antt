-- The number of each object, found from the last one to the first.
use Rattle.std.proofs.Common.{◌≡◌, ℕ, zero, suc, ◌+◌, ◌<◌, List, [], ◌∷◌, length, get_or, drop, Some, None, refl, arith}
use Rattle.std.specs.Prelude.{slice_get}
use Rattle.part_bytes.specs.Parts.{number_in}

-- the number at each address, as far as the objects from one index on tell it
abbrev pub AreNumbered : List ℕ → List ℕ → ℕ → ℕ → Type 0
AreNumbered by_address order total next = (at : ℕ) → get_or by_address at total ≡ number_in (drop next order) at + next

-- if an index has no item, a read answers the default
pub none_there : {X : Type 0} (xs : List X) (i : ℕ) (d : X) → slice_get xs i ≡ None → get_or xs i d ≡ d
none_there [] i d e = refl
none_there (x ∷ xs) zero d e = cc
none_there (x ∷ xs) (suc i) d e = none_there xs i d e

-- if an index has an item, a read answers it
pub there : {X : Type 0} (xs : List X) (i : ℕ) → i < length xs → (x : X) × (slice_get xs i ≡ Some x)
there [] i l = absurd (omega arith)
there (x ∷ xs) zero l = (x, refl)
there (x ∷ xs) (suc i) l = there xs i (omega arith)
