-- What a read takes from a source, and what a write adds to a sink.
use Rattle.std.specs.Prelude.{◌≡◌, ℕ, zero, suc, ◌<◌, ◌≤◌, List, [], ◌++◌, length, take, Option, Some, None}
use Rattle.nb_outside.specs.declared.source.ReadEnd.{ReadEnd}
use Rattle.nb_outside.specs.declared.source.ReadEnd.TheVariants as read
use Rattle.nb_outside.specs.declared.sink.WriteEnd.{WriteEnd}
use Rattle.nb_outside.specs.declared.sink.WriteEnd.TheVariants as write
use Rattle.nb_outside.specs.Counts.{next_count}

-- taken are the first of the bytes that were left, and the others are left now; a source that doesn't tell goes on not telling
abbrev pub Takes : Option (List ℕ) → Option (List ℕ) → List ℕ → Type 0
Takes None new taken = new ≡ None
Takes (Some bytes) new taken = (rest : List ℕ) × (bytes ≡ taken ++ rest) × (new ≡ Some rest)

-- nothing is left, if that is told
abbrev pub IsAtEnd : Option (List ℕ) → Type 0
IsAtEnd None = Unit {0}
IsAtEnd (Some bytes) = bytes ≡ []

-- a read takes the bytes that it wrote to the front of into; no byte for a piece that has room is the end
abbrev pub Reads : Option (List ℕ) → Option (List ℕ) → ReadEnd → List ℕ → Type 0
Reads old new read.Failed into = Takes old new []
Reads old new (read.Bytes n) into = (n ≤ length into) × Takes old new (take n into) × (n ≡ 0 → 0 < length into → IsAtEnd old)

-- a read that took a byte is counted
abbrev pub counted_read : ReadEnd → ℕ → ℕ
counted_read read.Failed n = n
counted_read (read.Bytes zero) n = n
counted_read (read.Bytes (suc k)) n = next_count n

-- these bytes were added at the end, if the sink tells
abbrev pub Adds : Option (List ℕ) → Option (List ℕ) → List ℕ → Type 0
Adds None new bytes = new ≡ None
Adds (Some had) new bytes = new ≡ Some (had ++ bytes)

-- a write adds the first of its bytes, as many as it says, and at least one of a piece that isn't empty
abbrev pub Writes : Option (List ℕ) → Option (List ℕ) → WriteEnd → List ℕ → Type 0
Writes old new write.Failed bytes = Adds old new []
Writes old new (write.Wrote n) bytes = (n ≤ length bytes) × Adds old new (take n bytes) × (0 < length bytes → 0 < n)
