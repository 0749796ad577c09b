-- Frames on a stream of bytes.
use Rattle.std.specs.Prelude.{◌≡◌, ℕ, ◌+◌, ◌<◌, ◌≤◌, ◌⊎◌, min, List, ◌++◌, length, take}
use Rattle.std.specs.List.{flat_map, AllByRecursion}
use Rattle.std.specs.Int.{w32, to_be_bytes, from_be_bytes}

-- the most bytes of a frame's body that is read
abbrev pub most_bytes : ℕ
most_bytes = 1048576

-- 2^64 - 1, past which no place is counted
abbrev pub last_place : ℕ
last_place = 18446744073709551615

-- a body after its length, which is four bytes with the high byte first
abbrev pub frame : List ℕ → List ℕ
frame body = to_be_bytes w32 (length body) ++ body

-- a body that is read
abbrev pub IsBody : List ℕ → Type 0
IsBody body = (0 < length body) × (length body ≤ most_bytes)

-- the length that the first four bytes say
abbrev pub length_of : List ℕ → ℕ
length_of bytes = from_be_bytes w32 (take 4 bytes)

-- less than a whole frame: not even a length, or fewer bytes than it says
abbrev pub IsBegun : List ℕ → Type 0
IsBegun bytes = (length bytes < 4) ⊎ ((0 < length_of bytes) × (length_of bytes ≤ most_bytes) × (length bytes < 4 + length_of bytes))

-- a length that no frame has
abbrev pub IsBad : List ℕ → ℕ → Type 0
IsBad bytes n = (4 ≤ length bytes) × (n ≡ length_of bytes) × ((n ≡ 0) ⊎ (most_bytes < n))

-- a stream: whole frames with these bodies, and what comes after them
abbrev pub stream : List (List ℕ) → List ℕ → List ℕ
stream bodies rest = flat_map frame bodies ++ rest

-- What comes after the last whole frame: it begins another, or has a bad length.
abbrev pub IsRest : List ℕ → Type 0
IsRest rest = IsBegun rest ⊎ ((n : ℕ) × IsBad rest n)

-- a stream cut into its whole frames, up to the first place where no whole frame begins
pub record Cutting (bytes : List ℕ) : Type 0 where
  pub bodies : List (List ℕ)
  pub rest : List ℕ
  pub are_bodies : AllByRecursion IsBody bodies
  pub is_rest : IsRest rest
  pub is_stream : bytes ≡ stream bodies rest

-- the place n bytes on
abbrev pub place_after : ℕ → ℕ → ℕ
place_after place n = min (place + n) last_place

-- what is held of a stream: the bytes after the frames that were given, and the place of the first
pub record Held : Type 0 where
  pub place : ℕ
  pub bytes : List ℕ
