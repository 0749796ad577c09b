-- What members and items of JSON values are read as.
use Rattle.std.specs.Prelude.{ℕ, ◌^◌, List, nat_lt, if◌then◌else◌, Option, Some, None, option_and_then}
use Rattle.serde_json.specs.Data.{Data}
use Rattle.serde_json.specs.Find.{get, as_number, as_u64}

-- a whole number from 0 to 2^64 - 1
abbrev pub whole : Data → Option ℕ
whole d = option_and_then as_u64 (as_number d)

-- a number below 2^32
abbrev pub narrow : ℕ → Option ℕ
narrow n = if nat_lt n (2 ^ 32) then Some n else None

abbrev pub small : Data → Option ℕ
small d = option_and_then narrow (whole d)

-- the member of that name, read so
abbrev pub member_as : {X : Type 0} → (Data → Option X) → List ℕ → Data → Option X
member_as reads name d = option_and_then reads (get name d)

-- the same, or the other value if there is no such member
abbrev pub member_or : {X : Type 0} → X → (Data → Option X) → List ℕ → Data → Option X
member_or other reads name d = elim (get name d) [ None ↦ Some other | Some x ↦ reads x ]
