-- Steps of reading a part.
use Rattle.std.specs.Prelude.{◌≡◌, ℕ, Bool, true, false, Result, Ok, Err}
use Rattle.checkpoint_reader.specs.declared.part_fault.PartFault.{PartFault}
use Rattle.checkpoint_reader.specs.declared.part_fault.PartFault.TheVariants.{OutOfMemory, Cut, BadTag, BadRef, BadKey, BadName, BadText}
use Rattle.checkpoint_reader.specs.declared.spot.Spot.{Spot}
use Rattle.checkpoint_reader.specs.Steps as steps
pub use Rattle.checkpoint_reader.specs.Steps.{pure, fail, after, ◌>>=◌, more}

abbrev pub Answer : Type 0 → Type 0
Answer A = steps.Answer Spot PartFault A

abbrev pub Read : Type 0 → Type 0
Read A = steps.Read Spot PartFault A

-- the place of the next byte
abbrev pub place : Read ℕ
place spot = Ok (spot.at, spot)

-- ---- what a function ensures: the answer, unless memory runs out

abbrev pub tells : {A : Type 0} → Result A PartFault → Bool
tells (Ok a) = true
tells (Err OutOfMemory) = false
tells (Err Cut) = true
tells (Err (BadTag at)) = true
tells (Err (BadRef at)) = true
tells (Err (BadKey at)) = true
tells (Err (BadName at)) = true
tells (Err (BadText at)) = true

abbrev pub told : {A : Type 0} → Result A PartFault → Spot → Answer A
told (Ok a) spot = Ok (a, spot)
told (Err fault) spot = Err fault

abbrev pub Is : {A : Type 0} → Answer A → Result A PartFault → Spot → Type 0
Is answer result spot = tells result ≡ true → answer ≡ told result spot
