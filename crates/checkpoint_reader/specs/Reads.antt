-- Steps of reading a checkpoint. A spot is a place in the bytes.
use Rattle.std.specs.Prelude.{◌≡◌, ℕ, Bool, true, false, Result, Ok, Err}
use Rattle.checkpoint_reader.specs.declared.fault.CheckpointFault.{CheckpointFault}
use Rattle.checkpoint_reader.specs.declared.fault.CheckpointFault.TheVariants.{OutOfMemory, BadMagic, BadVersion, Cut, Part, Graph, PlanDisagrees, Trailing, BadField}
use Rattle.checkpoint_reader.specs.Steps as steps
pub use Rattle.checkpoint_reader.specs.Steps.{pure, fail, after, ◌>>=◌, turns, one_more, many}

abbrev pub Answer : Type 0 → Type 0
Answer A = steps.Answer ℕ CheckpointFault A

abbrev pub Read : Type 0 → Type 0
Read A = steps.Read ℕ CheckpointFault A

-- the place of the next byte
abbrev pub place : Read ℕ
place at = Ok (at, at)

-- ---- what a function ensures: the answer, unless memory runs out

abbrev pub tells : {A : Type 0} → Result A CheckpointFault → Bool
tells (Ok a) = true
tells (Err OutOfMemory) = false
tells (Err BadMagic) = true
tells (Err (BadVersion n)) = true
tells (Err (Cut at)) = true
tells (Err (Part at fault)) = true
tells (Err (Graph fault)) = true
tells (Err (PlanDisagrees item)) = true
tells (Err (Trailing at)) = true
tells (Err (BadField at)) = true

abbrev pub told : {A : Type 0} → Result A CheckpointFault → ℕ → Answer A
told (Ok a) at = Ok (a, at)
told (Err fault) at = Err fault

abbrev pub Is : {A : Type 0} → Answer A → Result A CheckpointFault → ℕ → Type 0
Is answer result at = tells result ≡ true → answer ≡ told result at
