-- What is heard of a link.
use Rattle.std.specs.Prelude.{◌≡◌, ℕ, ◌++◌, List, Option, Some, None}
use Rattle.jupyter_frames.specs.Framing.{Held, IsBegun, IsBad}
use Rattle.session_queues.specs.declared.shared.SharedQueues.{SharedQueues}
use Rattle.node_intake.specs.declared.node.Intake.{Intake}
use Rattle.node_intake.specs.declared.session.IntakeEnd.{IntakeEnd}
use Rattle.node_intake.specs.declared.session.IntakeEnd.TheVariants as intake
use Rattle.node_intake.specs.Intake.{Taken}
use Rattle.node_intake.specs.Standing.{StandsFor, HasKept}
use Rattle.node_intake.specs.Taking.{TookSoFar, TookFront}
use Rattle.node_run.specs.declared.open_session.OpenSession.{OpenSession}
use Rattle.node_run.specs.Admitted.{AreOpen}
use Rattle.node_run.specs.Unsent.{AreKept}
use Rattle.node_serve.specs.declared.service.Heard.{Heard}
use Rattle.node_serve.specs.declared.service.Heard.TheVariants.{More, NotYet, Ended}

-- how reading ends, if it does
abbrev pub end_in : Heard → Option IntakeEnd
end_in More = None
end_in NotYet = None
end_in (Ended end) = Some end

-- more may come, or a length that no frame has came
abbrev pub IsLeftBy : Heard → List ℕ → Type 0
IsLeftBy More rest = IsBegun rest
IsLeftBy NotYet rest = ⊥
IsLeftBy (Ended intake.End) rest = (n : ℕ) × IsBad rest n
IsLeftBy (Ended intake.Failed) rest = ⊥
IsLeftBy (Ended intake.TooMany) rest = ⊥

-- a piece came, and its whole frames were taken in
pub record Heeds (queues : List SharedQueues) (hosts : ℕ) (held : Held) (old : Intake (List OpenSession)) (told : ℕ) (piece : List ℕ) (heard : Heard) (then : Held) (new : Intake (List OpenSession)) (later : ℕ) : Type 0 where
  pub took : (bytes : List ℕ) → TookSoFar hosts bytes held (StandsFor (λ (os : List OpenSession) (ts : List Taken). AreOpen ts os queues) old)
      → TookSoFar hosts (bytes ++ piece) then (StandsFor (λ (os : List OpenSession) (ts : List Taken). AreOpen ts os queues) new)
  pub kept : HasKept (λ (os : List OpenSession) (later : List OpenSession). AreKept os later) old new
  pub left : IsLeftBy heard then.bytes
  pub same : later ≡ told

-- a piece came, and memory ran out: the first of the whole frames were taken in
pub record HeedsFront (queues : List SharedQueues) (hosts : ℕ) (held : Held) (old : Intake (List OpenSession)) (piece : List ℕ) (new : Intake (List OpenSession)) : Type 0 where
  pub took : (bytes : List ℕ) → TookSoFar hosts bytes held (StandsFor (λ (os : List OpenSession) (ts : List Taken). AreOpen ts os queues) old)
      → TookFront hosts (bytes ++ piece) (StandsFor (λ (os : List OpenSession) (ts : List Taken). AreOpen ts os queues) new)
  pub kept : HasKept (λ (os : List OpenSession) (later : List OpenSession). AreKept os later) old new
