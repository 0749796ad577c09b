-- A link that is served.
use Rattle.std.specs.Prelude.{◌≡◌, ◌≤◌, ℕ, Bool, true, false, List, ◌∷◌, length, map, Option, Some, None}
use Rattle.jupyter_frames.specs.Framing.{Held}
use Rattle.session_queues.specs.declared.shared.SharedQueues.{SharedQueues}
use Rattle.reply_frames.specs.declared.node.NodeError.{NodeError}
use Rattle.node_intake.specs.declared.node.Intake.{Intake}
use Rattle.node_intake.specs.declared.session.IntakeEnd.{IntakeEnd}
use Rattle.node_intake.specs.declared.session.IntakeEnd.TheVariants as intake
use Rattle.node_intake.specs.Intake.{Taken}
use Rattle.node_intake.specs.Standing.{StandsFor}
use Rattle.node_intake.specs.Taking.{TookSoFar, TookFront, HasTaken, EndsSo}
use Rattle.node_run.specs.declared.open_session.OpenSession.{OpenSession}
use Rattle.node_run.specs.Admitted.{AreOpen, AreSeated}
use Rattle.node_run.specs.Unsent.{AreCounted, AreReadable}
use Rattle.node_serve.specs.Units.{error_units, read_units, units_so_far}
use Rattle.node_serve.specs.Sent.{Wire, left_of, IsSending, HasSentFront}

-- Of what the link gave since the start the whole frames were taken in, and the others are held. So many of the errors were told, and all
-- that was read of the sessions.
pub record InService (hosts : ℕ) (queues : List SharedQueues) (start now : Wire) (held : Held) (node : Intake (List OpenSession)) (told : ℕ) : Type 0 where
  pub taken : List ℕ
  pub took : TookSoFar hosts taken held (StandsFor (λ (os : List OpenSession) (ts : List Taken). AreOpen ts os queues) node)
  pub counted : AreCounted node.desk
  pub few : told ≤ length node.errors.items
  pub sending : IsSending start now taken (units_so_far told node.errors.items node.desk)

-- Memory ran out. Of what the link gave since the start the first whole frames were taken in, and it was sent the first of what answers
-- them: the errors, and what was read of the sessions.
pub record WasInService (hosts : ℕ) (queues : List SharedQueues) (start now : Wire) (node : Intake (List OpenSession)) : Type 0 where
  pub taken : List ℕ
  pub took : TookFront hosts taken (StandsFor (λ (os : List OpenSession) (ts : List Taken). AreOpen ts os queues) node)
  pub sending : HasSentFront start now taken (error_units 1 node.errors.items ∷ map read_units node.desk)

-- what becomes of a link that is in service, by whether memory sufficed
abbrev pub Serves : Bool → ℕ → List SharedQueues → Wire → Wire → Held → Intake (List OpenSession) → ℕ → Held → Intake (List OpenSession) → ℕ → Type 0
Serves true hosts queues old new held node told then later next = (start : Wire) → InService hosts queues start old held node told → InService hosts queues start new then later next
Serves false hosts queues old new held node told then later next = (start : Wire) → InService hosts queues start old held node told → WasInService hosts queues start new later

-- reading goes on while the link isn't cut off, and fails only if it is
abbrev pub IsEnd : Option IntakeEnd → Bool → Type 0
IsEnd None cut = cut ≡ false
IsEnd (Some intake.End) cut = cut ≡ false
IsEnd (Some intake.Failed) cut = cut ≡ true
IsEnd (Some intake.TooMany) cut = ⊥

-- These sessions are open, and these errors were found, when no more is taken in.
pub record IsFed (hosts : ℕ) (queues : List SharedQueues) (start now : Wire) (sessions : List OpenSession) (errors : List NodeError) (broken : Option ℕ) (end : IntakeEnd) (told : ℕ) : Type 0 where
  pub taken : List ℕ
  pub took : HasTaken hosts taken (λ node. AreOpen node.sessions sessions queues × (errors ≡ node.errors)) broken
  pub ends : EndsSo end (left_of now.line) took.rest
  pub is_end : IsEnd (Some end) now.cut
  pub seated : AreSeated sessions queues
  pub readable : AreReadable sessions queues
  pub counted : AreCounted sessions
  pub few : told ≤ length errors
  pub sending : IsSending start now taken (units_so_far told errors sessions)

-- These sessions are open when memory has run out. They are those of the first whole frames that the link gave since the start, and it
-- was sent the first of the errors and of what was read of them.
pub record IsLeft (hosts : ℕ) (queues : List SharedQueues) (start now : Wire) (sessions : List OpenSession) : Type 0 where
  pub taken : List ℕ
  pub errors : List NodeError
  pub took : TookFront hosts taken (λ node. AreOpen node.sessions sessions queues × (errors ≡ node.errors))
  pub seated : AreSeated sessions queues
  pub readable : AreReadable sessions queues
  pub sending : HasSentFront start now taken (error_units 1 errors ∷ map read_units sessions)
