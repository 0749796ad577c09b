-- How a run on a stream ends, and which errors it has then.
use Rattle.std.specs.Prelude.{◌≡◌, ◌≢◌, ℕ, ◌⊎◌, List, [], ◌∷◌, ◌++◌, Option, Some, None}
use Rattle.nb_outside.specs.Counts.{HasRisen, HasRisenBy}
use Rattle.nb_outside.specs.Streams.{IsAtEnd}
use Rattle.jupyter_frames.specs.Framing.{IsBegun, IsBad}
use Rattle.reply_frames.specs.declared.node.NodeError.{NodeError}
use Rattle.reply_frames.specs.declared.node.NodeErrorKind.TheVariants as kind
use Rattle.node_intake.specs.Intake.{Node, no_sessions, with_frames, node_of}
use Rattle.node_intake.specs.declared.session.IntakeEnd.{IntakeEnd}
use Rattle.node_intake.specs.declared.session.IntakeEnd.TheVariants as intake
use Rattle.node_run.specs.declared.end.RunEnd.{RunEnd}
use Rattle.node_run.specs.declared.end.RunEnd.TheVariants.{Whole, Broken, SourceFailed, TooManyReads}

-- the exit status
abbrev pub status_of : RunEnd → ℕ
status_of Whole = 0
status_of Broken = 2
status_of SourceFailed = 3
status_of TooManyReads = 10

-- What is taken in of these frames, and of what comes after them. If the source stopped before its end, a frame that is begun is
-- no error.
abbrev pub node_at : RunEnd → ℕ → List (List ℕ) → List ℕ → Node
node_at Whole hosts bodies rest = node_of hosts bodies rest
node_at Broken hosts bodies rest = node_of hosts bodies rest
node_at SourceFailed hosts bodies rest = with_frames hosts no_sessions bodies
node_at TooManyReads hosts bodies rest = with_frames hosts no_sessions bodies

-- what is left in the source, and what comes after the frames: at the end of the input nothing, or a frame that is cut off;
-- or a length that no frame has
abbrev pub EndsAt : RunEnd → Option (List ℕ) → List ℕ → Type 0
EndsAt Whole left rest = IsAtEnd left × (rest ≡ [])
EndsAt Broken left rest = (rest ≢ []) × ((IsAtEnd left × IsBegun rest) ⊎ ((n : ℕ) × IsBad rest n))
EndsAt SourceFailed left rest = IsBegun rest
EndsAt TooManyReads left rest = IsBegun rest

-- why reading ended where it did, by the source's faults and reads before and after: a source that failed met a fault, and one that
-- was read too often gave a byte at each of 4,294,967,295 reads
abbrev pub IsCaused : ℕ → ℕ → ℕ → ℕ → RunEnd → Type 0
IsCaused faults_old faults_new reads_old reads_new Whole = Unit {0}
IsCaused faults_old faults_new reads_old reads_new Broken = Unit {0}
IsCaused faults_old faults_new reads_old reads_new SourceFailed = HasRisen faults_old faults_new
IsCaused faults_old faults_new reads_old reads_new TooManyReads = HasRisenBy 4294967295 reads_old reads_new

-- ---- from how taking in ended

-- with the place where the stream is broken
abbrev pub end_after : IntakeEnd → Option ℕ → RunEnd
end_after intake.End None = Whole
end_after intake.End (Some place) = Broken
end_after intake.Failed broken = SourceFailed
end_after intake.TooMany broken = TooManyReads

-- and the errors, that of a broken stream last
abbrev pub errors_after : IntakeEnd → Option ℕ → List NodeError → List NodeError
errors_after intake.End None errors = errors
errors_after intake.End (Some place) errors = errors ++ record { kind = kind.BadFrame place; about = None } ∷ []
errors_after intake.Failed broken errors = errors
errors_after intake.TooMany broken errors = errors
