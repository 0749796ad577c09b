-- The stream of one session, and what is written of it if the session is answered as by one that never moves.
use Rattle.std.specs.Prelude.{◌≡◌, ℕ, ◌⊎◌, List, [], ◌∷◌, ◌++◌, length, Option, Some, None, Ok}
use Rattle.std.specs.List.{flat_map, AllZip}
use Rattle.nb_outside.specs.Streams.{Adds}
use Rattle.jupyter_frames.specs.Framing.{frame, place_after, Cutting}
use Rattle.session_core.specs.declared.request.Request.{Request}
use Rattle.session_core.specs.declared.entry.Entry.{Entry}
use Rattle.session_core.specs.declared.entry.Entry.TheVariants.{Opened}
use Rattle.session_core.specs.Feeding.{drawn_in, AreFirstAnswers}
use Rattle.jupyter_messages.specs.declared.message.MessageKind.TheVariants.{Open, Ask}
use Rattle.jupyter_messages.specs.Reading.{message_in}
use Rattle.reply_frames.specs.declared.node.NodeError.{NodeError}
use Rattle.reply_frames.specs.declared.node.NodeErrorKind.TheVariants.{BadFrame}
use Rattle.node_intake.specs.Intake.{Taken}
use Rattle.node_run.specs.declared.end.RunEnd.{RunEnd}
use Rattle.node_run.specs.declared.end.RunEnd.TheVariants.{Whole, Broken, SourceFailed, TooManyReads}
use Rattle.node_run.specs.Journals.{Answers}
use Rattle.node_run.specs.Frames.{error_frames, journal_frames, AddsFront}
use Rattle.node_run.specs.Ends.{status_of, EndsAt}
use Rattle.unmoved_sessions.specs.Answered.{AreAnsweredUntilDeath}

-- ---- what is asked

-- the body reads as the message that opens this session
abbrev pub Opens : Taken → List ℕ → Type 0
Opens s body = message_in body ≡ Ok (record { header = s.request; channel = s.channel; kernel = s.kernel; kind = Open s.host })

-- the body reads as the message that asks this of the kernel; what comes on a stream is of frontend 0
abbrev pub Asks : ℕ → List ℕ → Request → Type 0
Asks kernel body r = (message_in body ≡ Ok (record { header = r.header; channel = r.channel; kernel = kernel; kind = Ask r.ask })) × (r.frontend ≡ 0)

-- the first body opens this session, and the later ones ask its requests of its kernel, one each, in order
abbrev pub AreBodiesOf : Taken → List (List ℕ) → Type 0
AreBodiesOf s [] = ⊥
AreBodiesOf s (body ∷ bodies) = Opens s body × AllZip (Asks s.kernel) bodies s.requests

-- ---- what is written

-- the errors of a run that takes in these frames without one, and ends so: at a broken end, that of the place after the frames
abbrev pub errors_of : RunEnd → List (List ℕ) → List NodeError
errors_of Whole bodies = []
errors_of Broken bodies = record { kind = BadFrame (place_after 0 (length (flat_map frame bodies))); about = None } ∷ []
errors_of SourceFailed bodies = []
errors_of TooManyReads bodies = []

-- its opening, and these entries after it
abbrev pub opened_with : Taken → List Entry → List Entry
opened_with s entries = Opened s.host s.request s.channel ∷ entries

-- A run that took in these bytes ended so and left this in the source. Written were the frames of its errors, and then those of the
-- session's opening and of the entries that answer its requests as a session that never moves does. What they say was drawn, at
-- a death of a full session too, is what its feed gave first.
pub record WritesAsUnmoved (gives : Answers) (s : Taken) (bytes : List ℕ) (cut : Cutting bytes) (end : RunEnd) (left : List ℕ) (IsAdded : List ℕ → Type 0) : Type 0 where
  pub ends : EndsAt end (Some left) cut.rest
  pub entries : List Entry
  pub answered : AreAnsweredUntilDeath s.host [] s.requests entries
  pub fed : AreFirstAnswers (gives s.kernel) (drawn_in (opened_with s entries))
  pub added : IsAdded (error_frames 1 (errors_of end cut.bodies) ++ journal_frames s.kernel 1 (opened_with s entries))

-- What a run with this status did that took in these bytes, said of each status as `Streams` of node_run says it.
pub record StreamsAsUnmoved (gives : Answers) (caused : RunEnd → Type 0) (status : ℕ) (s : Taken) (bytes : List ℕ) (cut : Cutting bytes) (left : List ℕ) (sink_old sink_new : Option (List ℕ)) : Type 0 where
  -- at 0, 2, 3 and 10 all was written
  pub whole : (end : RunEnd) → status ≡ status_of end → caused end × WritesAsUnmoved gives s bytes cut end left (Adds sink_old sink_new)
  -- at 4 the first bytes of it
  pub cut_off : status ≡ 4 → (end : RunEnd) × caused end × WritesAsUnmoved gives s bytes cut end left (AddsFront sink_old sink_new)
  -- at 5 the same, or nothing if memory ran out before all was served
  pub short : status ≡ 5 → Adds sink_old sink_new [] ⊎ ((end : RunEnd) × caused end × WritesAsUnmoved gives s bytes cut end left (AddsFront sink_old sink_new))
