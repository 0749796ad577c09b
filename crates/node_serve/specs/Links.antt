-- What serving a link did.
use Rattle.std.specs.Prelude.{◌≡◌, ◌≤◌, ◌⊎◌, ℕ, Bool, true, false, List, ◌∷◌, ◌++◌, Option}
use Rattle.std.specs.List.{AllZip}
use Rattle.nb_outside.specs.declared.feed.Drawn.{Drawn}
use Rattle.nb_outside.specs.Counts.{HasRisen}
use Rattle.session_core.specs.declared.request.Request.{Request}
use Rattle.session_core.specs.declared.entry.Entry.{Entry}
use Rattle.session_core.specs.declared.entry.Entry.TheVariants.{Opened}
use Rattle.session_core.specs.Meanings.{Meaning}
use Rattle.session_core.specs.Legal.{settled, progress_of, IsLegal, main_asked, control_asked}
use Rattle.session_core.specs.Feeding.{drawn_in, AreFirstAnswers}
use Rattle.reply_frames.specs.declared.node.NodeError.{NodeError}
use Rattle.node_intake.specs.Intake.{Taken, Node, main_requests, control_requests}
use Rattle.node_intake.specs.Taking.{TookFront}
use Rattle.node_run.specs.declared.end.RunEnd.{RunEnd}
use Rattle.node_run.specs.declared.end.RunEnd.TheVariants.{Whole, Broken, SourceFailed, TooManyReads}
use Rattle.node_run.specs.Journals.{Answers, ServedSession, journals_of}
use Rattle.node_run.specs.Streams.{IsNodeOf, HasRun}
use Rattle.node_serve.specs.declared.report.LinkEnd.{LinkEnd}
use Rattle.node_serve.specs.declared.report.LinkEnd.TheVariants.{Ended, BadFrame, LinkFault}
use Rattle.node_serve.specs.Units.{IsAllOf, IsFrontOf}
use Rattle.node_serve.specs.Sent.{Wire, left_of, WentOn}

-- After the end of the link, and after a frame that is broken, all was sent. At a fault of the link the first bytes of it were, and
-- reading ended at the fault, or before.
abbrev pub HasSent : LinkEnd → RunEnd → Node → List (List Entry) → List ℕ → Type 0
HasSent Ended end node journals sent = (end ≡ Whole) × IsAllOf node journals sent
HasSent BadFrame end node journals sent = (end ≡ Broken) × IsAllOf node journals sent
HasSent LinkFault end node journals sent = IsFrontOf node journals sent

-- These errors, and these sessions that were served, are those of the node of the bytes that were taken of the link, which has this left;
-- and it was sent this.
pub record HasServed (meaning : Meaning) (hosts : ℕ) (gives : Answers) (end : LinkEnd) (taken : List ℕ) (left : Option (List ℕ)) (sent : List ℕ) (errors : List NodeError) (runs : List ServedSession) : Type 0 where
  pub run_end : RunEnd
  pub run : HasRun meaning hosts gives run_end taken left errors runs
  pub has_sent : HasSent end run_end run.node (journals_of runs) sent

-- ---- when memory ran out

-- The journal of a session that was opened so, as far as it came: it is legal; what it answers are the first of each of the two lists
-- that were asked; each move that was begun has ended; and what its cells drew is what its feed gave first.
pub record IsJournalSoFar (meaning : Meaning) (hosts : ℕ) (answers : Option (List Drawn)) (s : Taken) (es : List Entry) : Type 0 where
  pub legal : IsLegal meaning hosts es
  pub begins : (more : List Entry) × (es ≡ Opened s.host s.request s.channel ∷ more)
  pub main : (more : List Request) × (main_requests s ≡ main_asked es ++ more)
  pub control : (more : List Request) × (control_requests s ≡ control_asked es ++ more)
  pub settled : (progress_of es).phase ≡ settled
  pub fed : AreFirstAnswers answers (drawn_in es)

abbrev pub AreJournalsSoFar : Meaning → ℕ → Answers → List Taken → List (List Entry) → Type 0
AreJournalsSoFar meaning hosts gives sessions journals = AllZip (λ (s : Taken) (es : List Entry). IsJournalSoFar meaning hosts (gives s.kernel) s es) sessions journals

-- the node of the first whole frames of these bytes; or, where a frame is broken, that of all before it with its error
abbrev pub IsNodeSoFar : ℕ → List ℕ → Option (List ℕ) → Node → Type 0
IsNodeSoFar hosts taken left node = TookFront hosts taken (λ (n : Node). node ≡ n) ⊎ IsNodeOf hosts Broken taken left node

-- Frames were taken in of the first of the bytes that were taken of the link, which has this left. The sessions have journals as far as
-- they came, and the link was sent the first bytes of the errors and of these.
pub record HasServedSoFar (meaning : Meaning) (hosts : ℕ) (gives : Answers) (taken : List ℕ) (left : Option (List ℕ)) (sent : List ℕ) : Type 0 where
  pub node : Node
  pub is_node : IsNodeSoFar hosts taken left node
  pub journals : List (List Entry)
  pub are_journals : AreJournalsSoFar meaning hosts gives node.sessions journals
  pub has_sent : IsFrontOf node journals sent

-- ---- on the way

-- how serving ended, by whether the link was cut off and how reading ended
abbrev pub link_end_of : Bool → RunEnd → LinkEnd
link_end_of true end = LinkFault
link_end_of false Whole = Ended
link_end_of false Broken = BadFrame
link_end_of false SourceFailed = LinkFault
link_end_of false TooManyReads = LinkFault

-- what was served since the start, and a fault told only if one was met
pub record IsReported (meaning : Meaning) (hosts : ℕ) (gives : Answers) (start now : Wire) (end : LinkEnd) (errors : List NodeError) (runs : List ServedSession) : Type 0 where
  pub taken : List ℕ
  pub sent : List ℕ
  pub went : WentOn start.line now.line taken sent
  pub served : HasServed meaning hosts gives end taken (left_of now.line) sent errors runs
  pub stays : start.faults ≤ now.faults
  pub fault : end ≡ LinkFault → HasRisen start.faults now.faults

-- what was served since the start, until memory ran out
pub record IsStopped (meaning : Meaning) (hosts : ℕ) (gives : Answers) (start now : Wire) : Type 0 where
  pub taken : List ℕ
  pub sent : List ℕ
  pub went : WentOn start.line now.line taken sent
  pub served : HasServedSoFar meaning hosts gives taken (left_of now.line) sent
  pub stays : start.faults ≤ now.faults
