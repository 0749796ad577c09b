-- What serving the links that come at a door did.
use Rattle.std.specs.Prelude.{◌≡◌, ◌≢◌, ℕ, ◌+◌, List, ◌++◌, length, All, Option, Some, None}
use Rattle.session_core.specs.Meanings.{Meaning}
use Rattle.reply_frames.specs.declared.node.NodeError.{NodeError}
use Rattle.node_run.specs.Journals.{Answers, ServedSession}
use Rattle.nb_outside.specs.Counts.{HasRisen}
use Rattle.nb_links.specs.Lines.{Line}
use Rattle.nb_links.specs.Doors.{Passed}
use Rattle.node_serve.specs.declared.report.LinkEnd.{LinkEnd}
use Rattle.node_serve.specs.declared.report.LinkEnd.TheVariants.{LinkFault}
use Rattle.node_serve.specs.Links.{HasServed}
use Rattle.node_serve.specs.Sent.{WentOn, left_of}

-- nothing is told of what feeds are made with
abbrev pub untold : Answers
untold kernel = None

-- Of a link that came fresh: for the bytes that it gave and all that it was sent, it is as serving leaves a link on 3 hosts; and if that
-- ended with a fault of the link, it met one.
abbrev pub IsServedLink : Meaning → Option Line → ℕ → Type 0
IsServedLink meaning None faults = Unit {0}
IsServedLink meaning (Some line) faults = (end : LinkEnd) × (errors : List NodeError) × (runs : List ServedSession)
    × HasServed meaning 3 untold end line.gave (Some line.left) line.sent errors runs × (end ≡ LinkFault → faults ≢ 0)

-- a link that stood so before was served, and stands so now
abbrev pub IsServed : Meaning → Option Line → ℕ → Option Line → ℕ → Type 0
IsServed meaning old faults new now = (end : LinkEnd) × (errors : List NodeError) × (runs : List ServedSession) × (taken : List ℕ) × (sent : List ℕ)
    × WentOn old new taken sent × HasServed meaning 3 untold end taken (left_of new) sent errors runs × (end ≡ LinkFault → HasRisen faults now)

module _ {L : Type 0} (meaning : Meaning) (line : L → Option Line) (faults : L → ℕ) where
  -- These links came, and were taken back after the others: as many as were wanted at status 0; and at each status but 5 all of them
  -- were served.
  pub record Back (wanted status : ℕ) (old new : Passed L) : Type 0 where
    pub links : List L
    pub back : new ≡ record { came = old.came + length links; back = old.back ++ links }
    pub all : status ≡ 0 → length links ≡ wanted
    pub served : status ≢ 5 → All (λ l. IsServedLink meaning (line l) (faults l)) links

  -- a door that tells nothing goes on telling nothing
  abbrev pub LinksServed : ℕ → ℕ → Option (Passed L) → Option (Passed L) → Type 0
  LinksServed wanted status None new = new ≡ None
  LinksServed wanted status (Some old) new = (passed : Passed L) × (new ≡ Some passed) × Back wanted status old passed
