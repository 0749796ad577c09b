-- What a poll takes of a link, and what a send adds to it.
use Rattle.std.specs.Prelude.{◌≡◌, ℕ, ◌<◌, ◌≤◌, List, [], ◌++◌, length, take, Option, Some, None}
use Rattle.nb_links.specs.declared.link.Polled.{Polled}
use Rattle.nb_links.specs.declared.link.Polled.TheVariants as poll
use Rattle.nb_links.specs.declared.link.SendEnd.{SendEnd}
use Rattle.nb_links.specs.declared.link.SendEnd.TheVariants as send

-- the bytes that a link gave, those that it has left, and those that it was sent
pub record Line : Type 0 where
  pub gave : List ℕ
  pub left : List ℕ
  pub sent : List ℕ

-- no byte was given or sent yet
abbrev pub IsFresh : Line → Type 0
IsFresh line = (line.gave ≡ []) × (line.sent ≡ [])

-- these bytes, the first of those that were left, are given; a link that doesn't tell goes on not telling
abbrev pub Gives : Option Line → Option Line → List ℕ → Type 0
Gives None new given = new ≡ None
Gives (Some line) new given = (rest : List ℕ) × (line.left ≡ given ++ rest) × (new ≡ Some (record line { gave = line.gave ++ given; left = rest }))

-- nothing is left, if that is told
abbrev pub IsDone : Option Line → Type 0
IsDone None = Unit {0}
IsDone (Some line) = line.left ≡ []

-- a poll gives the bytes that it wrote to the front of into, at least one; the end comes only if nothing is left
abbrev pub Polls : Option Line → Option Line → Polled → List ℕ → Type 0
Polls old new (poll.Bytes n) into = (0 < n) × (n ≤ length into) × Gives old new (take n into)
Polls old new poll.NotYet into = new ≡ old
Polls old new poll.End into = (new ≡ old) × IsDone old
Polls old new poll.Failed into = new ≡ old
Polls old new poll.OutOfMemory into = new ≡ old

-- these bytes are sent after the others
abbrev pub Adds : Option Line → Option Line → List ℕ → Type 0
Adds None new bytes = new ≡ None
Adds (Some line) new bytes = new ≡ Some (record line { sent = line.sent ++ bytes })

-- a send adds the first of its bytes, as many as it says, and at least one of a piece that isn't empty
abbrev pub Sends : Option Line → Option Line → SendEnd → List ℕ → Type 0
Sends old new (send.Wrote n) bytes = (n ≤ length bytes) × Adds old new (take n bytes) × (0 < length bytes → 0 < n)
Sends old new send.Failed bytes = new ≡ old
Sends old new send.OutOfMemory bytes = new ≡ old
