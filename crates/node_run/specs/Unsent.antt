-- What was read of the sessions that are open.
use Rattle.std.specs.Prelude.{◌≡◌, ℕ, ◌+◌, List, [], ◌∷◌, ◌++◌, Option, Some, None, slice_get, slice_set}
use Rattle.std.specs.List.{AllByRecursion}
use Rattle.session_core.specs.declared.entry.Entry.{Entry}
use Rattle.session_queues.specs.declared.shared.SharedQueues.{SharedQueues}
use Rattle.session_queues.specs.Ends.{OnOut}
use Rattle.reply_frames.specs.Replies.{entry_length}
use Rattle.node_run.specs.declared.open_session.OpenSession.{OpenSession}
use Rattle.node_run.specs.declared.open_session.NextEntry.{NextEntry}

abbrev pub entries_of : Option OnOut → List Entry
entries_of None = []
entries_of (Some out) = out.entries

-- the entries that were read of a session
abbrev pub read_of : OpenSession → List Entry
read_of o = entries_of o.reader

-- how many frames these entries have
abbrev pub frames_in : List Entry → ℕ
frames_in [] = 0
frames_in (e ∷ es) = entry_length e + frames_in es

-- the next frame's number is that after the frames of what was read
abbrev pub IsCounted : OpenSession → Type 0
IsCounted o = o.next ≡ 1 + frames_in (read_of o)

abbrev pub AreCounted : List OpenSession → Type 0
AreCounted os = AllByRecursion IsCounted os

-- a reader is one of these queues
abbrev pub IsReaderOf : SharedQueues → Option OnOut → Type 0
IsReaderOf queues None = Unit {0}
IsReaderOf queues (Some out) = out.out_queue ≡ queues.out

-- the readers are of the first of these queues, in order
abbrev pub AreReadable : List OpenSession → List SharedQueues → Type 0
AreReadable [] queues = Unit {0}
AreReadable (o ∷ os) [] = ⊥
AreReadable (o ∷ os) (q ∷ queues) = IsReaderOf q o.reader × AreReadable os queues

-- nothing was read of it
abbrev pub IsUnread : OpenSession → Type 0
IsUnread o = (read_of o ≡ []) × (o.next ≡ 1)

-- the sessions are still there, with what was read of them; of those that were opened since nothing was read
abbrev pub AreKept : List OpenSession → List OpenSession → Type 0
AreKept [] later = AllByRecursion IsUnread later
AreKept (o ∷ os) [] = ⊥
AreKept (o ∷ os) (l ∷ later) = ((l.kernel ≡ o.kernel) × (l.reader ≡ o.reader) × (l.next ≡ o.next)) × AreKept os later

-- they are the same but for what was read
abbrev pub AreAlike : List OpenSession → List OpenSession → Type 0
AreAlike [] [] = Unit {0}
AreAlike [] (l ∷ later) = ⊥
AreAlike (o ∷ os) [] = ⊥
AreAlike (o ∷ os) (l ∷ later) = ((l.kernel ≡ o.kernel) × (l.requests ≡ o.requests) × (l.pass ≡ o.pass)) × AreAlike os later

abbrev pub with_entry : OnOut → Entry → OnOut
with_entry out e = record out { entries = out.entries ++ e ∷ [] }

-- it was the next entry for this reader
abbrev pub HasTaken : Option OnOut → Entry → Option OnOut → Type 0
HasTaken None e new = ⊥
HasTaken (Some out) e new = new ≡ Some (with_entry out e)

-- the next entry of the session at this index was read, which has this kernel, and the next number
pub record HasRead (old : List OpenSession) (at : ℕ) (next : NextEntry) (new : List OpenSession) : Type 0 where
  pub session : OpenSession
  pub out : OnOut
  pub there : slice_get old at ≡ Some session
  pub is_read : session.reader ≡ Some out
  pub kernel : next.kernel ≡ session.kernel
  pub first : next.first ≡ session.next
  pub is : new ≡ slice_set old at (record session { reader = Some (with_entry out next.entry) })

-- the session at this index has this next number now
abbrev pub HasNumbered : List OpenSession → ℕ → ℕ → List OpenSession → Type 0
HasNumbered old at next new = (session : OpenSession) × (slice_get old at ≡ Some session) × (new ≡ slice_set old at (record session { next = next }))
