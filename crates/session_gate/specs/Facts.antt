-- What contracts see of a Resident, a Lease and a Parcel, and what their types keep.
use Rattle.std.specs.Prelude.{◌≡◌, ℕ, ◌+◌, ◌≤◌, Bool, true, false, List, [], ◌∷◌, ◌++◌, slice_get, Option, Some, Ok}
use Rattle.nb_outside.specs.declared.feed.Drawn.{Drawn}
use Rattle.nb_outside.specs.Feeds.{Seen}
use Rattle.graph_model.specs.declared.plan.Certified.{Certified}
use Rattle.session_core.specs.declared.request.Ask.{Ask}
use Rattle.session_core.specs.declared.request.Request.{Request}
use Rattle.session_core.specs.declared.entry.Entry.{Entry}
use Rattle.session_core.specs.declared.engine.Packed.{Packed}
use Rattle.session_core.specs.Asks.{IsMove}
use Rattle.session_core.specs.Engines.{Packs}
use Rattle.session_core.specs.Meanings.{Served, Meaning}
use Rattle.session_core.specs.Legal.{Phase, settled, sealed, arriving, progress_of, IsLegal}
use Rattle.session_core.specs.Feeding.{HasFed}
use Rattle.session_queues.specs.declared.shared.SharedQueues.{SharedQueues}
use Rattle.session_queues.specs.Passes.{KeepsAll}
use Rattle.session_queues.specs.Ends.{Held, Outgoing, AreFirst}
use Rattle.session_gate.specs.Answered.{IsAnswered}

-- what a contract sees of a session's owner: engine and feed, the journal with its room, the ends of the queues, the session's
-- number, its kernel and the number of hosts
pub record Holds (E F : Type 0) : Type 0 where
  pub engine : E
  pub feed : F
  pub entries : List Entry
  pub spare : ℕ
  pub ends : Held
  -- what was pushed on out
  pub out : Outgoing
  pub number : ℕ
  pub kernel : ℕ
  pub hosts : ℕ

-- The journal is legal. While the session is alive the engine stands for what was served, on the owner, or last owner; once it is
-- dead the count is that of what was served.
pub record IsKept (meaning : Meaning) (Stands : List Served → Type 0) (host hosts : ℕ) (is_dead : Bool) (count : ℕ) (entries : List Entry) : Type 0 where
  pub legal : IsLegal meaning hosts entries
  pub dead : is_dead ≡ (progress_of entries).dead
  pub alive : is_dead ≡ false → Stands (progress_of entries).served × (host ≡ (progress_of entries).owner)
  pub counts : is_dead ≡ true → count ≡ meaning.count (progress_of entries).served

-- What was pushed on the session's out queue are the journal's first entries. Once the reader is closed nothing is known of it.
abbrev pub IsPublished : List Entry → Held → Outgoing → Type 0
IsPublished entries ends out = (out.out_queue ≡ ends.queues.out) × AreFirst out.pushed entries

-- all that a Resident keeps
pub record IsResident (meaning : Meaning) (Stands : List Served → Type 0) (host : ℕ) (seen : Seen) (hosts : ℕ) (is_dead : Bool) (count kernel : ℕ) (entries : List Entry) (ends : Held) (out : Outgoing) : Type 0 where
  pub kept : IsKept meaning Stands host hosts is_dead count entries
  pub answered : (owed : List Request) × IsAnswered kernel entries ends owed
  pub fed : HasFed seen.made entries seen
  pub published : IsPublished entries ends out

module _ {E F : Type 0} where
  abbrev pub owner_of : Holds E F → ℕ
  owner_of h = (progress_of h.entries).owner

  abbrev pub IsSettled : Holds E F → Type 0
  IsSettled h = (progress_of h.entries).phase ≡ settled

  -- every request that was popped is answered
  abbrev pub OwesNone : Holds E F → Type 0
  OwesNone h = IsAnswered h.kernel h.entries h.ends []

  -- every request that was popped is answered but this one, the last that was popped of its queue
  abbrev pub Owes : Holds E F → Request → Type 0
  Owes h r = IsAnswered h.kernel h.entries h.ends (r ∷ [])

  -- it holds no producer's lists
  abbrev pub IsBare : Holds E F → Type 0
  IsBare h = (h.ends.main.lists ≡ []) × (h.ends.main.given ≡ 0) × (h.ends.control.lists ≡ []) × (h.ends.control.given ≡ 0)

  -- it holds all producers' passes, joined into its own
  abbrev pub IsWhole : Holds E F → Type 0
  IsWhole h = KeepsAll h.ends.main × KeepsAll h.ends.control

  -- its feed was made with what the feed of its kernel gives
  abbrev pub IsGiven : (ℕ → Option (List Drawn)) → (F → Seen) → Holds E F → Type 0
  IsGiven gives seen h = (seen h.feed).made ≡ gives h.kernel

  -- it belongs to the queues that the name lists under its number, has the name's number of hosts, and the feed of its kernel
  abbrev pub IsIn : ℕ → List SharedQueues → (ℕ → Option (List Drawn)) → (F → Seen) → Holds E F → Type 0
  IsIn hosts queues gives seen h = (slice_get queues h.number ≡ Some h.ends.queues) × (h.hosts ≡ hosts) × IsGiven gives seen h

  -- It owes nothing, the producers' lists are elsewhere, and it is of the session with these queues and this number, with this number
  -- of hosts and the feed of its kernel.
  abbrev pub IsOurs : SharedQueues × ℕ → ℕ → (ℕ → Option (List Drawn)) → (F → Seen) → Holds E F → Type 0
  IsOurs session hosts gives seen h = (h.ends.queues ≡ session.0) × (h.number ≡ session.1) × (h.hosts ≡ hosts) × OwesNone h × IsBare h × IsGiven gives seen h

  -- the same session with another journal
  abbrev pub HasSame : Holds E F → Holds E F → Type 0
  HasSame old new = (new.ends ≡ old.ends) × (new.out ≡ old.out) × (new.number ≡ old.number) × (new.hosts ≡ old.hosts) × (new.kernel ≡ old.kernel)

  -- one entry more, and nothing else
  abbrev pub HasNoted : Holds E F → Holds E F → Entry → Type 0
  HasNoted old new e = (new.engine ≡ old.engine) × (new.feed ≡ old.feed) × (new.entries ≡ old.entries ++ e ∷ []) × (old.spare ≡ new.spare + 1) × HasSame old new

-- what a contract sees of a parcel
pub record Away (E F : Type 0) : Type 0 where
  pub held : Holds E F
  pub bytes : List ℕ
  pub certified : Certified
  -- the second copy of the request
  pub again : Request
  pub from : ℕ
  pub to : ℕ

-- where a parcel is: sealed for its host, with room for two entries; or arriving there, with room for one
abbrev pub IsOnItsWay : Phase → Request → ℕ → ℕ → Type 0
IsOnItsWay settled again to spare = ⊥
IsOnItsWay (sealed request host) again to spare = (request ≡ again) × (host ≡ to) × (2 ≤ spare)
IsOnItsWay (arriving request host) again to spare = (request ≡ again) × (host ≡ to) × (1 ≤ spare)

-- the bytes and the plan are a pack of what this list leaves, under the weights of the move
abbrev pub IsPackFor : Meaning → List Served → Packed → Ask → Type 0
IsPackFor meaning served packed ask = IsMove (λ _ weights. Packs meaning served weights (Ok packed)) ask

pub record IsParcel {E F : Type 0} (meaning : Meaning) (p : Away E F) : Type 0 where
  pub phase : IsOnItsWay (progress_of p.held.entries).phase p.again p.to p.held.spare
  pub from : p.from ≡ (progress_of p.held.entries).owner
  pub alive : (progress_of p.held.entries).dead ≡ false
  pub owes : OwesNone p.held
  pub packs : IsPackFor meaning (progress_of p.held.entries).served (record { bytes = p.bytes; certified = p.certified }) p.again.ask
