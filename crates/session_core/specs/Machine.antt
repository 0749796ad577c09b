-- A session as a machine: two lists of waiting requests, a journal, and where its Resident is; and what may happen to it.
use Rattle.std.specs.Prelude.{◌≡◌, ℕ, ◌⊎◌, cond, List, [], ◌∷◌, ◌++◌, filter}
use Rattle.session_core.specs.declared.request.Header.{Header}
use Rattle.session_core.specs.declared.request.Channel.{Channel}
use Rattle.session_core.specs.declared.request.Request.{Request}
use Rattle.session_core.specs.declared.entry.Entry.{Entry}
use Rattle.session_core.specs.declared.entry.Entry.TheVariants.{Opened, Ran, Died, Dead, Sealed, Moved, Adopted, Refused, Resumed}
use Rattle.session_core.specs.Asks.{is_main, is_control}
use Rattle.session_core.specs.Entries.{IsEnd, IsArrival}
use Rattle.session_core.specs.Meanings.{Meaning}
use Rattle.session_core.specs.Legal.{settled, sealed, arriving, Progress, progress_of, MayCome}

-- where the Resident is, which owns the engine and the journal
pub data Seat : Type 0 where
  in_cell : Seat
  out_with : ℕ → Seat
  parcel_for : ℕ → Seat
  carried_by : ℕ → Seat

-- the requests that wait
pub record Waiting : Type 0 where
  pub main : List Request
  pub control : List Request

pub record Session : Type 0 where
  pub waiting : Waiting
  pub journal : List Entry
  pub seat : Seat

-- a request joins the end of its list
abbrev pub joined : Waiting → Request → Waiting
joined w r = cond (is_control r) (record w { control = w.control ++ r ∷ [] }) (record w { main = w.main ++ r ∷ [] })

-- the request was at the front of one of the lists, and is taken off
abbrev pub IsTaken : Waiting → Waiting → Request → Type 0
IsTaken old new r = ((old.main ≡ r ∷ new.main) × (new.control ≡ old.control)) ⊎ ((old.control ≡ r ∷ new.control) × (new.main ≡ old.main))

-- what happens in one step
pub data Event : Type 0 where
  -- a request is admitted
  admit : Request → Event
  -- the owner takes the Resident out of its cell
  claim : Event
  -- a request ends with this entry
  ends : Entry → Event
  -- the Resident is put back
  give : Event
  -- the session is packed, with this entry
  seal : Entry → Event
  -- the pack comes to its host
  move : Event
  -- the move ends with this entry
  adopt : Entry → Event

-- just opened, on this host
abbrev pub opened_session : ℕ → Header → Channel → Session
opened_session host request channel = record { waiting = record { main = []; control = [] }; journal = Opened host request channel ∷ []; seat = in_cell }

-- the entry is a Sealed, and this holds of its request and its host
abbrev pub IsSealed : (Request → ℕ → Type 0) → Entry → Type 0
IsSealed P (Opened host request channel) = ⊥
IsSealed P (Ran host request draws reply) = ⊥
IsSealed P (Died host request count cause) = ⊥
IsSealed P (Dead host request count) = ⊥
IsSealed P (Sealed host request to) = P request to
IsSealed P (Moved to) = ⊥
IsSealed P (Adopted from to request certified objects) = ⊥
IsSealed P (Refused host request reason) = ⊥
IsSealed P (Resumed host request) = ⊥

module _ (meaning : Meaning) (hosts : ℕ) where
  -- the entry may come, and is the journal's last now
  abbrev pub IsNoted : List Entry → List Entry → Entry → Type 0
  IsNoted old new e = MayCome meaning hosts (progress_of old) e × (new ≡ old ++ e ∷ [])

  abbrev pub Happens : Session → Event → Session → Type 0
  Happens old (admit r) new = new ≡ record old { waiting = joined old.waiting r }
  Happens old claim new = (old.seat ≡ in_cell) × (new ≡ record old { seat = out_with (progress_of old.journal).owner })
  Happens old (ends e) new = ((host : ℕ) × (old.seat ≡ out_with host)) × (new.seat ≡ old.seat)
      × IsEnd (IsTaken old.waiting new.waiting) e × IsNoted old.journal new.journal e
  Happens old give new = ((host : ℕ) × (old.seat ≡ out_with host)) × (new ≡ record old { seat = in_cell })
  Happens old (seal e) new = ((host : ℕ) × (old.seat ≡ out_with host))
      × IsSealed (λ r to. IsTaken old.waiting new.waiting r × (new.seat ≡ parcel_for to)) e × IsNoted old.journal new.journal e
  Happens old move new = (host : ℕ) × (old.seat ≡ parcel_for host) × (new.seat ≡ carried_by host)
      × (new.waiting ≡ old.waiting) × IsNoted old.journal new.journal (Moved host)
  Happens old (adopt e) new = ((host : ℕ) × (old.seat ≡ carried_by host)) × (new.seat ≡ out_with (progress_of new.journal).owner)
      × (new.waiting ≡ old.waiting) × IsArrival e × IsNoted old.journal new.journal e

  -- these happen one after the other
  abbrev pub Happen : Session → List Event → Session → Type 0
  Happen old [] new = new ≡ old
  Happen old (event ∷ events) new = (next : Session) × Happens old event next × Happen next events new

-- ---- what was admitted

abbrev pub admitted : List Event → List Request
admitted [] = []
admitted (admit r ∷ events) = r ∷ admitted events
admitted (claim ∷ events) = admitted events
admitted (ends e ∷ events) = admitted events
admitted (give ∷ events) = admitted events
admitted (seal e ∷ events) = admitted events
admitted (move ∷ events) = admitted events
admitted (adopt e ∷ events) = admitted events

abbrev pub main_admitted : List Event → List Request
main_admitted events = filter is_main (admitted events)

abbrev pub control_admitted : List Event → List Request
control_admitted events = filter is_control (admitted events)

-- ---- who has the Resident

abbrev pub HasResident : Seat → ℕ → Type 0
HasResident in_cell host = ⊥
HasResident (out_with h) host = host ≡ h
HasResident (parcel_for h) host = ⊥
HasResident (carried_by h) host = host ≡ h

-- the Resident is where the journal says: put back or out with the owner, packed for a host, or carried by it
abbrev pub IsSeated : Seat → Progress → Type 0
IsSeated in_cell p = p.phase ≡ settled
IsSeated (out_with host) p = (p.phase ≡ settled) × (host ≡ p.owner)
IsSeated (parcel_for host) p = (request : Request) × (p.phase ≡ sealed request host)
IsSeated (carried_by host) p = (request : Request) × (p.phase ≡ arriving request host)
