-- Which events of a session, as a machine, a call is.
use Rattle.std.specs.Prelude.{◌≡◌, ℕ, List, [], ◌∷◌, ◌++◌}
use Rattle.session_core.specs.declared.request.Request.{Request}
use Rattle.session_core.specs.declared.entry.Entry.{Entry}
use Rattle.session_core.specs.Meanings.{Meaning}
use Rattle.session_core.specs.Legal.{main_asked, control_asked}
use Rattle.session_core.specs.Machine.{Seat, out_with, parcel_for, carried_by, Session, Event, ends, seal, adopt, Happen}
use Rattle.session_core.specs.Reaching.{BeginsWith}
use Rattle.session_gate.specs.Facts.{Holds, Away, owner_of}
use Rattle.hand_off.specs.declared.moving.Started.{Started}
use Rattle.hand_off.specs.declared.moving.Started.TheVariants.{Refused, Resumed, Sealed}

-- the machine's session has this journal and this seat, and of what was admitted, these lists, waits what the journal doesn't answer
pub record IsAs (main control : List Request) (seat : Seat) (entries : List Entry) (s : Session) : Type 0 where
  pub journal : s.journal ≡ entries
  pub sits : s.seat ≡ seat
  pub main_list : main ≡ main_asked entries ++ s.waiting.main
  pub control_list : control ≡ control_asked entries ++ s.waiting.control

module _ (meaning : Meaning) (hosts : ℕ) where
  -- these events lead from each session with the one journal and seat to one with the other, whatever was admitted, of which what is
  -- answered then is the first
  abbrev pub Does : Seat → List Entry → List Event → Seat → List Entry → Type 0
  Does from old events to new = (main control : List Request) → BeginsWith main (main_asked new) → BeginsWith control (control_asked new)
      → (s : Session) → IsAs main control from old s → (t : Session) × Happen meaning hosts s events t × IsAs main control to new t

module _ {E F : Type 0} (meaning : Meaning) where
  -- the owner ends a request with one entry
  abbrev pub Ends : Holds E F → Entry → Holds E F → Type 0
  Ends old e new = (new.entries ≡ old.entries ++ e ∷ []) × Does meaning old.hosts (out_with (owner_of old)) old.entries (ends e ∷ []) (out_with (owner_of new)) new.entries

  -- a request to move ends, or the session is sealed, with one entry
  abbrev pub Starts : Holds E F → Started E F → Type 0
  Starts old (Refused h) = (e : Entry) × Ends old e h
  Starts old (Resumed h) = (e : Entry) × Ends old e h
  Starts old (Sealed p) = (e : Entry) × (p.held.entries ≡ old.entries ++ e ∷ []) × Does meaning old.hosts (out_with (owner_of old)) old.entries (seal e ∷ []) (parcel_for p.to) p.held.entries

  -- a move ends with one entry
  abbrev pub Adopts : Away E F → Holds E F → Type 0
  Adopts p h = (e : Entry) × (h.entries ≡ p.held.entries ++ e ∷ []) × Does meaning p.held.hosts (carried_by p.to) p.held.entries (adopt e ∷ []) (out_with (owner_of h)) h.entries
