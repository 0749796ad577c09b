-- What a turn does.
use Rattle.std.specs.Prelude.{◌≡◌, ◌≤◌, true}
use Rattle.nb_outside.specs.Feeds.{Seen}
use Rattle.session_core.specs.declared.request.Request.{Request}
use Rattle.session_core.specs.declared.entry.Entry.{Entry}
use Rattle.session_core.specs.Asks.{is_move}
use Rattle.session_core.specs.Meanings.{Meaning}
use Rattle.session_core.specs.Legal.{progress_of}
use Rattle.session_queues.specs.Ends.{Held, FoundNothing, looked_at_both, TookRequest}
use Rattle.session_gate.specs.Facts.{Holds, Owes, OwesNone, owner_of}
use Rattle.session_gate.specs.Slots.{IsServed}
use Rattle.session_gate.specs.declared.served.ServedAs.{ServedAs}
use Rattle.session_gate.specs.declared.served.ServedAs.TheVariants as how
use Rattle.hand_off.specs.Doing.{Ends}
use Rattle.host_workers.specs.declared.outcomes.Turn.{Turn}
use Rattle.host_workers.specs.declared.outcomes.Turn.TheVariants.{Ran, Died, Dead, Move, Nothing, OutOfMemory}

abbrev pub turn_of : ServedAs → Turn
turn_of how.Ran = Ran
turn_of how.Died = Died
turn_of how.Dead = Dead

-- the producers' lists are the same
abbrev pub HasLists : Held → Held → Type 0
HasLists old new = (new.queues ≡ old.queues) × (new.main.lists ≡ old.main.lists) × (new.main.given ≡ old.main.given)
    × (new.control.lists ≡ old.control.lists) × (new.control.given ≡ old.control.given)

module _ {E F : Type 0} where
  -- it is the same session, with the same producers' lists and a feed that was made with the same answers
  abbrev pub IsSameSession : (F → Seen) → Holds E F → Holds E F → Type 0
  IsSameSession seen old new = (new.number ≡ old.number) × (new.kernel ≡ old.kernel) × (new.hosts ≡ old.hosts)
      × ((seen new.feed).made ≡ (seen old.feed).made) × HasLists old.ends new.ends

  -- no entry came, and nothing else but the queues and the room
  abbrev pub IsAsBefore : Holds E F → Holds E F → Type 0
  IsAsBefore old new = (new.entries ≡ old.entries) × (new.engine ≡ old.engine) × (new.feed ≡ old.feed) × (new.out ≡ old.out)

  -- The front of control, or else of main, was answered by one entry, in this way: one request ended.
  pub record HasAnswered (meaning : Meaning) (served : ServedAs) (old new : Holds E F) : Type 0 where
    pub request : Request
    pub took : TookRequest old.ends request new.ends
    pub entry : Entry
    pub ended : Ends meaning old entry new
    pub as_served : IsServed served (owner_of old) request (progress_of old.entries).dead entry
    pub owes : OwesNone new
    pub out : new.out ≡ old.out

  -- What a turn leaves. It answered a request; or it popped a request to move, which is owed now, with room for three entries; or
  -- each of the two queues was found empty; or nothing was popped.
  abbrev pub HasTurned : Meaning → Holds E F → Turn → Holds E F → Type 0
  HasTurned meaning old Ran new = HasAnswered meaning how.Ran old new
  HasTurned meaning old Died new = HasAnswered meaning how.Died old new
  HasTurned meaning old Dead new = HasAnswered meaning how.Dead old new
  HasTurned meaning old (Move request) new = IsAsBefore old new × (is_move request.ask ≡ true) × TookRequest old.ends request new.ends × Owes new request × (3 ≤ new.spare)
  HasTurned meaning old Nothing new = IsAsBefore old new × (new.ends ≡ looked_at_both old.ends) × FoundNothing old.ends × OwesNone new
  HasTurned meaning old OutOfMemory new = IsAsBefore old new × (new.ends ≡ old.ends) × OwesNone new
