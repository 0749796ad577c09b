-- What the machine leads to.
use Rattle.std.specs.Prelude.{◌≡◌, ℕ, Bool, true, List, ◌++◌}
use Rattle.std.specs.List.{AllByRecursion}
use Rattle.session_core.specs.declared.request.Header.{Header}
use Rattle.session_core.specs.declared.request.Channel.{Channel}
use Rattle.session_core.specs.declared.request.Request.{Request}
use Rattle.session_core.specs.declared.entry.Entry.{Entry}
use Rattle.session_core.specs.Meanings.{Meaning}
use Rattle.session_core.specs.Machine.{Session, Event, opened_session, Happen, main_admitted, control_admitted}

-- each of these requests is of the list
abbrev pub AreAll : (Request → Bool) → List Request → Type 0
AreAll in_list rs = AllByRecursion (λ r. in_list r ≡ true) rs

-- those begin with these
abbrev pub BeginsWith : List Request → List Request → Type 0
BeginsWith all first = (rest : List Request) × (all ≡ first ++ rest)

-- some events lead from this opening to a session with this journal, and these are what was admitted to each of the two lists
pub record IsReached (meaning : Meaning) (hosts host : ℕ) (request : Header) (channel : Channel) (journal : List Entry) (main control : List Request) : Type 0 where
  pub events : List Event
  pub session : Session
  pub happens : Happen meaning hosts (opened_session host request channel) events session
  pub journal_is : session.journal ≡ journal
  pub main_is : main_admitted events ≡ main
  pub control_is : control_admitted events ≡ control
