-- What a worker does with a session between a take and a give.
use Rattle.std.specs.Prelude.{◌≡◌, [], ◌∷◌}
use Rattle.nb_outside.specs.Feeds.{Seen}
use Rattle.session_core.specs.declared.entry.Entry.{Entry}
use Rattle.session_core.specs.Meanings.{Meaning}
use Rattle.session_core.specs.Legal.{progress_of, sealed}
use Rattle.session_core.specs.Machine.{in_cell, parcel_for, claim, ends, give, seal}
use Rattle.session_gate.specs.Facts.{Holds, Away, OwesNone}
use Rattle.hand_off.specs.Doing.{Does}
use Rattle.host_workers.specs.Turns.{IsSameSession}
use Rattle.host_workers.specs.declared.outcomes.Tenure.{Tenure}
use Rattle.host_workers.specs.declared.outcomes.Tenure.TheVariants.{Answered, Unchanged, Sealed}

module _ {E F : Type 0} where
  -- it is the same session, and owes nothing
  abbrev pub IsSettledAs : (F → Seen) → Holds E F → Holds E F → Type 0
  IsSettledAs seen old new = OwesNone new × IsSameSession seen old new

  -- the same session is sealed for its host
  abbrev pub IsSealedAs : (F → Seen) → Holds E F → Away E F → Type 0
  IsSealedAs seen old p = OwesNone p.held × IsSameSession seen old p.held × ((progress_of p.held.entries).phase ≡ sealed p.again p.to)

  -- What a worker leaves of a session that it took, and which events lead there from its cell: the owner claims it, a request ends
  -- and it is given back; or it is sealed; or nothing happens between.
  abbrev pub IsTenure : (F → Seen) → Meaning → Holds E F → Tenure E F → Type 0
  IsTenure seen meaning old (Answered new) = IsSettledAs seen old new × ((e : Entry) × Does meaning old.hosts in_cell old.entries (claim ∷ ends e ∷ give ∷ []) in_cell new.entries)
  IsTenure seen meaning old (Unchanged new) = IsSettledAs seen old new × Does meaning old.hosts in_cell old.entries (claim ∷ give ∷ []) in_cell new.entries
  IsTenure seen meaning old (Sealed p) = IsSealedAs seen old p × ((e : Entry) × Does meaning old.hosts in_cell old.entries (claim ∷ seal e ∷ []) (parcel_for p.to) p.held.entries)
