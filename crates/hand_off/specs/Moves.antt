-- What a move leaves of a session.
use Rattle.std.specs.Prelude.{◌≡◌, ℕ, ◌+◌, List, [], ◌∷◌, ◌++◌}
use Rattle.session_core.specs.declared.request.Request.{Request}
use Rattle.session_core.specs.declared.entry.MoveRefusal.{MoveRefusal}
use Rattle.session_core.specs.declared.entry.Entry.TheVariants as entry
use Rattle.session_core.specs.Asks.{IsMove}
use Rattle.session_core.specs.Meanings.{Served, Meaning}
use Rattle.session_core.specs.Legal.{sealed, progress_of, IsReason, MayTry}
use Rattle.session_core.specs.Stepping.{GoesBy}
use Rattle.session_gate.specs.Facts.{Holds, Away, OwesNone, HasSame, HasNoted, owner_of}
use Rattle.hand_off.specs.declared.moving.Started.{Started}
use Rattle.hand_off.specs.declared.moving.Started.TheVariants.{Refused, Resumed, Sealed}

module _ {E F : Type 0} where
  -- What comes of an owed request to move. One entry more is noted, and nothing is owed then.
  -- It is refused for the first reason that holds. The session stays, for want of memory, if none holds but perhaps the last. Or it is
  -- sealed for the host that the request asks for, with a pack of what was served, by the plan of that pack, and with a copy of the request.
  abbrev pub HasStarted : Meaning → Holds E F → Request → Started E F → Type 0
  HasStarted meaning old r (Refused h) = ((reason : MoveRefusal) × IsMove (λ to weights. IsReason meaning old.hosts (progress_of old.entries) to weights reason) r.ask
      × HasNoted old h (entry.Refused (owner_of old) r reason)) × OwesNone h
  HasStarted meaning old r (Resumed h) = IsMove (MayTry meaning old.hosts (progress_of old.entries)) r.ask × HasNoted old h (entry.Resumed (owner_of old) r) × OwesNone h
  HasStarted meaning old r (Sealed p) = GoesBy meaning old.hosts (progress_of old.entries) (record { bytes = p.bytes; certified = p.certified }) p.to r.ask
      × HasNoted old p.held (entry.Sealed (owner_of old) r p.to) × (p.from ≡ owner_of old) × (p.again ≡ r)
      × ((progress_of p.held.entries).phase ≡ sealed p.again p.to) × OwesNone p.held

  -- The session goes on at the host that it was packed for, with what the bytes restore there, which stands for what was served.
  pub record HasArrived (meaning : Meaning) (IsImage : E → List ℕ → ℕ → Type 0) (host_of : E → ℕ) (Stands : E → List Served → Type 0) (p : Away E F) (h : Holds E F) : Type 0 where
    pub objects : ℕ
    pub all : meaning.HasObjects (progress_of p.held.entries).served objects
    pub entries : h.entries ≡ p.held.entries ++ entry.Adopted p.from p.to p.again p.certified objects ∷ []
    pub image : IsImage h.engine p.bytes p.to
    pub host : host_of h.engine ≡ p.to
    pub stands : Stands h.engine (progress_of p.held.entries).served
    pub owner : owner_of h ≡ p.to
    pub same : HasSame p.held h × (h.feed ≡ p.held.feed) × (p.held.spare ≡ h.spare + 1)

  -- the session stays with its engine on the host that packed it
  abbrev pub HasStayed : Away E F → Holds E F → Type 0
  HasStayed p h = HasNoted p.held h (entry.Resumed p.from p.again) × (owner_of h ≡ p.from)
