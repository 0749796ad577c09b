-- What the steps of a session on one thread decide.
use Rattle.std.specs.Prelude.{◌≡◌, ◌≢◌, ℕ, ◌<◌, ◌≤◌, true, false, ◌⊎◌, List, [], ◌∷◌, ◌++◌, Option, Some, None, Ok}
use Rattle.session_core.specs.declared.engine.RunFault.{RunFault}
use Rattle.session_core.specs.declared.engine.RunFault.TheVariants as run
use Rattle.session_core.specs.declared.entry.DiedCause.{DiedCause}
use Rattle.session_core.specs.declared.entry.DiedCause.TheVariants as died
use Rattle.session_core.specs.declared.entry.MoveRefusal.{MoveRefusal}
use Rattle.session_core.specs.declared.entry.MoveRefusal.TheVariants.{Stuck, SameHost, UnknownHost, BadWeights, DeadKernel}
use Rattle.graph_model.specs.declared.plan.Certified.{Certified}
use Rattle.session_core.specs.declared.request.Ask.{Ask}
use Rattle.session_core.specs.declared.request.Request.{Request}
use Rattle.session_core.specs.declared.entry.Entry.{Entry}
use Rattle.session_core.specs.declared.entry.Entry.TheVariants.{Sealed, Moved, Adopted, Resumed}
use Rattle.session_core.specs.declared.engine.Packed.{Packed}
use Rattle.session_core.specs.declared.engine.PackFault.{PackFault}
use Rattle.session_core.specs.declared.engine.PackFault.TheVariants as pack
use Rattle.session_core.specs.declared.judging.Verdict.{Verdict}
use Rattle.session_core.specs.declared.judging.Verdict.TheVariants.{Refuse, Stay, Go}
use Rattle.session_core.specs.Asks.{IsMove}
use Rattle.session_core.specs.Engines.{Packs}
use Rattle.session_core.specs.Meanings.{Served, Meaning, IsPacked}
use Rattle.session_core.specs.Legal.{Progress, progress_of, settled, IsLegal, IsReason, CanGo, MayTry, asked}
use Rattle.session_core.specs.Feeding.{drawn_in}

-- why a session dies at a fault of its engine
abbrev pub cause_of : RunFault → DiedCause
cause_of run.OutOfMemory = died.OutOfMemory
cause_of (run.TooMany which draws) = died.TooMany which draws

-- a reason that needs no plan: the session is dead, is on that host, or there is no such host
abbrev pub IsEarly : ℕ → Progress → ℕ → MoveRefusal → Type 0
IsEarly hosts p to DeadKernel = p.dead ≡ true
IsEarly hosts p to SameHost = (p.dead ≡ false) × (to ≡ p.owner)
IsEarly hosts p to (UnknownHost host) = (p.dead ≡ false) × (to ≢ p.owner) × (hosts ≤ to) × (host ≡ to)
IsEarly hosts p to (BadWeights fault) = ⊥
IsEarly hosts p to (Stuck version cell names) = ⊥

-- none of them
abbrev pub IsFree : ℕ → Progress → ℕ → Type 0
IsFree hosts p to = (p.dead ≡ false) × (to ≢ p.owner) × (to < hosts)

-- the pack is one of what this list leaves, by a certified plan under some weights
abbrev pub IsPackOf : Meaning → List Served → Packed → Type 0
IsPackOf meaning served packed = IsPacked meaning served packed.certified.plan packed.bytes

-- a move of a session with these entries: it is sealed for the host and moved there, and then adopted with all its objects,
-- or resumed by its owner; and this holds of the host that owns it then
abbrev pub HasGone : Meaning → List Entry → List Entry → ℕ → Request → Request → Certified → (ℕ → Type 0) → Type 0
HasGone meaning old new to request again certified Holds =
    let host = (progress_of old).owner in
    ((objects : ℕ) × meaning.HasObjects (progress_of old).served objects × Holds to
    × (new ≡ ((old ++ Sealed host request to ∷ []) ++ Moved to ∷ []) ++ Adopted host to again certified objects ∷ []))
    ⊎ (Holds host × (new ≡ ((old ++ Sealed host request to ∷ []) ++ Moved to ∷ []) ++ Resumed host again ∷ []))

-- these entries, and more after them
abbrev pub GoesOn : List Entry → List Entry → Type 0
GoesOn old new = (more : List Entry) × (new ≡ old ++ more)

-- A request ended: the journal goes on, a legal one stays legal, and what was added answers this request and no other. The
-- session is settled. What was served is as before, and so are what the entries say was drawn and whether the session is dead.
pub record HasEnded (meaning : Meaning) (hosts : ℕ) (old new : List Entry) (request : Request) : Type 0 where
  pub goes_on : GoesOn old new
  pub legal : IsLegal meaning hosts old → IsLegal meaning hosts new
  pub answers : asked new ≡ asked old ++ request ∷ []
  pub phase : (progress_of new).phase ≡ settled
  pub served : (progress_of new).served ≡ (progress_of old).served
  pub drawn : drawn_in new ≡ drawn_in old
  pub dead : (progress_of new).dead ≡ (progress_of old).dead

-- why a pack that failed keeps a session where it is; none for want of memory
abbrev pub reason_of : PackFault → Option MoveRefusal
reason_of pack.OutOfMemory = None
reason_of (pack.BadWeights fault) = Some (BadWeights fault)
reason_of (pack.Stuck version cell names) = Some (Stuck version cell names)

module _ (meaning : Meaning) (hosts : ℕ) (p : Progress) where
  -- the session may go to that host, for which the move asks, by this pack of what it served
  abbrev pub GoesBy : Packed → ℕ → Ask → Type 0
  GoesBy packed to ask = IsMove (λ asked weights. (to ≡ asked) × CanGo meaning hosts p asked × Packs meaning p.served weights (Ok packed)) ask

  -- What is to be done about a request to move: it is refused for the first reason that holds; the session stays if none holds but
  -- perhaps the last; or it goes by a pack, with a copy of the request.
  abbrev pub IsVerdict : Request → Verdict → Type 0
  IsVerdict r (Refuse reason) = IsMove (λ to weights. IsReason meaning hosts p to weights reason) r.ask
  IsVerdict r Stay = IsMove (MayTry meaning hosts p) r.ask
  IsVerdict r (Go again to packed) = (again ≡ r) × GoesBy packed to r.ask
