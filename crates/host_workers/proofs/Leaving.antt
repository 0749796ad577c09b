-- Sessions that move.
use Rattle.std.proofs.Common.{◌≡◌, ◌⊎◌, ℕ, List, inl, inr, sym, ap, ◌∙◌, subst}
use Rattle.nb_outside.specs.Feeds.{Seen}
use Rattle.session_core.specs.declared.request.Request.{Request}
use Rattle.session_core.specs.declared.entry.Entry.TheVariants.{Moved}
use Rattle.session_core.specs.Meanings.{Served, Meaning}
use Rattle.session_core.specs.Legal.{progress_of, sealed, arriving, moved}
use Rattle.session_core.proofs.Progressing.{progress_more}
use Rattle.session_gate.specs.Facts.{Holds, Away, OwesNone, HasNoted}
use Rattle.hand_off.specs.declared.moving.Started.TheVariants.{Refused, Resumed, Sealed}
use Rattle.hand_off.specs.Moves.{HasStarted, HasArrived, HasStayed}
use Rattle.host_workers.specs.Tenures.{IsSettledAs, IsSealedAs}
use Rattle.host_workers.proofs.Answering.{same_session, then_same}

module _ {E F : Type 0} where
  -- a parcel that came to its host
  pub came : (p q : Away E F) → (progress_of p.held.entries).phase ≡ sealed p.again p.to → HasNoted p.held q.held (Moved p.to) → q ≡ record p { held = q.held }
      → (progress_of q.held.entries).phase ≡ arriving q.again q.to
  came p q phase noted is = subst (λ (x : Away E F). (progress_of q.held.entries).phase ≡ arriving x.again x.to) (sym is)
      (ap (λ es. (progress_of es).phase) noted.2 ∙ ap (λ p. p.phase) (progress_more p.held.entries (Moved p.to)) ∙ ap moved phase)

module _ {E F : Type 0} (seen : F → Seen) where
  pub refused_as : (meaning : Meaning) (old : Holds E F) (r : Request) (h : Holds E F) → HasStarted meaning old r (Refused h) → IsSettledAs seen old h
  refused_as meaning old r h told = (told.1, same_session seen old h told.0.2.1 told.0.2.4)

  pub resumed_as : (meaning : Meaning) (old : Holds E F) (r : Request) (h : Holds E F) → HasStarted meaning old r (Resumed h) → IsSettledAs seen old h
  resumed_as meaning old r h told = (told.2, same_session seen old h told.1.1 told.1.4)

  pub sealed_as : (meaning : Meaning) (old : Holds E F) (r : Request) (p : Away E F) → HasStarted meaning old r (Sealed p) → IsSealedAs seen old p
  sealed_as meaning old r p told = (told.5, same_session seen old p.held told.1.1 told.1.4, told.4)

  pub arrived_as : (meaning : Meaning) (IsImage : E → List ℕ → ℕ → Type 0) (host_of : E → ℕ) (Stands : E → List Served → Type 0) (p : Away E F) (h : Holds E F)
      → HasArrived meaning IsImage host_of Stands p h ⊎ HasStayed p h → OwesNone h → IsSettledAs seen p.held h
  arrived_as meaning IsImage host_of Stands p h (inl told) owes = (owes, same_session seen p.held h told.same.1 told.same.0)
  arrived_as meaning IsImage host_of Stands p h (inr told) owes = (owes, same_session seen p.held h told.0.1 told.0.4)

  -- sealed, moved and arrived at once
  pub whole_move : (old : Holds E F) (p q : Away E F) (h : Holds E F) → IsSealedAs seen old p → HasNoted p.held q.held (Moved p.to) → IsSettledAs seen q.held h → IsSettledAs seen old h
  whole_move old p q h sealed_so noted arrived_so =
      (arrived_so.0, then_same seen old p.held h sealed_so.1 (then_same seen p.held q.held h (same_session seen p.held q.held noted.1 noted.4) arrived_so.1))
