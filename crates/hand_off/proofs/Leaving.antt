-- A session that is sealed.
use Rattle.std.proofs.Common.{◌≡◌, ℕ, [], ◌∷◌, ◌++◌, sym, ap, ap₂, ◌∙◌, subst}
use Rattle.session_core.specs.declared.request.Request.{Request}
use Rattle.session_core.specs.declared.engine.Packed.{Packed}
use Rattle.session_core.specs.declared.entry.Entry.{Entry}
use Rattle.session_core.specs.declared.entry.Entry.TheVariants as entry
use Rattle.session_core.specs.Entries.{IsEnd, IsArrival}
use Rattle.session_core.specs.Meanings.{Meaning}
use Rattle.session_core.specs.Legal.{sealed, arriving, progress_of, IsLegal}
use Rattle.session_core.specs.Stepping.{GoesBy}
use Rattle.session_core.proofs.Progressing.{progress_more}
use Rattle.session_core.proofs.Stepping.{noted_owner}
use Rattle.session_gate.specs.Facts.{Holds, Away, OwesNone, IsSettled, HasSame, HasNoted, owner_of}
use Rattle.hand_off.specs.declared.moving.Started.TheVariants.{Sealed}
use Rattle.hand_off.specs.Moves.{HasStarted}
use Rattle.hand_off.specs.Doing.{Ends, Starts, Adopts}
use Rattle.hand_off.proofs.Doing.{ends_does, seal_does, adopt_does}

pub left : {E F : Type 0} → (meaning : Meaning) (old : Holds E F) (r again : Request) (to : ℕ) (packed : Packed) (p : Away E F)
    → (again ≡ r) × GoesBy meaning old.hosts (progress_of old.entries) packed to r.ask → HasNoted old p.held (entry.Sealed (owner_of old) r to) → p.to ≡ to → p.from ≡ owner_of old
    → (p.bytes ≡ packed.bytes) × (p.certified ≡ packed.certified) × (p.again ≡ again) → (progress_of p.held.entries).phase ≡ sealed again to → OwesNone p.held
    → HasStarted meaning old r (Sealed p)
left meaning old r again to packed p goes noted there from kept phase owes =
    let same : packed ≡ record { bytes = p.bytes; certified = p.certified } = ap₂ (λ b c. record { bytes = b; certified = c }) (sym kept.0) (sym kept.1) in (
      subst (λ n. GoesBy meaning old.hosts (progress_of old.entries) (record { bytes = p.bytes; certified = p.certified }) n r.ask) (sym there)
          (subst (λ (x : Packed). GoesBy meaning old.hosts (progress_of old.entries) x to r.ask) same goes.1),
      subst (λ n. HasNoted old p.held (entry.Sealed (owner_of old) r n)) (sym there) noted,
      from,
      kept.2 ∙ goes.0,
      phase ∙ ap₂ sealed (sym kept.2) (sym there),
      owes,
    )

module _ {E F : Type 0} (meaning : Meaning) where
  -- a request to move ended with this entry
  pub ended_as : (old new : Holds E F) (e : Entry) (r : Request) → HasNoted old new e → IsSettled old → IsLegal meaning new.hosts new.entries → IsEnd (λ x. x ≡ r) e → Ends meaning old e new
  ended_as old new e r noted phase legal ends_it = (
    noted.2,
    ends_does meaning old.hosts old.entries new.entries e r (owner_of old) (owner_of new) noted.2 (subst (λ n. IsLegal meaning n new.entries) noted.4.3 legal) ends_it phase
        (ap (λ es. (progress_of es).owner) noted.2 ∙ ap (λ p. p.owner) (progress_more old.entries e) ∙ noted_owner (progress_of old.entries) e r ends_it),
  )

  -- the session is sealed
  pub sealed_as : (old : Holds E F) (r : Request) (to : ℕ) (p : Away E F) → HasNoted old p.held (entry.Sealed (owner_of old) r to) → p.to ≡ to → IsLegal meaning p.held.hosts p.held.entries → Starts meaning old (Sealed p)
  sealed_as old r to p noted there legal =
      let e = entry.Sealed (owner_of old) r p.to in
      let is : p.held.entries ≡ old.entries ++ e ∷ [] = noted.2 ∙ ap (λ n. old.entries ++ entry.Sealed (owner_of old) r n ∷ []) (sym there) in
      (e, is, seal_does meaning old.hosts old.entries p.held.entries (owner_of old) r (owner_of old) p.to is (subst (λ n. IsLegal meaning n p.held.entries) noted.4.3 legal))

  -- a move ended with this entry
  pub adopted_as : (p : Away E F) (h : Holds E F) (e : Entry) → h.entries ≡ p.held.entries ++ e ∷ [] → HasSame p.held h → IsLegal meaning h.hosts h.entries → IsArrival e
      → (progress_of p.held.entries).phase ≡ arriving p.again p.to → Adopts meaning p h
  adopted_as p h e is same legal arrives phase =
      (e, is, adopt_does meaning p.held.hosts p.held.entries h.entries e p.again p.to is (subst (λ n. IsLegal meaning n h.entries) same.3 legal) arrives phase)
