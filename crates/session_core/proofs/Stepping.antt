-- What a session on one thread keeps.
use Rattle.std.proofs.Common.{◌≡◌, ℕ, Bool, true, false, ◌||◌, List, [], ◌∷◌, ◌++◌, refl, sym, ap, ◌∙◌, subst, Err}
use Rattle.nb_outside.specs.declared.feed.Drawn.{Drawn}
use Rattle.session_core.specs.declared.request.Ask.{Ask}
use Rattle.session_core.specs.declared.request.Request.{Request}
use Rattle.session_core.specs.declared.entry.Entry.{Entry}
use Rattle.session_core.specs.declared.entry.Entry.TheVariants.{Opened, Ran, Died, Dead, Sealed, Moved, Adopted, Refused, Resumed}
use Rattle.session_core.specs.declared.entry.DiedCause.{DiedCause}
use Rattle.session_core.specs.declared.engine.RunFault.{RunFault}
use Rattle.session_core.specs.declared.engine.RunFault.TheVariants as run
use Rattle.session_core.specs.Engines.{RunsOn}
use Rattle.session_core.specs.Stepping.{cause_of, GoesOn}
use Rattle.session_core.specs.Asks.{is_end}
use Rattle.session_core.specs.Meanings.{Served, Meaning, more, HasNoEnd}
use Rattle.session_core.specs.Legal.{Phase, settled, Progress, after, all_after, before_all, progress_of, IsCause, MayCome, IsLegal, if_settled, asked_by, asked}
use Rattle.session_core.specs.Entries.{IsEnd}
use Rattle.session_core.specs.Machine.{IsNoted}
use Rattle.session_core.specs.Feeding.{drawn_by, drawn_in}
use Rattle.session_core.proofs.Progressing.{progress_more, asked_more, legal_more}
use Rattle.session_core.proofs.Feeding.{drawn_still}

none_of_two : (a b : Bool) → a || b ≡ false → (a ≡ false) × (b ≡ false)
none_of_two true b h = let no : ⊥ = cc in absurd no
none_of_two false b h = (refl, h)

no_end_more : (served : List Served) (ask : Ask) (draws : List Drawn) → HasNoEnd served → is_end ask ≡ false → HasNoEnd (more served ask draws)
no_end_more [] ask draws h is = (is, tt)
no_end_more (s ∷ served) ask draws h is = (h.0, no_end_more served ask draws h.1 is)

no_end_after : (p : Progress) (e : Entry) → (p.dead ≡ false → HasNoEnd p.served) → (after p e).dead ≡ false → HasNoEnd (after p e).served
no_end_after p (Opened host request channel) h alive = tt
no_end_after p (Ran host request draws reply) h alive = let both = none_of_two p.dead (is_end request.ask) alive in no_end_more p.served request.ask draws (h both.0) both.1
no_end_after p (Died host request count cause) h alive = let no : ⊥ = cc in absurd no
no_end_after p (Dead host request count) h alive = h alive
no_end_after p (Sealed host request to) h alive = h alive
no_end_after p (Moved to) h alive = h alive
no_end_after p (Adopted from to request certified objects) h alive = h alive
no_end_after p (Refused host request reason) h alive = h alive
no_end_after p (Resumed host request) h alive = h alive

no_end_all : (p : Progress) (es : List Entry) → (p.dead ≡ false → HasNoEnd p.served) → (all_after p es).dead ≡ false → HasNoEnd (all_after p es).served
no_end_all p [] h alive = h alive
no_end_all p (e ∷ es) h alive = no_end_all (after p e) es (no_end_after p e h) alive

-- what was served on a session that is alive didn't end it
pub alive_has_no_end : (es : List Entry) → (progress_of es).dead ≡ false → HasNoEnd (progress_of es).served
alive_has_no_end es alive = no_end_all before_all es (λ _. tt) alive

-- why it died, by what its engine answered
pub cause_is : (meaning : Meaning) (hosts : ℕ) (p : Progress) (ask : Ask) (fault : RunFault) (cause : DiedCause) → RunsOn meaning p.served ask (Err fault) → cause ≡ cause_of fault
    → IsCause meaning hosts p ask cause
cause_is meaning hosts p ask run.OutOfMemory cause h is = subst (IsCause meaning hosts p ask) (sym is) tt
cause_is meaning hosts p ask (run.TooMany which draws) cause h is = subst (IsCause meaning hosts p ask) (sym is) h

-- an entry that ends a request of a settled session
pub noted_phase : (p : Progress) (e : Entry) (r : Request) → p.phase ≡ settled → IsEnd (λ x. x ≡ r) e → (after p e).phase ≡ settled
noted_phase p (Opened host request channel) r is h = absurd h
noted_phase p (Ran host request draws reply) r is h = is
noted_phase p (Died host request count cause) r is h = is
noted_phase p (Dead host request count) r is h = is
noted_phase p (Sealed host request to) r is h = absurd h
noted_phase p (Moved to) r is h = absurd h
noted_phase p (Adopted from to request certified objects) r is h = absurd h
noted_phase p (Refused host request reason) r is h = is
noted_phase p (Resumed host request) r is h = refl

pub noted_owner : (p : Progress) (e : Entry) (r : Request) → IsEnd (λ x. x ≡ r) e → (after p e).owner ≡ p.owner
noted_owner p (Opened host request channel) r h = absurd h
noted_owner p (Ran host request draws reply) r h = refl
noted_owner p (Died host request count cause) r h = refl
noted_owner p (Dead host request count) r h = refl
noted_owner p (Sealed host request to) r h = absurd h
noted_owner p (Moved to) r h = absurd h
noted_owner p (Adopted from to request certified objects) r h = absurd h
noted_owner p (Refused host request reason) r h = refl
noted_owner p (Resumed host request) r h = refl

pub noted_asks : (phase : Phase) (e : Entry) (r : Request) → phase ≡ settled → IsEnd (λ x. x ≡ r) e → asked_by phase e ≡ r ∷ []
noted_asks phase (Opened host request channel) r is h = absurd h
noted_asks phase (Ran host request draws reply) r is h = ap (λ x. x ∷ []) h
noted_asks phase (Died host request count cause) r is h = ap (λ x. x ∷ []) h
noted_asks phase (Dead host request count) r is h = ap (λ x. x ∷ []) h
noted_asks phase (Sealed host request to) r is h = absurd h
noted_asks phase (Moved to) r is h = absurd h
noted_asks phase (Adopted from to request certified objects) r is h = absurd h
noted_asks phase (Refused host request reason) r is h = ap (λ x. x ∷ []) h
noted_asks phase (Resumed host request) r is h = ap (λ z. if_settled z request) is ∙ ap (λ x. x ∷ []) h

module _ (meaning : Meaning) (hosts : ℕ) where
  abbrev pub Ends : List Entry → List Entry → Request → Type 0
  Ends old new r = (e : Entry) × IsEnd (λ x. x ≡ r) e × IsNoted meaning hosts old new e

  pub ends_legal : (old new : List Entry) (r : Request) → Ends old new r → IsLegal meaning hosts old → IsLegal meaning hosts new
  ends_legal old new r (e, ends, (may, is)) legal = subst (IsLegal meaning hosts) (sym is) (legal_more meaning hosts old e legal may)

  pub ends_goes_on : (old new : List Entry) (r : Request) → Ends old new r → GoesOn old new
  ends_goes_on old new r (e, ends, (may, is)) = (e ∷ [], is)

  pub ends_phase : (old new : List Entry) (r : Request) → Ends old new r → (progress_of old).phase ≡ settled → (progress_of new).phase ≡ settled
  ends_phase old new r (e, ends, (may, is)) phase = ap (λ es. (progress_of es).phase) is ∙ ap (λ p. p.phase) (progress_more old e) ∙ noted_phase (progress_of old) e r phase ends

  pub ends_owner : (old new : List Entry) (r : Request) → Ends old new r → (progress_of new).owner ≡ (progress_of old).owner
  ends_owner old new r (e, ends, (may, is)) = ap (λ es. (progress_of es).owner) is ∙ ap (λ p. p.owner) (progress_more old e) ∙ noted_owner (progress_of old) e r ends

  pub ends_asked : (old new : List Entry) (r : Request) → Ends old new r → (progress_of old).phase ≡ settled → asked new ≡ asked old ++ r ∷ []
  ends_asked old new r (e, ends, (may, is)) phase = ap asked is ∙ asked_more old e ∙ ap (λ z. asked old ++ z) (noted_asks (progress_of old).phase e r phase ends)

  -- of a session that is dead
  dead_after : (p : Progress) (e : Entry) (r : Request) → IsEnd (λ x. x ≡ r) e → MayCome meaning hosts p e → p.dead ≡ true → ((after p e).dead ≡ true) × ((after p e).served ≡ p.served)
  dead_after p (Opened host request channel) r h may is = absurd h
  dead_after p (Ran host request draws reply) r h may is = let alive = may.1 in let no : ⊥ = cc in absurd no
  dead_after p (Died host request count cause) r h may is = (refl, refl)
  dead_after p (Dead host request count) r h may is = (is, refl)
  dead_after p (Sealed host request to) r h may is = absurd h
  dead_after p (Moved to) r h may is = absurd h
  dead_after p (Adopted from to request certified objects) r h may is = absurd h
  dead_after p (Refused host request reason) r h may is = (is, refl)
  dead_after p (Resumed host request) r h may is = (is, refl)

  pub dead_stays : (old new : List Entry) (r : Request) → Ends old new r → (progress_of old).dead ≡ true → (progress_of new).dead ≡ true
  dead_stays old new r (e, ends, (may, is)) dead = ap (λ es. (progress_of es).dead) is ∙ ap (λ p. p.dead) (progress_more old e) ∙ (dead_after (progress_of old) e r ends may dead).0

  pub dead_served : (old new : List Entry) (r : Request) → Ends old new r → (progress_of old).dead ≡ true → (progress_of new).served ≡ (progress_of old).served
  dead_served old new r (e, ends, (may, is)) dead = ap (λ es. (progress_of es).served) is ∙ ap (λ p. p.served) (progress_more old e) ∙ (dead_after (progress_of old) e r ends may dead).1

  dead_draws_none : (p : Progress) (e : Entry) (r : Request) → IsEnd (λ x. x ≡ r) e → MayCome meaning hosts p e → p.dead ≡ true → drawn_by e ≡ []
  dead_draws_none p (Opened host request channel) r h may is = absurd h
  dead_draws_none p (Ran host request draws reply) r h may is = let alive = may.1 in let no : ⊥ = cc in absurd no
  dead_draws_none p (Died host request count cause) r h may is = let alive = may.1 in let no : ⊥ = cc in absurd no
  dead_draws_none p (Dead host request count) r h may is = refl
  dead_draws_none p (Sealed host request to) r h may is = absurd h
  dead_draws_none p (Moved to) r h may is = absurd h
  dead_draws_none p (Adopted from to request certified objects) r h may is = absurd h
  dead_draws_none p (Refused host request reason) r h may is = refl
  dead_draws_none p (Resumed host request) r h may is = refl

  pub dead_drawn : (old new : List Entry) (r : Request) → Ends old new r → (progress_of old).dead ≡ true → drawn_in new ≡ drawn_in old
  dead_drawn old new r (e, ends, (may, is)) dead = drawn_still old new e is (dead_draws_none (progress_of old) e r ends may dead)
