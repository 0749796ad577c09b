-- What a turn leaves.
use Rattle.std.proofs.Common.{◌≡◌, ℕ, Bool, [], ◌∷◌, ◌++◌, inl, inr, refl, sym, ap, ◌∙◌, subst}
use Rattle.nb_outside.specs.Feeds.{Seen}
use Rattle.session_core.specs.declared.request.Request.{Request}
use Rattle.session_core.specs.declared.entry.Entry.{Entry}
use Rattle.session_core.specs.declared.entry.Entry.TheVariants.{Opened, Ran, Died, Dead, Sealed, Moved, Adopted, Refused, Resumed}
use Rattle.session_core.specs.Entries.{IsEnd}
use Rattle.session_core.specs.Meanings.{Meaning}
use Rattle.session_core.specs.Legal.{settled, progress_of, IsLegal}
use Rattle.session_core.proofs.Progressing.{progress_more}
use Rattle.session_core.proofs.Stepping.{noted_owner}
use Rattle.session_queues.specs.Ends.{Held, FoundNothing, looked_at_both, TookRequest}
use Rattle.session_gate.specs.Answered.{IsAnswered}
use Rattle.session_gate.specs.Facts.{Holds, OwesNone, IsSettled, HasSame, owner_of}
use Rattle.session_gate.specs.Slots.{IsServed}
use Rattle.session_gate.specs.declared.served.ServedAs.{ServedAs}
use Rattle.session_gate.specs.declared.served.ServedAs.TheVariants as how
use Rattle.hand_off.proofs.Doing.{ends_does}
use Rattle.host_workers.specs.Turns.{turn_of, HasLists, IsSameSession, IsAsBefore, HasAnswered, HasTurned}

-- ---- the producers' lists

pub same_lists : (old new : Held) → new ≡ old → HasLists old new
same_lists old new is = subst (HasLists old) (sym is) (refl, refl, refl, refl, refl)

pub took_lists : (old new : Held) (r : Request) → TookRequest old r new → HasLists old new
took_lists old new r (inl t) = (ap (λ e. e.queues) t.2, ap (λ e. e.main.lists) t.2, ap (λ e. e.main.given) t.2, ap (λ v. v.lists) t.1.now, ap (λ v. v.given) t.1.now)
took_lists old new r (inr t) = (ap (λ e. e.queues) t.3, ap (λ v. v.lists) t.1.now, ap (λ v. v.given) t.1.now, ap (λ e. e.control.lists) t.3, ap (λ e. e.control.given) t.3)

-- looks that find nothing
pub looked_lists : (old new : Held) → new ≡ looked_at_both old → HasLists old new
looked_lists old new is = subst (HasLists old) (sym is) (refl, refl, refl, refl, refl)

pub looked_nothing : (old new : Held) → new ≡ looked_at_both old → FoundNothing old → FoundNothing new
looked_nothing old new is h = subst FoundNothing (sym is) (record { of_each = h.0.of_each; later = h.0.later }, record { of_each = h.1.of_each; later = h.1.later })

both_lists : (a b c : Held) → HasLists a b → HasLists b c → HasLists a c
both_lists a b c h k = (k.0 ∙ h.0, k.1 ∙ h.1, k.2 ∙ h.2, k.3 ∙ h.3, k.4 ∙ h.4)

-- ---- an answer

served_is_end : (served : ServedAs) (owner : ℕ) (r : Request) (dead : Bool) (e : Entry) → IsServed served owner r dead e → IsEnd (λ x. x ≡ r) e
served_is_end served owner r dead (Opened host request channel) h = absurd h
served_is_end served owner r dead (Ran host request draws reply) h = h.3
served_is_end served owner r dead (Died host request count cause) h = h.3
served_is_end served owner r dead (Dead host request count) h = h.3
served_is_end served owner r dead (Sealed host request to) h = absurd h
served_is_end served owner r dead (Moved to) h = absurd h
served_is_end served owner r dead (Adopted from to request certified objects) h = absurd h
served_is_end served owner r dead (Refused host request reason) h = absurd h
served_is_end served owner r dead (Resumed host request) h = absurd h

module _ {E F : Type 0} (seen : F → Seen) where
  pub same_session : (old new : Holds E F) → new.feed ≡ old.feed → HasSame old new → IsSameSession seen old new
  same_session old new feed same = (same.2, same.4, same.3, ap (λ f. (seen f).made) feed, same_lists old.ends new.ends same.0)

  pub then_same : (a b c : Holds E F) → IsSameSession seen a b → IsSameSession seen b c → IsSameSession seen a c
  then_same a b c h k = (k.0 ∙ h.0, k.1 ∙ h.1, k.2 ∙ h.2, k.3 ∙ h.3, both_lists a.ends b.ends c.ends h.4 k.4)

  -- ---- what a lease tells of each step

  -- room was made
  abbrev pub HasRoom : Holds E F → Holds E F → Type 0
  HasRoom old new = (new.engine ≡ old.engine) × (new.feed ≡ old.feed) × (new.entries ≡ old.entries) × HasSame old new

  -- something was popped, or looked for
  abbrev pub HasPopped : Holds E F → Holds E F → Type 0
  HasPopped old new = (new.engine ≡ old.engine) × (new.feed ≡ old.feed) × (new.entries ≡ old.entries) × (new.spare ≡ old.spare)
      × (new.out ≡ old.out) × (new.number ≡ old.number) × (new.hosts ≡ old.hosts) × (new.kernel ≡ old.kernel)

  pub room_same : (old new : Holds E F) → HasRoom old new → IsSameSession seen old new
  room_same old new h = same_session old new h.1 h.3

  pub popped_same : (old new : Holds E F) → HasPopped old new → HasLists old.ends new.ends → IsSameSession seen old new
  popped_same old new h lists = (h.5, h.7, h.6, ap (λ f. (seen f).made) h.1, lists)

  pub popped_before : (old mid new : Holds E F) → HasRoom old mid → HasPopped mid new → IsAsBefore old new
  popped_before old mid new r p = (p.2 ∙ r.2, p.0 ∙ r.0, p.1 ∙ r.1, p.4 ∙ r.3.1)

  pub room_before : (old new : Holds E F) → HasRoom old new → IsAsBefore old new
  room_before old new r = (r.2, r.0, r.1, r.3.1)

  pub owes_room : (old new : Holds E F) → HasRoom old new → OwesNone old → OwesNone new
  owes_room old new r owes = subst (λ k. IsAnswered k new.entries new.ends []) (sym r.3.4) (subst (λ es. IsAnswered old.kernel es new.ends []) (sym r.2) (subst (λ (e : Held). IsAnswered old.kernel old.entries e []) (sym r.3.0) owes))

  -- looks that find nothing owe nothing
  pub owes_looked : (mid new : Holds E F) → HasPopped mid new → new.ends ≡ looked_at_both mid.ends → OwesNone mid → OwesNone new
  owes_looked mid new p looked owes =
      subst (λ k. IsAnswered k new.entries new.ends []) (sym p.7) (subst (λ es. IsAnswered mid.kernel es new.ends []) (sym p.2)
      (subst (λ (e : Held). IsAnswered mid.kernel mid.entries e []) (sym looked) (owes.0, owes.1)))

  pub took_from : (old mid : Holds E F) (new : Held) (r : Request) → HasRoom old mid → TookRequest mid.ends r new → TookRequest old.ends r new
  took_from old mid new r room took = subst (λ (e : Held). TookRequest e r new) room.3.0 took

  pub looked_from : (old mid : Holds E F) (new : Held) → HasRoom old mid → new ≡ looked_at_both mid.ends → new ≡ looked_at_both old.ends
  looked_from old mid new room is = is ∙ ap looked_at_both room.3.0

  pub nothing_from : (old mid : Holds E F) → HasRoom old mid → FoundNothing mid.ends → FoundNothing old.ends
  nothing_from old mid room h = subst FoundNothing room.3.0 h

  module _ (meaning : Meaning) where
    -- a request was answered
    pub answered : (served : ServedAs) (old mid popped new : Holds E F) (request : Request) (e : Entry) → HasRoom old mid → HasPopped mid popped → TookRequest mid.ends request popped.ends
        → HasSame popped new → new.entries ≡ popped.entries ++ e ∷ [] → IsServed served (owner_of popped) request (progress_of popped.entries).dead e
        → OwesNone new → IsSettled mid → IsLegal meaning new.hosts new.entries → HasAnswered meaning served old new
    answered served old mid popped new request e room pop took same entries as_served owes phase legal =
        let before : popped.entries ≡ old.entries = pop.2 ∙ room.2 in
        let is : new.entries ≡ old.entries ++ e ∷ [] = entries ∙ ap (λ es. es ++ e ∷ []) before in
        let hosts : new.hosts ≡ old.hosts = same.3 ∙ pop.6 ∙ room.3.3 in
        let ends_it = served_is_end served (owner_of popped) request (progress_of popped.entries).dead e as_served in
        let settled_before : (progress_of old.entries).phase ≡ settled = ap (λ es. (progress_of es).phase) (sym room.2) ∙ phase in
        let owner : owner_of new ≡ owner_of old = ap (λ es. (progress_of es).owner) is ∙ ap (λ p. p.owner) (progress_more old.entries e) ∙ noted_owner (progress_of old.entries) e request ends_it in record {
          request = request;
          took = subst (λ (x : Held). TookRequest old.ends request x) (sym same.0) (took_from old mid popped.ends request room took);
          entry = e;
          ended = (is, ends_does meaning old.hosts old.entries new.entries e request (owner_of old) (owner_of new) is (subst (λ n. IsLegal meaning n new.entries) hosts legal) ends_it settled_before owner);
          as_served = subst (λ es. IsServed served (progress_of es).owner request (progress_of es).dead e) before as_served;
          owes = owes;
          out = same.1 ∙ pop.4 ∙ room.3.1;
        }

    pub turned_as : (served : ServedAs) (old new : Holds E F) → HasAnswered meaning served old new → HasTurned meaning old (turn_of served) new
    turned_as how.Ran old new h = h
    turned_as how.Died old new h = h
    turned_as how.Dead old new h = h
