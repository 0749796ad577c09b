-- What a worker does between a take and a give.
use Rattle.std.proofs.Common.{◌≡◌, ◌⊎◌, inl, inr, ℕ, List, [], ◌∷◌, ◌++◌, append-nil, sym, ap, ◌∙◌, subst, Option}
use Rattle.nb_outside.specs.declared.feed.Drawn.{Drawn}
use Rattle.nb_outside.specs.Feeds.{Seen}
use Rattle.session_core.specs.declared.entry.Entry.{Entry}
use Rattle.session_core.specs.Meanings.{Meaning}
use Rattle.session_core.specs.Legal.{progress_of, asked, asked_by}
use Rattle.session_core.specs.Machine.{in_cell, out_with, parcel_for, claim, ends, give, seal}
use Rattle.session_core.proofs.Progressing.{asked_more}
use Rattle.session_queues.specs.declared.shared.SharedQueues.{SharedQueues}
use Rattle.session_gate.specs.Facts.{Holds, OwesNone, IsOurs, owner_of}
use Rattle.hand_off.specs.Doing.{Does, Ends}
use Rattle.hand_off.proofs.Doing.{claim_does, give_does, does_then}
use Rattle.session_gate.specs.declared.served.ServedAs.TheVariants as how
use Rattle.host_workers.specs.Turns.{IsSameSession, HasAnswered, HasTurned}
use Rattle.host_workers.specs.declared.outcomes.Turn.{Turn}
use Rattle.host_workers.specs.declared.outcomes.Turn.TheVariants as turn
use Rattle.host_workers.specs.Tenures.{IsSettledAs, IsTenure}
use Rattle.host_workers.specs.declared.outcomes.Tenure.{Tenure}
use Rattle.host_workers.specs.declared.outcomes.Tenure.TheVariants.{Answered, Unchanged, Sealed}
use Rattle.host_workers.proofs.Answering.{then_same}

module _ (meaning : Meaning) (hosts : ℕ) where
  asked_one : (old new : List Entry) (e : Entry) → new ≡ old ++ e ∷ [] → asked new ≡ asked old ++ asked_by (progress_of old).phase e
  asked_one old new e is = ap asked is ∙ asked_more old e

  -- a request ends between a claim and a give
  pub claimed_and_given : (old new : List Entry) (e : Entry) (to : ℕ) → new ≡ old ++ e ∷ [] → Does meaning hosts (out_with (progress_of old).owner) old (ends e ∷ []) (out_with to) new
      → Does meaning hosts in_cell old (claim ∷ ends e ∷ give ∷ []) in_cell new
  claimed_and_given old new e to is does =
      does_then meaning hosts in_cell (out_with to) in_cell old new new (claim ∷ ends e ∷ []) (give ∷ []) [] (sym (append-nil (asked new)))
      (does_then meaning hosts in_cell (out_with (progress_of old).owner) (out_with to) old old new (claim ∷ []) (ends e ∷ []) (asked_by (progress_of old).phase e) (asked_one old new e is) (claim_does meaning hosts old) does)
      (give_does meaning hosts new to)

  -- nothing happens between a claim and a give
  pub claimed_alone : (old new : List Entry) → new ≡ old → Does meaning hosts in_cell old (claim ∷ give ∷ []) in_cell new
  claimed_alone old new is = subst (λ es. Does meaning hosts in_cell old (claim ∷ give ∷ []) in_cell es) (sym is)
      (does_then meaning hosts in_cell (out_with (progress_of old).owner) in_cell old old old (claim ∷ []) (give ∷ []) [] (sym (append-nil (asked old))) (claim_does meaning hosts old) (give_does meaning hosts old (progress_of old).owner))

  -- the session is sealed after a claim
  pub claimed_and_sealed : (old new : List Entry) (e : Entry) (to : ℕ) → new ≡ old ++ e ∷ [] → Does meaning hosts (out_with (progress_of old).owner) old (seal e ∷ []) (parcel_for to) new
      → Does meaning hosts in_cell old (claim ∷ seal e ∷ []) (parcel_for to) new
  claimed_and_sealed old new e to is does =
      does_then meaning hosts in_cell (out_with (progress_of old).owner) (parcel_for to) old old new (claim ∷ []) (seal e ∷ []) (asked_by (progress_of old).phase e) (asked_one old new e is) (claim_does meaning hosts old) does

module _ {E F : Type 0} (seen : F → Seen) (meaning : Meaning) where
  pub answered_tenure : (old new : Holds E F) (e : Entry) → IsSettledAs seen old new → Ends meaning old e new → IsTenure seen meaning old (Answered new)
  answered_tenure old new e same h = (same, (e, claimed_and_given meaning old.hosts old.entries new.entries e (owner_of new) h.0 h.1))

  -- a turn that answered a request
  pub turned_tenure : (old new : Holds E F) (t : Turn) → (t ≡ turn.Ran) ⊎ (t ≡ turn.Died) ⊎ (t ≡ turn.Dead) → HasTurned meaning old t new → IsSameSession seen old new → IsTenure seen meaning old (Answered new)
  turned_tenure old new t (inl is) h same = let a : HasAnswered meaning how.Ran old new = subst (λ x. HasTurned meaning old x new) is h in answered_tenure old new a.entry (a.owes, same) a.ended
  turned_tenure old new t (inr (inl is)) h same = let a : HasAnswered meaning how.Died old new = subst (λ x. HasTurned meaning old x new) is h in answered_tenure old new a.entry (a.owes, same) a.ended
  turned_tenure old new t (inr (inr is)) h same = let a : HasAnswered meaning how.Dead old new = subst (λ x. HasTurned meaning old x new) is h in answered_tenure old new a.entry (a.owes, same) a.ended

  pub unchanged_tenure : (old new : Holds E F) → IsSettledAs seen old new → new.entries ≡ old.entries → IsTenure seen meaning old (Unchanged new)
  unchanged_tenure old new same is = (same, claimed_alone meaning old.hosts old.entries new.entries is)

  -- what a tenure is for the lease before, with which the session was as here
  pub tenure_from : (old mid : Holds E F) (t : Tenure E F) → mid.entries ≡ old.entries → IsSameSession seen old mid → IsTenure seen meaning mid t → IsTenure seen meaning old t
  tenure_from old mid (Answered h) entries same told = (
    (told.0.0, then_same seen old mid h same told.0.1),
    (told.1.0, subst (λ n. Does meaning n in_cell old.entries (claim ∷ ends told.1.0 ∷ give ∷ []) in_cell h.entries) same.2 (subst (λ es. Does meaning mid.hosts in_cell es (claim ∷ ends told.1.0 ∷ give ∷ []) in_cell h.entries) entries told.1.1)),
  )
  tenure_from old mid (Unchanged h) entries same told = (
    (told.0.0, then_same seen old mid h same told.0.1),
    subst (λ n. Does meaning n in_cell old.entries (claim ∷ give ∷ []) in_cell h.entries) same.2 (subst (λ es. Does meaning mid.hosts in_cell es (claim ∷ give ∷ []) in_cell h.entries) entries told.1),
  )
  tenure_from old mid (Sealed p) entries same told = (
    (told.0.0, then_same seen old mid p.held same told.0.1, told.0.2),
    (told.1.0, subst (λ n. Does meaning n in_cell old.entries (claim ∷ seal told.1.0 ∷ []) (parcel_for p.to) p.held.entries) same.2 (subst (λ es. Does meaning mid.hosts in_cell es (claim ∷ seal told.1.0 ∷ []) (parcel_for p.to) p.held.entries) entries told.1.1)),
  )

  -- what was pushed on out changes nothing else
  pub published_owes : (old new : Holds E F) → new ≡ record old { out = new.out } → OwesNone old → OwesNone new
  published_owes old new is owes = subst OwesNone (sym is) owes

  -- a session that is a cell's still is
  pub ours_still : (session : SharedQueues × ℕ) (hosts : ℕ) (gives : ℕ → Option (List Drawn)) (old new : Holds E F) → IsOurs session hosts gives seen old → IsSettledAs seen old new → IsOurs session hosts gives seen new
  ours_still session hosts gives old new ours same = let s = same.1 in let l = s.4 in let bare = ours.4 in (
    l.0 ∙ ours.0,
    s.0 ∙ ours.1,
    s.2 ∙ ours.2,
    same.0,
    (l.1 ∙ bare.0, l.2 ∙ bare.1, l.3 ∙ bare.2, l.4 ∙ bare.3),
    s.3 ∙ ours.5 ∙ ap gives (sym s.1),
  )
