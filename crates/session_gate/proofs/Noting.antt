-- A journal that is one entry longer, and what its Resident then keeps.
use Rattle.std.proofs.Common.{◌≡◌, ℕ, Bool, true, false, List, [], ◌∷◌, ◌++◌, append_assoc, append-nil, refl, sym, ap, ap₂, ◌∙◌, subst, Option, Some, None}
use Rattle.nb_outside.specs.Feeds.{Seen}
use Rattle.session_core.specs.declared.request.Request.{Request}
use Rattle.session_core.specs.declared.entry.Entry.{Entry}
use Rattle.session_core.specs.declared.entry.Entry.TheVariants.{Opened, Ran, Died, Dead, Sealed, Moved, Adopted, Refused, Resumed}
use Rattle.session_core.specs.Entries.{IsEnd}
use Rattle.session_core.specs.Meanings.{Served, Meaning}
use Rattle.session_core.specs.Legal.{settled, after, progress_of, MayCome, IsLegal, asked_by, asked}
use Rattle.session_core.specs.Feeding.{drawn_by, Drew, HasFed}
use Rattle.session_core.proofs.Progressing.{progress_more, asked_more, legal_more}
use Rattle.session_core.proofs.Stepping.{noted_asks, Ends, ends_legal}
use Rattle.session_core.proofs.Feeding.{drawn_still, fed_still, fed_by}
use Rattle.session_queues.specs.declared.items.MainItem.{MainItem}
use Rattle.session_queues.specs.Ends.{Held, Outgoing, AreFirst, IsTakenOf}
use Rattle.session_gate.specs.Answered.{opening_by, opening_of, as_main, as_control, IsAnswered}
use Rattle.session_gate.specs.Facts.{IsPublished, IsResident}
use Rattle.session_gate.specs.Slots.{IsQuiet}

-- ---- what is answered

opening_more : (kernel : ℕ) (es : List Entry) (e : Entry) → opening_by kernel e ≡ [] → opening_of kernel (es ++ e ∷ []) ≡ opening_of kernel es
opening_more kernel [] e none = append-nil (opening_by kernel e) ∙ none
opening_more kernel (x ∷ es) e none = ap (λ l. opening_by kernel x ++ l) (opening_more kernel es e none)

-- once the owed request has its entry, nothing is owed
pub answered_more : (kernel : ℕ) (es : List Entry) (e : Entry) (ends : Held) (owed : List Request) → opening_by kernel e ≡ [] → IsAnswered kernel es ends owed → asked_by (progress_of es).phase e ≡ owed
    → IsAnswered kernel (es ++ e ∷ []) ends []
answered_more kernel es e ends owed none h asks =
    let same : asked (es ++ e ∷ []) ++ [] ≡ asked es ++ owed = append-nil (asked (es ++ e ∷ [])) ∙ asked_more es e ∙ ap (λ rs. asked es ++ rs) asks in
    (h.0 ∙ ap₂ (λ (o : List MainItem) (rs : List Request). o ++ as_main rs) (sym (opening_more kernel es e none)) (sym same), h.1 ∙ ap as_control (sym same))

ends_open_none : (kernel : ℕ) (e : Entry) (r : Request) → IsEnd (λ x. x ≡ r) e → opening_by kernel e ≡ []
ends_open_none kernel (Opened host request channel) r h = absurd h
ends_open_none kernel (Ran host request draws reply) r h = refl
ends_open_none kernel (Died host request count cause) r h = refl
ends_open_none kernel (Dead host request count) r h = refl
ends_open_none kernel (Sealed host request to) r h = refl
ends_open_none kernel (Moved to) r h = refl
ends_open_none kernel (Adopted from to request certified objects) r h = refl
ends_open_none kernel (Refused host request reason) r h = refl
ends_open_none kernel (Resumed host request) r h = refl

-- an entry that doesn't change the phase
pub settled_more : (es fs : List Entry) (e : Entry) → fs ≡ es ++ e ∷ [] → (progress_of es).phase ≡ settled → (after (progress_of es) e).phase ≡ (progress_of es).phase → (progress_of fs).phase ≡ settled
settled_more es fs e is phase same = ap (λ l. (progress_of l).phase) is ∙ ap (λ p. p.phase) (progress_more es e) ∙ same ∙ phase

pub settled_now : (es fs : List Entry) (e : Entry) → fs ≡ es ++ e ∷ [] → (after (progress_of es) e).phase ≡ settled → (progress_of fs).phase ≡ settled
settled_now es fs e is now = ap (λ l. (progress_of l).phase) is ∙ ap (λ p. p.phase) (progress_more es e) ∙ now

-- ---- what was drawn

-- an entry came for which this was taken
pub fed_more : (es fs : List Entry) (e : Entry) (seen now : Seen) → fs ≡ es ++ e ∷ [] → (progress_of es).dead ≡ false → Drew e seen now → HasFed seen.made es seen → HasFed now.made fs now
fed_more es fs e seen now is alive drew h = subst (λ made. HasFed made fs now) (sym drew.1.made) (fed_by seen.made es fs e seen now is alive drew h)

-- ---- what was pushed on out

first_more : (pushed : Option (List Entry)) (es : List Entry) (e : Entry) → AreFirst pushed es → AreFirst pushed (es ++ e ∷ [])
first_more None es e h = tt
first_more (Some pushed) es e h = (h.0 ++ e ∷ [], ap (λ l. l ++ e ∷ []) h.1 ∙ append_assoc pushed h.0 (e ∷ []))

published_more : (es : List Entry) (e : Entry) (ends : Held) (out : Outgoing) → IsPublished es ends out → IsPublished (es ++ e ∷ []) ends out
published_more es e ends out h = (h.0, first_more out.pushed es e h.1)

-- what a reader took are the journal's first
pub taken_first : (pushed : Option (List Entry)) (taken es : List Entry) → AreFirst pushed es → IsTakenOf pushed taken → (rest : List Entry) × (es ≡ taken ++ rest)
taken_first None taken es h is = absurd is
taken_first (Some pushed) taken es h is = (is.0 ++ h.0, h.1 ∙ ap (λ l. l ++ h.0) is.1 ∙ append_assoc taken is.0 h.0)

-- ---- a Resident

module _ (meaning : Meaning) (hosts : ℕ) where
  -- a quiet entry, perhaps with another engine that stands for the same on the owner then
  pub noted_by : (Stands Stood : List Served → Type 0) (host was : ℕ) (seen : Seen) (dead : Bool) (count kernel : ℕ) (es fs : List Entry) (ends : Held) (out : Outgoing) (e : Entry)
      → IsResident meaning Stood was seen hosts dead count kernel es ends out → fs ≡ es ++ e ∷ [] → MayCome meaning hosts (progress_of es) e
      → (after (progress_of es) e).served ≡ (progress_of es).served → (after (progress_of es) e).dead ≡ (progress_of es).dead → drawn_by e ≡ []
      → (dead ≡ false → Stands (progress_of es).served × (host ≡ (after (progress_of es) e).owner)) → IsAnswered kernel (es ++ e ∷ []) ends []
      → IsResident meaning Stands host seen hosts dead count kernel fs ends out
  noted_by Stands Stood host was seen dead count kernel es fs ends out e h is may served deads none stands answered =
      let now : progress_of fs ≡ after (progress_of es) e = ap progress_of is ∙ progress_more es e in
      let same : (progress_of fs).served ≡ (progress_of es).served = ap (λ p. p.served) now ∙ served in record {
        kept = record {
          legal = subst (IsLegal meaning hosts) (sym is) (legal_more meaning hosts es e h.kept.legal may);
          dead = h.kept.dead ∙ sym (ap (λ p. p.dead) now ∙ deads);
          alive = λ alive. (subst Stands (sym same) (stands alive).0, (stands alive).1 ∙ sym (ap (λ p. p.owner) now));
          counts = λ is_dead. h.kept.counts is_dead ∙ ap meaning.count (sym same);
        };
        answered = ([], subst (λ l. IsAnswered kernel l ends []) (sym is) answered);
        fed = fed_still seen.made es fs seen (e ∷ [], is) (drawn_still es fs e is none) (ap (λ p. p.dead) now ∙ deads) h.fed;
        published = subst (λ l. IsPublished l ends out) (sym is) (published_more es e ends out h.published);
      }

  pub noted : (Stands : List Served → Type 0) (host : ℕ) (seen : Seen) (dead : Bool) (count kernel : ℕ) (es fs : List Entry) (ends : Held) (out : Outgoing) (e : Entry)
      → IsResident meaning Stands host seen hosts dead count kernel es ends out → fs ≡ es ++ e ∷ [] → MayCome meaning hosts (progress_of es) e → IsQuiet (progress_of es) e
      → IsAnswered kernel (es ++ e ∷ []) ends [] → IsResident meaning Stands host seen hosts dead count kernel fs ends out
  noted Stands host seen dead count kernel es fs ends out e h is may quiet answered =
      noted_by Stands Stands host host seen dead count kernel es fs ends out e h is may quiet.0 quiet.1 quiet.3 (λ alive. ((h.kept.alive alive).0, (h.kept.alive alive).1 ∙ sym quiet.2)) answered

  -- the owed request was answered
  pub answered_ends : (kernel : ℕ) (es fs : List Entry) (ends : Held) (request : Request) → Ends meaning hosts es fs request → (progress_of es).phase ≡ settled → IsAnswered kernel es ends (request ∷ []) → IsAnswered kernel fs ends []
  answered_ends kernel es fs ends request (e, is_end, (may, is)) phase owes =
      subst (λ l. IsAnswered kernel l ends []) (sym is) (answered_more kernel es e ends (request ∷ []) (ends_open_none kernel e request is_end) owes (noted_asks (progress_of es).phase e request phase is_end))

  -- A request of a session was answered, and this was taken from the feed for it. The engine then stands for what was served, if the
  -- session is alive.
  pub answered_by : (Stands Stood : List Served → Type 0) (host was : ℕ) (seen now : Seen) (dead is_dead : Bool) (count counted kernel : ℕ) (es fs : List Entry) (ends : Held) (out : Outgoing) (request : Request)
      → IsResident meaning Stood was seen hosts dead count kernel es ends out → Ends meaning hosts es fs request → (progress_of es).phase ≡ settled → IsAnswered kernel es ends (request ∷ [])
      → is_dead ≡ (progress_of fs).dead → (is_dead ≡ false → Stands (progress_of fs).served × (host ≡ (progress_of fs).owner)) → (is_dead ≡ true → counted ≡ meaning.count (progress_of fs).served)
      → HasFed now.made fs now → IsResident meaning Stands host now hosts is_dead counted kernel fs ends out
  answered_by Stands Stood host was seen now dead is_dead count counted kernel es fs ends out request h noted phase owes dies stands counts fed = record {
    kept = record {
      legal = ends_legal meaning hosts es fs request noted h.kept.legal;
      dead = dies;
      alive = stands;
      counts = counts;
    };
    answered = ([], answered_ends kernel es fs ends request noted phase owes);
    fed = fed;
    published = subst (λ l. IsPublished l ends out) (sym noted.2.1) (published_more es noted.0 ends out h.published);
  }
