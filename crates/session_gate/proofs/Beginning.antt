-- A session that was just opened, and one that is finished.
use Rattle.std.proofs.Common.{◌≡◌, ◌<◌, ℕ, false, true≢false, List, [], ◌∷◌, refl, sym, subst}
use Rattle.nb_outside.specs.Feeds.{Seen, HasAll}
use Rattle.session_core.specs.declared.request.Header.{Header}
use Rattle.session_core.specs.declared.request.Channel.{Channel}
use Rattle.session_core.specs.declared.entry.Entry.{Entry}
use Rattle.session_core.specs.declared.entry.Entry.TheVariants.{Opened}
use Rattle.session_core.specs.Meanings.{Served, Meaning}
use Rattle.session_core.proofs.Feeding.{fed_first}
use Rattle.session_queues.specs.declared.items.MainItem.TheVariants.{Opening}
use Rattle.session_queues.specs.declared.shared.SharedQueues.{SharedQueues}
use Rattle.session_queues.specs.Ends.{Held, Outgoing, opened_ends, nothing_pushed}
use Rattle.session_gate.specs.Facts.{IsResident}

module _ (meaning : Meaning) (Stands : List Served → Type 0) (host_is : ℕ) (seen : Seen) (hosts : ℕ) where
  opened_now : (queues : SharedQueues) (kernel host : ℕ) (request : Header) (channel : Channel) → host < hosts → Stands [] → host_is ≡ host → HasAll seen
      → IsResident meaning Stands host_is seen hosts false 0 kernel (Opened host request channel ∷ []) (opened_ends queues (Opening kernel host request channel)) (nothing_pushed queues)
  opened_now queues kernel host request channel below stands own all = record {
    kept = record {
      legal = (below, tt);
      dead = refl;
      alive = λ _. (stands, own);
      counts = λ never. absurd (true≢false (sym never));
    };
    answered = ([], (refl, refl));
    fed = fed_first seen.made (Opened host request channel ∷ []) seen refl all refl;
    published = (refl, (Opened host request channel ∷ [], refl));
  }

  pub opened_resident : (queues : SharedQueues) (kernel host : ℕ) (request : Header) (channel : Channel) (es : List Entry) (ends : Held) (out : Outgoing) → host < hosts → Stands [] → host_is ≡ host → HasAll seen
      → es ≡ Opened host request channel ∷ [] → ends ≡ opened_ends queues (Opening kernel host request channel) → out ≡ nothing_pushed queues → IsResident meaning Stands host_is seen hosts false 0 kernel es ends out
  opened_resident queues kernel host request channel es ends out below stands own all entries are on =
      subst (λ o. IsResident meaning Stands host_is seen hosts false 0 kernel es ends o) (sym on)
      (subst (λ x. IsResident meaning Stands host_is seen hosts false 0 kernel es x (nothing_pushed queues)) (sym are)
      (subst (λ l. IsResident meaning Stands host_is seen hosts false 0 kernel l (opened_ends queues (Opening kernel host request channel)) (nothing_pushed queues)) (sym entries)
      (opened_now queues kernel host request channel below stands own all)))
