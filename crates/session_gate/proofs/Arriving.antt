-- A parcel that came to its host.
use Rattle.std.proofs.Common.{◌≡◌, ℕ, List, [], refl, sym, ap, ap₂, ◌∙◌, subst, Option, Some, slice_get}
use Rattle.nb_outside.specs.declared.feed.Drawn.{Drawn}
use Rattle.nb_outside.specs.Feeds.{Seen}
use Rattle.session_core.specs.declared.entry.Entry.{Entry}
use Rattle.session_core.specs.declared.entry.Entry.TheVariants.{Moved}
use Rattle.session_queues.specs.declared.shared.SharedQueues.{SharedQueues}
use Rattle.session_queues.specs.Ends.{Held}
use Rattle.session_gate.specs.Answered.{IsAnswered}
use Rattle.session_core.specs.Legal.{arriving, moved, progress_of}
use Rattle.session_core.proofs.Progressing.{progress_more}
use Rattle.session_gate.specs.Facts.{Away, HasNoted}
use Rattle.session_gate.specs.Custodies.{IsSealedUp, IsCollected}
use Rattle.session_gate.proofs.Noting.{answered_more}

pub arrived : {E F : Type 0} → (hosts : ℕ) (queues : List SharedQueues) (gives : ℕ → Option (List Drawn)) (seen : F → Seen) (p q : Away E F) → IsSealedUp hosts queues gives seen p → HasNoted p.held q.held (Moved p.to) → q ≡ record p { held = q.held } → IsCollected hosts queues gives seen q
arrived {E = E} {F = F} hosts queues gives seen p q h n is = let same = n.4 in (
  (ap (slice_get queues) same.2 ∙ (h.0.0 ∙ ap (λ (e : Held). Some e.queues) (sym same.0)), same.3 ∙ h.0.1, ap (λ f. (seen f).made) n.1 ∙ h.0.2 ∙ ap gives (sym same.4)),
  ap (λ (es : List Entry). (progress_of es).phase) n.2 ∙ ap (λ p. p.phase) (progress_more p.held.entries (Moved p.to)) ∙ ap moved h.1
      ∙ ap₂ (λ again to. arriving again to) (sym (ap (λ (x : Away E F). x.again) is)) (sym (ap (λ (x : Away E F). x.to) is)),
  subst (λ k. IsAnswered k q.held.entries q.held.ends []) (sym same.4)
      (subst (λ (e : Held). IsAnswered p.held.kernel q.held.entries e []) (sym same.0) (subst (λ (es : List Entry). IsAnswered p.held.kernel es p.held.ends []) (sym n.2) (answered_more p.held.kernel p.held.entries (Moved p.to) p.held.ends [] refl h.2 refl))),
  (
    ap (λ (e : Held). e.main.lists) same.0 ∙ h.3.0,
    ap (λ (e : Held). e.main.given) same.0 ∙ h.3.1,
    ap (λ (e : Held). e.control.lists) same.0 ∙ h.3.2,
    ap (λ (e : Held). e.control.given) same.0 ∙ h.3.3,
  ),
)
