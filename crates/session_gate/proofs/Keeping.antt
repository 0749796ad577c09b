-- What is in a slot, and what it is at the end.
use Rattle.std.proofs.Common.{◌≡◌, ℕ, true, List, ◌++◌, sym, ap, ◌∙◌, subst, eqb-true, Option, Some, Ok, slice_get, arith}
use Rattle.nb_outside.specs.declared.feed.Drawn.{Drawn}
use Rattle.nb_outside.specs.Feeds.{Seen}
use Rattle.ruled_queue.specs.declared.rule.View.{View}
use Rattle.ruled_queue.specs.Rule.{joined}
use Rattle.ruled_queue.proofs.Keeping.{keeps_right}
use Rattle.session_queues.specs.declared.shared.SharedQueues.{SharedQueues}
use Rattle.session_queues.specs.Passes.{Producer, KeepsAll, HoldsAll}
use Rattle.session_queues.specs.Ends.{gathered}
use Rattle.session_gate.specs.Facts.{Holds, IsWhole, IsBare}
use Rattle.session_gate.specs.Custodies.{IsAtRest, IsInOrder, HasOwner, HasQueues, IsFinished, is_of, Finishes}
use Rattle.session_gate.specs.declared.slot.Custody.{Custody}
use Rattle.session_gate.specs.declared.slot.Custody.TheVariants.{Unopened, In, Out, Sealed}

-- one number has one session's queues
pub same_queues : (all : List SharedQueues) (a b : ℕ) (p q : SharedQueues) → slice_get all a ≡ Some p → slice_get all b ≡ Some q → a ≡ b → p ≡ q
same_queues all a b p q is also same = let both : Some p ≡ Some q = sym is ∙ ap (slice_get all) same ∙ also in cc

module _ {T : Type 0} where
  keeps_all : (v w : View T) → v.given ≡ 0 → KeepsAll w → KeepsAll (joined v w)
  keeps_all v w none all = (
    (let some = all.0 in omega arith),
    λ n less. let found = all.1 n (omega (arith, less, none)) in (found.0, keeps_right n found.0 v.lists w.lists found.1),
  )

-- with all passes it is whole
pub whole : {E F : Type 0} → (h : Holds E F) (pass : Producer) → IsBare h → HoldsAll pass → IsWhole {E = E} {F = F} (record h { ends = gathered h.ends pass })
whole h pass bare all = (keeps_all h.ends.main pass.main bare.1 all.0, keeps_all h.ends.control pass.control bare.3 all.1)

pub finished : {E F : Type 0} → (hosts : ℕ) (all : List SharedQueues) (gives : ℕ → Option (List Drawn)) (seen : F → Seen) (queues : SharedQueues) (number : ℕ) (pass : Producer) (h : Holds E F)
    → slice_get all number ≡ Some queues → h.number ≡ number → IsAtRest hosts all gives seen h → IsFinished {E = E} {F = F} hosts queues number pass gives seen (record h { ends = gathered h.ends pass })
finished hosts all gives seen queues number pass h listed same rest = let bare = rest.3 in (
  rest.1,
  rest.2,
  same_queues all h.number number h.ends.queues queues rest.0.0 listed same,
  same,
  rest.0.1,
  ap (λ l. l ++ pass.main.lists) bare.0,
  (let none = bare.1 in omega arith),
  ap (λ l. l ++ pass.control.lists) bare.2,
  (let none = bare.3 in omega arith),
  rest.0.2,
)

module _ {E F : Type 0} where
  pub whole_here : (hosts : ℕ) (all : List SharedQueues) (gives : ℕ → Option (List Drawn)) (seen : F → Seen) (pass : Producer) (s : Custody E F) (r : Holds E F) → HasOwner (IsAtRest hosts all gives seen) s → Finishes s pass (Ok r) → HoldsAll pass → IsWhole r
  whole_here hosts all gives seen pass Unopened r rest is holds = absurd rest
  whole_here hosts all gives seen pass (In h) r rest is holds =
      let now : r ≡ record h { ends = gathered h.ends pass } = cc in
      subst IsWhole (sym now) (whole h pass rest.3 holds)
  whole_here hosts all gives seen pass Out r rest is holds = absurd rest
  whole_here hosts all gives seen pass (Sealed p) r rest is holds = absurd rest

  pub queues_here : (hosts : ℕ) (all : List SharedQueues) (gives : ℕ → Option (List Drawn)) (seen : F → Seen) (number : ℕ) (s : Custody E F) → IsInOrder hosts all gives seen s → is_of s number ≡ true → HasQueues (λ q. slice_get all number ≡ Some q) s
  queues_here hosts all gives seen number Unopened rest same = tt
  queues_here hosts all gives seen number (In h) rest same = ap (slice_get all) (sym (eqb-true h.number number same)) ∙ rest.0.0
  queues_here hosts all gives seen number Out rest same = tt
  queues_here hosts all gives seen number (Sealed p) rest same = ap (slice_get all) (sym (eqb-true p.held.number number same)) ∙ rest.0.0
