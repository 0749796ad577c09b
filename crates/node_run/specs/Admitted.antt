-- What the feeder has of the sessions that are open.
use Rattle.std.specs.Prelude.{◌≡◌, ℕ, zero, suc, ◌+◌, List, [], ◌∷◌, false, length, Some, slice_get, slice_set}
use Rattle.ruled_queue.specs.Rule.{knows}
use Rattle.session_core.specs.declared.request.Request.{Request}
use Rattle.session_queues.specs.declared.items.MainItem.TheVariants.{Opening}
use Rattle.session_queues.specs.declared.shared.SharedQueues.{SharedQueues}
use Rattle.session_queues.specs.Passes.{Producer, IsPassOf, admitted_by}
use Rattle.session_gate.specs.Answered.{as_main, as_control}
use Rattle.node_intake.specs.Intake.{Taken}
use Rattle.node_run.specs.declared.open_session.OpenSession.{OpenSession}

-- The pass of a session that was opened so. It has number 0, which alone was given, and under it are the opening and then the
-- requests that were admitted.
abbrev pub pass_of : SharedQueues → Taken → Producer
pass_of queues s = record {
  main_queue = queues.main;
  control_queue = queues.control;
  number = 0;
  main = knows false [] ((0, Opening s.kernel s.host s.request s.channel ∷ as_main s.requests) ∷ []) 1;
  control = knows false [] ((0, as_control s.requests) ∷ []) 1;
}

-- the session was opened with these queues, and its requests were admitted
pub record IsOpen (queues : SharedQueues) (s : Taken) (o : OpenSession) : Type 0 where
  pub kernel : o.kernel ≡ s.kernel
  pub requests : o.requests ≡ length s.requests
  pub pass : o.pass ≡ pass_of queues s

-- the open sessions are these, in order, with the first of these queues
abbrev pub AreOpen : List Taken → List OpenSession → List SharedQueues → Type 0
AreOpen [] [] queues = Unit {0}
AreOpen [] (o ∷ os) queues = ⊥
AreOpen (s ∷ ts) [] queues = ⊥
AreOpen (s ∷ ts) (o ∷ os) [] = ⊥
AreOpen (s ∷ ts) (o ∷ os) (q ∷ queues) = IsOpen q s o × AreOpen ts os queues

-- ---- of sessions whose requests aren't named

-- one request more was admitted
abbrev pub with_request : OpenSession → Request → OpenSession
with_request o r = record o { requests = o.requests + 1; pass = admitted_by o.pass r }

-- the passes are of the first of these queues, in order, and have number 0
abbrev pub AreSeated : List OpenSession → List SharedQueues → Type 0
AreSeated [] queues = Unit {0}
AreSeated (o ∷ os) [] = ⊥
AreSeated (o ∷ os) (q ∷ queues) = IsPassOf q o.pass × (o.pass.number ≡ 0) × AreSeated os queues

-- how many requests of the session at this index were admitted
abbrev pub admitted_at : List OpenSession → ℕ → ℕ
admitted_at [] at = 0
admitted_at (o ∷ os) zero = o.requests
admitted_at (o ∷ os) (suc at) = admitted_at os at

-- one request more was admitted to the session at this index
abbrev pub HasAdmitted : List OpenSession → ℕ → Request → List OpenSession → Type 0
HasAdmitted old at r new = (o : OpenSession) × (slice_get old at ≡ Some o) × (new ≡ slice_set old at (with_request o r))
