-- Sessions, as the definition of an intake has them.
use Rattle.std.specs.Prelude.{◌≡◌, ℕ, ◌<◌, List, [], ◌∷◌, ◌++◌, slice_get, Some, None}
use Rattle.session_core.specs.declared.request.Header.{Header}
use Rattle.session_core.specs.declared.request.Channel.{Channel}
use Rattle.session_core.specs.declared.request.Request.{Request}
use Rattle.node_intake.specs.Intake.{Taken, session_of}

-- a session of which nothing was asked yet
abbrev pub new_session : ℕ → ℕ → Header → Channel → Taken
new_session kernel host request channel = record { kernel = kernel; host = host; request = request; channel = channel; requests = [] }

-- the request is put after the others
abbrev pub with_more : Taken → Request → Taken
with_more s r = record s { requests = s.requests ++ r ∷ [] }

-- no two sessions are of one kernel
abbrev pub AreApart : List Taken → Type 0
AreApart [] = Unit {0}
AreApart (s ∷ more) = (session_of s.kernel more ≡ None) × AreApart more

-- the session of this kernel, and that it is at that index
pub record IsAt (sessions : List Taken) (kernel at : ℕ) : Type 0 where
  pub session : Taken
  pub is_there : slice_get sessions at ≡ Some session
  pub is_of : session.kernel ≡ kernel
  pub is_found : session_of kernel sessions ≡ Some session

-- on each of so many hosts a session can be opened
abbrev pub HasHosts : (ℕ → Type 0) → ℕ → Type 0
HasHosts IsHost hosts = (host : ℕ) → host < hosts → IsHost host
