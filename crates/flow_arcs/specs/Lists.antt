-- The directed arcs of each node as linked lists, from the latest to the first.
use Rattle.std.specs.Prelude.{◌≡◌, ◌≢◌, ℕ, ◌+◌, ◌<◌, ◌≤◌, List, length, slice_index}
use Rattle.flow_model.specs.Flows.{Net}
use Rattle.flow_arcs.specs.Networks.{IsNumbered}
use Rattle.flow_arcs.specs.Pairs.{tails}

-- each node's list has each directed arc that leaves it and is wanted once: an entry is one more than an arc's number, or 0,
-- and skips no such arc of the same node
pub record AreListsOf (wanted : ℕ → Type 0) (tails first next : List ℕ) : Type 0 where
  pub nexts : length next ≡ length tails
  pub first_low : (node : ℕ) → slice_index first node ≤ length tails
  pub first_leaves : (node e : ℕ) → slice_index first node ≡ e + 1 → slice_index tails e ≡ node
  pub first_skips : (node e : ℕ) → slice_index first node ≤ e → e < length tails → wanted e → slice_index tails e ≢ node
  pub next_low : (d : ℕ) → d < length tails → slice_index next d ≤ d
  pub next_leaves : (d e : ℕ) → d < length tails → slice_index next d ≡ e + 1 → slice_index tails e ≡ slice_index tails d
  pub next_skips : (d e : ℕ) → d < length tails → slice_index next d ≤ e → e < d → wanted e → slice_index tails e ≢ slice_index tails d

-- each node's list has each directed arc that leaves it once
abbrev pub IsLists : List ℕ → List ℕ → List ℕ → Type 0
IsLists tails first next = AreListsOf (λ e. Unit {0}) tails first next

-- a network with its lists
pub record IsListed (net : Net) (first next : List ℕ) : Type 0 where
  pub numbered : IsNumbered net
  pub lists : IsLists (tails net.arcs) first next
