-- What a search from the source has reached along directed arcs that may carry more.
use Rattle.std.specs.Prelude.{◌≡◌, ◌≢◌, ℕ, ◌+◌, ◌^◌, ◌<◌, ◌≤◌, cond, ◌==◌, List, [], ◌∷◌, length, slice_index}
use Rattle.flow_model.specs.declared.Arc.{Arc}
use Rattle.flow_model.specs.Flows.{Net}
use Rattle.flow_arcs.specs.Pairs.{heads, tails}

-- how many entries are 0
abbrev pub zeros : List ℕ → ℕ
zeros [] = 0
zeros (x ∷ xs) = cond (x == 0) 1 0 + zeros xs

-- a node was reached by that directed arc, which may carry more and comes from a reached node, whose level is one less
pub record IsReached (arcs : List Arc) (rest level : List ℕ) (node e : ℕ) : Type 0 where
  pub numbered : e < length (heads arcs)
  pub enters : slice_index (heads arcs) e ≡ node
  pub from : 0 < slice_index level (slice_index (tails arcs) e)
  pub above : slice_index level node ≡ slice_index level (slice_index (tails arcs) e) + 1
  pub room : 0 < slice_index rest e

-- the level of each node, 1 for the source and 0 if it isn't reached; the arc by which it was; and the reached nodes in
-- their order
pub record IsSearch (net : Net) (rest level by order : List ℕ) : Type 0 where
  pub few : net.nodes < 2 ^ 32
  pub levels : length level ≡ net.nodes
  pub arcs : length by ≡ net.nodes
  pub root : slice_index level 0 ≡ 1
  pub counted : zeros level + length order ≡ length level
  pub low : (node : ℕ) → slice_index level node ≤ length order
  pub listed : (k : ℕ) → k < length order → 0 < slice_index level (slice_index order k)
  pub found : (node : ℕ) → 0 < slice_index level node → (k : ℕ) × (k < length order) × (slice_index order k ≡ node)
  pub linked : (node : ℕ) → node ≢ 0 → 0 < slice_index level node → IsReached net.arcs rest level node (slice_index by node)

-- a later state of the same search
pub record Grows (level level' order order' : List ℕ) : Type 0 where
  pub longer : length order ≤ length order'
  pub same : (k : ℕ) → k < length order → slice_index order' k ≡ slice_index order k
  pub kept : (node : ℕ) → 0 < slice_index level node → 0 < slice_index level' node

-- a directed arc may not carry more, or the node that it enters is reached
abbrev pub IsShut : List Arc → List ℕ → List ℕ → ℕ → Type 0
IsShut arcs rest level e = 0 < slice_index rest e → 0 < slice_index level (slice_index (heads arcs) e)

-- each directed arc that leaves the node is shut
abbrev pub IsDone : List Arc → List ℕ → List ℕ → ℕ → Type 0
IsDone arcs rest level node = (e : ℕ) → e < length (heads arcs) → slice_index (tails arcs) e ≡ node → IsShut arcs rest level e

-- no directed arc that may carry more leads out of the reached nodes
abbrev pub IsClosed : List Arc → List ℕ → List ℕ → Type 0
IsClosed arcs rest level = (node : ℕ) → 0 < slice_index level node → IsDone arcs rest level node
