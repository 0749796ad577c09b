-- The way on which flow is sent, from the source down to the node that it has reached.
use Rattle.std.specs.Prelude.{◌≡◌, ◌≢◌, ℕ, ◌+◌, ◌^◌, ◌<◌, ◌≤◌, cond, ◌==◌, List, [], ◌∷◌, length, slice_index}
use Rattle.flow_model.specs.declared.Arc.{Arc}
use Rattle.flow_model.specs.Flows.{Net, given, taken}
use Rattle.flow_arcs.specs.declared.send.Stop.{Stop}
use Rattle.flow_arcs.specs.Pairs.{heads, tails, carried, IsPaired}

-- each entry is 0 or one more than the number of a directed arc that leaves this node
abbrev pub LeavesEach : List Arc → List ℕ → Type 0
LeavesEach arcs positions = (node e : ℕ) → slice_index positions node ≡ e + 1 → (e < length (heads arcs)) × (slice_index (tails arcs) e ≡ node)

-- each entry is 0 or one more than the number of a directed arc that leaves the same node as this one
abbrev pub LeavesSame : List Arc → List ℕ → Type 0
LeavesSame arcs positions = (d e : ℕ) → slice_index positions d ≡ e + 1 → (e < length (heads arcs)) × (slice_index (tails arcs) e ≡ slice_index (tails arcs) d)

-- for each directed arc the node that it enters, and lists of the directed arcs that leave each node
pub record IsLinks (net : Net) (to first next : List ℕ) : Type 0 where
  pub ends : to ≡ heads net.arcs
  pub firsts : length first ≡ net.nodes
  pub nexts : length next ≡ length (heads net.arcs)
  pub leaves : LeavesEach net.arcs first
  pub goes_on : LeavesSame net.arcs next

-- a stop was reached from the one before it, along an arc that may carry what it asks for and what it sent on, to a higher level
pub record IsStep (arcs : List Arc) (rest level : List ℕ) (stop before : Stop) : Type 0 where
  pub numbered : stop.arc < length (heads arcs)
  pub begins : slice_index (tails arcs) stop.arc ≡ before.node
  pub arrives : slice_index (heads arcs) stop.arc ≡ stop.node
  pub fits : stop.need + stop.got ≤ slice_index rest stop.arc
  pub asked : stop.need + stop.got ≤ before.need
  pub higher : slice_index level before.node < slice_index level stop.node

-- the stops lead back to the source
abbrev pub IsWay : List Arc → List ℕ → List ℕ → Stop → List Stop → Type 0
IsWay arcs rest level stop [] = (stop.node ≡ 0) × (stop.need + stop.got < 2 ^ 64)
IsWay arcs rest level stop (before ∷ more) = IsStep arcs rest level stop before × IsWay arcs rest level before more

-- what the stops at a node sent on and haven't taken yet
abbrev pub owed : List Stop → ℕ → ℕ
owed [] node = 0
owed (stop ∷ stops) node = cond (stop.node == node) stop.got 0 + owed stops node

-- what a sender holds at any time
pub record IsSending (net : Net) (rest level turn : List ℕ) (stop : Stop) (more : List Stop) : Type 0 where
  pub paired : IsPaired net.arcs rest
  pub levels : length level ≡ net.nodes
  pub turns : length turn ≡ net.nodes
  pub leaves : LeavesEach net.arcs turn
  pub way : IsWay net.arcs rest level stop more

-- but at the sink, what a node gives more than it takes has grown by what its stops owe more
abbrev pub IsCarried : List Arc → List ℕ → List ℕ → List Stop → List Stop → Type 0
IsCarried arcs old new stops stops' = (node : ℕ) → node ≢ 1
    → given arcs (carried new) node + taken arcs (carried old) node + owed stops node ≡ given arcs (carried old) node + taken arcs (carried new) node + owed stops' node
