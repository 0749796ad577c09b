-- Networks, flows and cuts, over plain lists. Node 0 is the source and node 1 the sink.
use Rattle.std.specs.Prelude.{◌≡◌, ◌≢◌, ℕ, ◌+◌, ◌<◌, ◌≤◌, Bool, true, false, not, ◌&&◌, cond, ◌==◌, List, [], ◌∷◌}
use Rattle.std.specs.List.{AllByRecursion}
use Rattle.flow_model.specs.declared.Arc.{Arc}

-- how many nodes there are, and the arcs in the order of their numbers
pub record Net : Type 0 where
  pub nodes : ℕ
  pub arcs : List Arc

-- an arc between two of the nodes, which doesn't enter the source and doesn't leave the sink
pub record Joins (nodes : ℕ) (arc : Arc) : Type 0 where
  pub from : arc.from < nodes
  pub to : arc.to < nodes
  pub leaves : arc.from ≢ 1
  pub enters : arc.to ≢ 0

pub record IsNet (net : Net) : Type 0 where
  pub ends : 2 ≤ net.nodes
  pub joined : AllByRecursion (Joins net.nodes) net.arcs

-- what the arcs that leave a node carry together
abbrev pub given : List Arc → List ℕ → ℕ → ℕ
given [] flow node = 0
given (arc ∷ arcs) [] node = 0
given (arc ∷ arcs) (x ∷ flow) node = cond (arc.from == node) x 0 + given arcs flow node

-- what the arcs that enter a node carry together
abbrev pub taken : List Arc → List ℕ → ℕ → ℕ
taken [] flow node = 0
taken (arc ∷ arcs) [] node = 0
taken (arc ∷ arcs) (x ∷ flow) node = cond (arc.to == node) x 0 + taken arcs flow node

-- one number for each arc, and none above its capacity
abbrev pub IsWithin : List Arc → List ℕ → Type 0
IsWithin [] [] = Unit {0}
IsWithin [] (x ∷ flow) = ⊥
IsWithin (arc ∷ arcs) [] = ⊥
IsWithin (arc ∷ arcs) (x ∷ flow) = (x ≤ arc.capacity) × IsWithin arcs flow

-- a legal flow: no arc carries more than its capacity, and each inner node gives what it takes
pub record IsLegal (net : Net) (flow : List ℕ) : Type 0 where
  pub within : IsWithin net.arcs flow
  pub balanced : (node : ℕ) → 1 < node → node < net.nodes → taken net.arcs flow node ≡ given net.arcs flow node

-- the value of a flow: what leaves the source
abbrev pub value : Net → List ℕ → ℕ
value net flow = given net.arcs flow 0

-- no legal flow has a greater value
abbrev pub IsGreatest : Net → List ℕ → Type 0
IsGreatest net flow = (other : List ℕ) → IsLegal net other → value net other ≤ value net flow

-- a cut: a set of nodes with the source and without the sink
pub record IsCut (side : ℕ → Bool) : Type 0 where
  pub source : side 0 ≡ true
  pub sink : side 1 ≡ false

-- what the arcs that leave the set may carry together
abbrev pub cut_capacity : (ℕ → Bool) → List Arc → ℕ
cut_capacity side [] = 0
cut_capacity side (arc ∷ arcs) = cond (side arc.from && not (side arc.to)) arc.capacity 0 + cut_capacity side arcs
