-- Nodes by their numbers, and the arcs that carry something.
use Rattle.std.specs.Prelude.{ℕ, ◌-◌, ◌==◌, cond, List, [], ◌∷◌, length, slice_get, Some, None}
use Rattle.flow_model.specs.declared.Arc.{Arc}
use Rattle.graph_model.specs.declared.plan.Node.{Node}
use Rattle.graph_model.specs.declared.plan.Node.TheVariants.{Source, Sink}
use Rattle.graph_model.specs.declared.plan.Node.TheVariants as node
use Rattle.graph_model.specs.declared.plan.FlowArc.{FlowArc}

-- the node of an active version, or, after these, of a cell
abbrev pub inner_node : List ℕ → ℕ → Node
inner_node active n = elim (slice_get active (n - 2)) [ None ↦ node.Cell (n - 1 - length active) | Some v ↦ node.Version v ]

abbrev pub node_of : List ℕ → ℕ → Node
node_of active n = cond (n == 0) Source (cond (n == 1) Sink (inner_node active n))

-- the arcs that carry something, between nodes
abbrev pub shown : List ℕ → List Arc → List ℕ → List FlowArc
shown active [] on = []
shown active (arc ∷ arcs) [] = []
shown active (arc ∷ arcs) (x ∷ on) = cond (x == 0) (shown active arcs on) (record { from = node_of active arc.from; to = node_of active arc.to; flow = x } ∷ shown active arcs on)
