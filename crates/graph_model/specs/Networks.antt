-- The plan network, and plans with a flow that shows that none costs less.
use Rattle.std.specs.Prelude.{◌≡◌, ℕ, zero, suc, ◌+◌, ◌-◌, ◌++◌, Bool, false, not, ◌&&◌, cond, ◌==◌, nat_lt, List, [], ◌∷◌, map, filter, count_by, length, slice_get, Some, None}
use Rattle.std.specs.List.{flat_map, list_any}
use Rattle.flow_model.specs.declared.Arc.{Arc}
use Rattle.flow_model.specs.Flows.{Net, IsLegal, value}
use Rattle.graph_model.specs.declared.graph.Graph.{Graph}
use Rattle.graph_model.specs.declared.plan.Plan.{Plan}
use Rattle.graph_model.specs.declared.plan.Weights.{Weights}
use Rattle.graph_model.specs.declared.plan.Node.{Node}
use Rattle.graph_model.specs.declared.plan.Node.TheVariants.{Source, Sink}
use Rattle.graph_model.specs.declared.plan.Node.TheVariants as node
use Rattle.graph_model.specs.declared.plan.FlowArc.{FlowArc}
use Rattle.graph_model.specs.declared.plan.Certified.{Certified}
use Rattle.graph_model.specs.Plans.{NamesOf, IsFeasible, copy_weight, rerun_weight, cost}

-- an arc of the plan network, between nodes
pub record PlanArc : Type 0 where
  pub from : Node
  pub to : Node
  pub capacity : ℕ

abbrev pub unbounded : ℕ
unbounded = 9223372036854775808

-- as many numbers as the count, from the first on
abbrev pub count_up : ℕ → ℕ → List ℕ
count_up first zero = []
count_up first (suc more) = first ∷ count_up (suc first) more

-- the numbers of the cells
abbrev pub cell_numbers : Graph → List ℕ
cell_numbers g = count_up 1 (length g.cells)

abbrev pub is_active_at : Graph → ℕ → Bool
is_active_at g v = elim (slice_get g.versions (v - 1)) [ None ↦ false | Some x ↦ x.replaced == 0 ]

-- the numbers of the active versions, ascending
abbrev pub actives : Graph → List ℕ
actives g = filter (is_active_at g) (count_up 1 (length g.versions))

-- version v is replaced, and cell w wrote it
abbrev pub is_old_of : Graph → ℕ → ℕ → Bool
is_old_of g w v = elim (slice_get g.versions (v - 1)) [ None ↦ false | Some x ↦ not (x.replaced == 0) && (x.writer == w) ]

abbrev pub reads_of : Graph → ℕ → List ℕ
reads_of g c = elim (slice_get g.cells (c - 1)) [ None ↦ [] | Some x ↦ x.reads ]

-- the writers of the replaced versions that cell c read, ascending, each once
abbrev pub old_writers : Graph → ℕ → List ℕ
old_writers g c = filter (λ w. list_any (is_old_of g w) (reads_of g c)) (cell_numbers g)

-- copying costs its weight, and can't be done if there is a handle
abbrev pub copy_capacity : Graph → Weights → ℕ → ℕ
copy_capacity g w v = elim (slice_get g.versions (v - 1)) [ None ↦ 0 | Some x ↦ cond x.handle unbounded (copy_weight w x) ]

-- running again costs its weight, and can't be done if the cell drew
abbrev pub rerun_capacity : Graph → Weights → ℕ → ℕ
rerun_capacity g w c = elim (slice_get g.cells (c - 1)) [ None ↦ 0 | Some x ↦ cond x.drew unbounded (rerun_weight w x) ]

abbrev pub writer_of : Graph → ℕ → ℕ
writer_of g v = elim (slice_get g.versions (v - 1)) [ None ↦ 0 | Some x ↦ x.writer ]

abbrev pub copy_arc : Graph → Weights → ℕ → PlanArc
copy_arc g w v = record { from = Source; to = node.Version v; capacity = copy_capacity g w v }

abbrev pub writer_arc : Graph → ℕ → PlanArc
writer_arc g v = record { from = node.Version v; to = node.Cell (writer_of g v); capacity = unbounded }

abbrev pub read_arc : ℕ → ℕ → PlanArc
read_arc c d = record { from = node.Cell c; to = node.Cell d; capacity = unbounded }

abbrev pub rerun_arc : Graph → Weights → ℕ → PlanArc
rerun_arc g w c = record { from = node.Cell c; to = Sink; capacity = rerun_capacity g w c }

-- the arcs of the plan network: from the source to each active version, from each active version to its writer, from each
-- cell to the writers of the replaced versions that it read, and from each cell to the sink
abbrev pub network : Graph → Weights → List PlanArc
network g w = ((map (copy_arc g w) (actives g) ++ map (writer_arc g) (actives g)) ++ flat_map (λ c. map (read_arc c) (old_writers g c)) (cell_numbers g))
    ++ map (rerun_arc g w) (cell_numbers g)

-- the number of a node: source and sink, then the active versions in order, then the cells
abbrev pub number_of : Graph → Node → ℕ
number_of g Source = 0
number_of g Sink = 1
number_of g (node.Version v) = 2 + count_by (λ u. nat_lt u v) (actives g)
number_of g (node.Cell c) = 1 + length (actives g) + c

abbrev pub numbered : Graph → PlanArc → Arc
numbered g arc = record { from = number_of g arc.from; to = number_of g arc.to; capacity = arc.capacity }

-- the plan network as a network of numbers
abbrev pub net_of : Graph → Weights → Net
net_of g w = record { nodes = 2 + length (actives g) + length g.cells; arcs = map (numbered g) (network g w) }

-- the arcs that carry something, in their order
abbrev pub carrying : List PlanArc → List ℕ → List FlowArc
carrying [] flow = []
carrying (arc ∷ arcs) [] = []
carrying (arc ∷ arcs) (x ∷ flow) = cond (x == 0) (carrying arcs flow) (record { from = arc.from; to = arc.to; flow = x } ∷ carrying arcs flow)

-- a feasible plan with its cost, and the arcs of a legal flow whose value is that cost
pub record IsCertified (g : Graph) (w : Weights) (c : Certified) : Type 0 where
  pub names : NamesOf g c.plan
  pub feasible : IsFeasible g c.plan
  pub is_cost : c.cost ≡ cost g w c.plan
  pub flow : List ℕ
  pub legal : IsLegal (net_of g w) flow
  pub shown : c.arcs ≡ carrying (network g w) flow
  pub is_value : value (net_of g w) flow ≡ c.cost

-- the plan that a cut of the network stands for: the active versions outside are copied, the cells inside run again
abbrev pub plan_of_cut : Graph → (ℕ → Bool) → Plan
plan_of_cut g side = record {
  copied = filter (λ v. not (side (number_of g (node.Version v)))) (actives g);
  rerun = filter (λ c. side (number_of g (node.Cell c))) (cell_numbers g);
}
