-- What is printed of a certified plan.
use Rattle.std.specs.Prelude.{ℕ, ◌-◌, ◌==◌, cond, codes, List, [], ◌∷◌, ◌++◌, Some, None, slice_get}
use Rattle.std.specs.List.{flat_map}
use Rattle.std.specs.Fmt.{decimal}
use Rattle.graph_model.specs.declared.graph.Version.{Version}
use Rattle.graph_model.specs.declared.graph.Graph.{Graph}
use Rattle.graph_model.specs.declared.plan.Node.{Node}
use Rattle.graph_model.specs.declared.plan.Node.TheVariants as node
use Rattle.graph_model.specs.declared.plan.FlowArc.{FlowArc}
use Rattle.graph_model.specs.declared.plan.Certified.{Certified}

abbrev pub new_line : List ℕ
new_line = 10 ∷ []

-- the names of version v
abbrev pub names_of : Graph → ℕ → List (List ℕ)
names_of g v = cond (v == 0) [] (elim (slice_get g.versions (v - 1)) [ None ↦ [] | Some x ↦ x.names ])

-- each name after a space
abbrev pub spaced : List (List ℕ) → List ℕ
spaced names = flat_map (λ name. 32 ∷ name) names

-- the cost, and what the flow that shows it carries, which is as much
abbrev pub cost_line : ℕ → List ℕ
cost_line cost = codes "cost " ++ decimal cost ++ codes " flow " ++ decimal cost ++ new_line

-- a version that is copied
abbrev pub copy_line : Graph → ℕ → List ℕ
copy_line g v = codes "copy v" ++ decimal v ++ spaced (names_of g v) ++ new_line

-- a cell that is run again
abbrev pub run_line : ℕ → List ℕ
run_line c = codes "run c" ++ decimal c ++ new_line

abbrev pub node_text : Node → List ℕ
node_text node.Source = codes " s"
node_text (node.Version v) = codes " v" ++ decimal v
node_text (node.Cell c) = codes " c" ++ decimal c
node_text node.Sink = codes " t"

-- what the flow carries from one node to another
abbrev pub arc_line : FlowArc → List ℕ
arc_line arc = codes "arc" ++ node_text arc.from ++ node_text arc.to ++ codes " " ++ decimal arc.flow ++ new_line

abbrev pub plan_lines : Graph → Certified → List ℕ
plan_lines g best = cost_line best.cost ++ flat_map (copy_line g) best.plan.copied ++ flat_map run_line best.plan.rerun ++ flat_map arc_line best.arcs
