-- What a plan is, judged with a flow.
use Rattle.std.specs.Prelude.{◌≡◌, ◌≢◌, ℕ, List}
use Rattle.flow_model.specs.Flows.{IsLegal, value}
use Rattle.flow_arcs.specs.Faults.{IsFirstFault}
use Rattle.graph_model.specs.declared.graph.Graph.{Graph}
use Rattle.graph_model.specs.declared.plan.Plan.{Plan}
use Rattle.graph_model.specs.declared.plan.Weights.{Weights}
use Rattle.graph_model.specs.Plans.{IsFeasible, cost}
use Rattle.graph_model.specs.Networks.{net_of}
use Rattle.plan_model.specs.declared.certainty.PlanCheck.{PlanCheck}
use Rattle.plan_model.specs.declared.certainty.PlanCheck.TheVariants.{Infeasible, BadFlow, Unequal, Best}
use Rattle.plan_model.specs.Failing.{IsFirstFailing}

-- the first that holds: the plan's failing item; the flow's fault; the plan's cost and the flow's value, if they differ;
-- else the plan is a best one
abbrev pub IsPlanJudged : Graph → Weights → Plan → List ℕ → PlanCheck → Type 0
IsPlanJudged g w p flow (Infeasible failing) = IsFirstFailing g p failing
IsPlanJudged g w p flow (BadFlow fault) = IsFeasible g p × IsFirstFault (net_of g w) flow fault
IsPlanJudged g w p flow (Unequal sum carried) = IsFeasible g p × IsLegal (net_of g w) flow × (sum ≡ cost g w p) × (carried ≡ value (net_of g w) flow) × (sum ≢ carried)
IsPlanJudged g w p flow Best = IsFeasible g p × IsLegal (net_of g w) flow × (value (net_of g w) flow ≡ cost g w p)
