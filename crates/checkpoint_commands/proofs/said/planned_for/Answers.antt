use Rattle.std.proofs.Common.{Err, ap, ◌∙◌}
use Rattle.cut_network.specs.declared.planner.PlanFault.{PlanFault}
use Rattle.checkpoint_commands.proofs.said.planned_for.Goals as goal

pub unreachable-requires-in-Err-Stuck : goal.unreachable-requires-in-Err-Stuck
unreachable-requires-in-Err-Stuck c =
    let v = c.in-Err-Stuck.field-0-0 in
    let cell = c.in-Err-Stuck.field-0-1 in
    let pair = c.plan.ensures.stuck v cell (c.in-Err-Stuck.is ∙ ap (λ (f : PlanFault). Err f) c.in-Err-Stuck.field-0-is) in
    c.a_stuck_pair_forbids_every_plan.ensures c.args.read.now.graph v cell c.args.read.now.plan pair.stuck c.requires.feasible
