use Rattle.py_tree.specs.Locals.{bound_by, global_by, bound_by_arm, global_by_arm}
use Rattle.py_tree.proofs.Walks.{one_more, bound-arm, global-arm}
use Rattle.py_tree.proofs.locals.+names.Goals as goal

pub collect-loop-statement-preserved : goal.collect-loop-statement-preserved
collect-loop-statement-preserved t c =
    one_more bound_by global_by c.args.body.now _ c.statement-item.result _ _ _ c.loop-statement-test.true c.statement-item.is c.loop-statement.invariant c.in_ok-collect_statement.ensures

pub collect_arms-loop-arm-preserved : goal.collect_arms-loop-arm-preserved
collect_arms-loop-arm-preserved t c =
    one_more bound_by_arm global_by_arm c.args.arms.now _ c.arm-item.result _ _ _ c.loop-arm-test.true c.arm-item.is c.loop-arm.invariant
    (let told = c.in_ok-collect.ensures in let bound = bound-arm c.arm-item.result in let global = global-arm c.arm-item.result in let slice = c.as_slice.ensures in cc)
