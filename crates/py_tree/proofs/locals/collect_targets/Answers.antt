use Rattle.py_tree.specs.Locals.{bound_at}
use Rattle.py_tree.proofs.Walks.{nothing-more}
use Rattle.py_tree.proofs.locals.collect_targets.Goals as goal

pub loop-target-preserved : goal.loop-target-preserved
loop-target-preserved c =
    nothing-more bound_at c.args.targets.now c.loop-target.target-index c.target-item.result c.args.names.now c.loop-target.names c.collect_target.new.names c.loop-target-test.true c.target-item.is c.loop-target.invariant c.in_ok-collect_target.ensures
