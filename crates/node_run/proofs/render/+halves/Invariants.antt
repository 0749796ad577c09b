use Prim.Native.Nat.{◌*◌}
use Rattle.std.proofs.Common.{◌-◌}
use Rattle.node_run.proofs.render.+halves.Given as goal

abbrev pub decreases-render : goal.decreases-render
decreases-render g l = 2 * l.halvings

abbrev pub decreases-lower : goal.decreases-lower
decreases-lower g l = 2 * l.halvings - 1

abbrev pub decreases-upper : goal.decreases-upper
decreases-upper g l = 2 * l.halvings - 1
