use Rattle.std.proofs.Common.{◌≡◌, List, drop}
use Rattle.node_intake.specs.Intake.{Taken, session_of}
use Rattle.node_intake.proofs.node.index_of.Given as goal

abbrev pub invariant-loop-at : goal.invariant-loop-at
invariant-loop-at g l = (ts : List Taken) → g.D.Desk.holds l.desk ts → session_of l.kernel ts ≡ session_of l.kernel (drop l.at ts)
