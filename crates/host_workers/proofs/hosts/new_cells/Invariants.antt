use Rattle.std.proofs.Common.{◌≡◌, length}
use Rattle.host_workers.specs.Tables.{AreNumbered}
use Rattle.host_workers.proofs.hosts.new_cells.Given as goal

abbrev pub invariant-loop-number : goal.invariant-loop-number
invariant-loop-number g l = AreNumbered 0 l.cells.items × (length l.cells.items ≡ l.number)
