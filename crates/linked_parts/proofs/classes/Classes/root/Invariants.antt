use Rattle.std.proofs.Common.{◌<◌, length}
use Rattle.linked_parts.specs.Labels.{Joined, IsShortened}
use Rattle.linked_parts.proofs.classes.Classes.root.Given as goal

abbrev pub invariant-loop-at : goal.invariant-loop-at
invariant-loop-at l = record {
  within : l.at < length l.self.parents;
  classes : IsShortened l.fn.self.parents l.self.parents;
  joined : Joined l.fn.self.parents l.number l.at;
}

abbrev pub decreases-loop-at : goal.decreases-loop-at
decreases-loop-at l = l.at
