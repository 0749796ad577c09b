use Rattle.std.proofs.Common.{◌≡◌, ◌≤◌, length}
use Rattle.linked_parts.proofs.Linking.{AreNextFrom}
use Rattle.linked_parts.proofs.listing.next_of.Given as goal

abbrev pub invariant-loop-index : goal.invariant-loop-index
invariant-loop-index l = record {
  within : l.index ≤ length l.labels;
  size : length l.next ≡ length l.labels;
  room : length l.first ≡ length l.labels;
  are_next : AreNextFrom l.labels l.next l.first l.index;
}

abbrev pub decreases-loop-index : goal.decreases-loop-index
decreases-loop-index l = l.index
