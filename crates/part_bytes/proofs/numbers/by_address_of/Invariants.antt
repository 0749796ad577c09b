use Rattle.std.proofs.Common.{◌≡◌, ◌≤◌, length}
use Rattle.part_bytes.proofs.ByAddress.{AreNumbered}
use Rattle.part_bytes.proofs.numbers.by_address_of.Given as goal

abbrev pub invariant-loop-next : goal.invariant-loop-next
invariant-loop-next l = record {
  room : length l.by_address ≡ l.room;
  within : l.next ≤ length l.order;
  numbered_by : AreNumbered l.by_address l.order l.total l.next;
}

abbrev pub decreases-loop-next : goal.decreases-loop-next
decreases-loop-next l = l.next
