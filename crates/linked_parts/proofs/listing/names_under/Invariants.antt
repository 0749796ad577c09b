use Rattle.std.proofs.Common.{◌≡◌, ◌-◌, ◌<◌, ◌≤◌, length, slice_index}
use Rattle.linked_parts.specs.Labels.{AreUnder}
use Rattle.linked_parts.proofs.listing.names_under.Given as goal

abbrev pub invariant-loop-index : goal.invariant-loop-index
invariant-loop-index l = record {
  within : l.index ≤ length l.names;
  labelled : l.index < length l.names → slice_index l.labels l.index ≡ l.root;
  under : AreUnder l.names l.labels l.root l.index l.own;
}

abbrev pub decreases-loop-index : goal.decreases-loop-index
decreases-loop-index l = length l.names - l.index
