use Rattle.std.proofs.Common.{◌≡◌, ℕ, ◌<◌, length, slice_index}
use Rattle.linked_parts.proofs.classes.Classes.new.Given as goal

abbrev pub invariant-loop-number : goal.invariant-loop-number
invariant-loop-number l = record {
  size : length l.parents ≡ l.number;
  each : (k : ℕ) → k < l.number → slice_index l.parents k ≡ k;
}
