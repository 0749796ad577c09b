use Rattle.std.proofs.Common.{◌≡◌, ℕ, ◌<◌, slice_index}
use Rattle.linked_parts.specs.Labels.{IsShortened}
use Rattle.linked_parts.proofs.classes.Classes.flatten.Given as goal

abbrev pub invariant-loop-number : goal.invariant-loop-number
invariant-loop-number l = record {
  classes : IsShortened l.fn.self.parents l.self.parents;
  flat : (k : ℕ) → k < l.number → slice_index l.self.parents (slice_index l.self.parents k) ≡ slice_index l.self.parents k;
}
