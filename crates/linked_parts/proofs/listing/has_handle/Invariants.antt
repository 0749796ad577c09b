use Rattle.std.proofs.Common.{ℕ, ◌<◌, get_or}
use Rattle.py_heap.specs.Objects.{IsHandleAt}
use Rattle.linked_parts.proofs.listing.has_handle.Given as goal

abbrev pub invariant-loop-at : goal.invariant-loop-at
invariant-loop-at l = (k d : ℕ) → k < l.at-index → ¬ IsHandleAt l.state.heap (get_or l.objects k d)
