use Rattle.std.proofs.Common.{◌≡◌, ℕ, ◌<◌, [], vec_len, get_or}
use Rattle.linked_parts.proofs.listing.empty_lists.Given as goal

abbrev pub invariant-loop : goal.invariant-loop
invariant-loop l = record {
  size : vec_len l.lists ≡ l.counter;
  empty : (k : ℕ) → k < l.counter → get_or l.lists.items k [] ≡ [];
}
