use Rattle.std.proofs.Common.{◌≡◌, ℕ, ◌+◌, ◌≤◌, get_or, length}
use Rattle.std.specs.Vec.{vec_len, vec_capacity}
use Rattle.flow_arcs.proofs.lists.Lists.make_room.Given as goal

abbrev pub invariant-nodes : goal.invariant-nodes
invariant-nodes l = record {
  first : (n : ℕ) → get_or l.self.first.items n 0 ≡ get_or l.fn.self.first.items n 0;
  next : l.self.next.items ≡ l.fn.self.next.items;
  room : vec_len l.self.next + 2 ≤ vec_capacity l.self.next;
  grown : l.counter ≤ length l.self.first.items;
}
