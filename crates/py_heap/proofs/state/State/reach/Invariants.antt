use Rattle.std.proofs.Common.{◌≡◌, ◌-◌, length, vec_len}
use Rattle.py_heap.proofs.Searching.{FoundSo}
use Rattle.py_heap.proofs.state.State.reach.Given as goal

abbrev pub invariant-loop-next : goal.invariant-loop-next
invariant-loop-next l = record {
  room : vec_len l.search.marks ≡ length l.self.heap;
  found : FoundSo l.self l.names l.search.found l.next;
}

abbrev pub decreases-loop-next : goal.decreases-loop-next
decreases-loop-next l = length l.self.heap - l.next
