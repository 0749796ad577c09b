use Rattle.std.proofs.Common.{ℕ, ◌<◌, vec_len}
use Rattle.py_heap.specs.References.{value_refs}
use Rattle.py_heap.proofs.Numbers.{All-flat_map_at}
use Rattle.py_heap.proofs.search.Search.note_values.Goals as goal

pub note_value-requires : goal.note_value-requires
note_value-requires c =
    let P : ℕ → Type 0 = λ at. at < vec_len c.args.self.now.marks in
    let a = All-flat_map_at P value_refs c.args.values.now c.loop-value.value-index c.value-item.result c.loop-value-test.true c.requires in
    rw c.loop-value.invariant.room (rw (← c.value-item.is) at a)
