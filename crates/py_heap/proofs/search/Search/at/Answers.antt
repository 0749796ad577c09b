use Rattle.std.proofs.Common.{◌<◌, length, get_or, arith}
use Rattle.py_heap.proofs.Numbers.{marked_room}
use Rattle.py_heap.proofs.search.Search.at.Goals as goal

pub returns-clause-room : goal.returns-clause-room
returns-clause-room c =
    let s = c.args.self.now in
    let l : get_or s.found c.args.index 0 < length s.marks.items = marked_room s.marks.items s.found s.marked c.args.index c.requires in
    rw c.as_slice.ensures (omega (arith, s.marks.ok.0))
