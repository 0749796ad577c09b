use Rattle.std.proofs.Common.{sym}
use Rattle.py_heap.proofs.state.State.note_names.Goals as goal

pub note_value-requires : goal.note_value-requires
note_value-requires c =
    rw (c.loop-name.invariant.room, c.requires.room) (c.requires.closed.names _ _ (sym c.in-Some.ensures))
