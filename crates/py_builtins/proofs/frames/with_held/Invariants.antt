use Rattle.std.proofs.Common.{◌≡◌, All, drop}
use Rattle.py_machine.specs.Slots.{HasSlot}
use Rattle.py_meaning.specs.Meaning as spec
use Rattle.py_builtins.proofs.frames.with_held.Given as goal

abbrev pub invariant-loop-name : goal.invariant-loop-name
invariant-loop-name l = record {
  held : spec.with_held l.fn.frame l.names l.fn.values ≡ spec.with_held l.frame (drop l.name-index l.names) l.rest;
  slots : All (HasSlot l.frame.slots) l.names;
}
