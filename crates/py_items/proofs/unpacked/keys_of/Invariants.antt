use Rattle.std.proofs.Common.{◌≡◌, take}
use Rattle.py_meaning.specs.Unpacking.{keys_of}
use Rattle.py_items.proofs.unpacked.keys_of.Given as goal

abbrev pub invariant-loop-index : goal.invariant-loop-index
invariant-loop-index l = l.keys ≡ keys_of (take l.index l.pairs)
