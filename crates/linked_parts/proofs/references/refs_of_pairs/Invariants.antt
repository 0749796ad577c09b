use Rattle.std.proofs.Common.{◌≡◌, take}
use Rattle.std.specs.List.{flat_map}
use Rattle.py_heap.specs.References.{pair_refs}
use Rattle.linked_parts.proofs.references.refs_of_pairs.Given as goal

abbrev pub invariant-loop-index : goal.invariant-loop-index
invariant-loop-index l = l.refs ≡ flat_map pair_refs (take l.index l.dict)
