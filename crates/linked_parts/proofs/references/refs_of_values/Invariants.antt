use Rattle.std.proofs.Common.{◌≡◌, take}
use Rattle.std.specs.List.{flat_map}
use Rattle.py_heap.specs.References.{value_refs}
use Rattle.linked_parts.proofs.references.refs_of_values.Given as goal

abbrev pub invariant-loop-value : goal.invariant-loop-value
invariant-loop-value l = l.refs ≡ flat_map value_refs (take l.value-index l.values)
