use Rattle.std.proofs.Common.{◌≡◌, take, vec_len}
use Rattle.std.specs.List.{flat_map}
use Rattle.py_heap.specs.References.{value_refs}
use Rattle.py_heap.specs.Searches.{all_noted}
use Rattle.py_heap.proofs.search.Search.note_values.Given as goal

abbrev pub invariant-loop-value : goal.invariant-loop-value
invariant-loop-value l = record {
  room : vec_len l.self.marks ≡ vec_len l.fn.self.marks;
  found : l.self.found ≡ all_noted l.fn.self.found (flat_map value_refs (take l.value-index l.values));
}
