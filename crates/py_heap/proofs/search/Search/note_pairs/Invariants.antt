use Rattle.std.proofs.Common.{◌≡◌, take, vec_len}
use Rattle.std.specs.List.{flat_map}
use Rattle.py_heap.specs.References.{pair_refs}
use Rattle.py_heap.specs.Searches.{all_noted}
use Rattle.py_heap.proofs.search.Search.note_pairs.Given as goal

abbrev pub invariant-loop-index : goal.invariant-loop-index
invariant-loop-index l = record {
  room : vec_len l.self.marks ≡ vec_len l.fn.self.marks;
  found : l.self.found ≡ all_noted l.fn.self.found (flat_map pair_refs (take l.index l.dict));
}
