use Rattle.std.proofs.Common.{◌≡◌, take, vec_len}
use Rattle.std.specs.List.{flat_map}
use Rattle.py_heap.specs.Reaching.{name_refs}
use Rattle.py_heap.specs.Searches.{all_noted}
use Rattle.py_heap.proofs.state.State.note_names.Given as goal

abbrev pub invariant-loop-name : goal.invariant-loop-name
invariant-loop-name l = record {
  room : vec_len l.search.marks ≡ vec_len l.fn.search.marks;
  found : l.search.found ≡ all_noted l.fn.search.found (flat_map (name_refs l.self) (take l.name-index l.names));
}
