use Rattle.std.proofs.Common.{ℕ, ◌<◌, ap, ◌∙◌, vec_len}
use Rattle.py_heap.specs.References.{value_refs}
use Rattle.py_heap.specs.Searches.{all_noted}
use Rattle.py_heap.proofs.Searching.{value_has, one_pair_more}
use Rattle.py_heap.proofs.search.Search.note_pairs.Goals as goal

pub note_value-requires : goal.note_value-requires
note_value-requires c =
    let P : ℕ → Type 0 = λ at. at < vec_len c.args.self.now.marks in
    rw c.loop-index.invariant.room (value_has c.args.dict.now c.loop-index.index _ _ c.pair_at.ensures P c.requires)

pub loop-index-preserved : goal.loop-index-preserved
loop-index-preserved c = record {
  room = c.note_value.ensures.room ∙ c.loop-index.invariant.room;
  found = c.in_ok-note_value.ensures.found ∙ (ap (λ found. all_noted found (value_refs c.pair_at.result.1.now)) c.loop-index.invariant.found
      ∙ one_pair_more c.args.dict.now c.loop-index.index _ _ c.pair_at.ensures c.args.self.now.found);
}
