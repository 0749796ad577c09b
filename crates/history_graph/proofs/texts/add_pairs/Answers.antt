use Rattle.std.proofs.Common.{◌<◌, ◌≤◌, length, sym, arith}
use Rattle.std.proofs.lemmas.Option.{get_or_from_slice_get}
use Rattle.py_value.specs.declared.key.Key.{Key}
use Rattle.py_value.specs.declared.value.Value.{Value}
use Rattle.history_graph.specs.Texts.{IsOfPair}
use Rattle.history_graph.proofs.Items.{items_more, items_all}
use Rattle.history_graph.proofs.texts.add_pairs.Goals as goal

pub loop-index-preserved : goal.loop-index-preserved
loop-index-preserved c =
    let pairs = c.args.dict.now in
    let i = c.loop-index.index in
    let pair : Key × Value = (c.pair_at.result.0.now, c.pair_at.result.1.now) in
    let size = c.len-index-end.ensures.value in
    let l : i < length pairs = omega (arith, size) in
    items_more IsOfPair pairs i c.args.texts.now c.loop-index.texts c.add_pair.new.texts pair l (sym (get_or_from_slice_get pairs i pair pair c.pair_at.ensures)) c.loop-index.invariant
    c.in_ok-add_pair.ensures

pub returns : goal.returns
returns c =
    let size = c.len-index-end.ensures.value in
    let l : length c.args.dict.now ≤ c.loop-index.index = omega (arith, size) in
    items_all IsOfPair c.args.dict.now c.loop-index.index c.args.texts.now c.loop-index.texts l c.loop-index.invariant
