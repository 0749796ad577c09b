use Rattle.std.proofs.Common.{◌≡◌, ◌≤◌, length, List, ℕ, sym, ap, ◌∙◌, arith}
use Rattle.std.proofs.lemmas.Option.{slice_get_within, get_or_from_slice_get}
use Rattle.py_value.specs.declared.key.Key.{Key}
use Rattle.py_value.specs.declared.value.Value.{Value}
use Rattle.py_value.specs.Keys.{value_of}
use Rattle.part_bytes.specs.Tables.{with_texts}
use Rattle.part_bytes.specs.Uses as spec
use Rattle.part_bytes.proofs.Tables.{uses_more, uses_all, with_more}
use Rattle.part_bytes.proofs.texts.add_pairs.Goals as goal

pub loop-index-preserved : goal.loop-index-preserved
loop-index-preserved c =
    let pair : Key × Value = (c.pair_at.result.0.now, c.pair_at.result.1.now) in
    let both = c.in_ok-add_value.ensures ∙ (ap (λ (t : List (List ℕ)). with_texts t (spec.value_texts pair.1)) c.in_ok-add_key.ensures
    ∙ sym (with_more c.loop-index.texts (spec.value_texts (value_of pair.0)) (spec.value_texts pair.1))) in
    uses_more spec.pair_texts c.args.texts.now _ _ c.args.dict.now c.loop-index.index pair (slice_get_within c.args.dict.now c.loop-index.index pair c.pair_at.ensures)
    (sym (get_or_from_slice_get c.args.dict.now c.loop-index.index pair pair c.pair_at.ensures)) c.loop-index.invariant both

pub returns : goal.returns
returns c =
    let past : length c.args.dict.now ≤ c.loop-index.index = omega (arith, c.loop-index-test.false, c.len-index-end.ensures.value) in
    uses_all spec.pair_texts c.args.texts.now _ c.args.dict.now c.loop-index.index past c.loop-index.invariant
