use Rattle.std.proofs.Common.{◌≡◌, ◌+◌, ◌≤◌, length, sym, arith}
use Rattle.std.proofs.lemmas.Option.{slice_get_within, get_or_from_slice_get}
use Rattle.py_value.specs.declared.key.Key.{Key}
use Rattle.py_value.specs.declared.value.Value.{Value}
use Rattle.part_bytes.specs.Texts as spec
use Rattle.part_bytes.proofs.Lengths.{length-pair_bytes, sum_more, sum_past, sum_done}
use Rattle.part_bytes.proofs.length.add_pairs.Goals as goal

pub loop-index-preserved : goal.loop-index-preserved
loop-index-preserved c =
    let pair : Key × Value = (c.pair_at.result.0.now, c.pair_at.result.1.now) in
    let one : c.key_len.result + c.value_len.result ≡ length (spec.pair_bytes pair) = omega (arith, length-pair_bytes pair, c.key_len.ensures, c.value_len.ensures) in
    sum_more spec.pair_bytes c.args.total c.loop-index.total c.args.dict.now c.loop-index.index pair pair (slice_get_within c.args.dict.now c.loop-index.index pair c.pair_at.ensures)
    (sym (get_or_from_slice_get c.args.dict.now c.loop-index.index pair pair c.pair_at.ensures)) c.loop-index.invariant _ one c.in_ok-total.total
    (omega (arith, c.in_ok-keyed.ensures.1, c.in_ok-total.ensures.0), omega (arith, c.in_ok-keyed.ensures.1, c.in_ok-total.ensures.1))

pub returns-in_err-keyed : goal.returns-in_err-keyed
returns-in_err-keyed c =
    let pair : Key × Value = (c.pair_at.result.0.now, c.pair_at.result.1.now) in
    let one : c.key_len.result + length (spec.value_bytes pair.1) ≡ length (spec.pair_bytes pair) = omega (arith, length-pair_bytes pair, c.key_len.ensures) in
    rw c.from_residual.ensures (sum_past spec.pair_bytes c.args.total c.loop-index.total c.args.dict.now c.loop-index.index pair pair (slice_get_within c.args.dict.now c.loop-index.index pair c.pair_at.ensures)
    (sym (get_or_from_slice_get c.args.dict.now c.loop-index.index pair pair c.pair_at.ensures)) c.loop-index.invariant _ one
    (λ fits. c.in_err-keyed.ensures (omega (arith, fits))))

pub returns-in_err-total : goal.returns-in_err-total
returns-in_err-total c =
    let pair : Key × Value = (c.pair_at.result.0.now, c.pair_at.result.1.now) in
    let one : c.key_len.result + c.value_len.result ≡ length (spec.pair_bytes pair) = omega (arith, length-pair_bytes pair, c.key_len.ensures, c.value_len.ensures) in
    rw c.from_residual-in_err-total.ensures (sum_past spec.pair_bytes c.args.total c.loop-index.total c.args.dict.now c.loop-index.index pair pair (slice_get_within c.args.dict.now c.loop-index.index pair c.pair_at.ensures)
    (sym (get_or_from_slice_get c.args.dict.now c.loop-index.index pair pair c.pair_at.ensures)) c.loop-index.invariant _ one
    (λ fits. c.in_err-total.ensures (omega (arith, fits, c.in_ok-keyed.ensures.1))))

pub returns : goal.returns
returns c =
    let past : length c.args.dict.now ≤ c.loop-index.index = omega (arith, c.loop-index-test.false, c.len-index-end.ensures.value) in
    sum_done spec.pair_bytes c.args.total c.loop-index.total c.args.dict.now c.loop-index.index past c.loop-index.invariant
