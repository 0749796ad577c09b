use Rattle.std.proofs.Common.{◌≡◌, ℕ, ◌+◌, List, length, ap, arith}
use Rattle.part_bytes.specs.Texts as spec
use Rattle.part_bytes.proofs.Lengths.{sum_more, sum_past, sum_done}
use Rattle.part_bytes.proofs.length.add_names.Goals as goal

pub loop-name-preserved : goal.loop-name-preserved
loop-name-preserved c =
    let one : 1 + length c.as_str-text.result.now ≡ length (spec.name_bytes c.name-item.result) = omega (arith, ap (λ (text : List ℕ). length text) c.as_str-text.ensures) in
    sum_more spec.name_bytes c.args.total c.loop-name.total c.args.names.now c.loop-name.name-index c.name-item.result c.name-item.result c.loop-name-test.true c.name-item.is c.loop-name.invariant _ one c.in_ok-total.total c.in_ok-total.ensures

pub returns-in_err-total : goal.returns-in_err-total
returns-in_err-total c =
    let one : 1 + length c.as_str-text.result.now ≡ length (spec.name_bytes c.name-item.result) = omega (arith, ap (λ (text : List ℕ). length text) c.as_str-text.ensures) in
    rw c.from_residual.ensures (sum_past spec.name_bytes c.args.total c.loop-name.total c.args.names.now c.loop-name.name-index c.name-item.result c.name-item.result c.loop-name-test.true c.name-item.is c.loop-name.invariant _ one c.in_err-total.ensures)

pub returns : goal.returns
returns c = sum_done spec.name_bytes c.args.total c.loop-name.total c.args.names.now c.loop-name.name-index c.loop-name-test.false c.loop-name.invariant
