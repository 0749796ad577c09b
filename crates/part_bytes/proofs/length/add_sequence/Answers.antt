use Rattle.std.proofs.Common.{List, length, ap, arith}
use Rattle.std.specs.List.{flat_map}
use Rattle.py_value.specs.declared.value.Value.{Value}
use Rattle.part_bytes.specs.Texts as spec
use Rattle.part_bytes.proofs.Lengths.{length-list, as_many_bytes}
use Rattle.part_bytes.proofs.length.add_sequence.Goals as goal

pub returns-in_err-counted : goal.returns-in_err-counted
returns-in_err-counted c = rw c.from_residual.ensures (λ fits. c.in_err-counted.ensures (omega (arith, fits, length-list c.args.items.now)))

pub returns : goal.returns
returns c =
    let same = ap (λ (xs : List Value). length (flat_map spec.value_bytes xs)) c.as_slice.ensures in
    as_many_bytes _ _ _ (omega (arith, same, length-list c.args.items.now, c.in_ok-counted.ensures.1)) c.add_items.ensures
