use Rattle.std.proofs.Common.{refl, arith}
use Rattle.part_bytes.proofs.Lengths.{length-part_of, as_many_bytes}
use Rattle.part_bytes.proofs.length.part_size.Goals as goal

pub returns-in_err-named : goal.returns-in_err-named
returns-in_err-named c =
    let whole = length-part_of c.args.part.now c.as_slice.result.now c.args.part.now.values c.args.part.now.objects c.as_slice.ensures refl refl in
    rw c.from_residual.ensures (λ fits. c.in_err-named.ensures (omega (arith, fits, whole)))

pub returns-in_err-held : goal.returns-in_err-held
returns-in_err-held c =
    let whole = length-part_of c.args.part.now c.as_slice.result.now c.as_slice-2.result.now c.args.part.now.objects c.as_slice.ensures c.as_slice-2.ensures refl in
    rw c.from_residual-in_err-held.ensures (λ fits. c.in_err-held.ensures (omega (arith, fits, whole, c.in_ok-named.ensures.1)))

pub returns-in_err-counted : goal.returns-in_err-counted
returns-in_err-counted c =
    let whole = length-part_of c.args.part.now c.as_slice.result.now c.as_slice-2.result.now c.args.part.now.objects c.as_slice.ensures c.as_slice-2.ensures refl in
    rw c.from_residual-in_err-counted.ensures (λ fits. c.in_err-counted.ensures (omega (arith, fits, whole, c.in_ok-named.ensures.1, c.in_ok-held.ensures.1)))

pub returns : goal.returns
returns c =
    let whole = length-part_of c.args.part.now c.as_slice.result.now c.as_slice-2.result.now c.as_slice-3.result.now c.as_slice.ensures c.as_slice-2.ensures c.as_slice-3.ensures in
    as_many_bytes _ _ _ (omega (arith, whole, c.in_ok-named.ensures.1, c.in_ok-held.ensures.1, c.in_ok-counted.ensures.1)) c.add_part_objects.ensures
