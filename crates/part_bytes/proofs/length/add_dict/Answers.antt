use Rattle.std.proofs.Common.{arith}
use Rattle.part_bytes.proofs.Lengths.{length-dict, as_many_bytes}
use Rattle.part_bytes.proofs.length.add_dict.Goals as goal

pub returns-in_err-counted : goal.returns-in_err-counted
returns-in_err-counted c = rw c.from_residual.ensures (λ fits. c.in_err-counted.ensures (omega (arith, fits, length-dict c.args.dict.now)))

pub returns : goal.returns
returns c = as_many_bytes _ _ _ (omega (arith, length-dict c.args.dict.now, c.in_ok-counted.ensures.1)) c.add_pairs.ensures
