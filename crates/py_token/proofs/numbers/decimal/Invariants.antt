use Rattle.std.proofs.Common.{◌≡◌, ◌-◌, ◌^◌, min, take}
use Rattle.py_token.specs.Spellings.{decimal}
use Rattle.py_token.proofs.numbers.decimal.Given as goal

abbrev pub invariant-loop-byte : goal.invariant-loop-byte
invariant-loop-byte l = l.value ≡ min (2 ^ 128 - 1) (decimal (take l.byte-index l.digits))
