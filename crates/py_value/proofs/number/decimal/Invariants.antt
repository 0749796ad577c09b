use Rattle.std.proofs.Common.{◌≡◌, ◌≤◌, ◌^◌, drop}
use Rattle.py_value.specs.Numbers as spec
use Rattle.py_value.proofs.number.decimal.Given as goal

abbrev pub invariant-loop-byte : goal.invariant-loop-byte
invariant-loop-byte l = (l.number ≤ 2 ^ 127) × (spec.decimal_from 0 l.bytes ≡ spec.decimal_from l.number (drop l.byte-index l.bytes))
