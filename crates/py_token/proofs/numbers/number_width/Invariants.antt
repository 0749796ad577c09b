use Rattle.std.proofs.Common.{◌≡◌, ◌+◌, ◌-◌, ◌≤◌, length, drop, slice_index}
use Rattle.py_token.specs.Lexemes.{digits_after, number_width}
use Rattle.py_token.proofs.numbers.number_width.Given as goal

abbrev pub invariant-loop-width : goal.invariant-loop-width
invariant-loop-width l = record {
  within : l.width ≤ length l.bytes;
  rest : l.width + digits_after (slice_index l.bytes 0) (drop l.width l.bytes) ≡ number_width l.bytes;
}

abbrev pub decreases-loop-width : goal.decreases-loop-width
decreases-loop-width l = length l.bytes - l.width
