use Rattle.std.proofs.Common.{◌≡◌, ◌-◌, ◌≤◌, zero, length, drop}
use Rattle.py_token.specs.Lexemes.{body}
use Rattle.py_token.specs.Bodies.{read_on}
use Rattle.py_token.proofs.texts.body.Given as goal

abbrev pub invariant-loop-at : goal.invariant-loop-at
invariant-loop-at l = record {
  within : l.at ≤ length l.bytes;
  rest : read_on l.written l.bad l.at (body l.quote zero (drop l.at l.bytes)) ≡ body l.quote zero l.bytes;
}

abbrev pub decreases-loop-at : goal.decreases-loop-at
decreases-loop-at l = length l.bytes - l.at
