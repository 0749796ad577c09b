use Rattle.std.proofs.Common.{◌≡◌, ◌-◌, ◌≤◌, length, drop}
use Rattle.py_token.specs.Lines.{read, before, tokens_of}
use Rattle.py_token.proofs.read.tokens.Given as goal

abbrev pub invariant-loop-at : goal.invariant-loop-at
invariant-loop-at l = record {
  within : l.at ≤ length l.bytes;
  few : l.line.brackets ≤ l.at;
  rest : before l.all (read 0 l.at l.line (drop l.at l.bytes)) ≡ tokens_of l.bytes;
}

abbrev pub decreases-loop-at : goal.decreases-loop-at
decreases-loop-at l = length l.bytes - l.at
