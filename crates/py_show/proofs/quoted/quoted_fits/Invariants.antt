use Rattle.std.proofs.Common.{◌≡◌, ◌+◌, ◌≤◌, length, take}
use Rattle.std.specs.List.{sum_by}
use Rattle.py_value.specs.Reprs as spec
use Rattle.py_show.proofs.quoted.quoted_fits.Given as goal

abbrev pub invariant-loop-byte : goal.invariant-loop-byte
invariant-loop-byte l = record {
  counted : l.len ≡ 2 + sum_by (λ c. length (spec.escaped l.quote c)) (take l.byte-index l.byte-items);
  small : l.len ≤ 16777218;
}
