use Rattle.std.proofs.Common.{◌≡◌, ◌≤◌, ◌-◌, Some}
use Rattle.py_reader.specs.Scans.{read_first}
use Rattle.py_reader.proofs.scan.read_tokens.Given as goal

abbrev pub invariant-loop-index : goal.invariant-loop-index
invariant-loop-index l = (l.index ≤ l.count) × (read_first l.alone l.code l.tokens l.index ≡ Some l.reader)

abbrev pub decreases-loop-index : goal.decreases-loop-index
decreases-loop-index l = l.count - l.index
