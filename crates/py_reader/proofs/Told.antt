-- What the verdict on a text says of how far it is a cell.
use Rattle.std.proofs.Common.{◌≡◌, ◌<◌, ap, sym, List, ℕ, length}
use Rattle.py_reader.specs.declared.answer.Completeness.{Completeness}
use Rattle.py_reader.specs.declared.answer.Completeness.TheVariants.{Invalid}
use Rattle.py_reader.specs.Verdict.{verdict}
use Rattle.py_reader.specs.Completeness.{completeness_of, IsCompleteness}
use Rattle.py_reader.proofs.Final as final
use Rattle.py_reader.proofs.Meant.{means}

pub judged_so : (code : List ℕ) (answer : Completeness) → answer ≡ completeness_of code (verdict code) → IsCompleteness code answer
judged_so code answer is = record { judged = verdict code; verdict = means code; exact = is }

pub too_long : (code : List ℕ) → 262144 < length code → Invalid ≡ completeness_of code (verdict code)
too_long code long = sym (ap (completeness_of code) (final.too_long code long))

pub ruleset told = (judged_so, too_long)
