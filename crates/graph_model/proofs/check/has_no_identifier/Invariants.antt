use Rattle.std.proofs.Common.{◌≡◌, ℕ, ◌<◌, List, true, get_or}
use Rattle.py_names.specs.Names.{is_identifier}
use Rattle.graph_model.proofs.check.has_no_identifier.Given as goal

abbrev pub invariant-loop-name : goal.invariant-loop-name
invariant-loop-name l = (k : ℕ) (d : List ℕ) → k < l.name-index → is_identifier (get_or l.names k d) ≡ true
