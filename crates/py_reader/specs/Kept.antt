-- The statements of codes that were read before.
use Rattle.std.specs.Prelude.{◌≡◌, ℕ, List, Some, Ok}
use Rattle.std.specs.Ordering.{nat_cmp}
use Rattle.std.specs.Cmp.Lexicographic.{slice_cmp}
use Rattle.std.specs.FinMap as finite
use Rattle.py_tree.specs.declared.statements.Stmt.{Stmt}
use Rattle.py_reader.specs.Verdict.{verdict}

abbrev pub Bodies : Type 0
Bodies = finite.FinMap (slice_cmp nat_cmp) (List Stmt)

-- what is kept of a code is what the reader gives for it
abbrev pub AreRead : Bodies → Type 0
AreRead bodies = (code : List ℕ) (body : List Stmt) → finite.get bodies code ≡ Some body → verdict code ≡ Ok body
