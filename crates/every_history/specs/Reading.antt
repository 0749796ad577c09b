-- Runs of codes by the trees that the reader gives for them.
use Rattle.std.specs.Prelude.{List, Option, Some, None, Ok, Err}
use Rattle.py_tree.specs.declared.statements.Stmt.{Stmt}
use Rattle.py_reader.specs.Verdict.{Judged, verdict}
use Rattle.run_graph.specs.Soundness.{TreeReader}

-- a tree, unless the code is refused
abbrev pub tree_in : Judged → Option (List Stmt)
tree_in (Ok body) = Some body
tree_in (Err fault) = None

-- the reader's own
abbrev pub read : TreeReader
read code = tree_in (verdict code)
