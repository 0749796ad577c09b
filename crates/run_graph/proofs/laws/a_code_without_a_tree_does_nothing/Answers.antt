use Rattle.std.proofs.Common.{List, Option, ap}
use Rattle.py_tree.specs.declared.statements.Stmt.{Stmt}
use Rattle.py_meaning.specs.Cells.{outcome}
use Rattle.run_graph.specs.Soundness.{statements}
use Rattle.run_graph.proofs.laws.a_code_without_a_tree_does_nothing.Goals as goal

pub returns : goal.returns
returns c = λ read code s draws e. ap (λ (o : Option (List Stmt)). (outcome (statements o) s draws).1) e
