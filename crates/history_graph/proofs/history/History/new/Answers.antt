use Rattle.std.proofs.Common.{List, sym, ap, subst}
use Rattle.py_heap.specs.States.{empty}
use Rattle.graph_model.specs.declared.graph.Graph.{Graph}
use Rattle.linked_parts.specs.declared.parts.Part.{Part}
use Rattle.history_graph.specs.Usable.{IsUsableHistory}
use Rattle.history_graph.proofs.Beginning.{no_parts, begun}
use Rattle.history_graph.proofs.history.History.new.Goals as goal

pub returns-clause-usable : goal.returns-clause-usable
returns-clause-usable c =
    subst (λ (list : List Part). IsUsableHistory empty (record { graph = c.new.result; parts = record { list = list } })) (sym c.new-2.ensures)
    (subst (λ (g : Graph). IsUsableHistory empty (record { graph = g; parts = no_parts })) (sym c.new.ensures) begun)
