use Rattle.std.proofs.Common.{sym}
use Rattle.graph_model.proofs.Indexing.{clash_some, clash_none}
use Rattle.graph_model.proofs.graph.Graph.clashes_by.Goals as goal

pub returns-in-Some-version : goal.returns-in-Some-version
returns-in-Some-version c = clash_some c.args.self.now c.args.v c.args.version.now c.args.name.now _ _ c.in-Some-version.next.now (sym c.in-Some.ensures) (c.requires c.args.name.now) c.in-Some-version.ensures

pub returns-in-None : goal.returns-in-None
returns-in-None c = clash_none c.args.self.now c.args.v c.args.version.now c.args.name.now _ (sym c.in-None.ensures) (c.requires c.args.name.now)
