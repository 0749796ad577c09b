use Rattle.std.proofs.Common.{sym}
use Rattle.graph_model.proofs.Indexing.{written_some, written_none}
use Rattle.graph_model.proofs.graph.Graph.written_before.Goals as goal

pub returns-in-Some-version : goal.returns-in-Some-version
returns-in-Some-version c = written_some c.args.self.now c.args.c c.args.name.now _ _ c.in-Some-version.version.now c.requires.writers (sym c.in-Some.ensures) (c.requires.index c.args.name.now) c.in-Some-version.ensures

pub returns-in-None : goal.returns-in-None
returns-in-None c = written_none c.args.self.now c.args.c c.args.name.now _ (sym c.in-None.ensures) (c.requires.index c.args.name.now)
