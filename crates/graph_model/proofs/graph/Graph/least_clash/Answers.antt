use Rattle.std.proofs.Common.{◌∙◌, sym}
use Rattle.std.proofs.lemmas.Bool.{false≢true}
use Rattle.graph_model.specs.Walks.{SomeClashes}
use Rattle.graph_model.proofs.Lookups.{of_version}
use Rattle.graph_model.proofs.Indexing.{least_here, least_down}
use Rattle.graph_model.proofs.graph.Graph.least_clash.Goals as goal

pub returns-then-some_clashes : goal.returns-then-some_clashes
returns-then-some_clashes c = least_here c.args.self.now c.args.v c.requires.version.0 (c.args.version.now, c.requires.version, c.some_clashes.ensures.0 c.if-some_clashes.true)

pub returns-else-some_clashes : goal.returns-else-some_clashes
returns-else-some_clashes c =
    least_down c.args.self.now c.args.v c.args.later (λ k. false≢true (sym c.if-some_clashes.false ∙ c.some_clashes.ensures.1 (of_version (SomeClashes c.args.self.now c.args.v) c.args.self.now c.args.v c.args.version.now k.0 c.requires.version k.1 k.2))) c.requires.later
