use Rattle.std.proofs.Common.{length, ap, arith}
use Rattle.std.proofs.lemmas.Bool.{false≢true}
use Rattle.graph_model.specs.Walks.{ClashesBy}
use Rattle.graph_model.proofs.Walking.{none_more_in, none_contained}
use Rattle.graph_model.proofs.graph.Graph.some_clashes.Goals as goal

pub loop-name-preserved : goal.loop-name-preserved
loop-name-preserved c =
    none_more_in (ClashesBy c.args.self.now c.args.v c.args.version.now) c.args.version.now.names _ c.loop-name.name-index c.name-item.result
    c.as_slice-name-items.ensures c.loop-name-test.true c.name-item.is c.loop-name.invariant (λ p. false≢true (c.if-clashes_by.ensures.1 p))

pub returns : goal.returns
returns c =
    let e = ap length c.as_slice-name-items.ensures in (
      λ e. absurd (false≢true e),
      λ h. absurd (none_contained (ClashesBy c.args.self.now c.args.v c.args.version.now) c.args.version.now.names
          (λ k d l p. c.loop-name.invariant k d (omega (arith, e)) p) h.0 h.1 h.2),
    )
