use Rattle.std.proofs.Common.{[]}
use Rattle.node_intake.specs.Standing.{StandsFor}
use Rattle.node_intake.proofs.Taking.{from_nothing, all_taken}
use Rattle.node_intake.proofs.Standing.{as_handed}
use Rattle.node_intake.proofs.pieces.take_in_at.Goals as goal

pub returns-in-Ok-take_pieces-clause-told : goal.returns-in-Ok-take_pieces-clause-told
returns-in-Ok-take_pieces-clause-told g c =
    let t = c.in-Ok-take_pieces.ensures.taken in
    let took = t.2 [] (from_nothing c.args.hosts c.new-framer.result (StandsFor g.D.Desk.holds c.new-node.result) c.new-framer.ensures c.new-node.ensures) in (
      t.0,
      t.1,
      all_taken c.args.hosts t.0 c.take_pieces.new.framer (StandsFor g.D.Desk.holds c.take_pieces.new.node) _ c.taken_in.result.broken c.in-Ok-take_pieces.end (g.S.Source.left c.take_pieces.new.source) took
          (λ node stands. as_handed g.D.Desk.holds c.take_pieces.new.node c.taken_in.result node stands c.taken_in.ensures.desk c.taken_in.ensures.errors)
          c.taken_in.ensures.broken c.in-Ok-take_pieces.ensures.ends,
    )
