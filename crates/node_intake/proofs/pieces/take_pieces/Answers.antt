use Rattle.std.proofs.Common.{◌++◌, Ok, inl, ap, arith}
use Rattle.jupyter_frames.specs.Framing.{IsBegun}
use Rattle.node_intake.specs.Standing.{StandsFor}
use Rattle.node_intake.proofs.Taking.{Takes-both, risen_by_one_more, stays, goes_on}
use Rattle.node_intake.proofs.pieces.take_pieces.Goals as goal

pub loop-turn-init : goal.loop-turn-init
loop-turn-init g c = (
  stays c.args.hosts (g.S.Source.left c.args.source.now) c.args.framer.now (StandsFor g.D.Desk.holds c.args.node.now),
  c.requires.begun,
  inl (omega arith),
  omega arith,
  c.requires.room,
)

pub returns-in-Ok-Some-clause-taken : goal.returns-in-Ok-Some-clause-taken
returns-in-Ok-Some-clause-taken g c =
    let t = c.in-Ok-Some.ensures.taken in
    let all = goes_on c.args.hosts (g.S.Source.left c.args.source.now) (g.S.Source.left c.loop-turn.source) (g.S.Source.left c.take_piece.new.source) c.args.framer.now c.loop-turn.framer c.take_piece.new.framer
    (StandsFor g.D.Desk.holds c.args.node.now) (StandsFor g.D.Desk.holds c.loop-turn.node) (StandsFor g.D.Desk.holds c.take_piece.new.node) t.0 c.loop-turn.invariant.0 t.1 t.2 in
    (all.bytes, all.takes, all.took)

pub returns-in-Err-clause-taken : goal.returns-in-Err-clause-taken
returns-in-Err-clause-taken g c =
    let i = c.loop-turn.invariant.0 in
    let t = c.in-Err.ensures.taken in
    (i.bytes ++ t.0, Takes-both (g.S.Source.left c.args.source.now) (g.S.Source.left c.loop-turn.source) (g.S.Source.left c.take_piece.new.source) i.bytes t.0 i.takes t.1, tt)

pub loop-turn-preserved : goal.loop-turn-preserved
loop-turn-preserved g c =
    let i = c.loop-turn.invariant in
    let t = c.in-Ok-None.ensures.taken in
    let begun : IsBegun c.take_piece.new.framer.bytes = rw c.in-Ok-None.field-0-is at c.in-Ok-None.ensures.ends in (
      goes_on c.args.hosts (g.S.Source.left c.args.source.now) (g.S.Source.left c.loop-turn.source) (g.S.Source.left c.take_piece.new.source) c.args.framer.now c.loop-turn.framer c.take_piece.new.framer
          (StandsFor g.D.Desk.holds c.args.node.now) (StandsFor g.D.Desk.holds c.loop-turn.node) (StandsFor g.D.Desk.holds c.take_piece.new.node) t.0 i.0 t.1 t.2,
      begun,
      risen_by_one_more c.loop-turn.turn (g.S.Source.reads c.args.source.now) (g.S.Source.reads c.loop-turn.source) (g.S.Source.reads c.take_piece.new.source) i.2 (c.in-Ok-None.ensures.more (ap Ok c.in-Ok-None.field-0-is)),
      omega (arith, c.in-Ok-None.ensures.faults_stay, i.3),
      omega (arith, c.take_piece.auto.piece, i.4),
    )
