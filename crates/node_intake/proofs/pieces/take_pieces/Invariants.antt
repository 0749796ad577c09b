use Rattle.std.proofs.Common.{◌<◌, ◌≤◌, length}
use Rattle.nb_outside.specs.Counts.{HasRisenBy}
use Rattle.jupyter_frames.specs.Framing.{IsBegun}
use Rattle.node_intake.specs.Standing.{StandsFor}
use Rattle.node_intake.proofs.Taking.{GoesOn}
use Rattle.node_intake.proofs.pieces.take_pieces.Given as goal

abbrev pub invariant-loop-turn : goal.invariant-loop-turn
invariant-loop-turn g l =
    GoesOn l.hosts (g.S.Source.left l.initial.source) (g.S.Source.left l.source) l.initial.framer l.framer (StandsFor g.D.Desk.holds l.initial.node) (StandsFor g.D.Desk.holds l.node)
    × IsBegun l.framer.bytes
    × HasRisenBy l.turn (g.S.Source.reads l.initial.source) (g.S.Source.reads l.source)
    × (g.S.Source.faults l.initial.source ≤ g.S.Source.faults l.source)
    × (0 < length l.piece)
