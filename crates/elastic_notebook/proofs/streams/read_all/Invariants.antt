use Rattle.std.proofs.Common.{◌≡◌, ◌≤◌, vec_len}
use Rattle.nb_outside.specs.Counts.{HasRisenBy}
use Rattle.elastic_notebook.proofs.Streaming.{ReadsSoFar}
use Rattle.elastic_notebook.proofs.streams.read_all.Given as goal

abbrev pub invariant-loop-turn : goal.invariant-loop-turn
invariant-loop-turn g l =
    ReadsSoFar (g.S.Source.left l.initial.source) (g.S.Source.left l.source) l.initial.bytes.items l.bytes.items
    × HasRisenBy l.turn (g.S.Source.reads l.initial.source) (g.S.Source.reads l.source)
    × (g.S.Source.faults l.initial.source ≤ g.S.Source.faults l.source)
    × (vec_len l.piece ≡ 65536)
