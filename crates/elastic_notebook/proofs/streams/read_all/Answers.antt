use Rattle.std.proofs.Common.{◌∙◌, ◌++◌, ap, refl, append_assoc, arith}
use Rattle.node_intake.proofs.Taking.{Takes-both, risen_by_one_more}
use Rattle.elastic_notebook.proofs.Streaming.{more_read}
use Rattle.elastic_notebook.proofs.streams.read_all.Goals as goal

pub returns-in-Some-clause-taken : goal.returns-in-Some-clause-taken
returns-in-Some-clause-taken g c =
    let r = c.loop-turn.invariant.0 in
    let t = c.in-Some.ensures.taken in
    (r.taken ++ t.0, Takes-both _ _ _ _ _ r.takes t.1, λ keeps. t.2 keeps ∙ ap (λ ys. ys ++ t.0) r.added ∙ append_assoc _ r.taken t.0)

pub loop-turn-preserved : goal.loop-turn-preserved
loop-turn-preserved g c =
    let t = c.in-None.ensures.taken in
    let i = c.loop-turn.invariant in
    (more_read _ _ _ _ _ _ t.0 i.0 t.1 (t.2 tt), risen_by_one_more _ _ _ _ i.1 (c.in-None.ensures.more refl), omega arith, i.3)
