use Rattle.std.proofs.Common.{◌++◌, append_assoc, append-nil, drop, ap, sym, ◌∙◌}
use Rattle.node_run.specs.Frames.{journal_frames}
use Rattle.node_run.proofs.Framing.{entry_next, entry_past}
use Rattle.node_run.proofs.Batching.{rendered_none, rendered_on, rendered_all}
use Rattle.node_run.proofs.render.render_in_turn.Goals as goal

pub loop-entry-init : goal.loop-entry-init
loop-entry-init c = rendered_none (journal_frames c.args.kernel c.args.first c.args.entries.now) c.new-bytes.result c.new-bytes.ensures

pub loop-entry-preserved : goal.loop-entry-preserved
loop-entry-preserved c =
    rendered_on (journal_frames c.args.kernel c.args.first c.args.entries.now) c.loop-entry.bytes _ _ _ _ c.loop-entry.invariant
    (entry_next c.args.kernel c.loop-entry.running _ c.loop-entry.entry-index c.entry-item.result c.args.entries.now c.loop-entry-test.true c.entry-item.is c.in_ok-told.ensures.next)
    (c.in_ok-extend_from_slice.ensures.ok ∙ ap (λ z. c.loop-entry.bytes ++ z) (c.as_slice.ensures ∙ c.in_ok-told.ensures.bytes))

pub returns : goal.returns
returns c = rendered_all _ _ _ c.loop-entry.invariant (entry_past c.args.kernel c.loop-entry.running c.loop-entry.entry-index c.args.entries.now c.loop-entry-test.false)
