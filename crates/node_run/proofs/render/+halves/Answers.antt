use Rattle.std.proofs.lemmas.Result.{IfOk-at_ok}
use Rattle.std.proofs.lemmas.List.{take-append-drop}
use Rattle.std.proofs.Common.{◌≡◌}
use Rattle.node_run.specs.Frames.{journal_frames, parts_together}
use Rattle.node_run.proofs.Batching.{halves, parts_both}
use Rattle.node_run.proofs.render.+halves.Goals as goal

pub returns : goal.returns
returns g t c =
    parts_both c.args.kernel c.args.first c.in-Some.middle c.args.entries.now _ _ c.in_ok-parts.parts.items c.in_ok-rest.rest.items _ (halves _ c.args.entries.now _ _ c.split_at.ensures.front c.split_at.ensures.back) c.in-Some.ensures
    (IfOk-at_ok (λ parts. parts_together parts.items ≡ journal_frames c.args.kernel c.args.first _) c.in_ok-parts.was c.join-made.ensures.first)
    (IfOk-at_ok (λ parts. parts_together parts.items ≡ journal_frames c.args.kernel c.in-Some.middle _) c.in_ok-rest.was c.join-made.ensures.second)
    c.in_ok-append.ensures.items
