use Rattle.std.proofs.Common.{◌≡◌, ◌+◌, ◌++◌, Bool, false, List, ℕ, get_or, take, sym, ap, ◌∙◌, subst, arith}
use Rattle.graph_model.specs.declared.graph.Version.{Version}
use Rattle.part_bytes.specs.Sizing.{holds_handle}
use Rattle.part_bytes.proofs.Pieces.{all_more}
use Rattle.checkpoint_bytes.specs.Plain.{IsPlainVersion, IsPlainIfCopied}
use Rattle.part_bytes.specs.Texts.{by_number}
use Rattle.checkpoint_bytes.specs.Texts as spec
use Rattle.checkpoint_bytes.specs.Written.{AddsFront, WritesSoFar}
use Rattle.checkpoint_bytes.proofs.Items.{next_from, parts_from, each_more}
use Rattle.checkpoint_bytes.proofs.Written.{put_next, put_next_front, on_err}
use Rattle.checkpoint_bytes.proofs.pieces.put_each_version.Goals as goal

pub put_version-requires-clause-movable : goal.put_version-requires-clause-movable
put_version-requires-clause-movable g c = λ copied.
    let x : Version = c.index-versions-index.result in
    let marked : get_or c.args.marks.now (c.loop-index.index + 1) false ≡ spec.lists c.args.plan.now.copied (c.loop-index.index + 1) =
    c.requires.marks.marked (c.loop-index.index + 1) (omega (arith, c.loop-index-test.true)) in
    let mark = ap (λ (ms : List Bool). get_or ms (c.loop-index.index + 1) false) c.as_slice.ensures ∙ marked in
    subst (λ (y : Version). holds_handle y.names c.args.state.now ≡ false) (sym c.index-versions-index.is)
    (c.requires.movable c.loop-index.index x c.loop-index-test.true (sym mark ∙ copied))

pub loop-index-preserved : goal.loop-index-preserved
loop-index-preserved g c =
    let i : ℕ = c.loop-index.index in
    let x : Version = c.index-versions-index.result in
    let each = λ (n : ℕ) (version : Version). spec.version_bytes (by_number c.args.texts.now) c.args.state.now (spec.lists c.args.plan.now.copied n) version in
    let mark = ap (λ (ms : List Bool). get_or ms (i + 1) false) c.as_slice.ensures ∙ c.requires.marks.marked (i + 1) (omega (arith, c.loop-index-test.true)) in
    record {
      written = put_next _ _ _ c.args.held.now (spec.each_from each 1 (take i c.args.versions.now)) (each (i + 1) x) _ c.loop-index.held c.put_version.new.held
          c.loop-index.invariant.written (next_from each c.args.versions.now i x c.loop-index-test.true c.index-versions-index.is)
          (subst (λ (b : Bool). WritesSoFar (g.K.Sink.written c.loop-index.sink) (g.K.Sink.written c.put_version.new.sink) (c.loop-index.held ++ spec.version_bytes (by_number c.args.texts.now) c.args.state.now b x) c.put_version.new.held) mark c.in_ok-put_version.ensures.ok);
      stay = omega (arith, c.loop-index.invariant.stay, c.in_ok-put_version.ensures.faults_stay);
      plain = all_more IsPlainVersion c.args.versions.now i x c.loop-index-test.true c.index-versions-index.is c.loop-index.invariant.plain c.in_ok-put_version.ensures.plain;
      parts = each_more (λ k y. IsPlainIfCopied c.args.state.now c.args.plan.now (k + 1) y) c.args.versions.now i x c.loop-index-test.true c.index-versions-index.is
          c.loop-index.invariant.parts (λ listed. c.in_ok-put_version.ensures.part (mark ∙ listed));
    }

pub returns-in_err-put_version-clause-err : goal.returns-in_err-put_version-clause-err
returns-in_err-put_version-clause-err g c =
    let i : ℕ = c.loop-index.index in
    let x : Version = c.index-versions-index.result in
    let each = λ (n : ℕ) (version : Version). spec.version_bytes (by_number c.args.texts.now) c.args.state.now (spec.lists c.args.plan.now.copied n) version in
    let mark = ap (λ (ms : List Bool). get_or ms (i + 1) false) c.as_slice.ensures ∙ c.requires.marks.marked (i + 1) (omega (arith, c.loop-index-test.true)) in
    let parts = parts_from each c.args.versions.now i x c.loop-index-test.true c.index-versions-index.is in
    on_err c.from_residual.result (put_next_front _ _ _ c.args.held.now (spec.each_from each 1 (take i c.args.versions.now)) (each (i + 1) x) parts.0 _ c.loop-index.held
    c.loop-index.invariant.written parts.1
    (subst (λ (b : Bool). AddsFront (g.K.Sink.written c.loop-index.sink) (g.K.Sink.written c.put_version.new.sink) (c.loop-index.held ++ spec.version_bytes (by_number c.args.texts.now) c.args.state.now b x)) mark c.in_err-put_version.ensures.err))
