use Rattle.std.proofs.Common.{◌+◌, Bool, false, List, [], ℕ, cond, get_or, take, ap, ◌∙◌, arith}
use Rattle.std.proofs.lemmas.List.{take_all}
use Rattle.graph_model.specs.declared.graph.Version.{Version}
use Rattle.part_bytes.specs.Tables.{with_texts}
use Rattle.part_bytes.specs.Uses.{part_texts}
use Rattle.checkpoint_bytes.specs.Texts as spec
use Rattle.checkpoint_bytes.proofs.Gathering.{one_version_more}
use Rattle.checkpoint_bytes.proofs.texts.add_copied.Goals as goal

pub loop-index-preserved : goal.loop-index-preserved
loop-index-preserved c =
    let i : ℕ = c.loop-index.index in
    let x : Version = c.index-versions-index.result in
    let mark = ap (λ (ms : List Bool). get_or ms (i + 1) false) c.as_slice.ensures ∙ c.requires.marks.marked (i + 1) (omega (arith, c.loop-index-test.true)) in
    one_version_more c.args.state.now c.args.plan.now c.args.texts.now _ _ c.args.versions.now i x c.loop-index-test.true c.index-versions-index.is c.loop-index.invariant
    (c.in_ok-add_if_copied.ensures ∙ ap (λ (b : Bool). with_texts c.loop-index.texts (cond b (part_texts c.args.state.now x.names) [])) mark)

pub returns : goal.returns
returns c = c.loop-index.invariant ∙ ap (λ (xs : List Version). with_texts c.args.texts.now (spec.each_from (spec.copied_texts c.args.state.now c.args.plan.now) 1 xs)) (take_all c.loop-index.index c.args.versions.now (omega arith))
