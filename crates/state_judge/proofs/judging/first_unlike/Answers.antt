use Rattle.std.proofs.Common.{◌≡◌, ◌+◌, ◌<◌, ◌≤◌, length, sym, ap, ◌∙◌, arith}
use Rattle.std.proofs.lemmas.Bool.{false≢true}
use Rattle.graph_model.specs.Graphs.{VersionAt}
use Rattle.graph_model.proofs.Lookups.{version_read}
use Rattle.state_judge.specs.Agreeing.{Disagrees}
use Rattle.state_judge.proofs.Agreed.{none_more, none_ever, found_unlike}
use Rattle.state_judge.proofs.judging.first_unlike.Goals.{else-version-eq0-via-then-version-eq0+in_ok-disagrees+else-branch, else-version-eq0-via-else-version-eq0}
use Rattle.state_judge.proofs.judging.first_unlike.Goals as goal

pub returns-then-branch : goal.returns-then-branch
returns-then-branch c =
    let g = c.args.graph.now in
    let i = c.loop-i.i in
    let x = c.index-versions-i.result in
    let l : i < length c.as_slice-versions.result.now = omega arith in
    let at : VersionAt g (i + 1) x = version_read g c.as_slice-versions.result.now i x c.as_slice-versions.ensures l c.index-versions-i.is in
    found_unlike g c.args.state.now i x at c.if-version-eq0.true (c.in_ok-disagrees.ensures.0 c.if-branch.true) c.loop-i.invariant

pub loop-i-preserved : goal.loop-i-preserved
loop-i-preserved c =
    let g = c.args.graph.now in
    let s = c.args.state.now in
    let i = c.loop-i.i in
    let x = c.index-versions-i.result in
    let l : i < length c.as_slice-versions.result.now = omega arith in
    let at : VersionAt g (i + 1) x = version_read g c.as_slice-versions.result.now i x c.as_slice-versions.ensures l c.index-versions-i.is in
    let fine : x.replaced ≡ 0 → ¬ Disagrees x s = elim c.else-version-eq0.branch [
      | else-version-eq0-via-then-version-eq0+in_ok-disagrees+else-branch w ↦ λ e d. false≢true (sym w.if-branch.false ∙ w.in_ok-disagrees.ensures.1 d)
      | else-version-eq0-via-else-version-eq0 w ↦ λ e d. w.if-version-eq0.false e
    ] in
    none_more g s i x at c.loop-i.invariant fine

pub returns : goal.returns
returns c =
    let e = ap length c.as_slice-versions.ensures in
    let l : length c.args.graph.now.versions ≤ c.loop-i.i = omega arith in
    none_ever c.args.graph.now c.args.state.now c.loop-i.i l c.loop-i.invariant
