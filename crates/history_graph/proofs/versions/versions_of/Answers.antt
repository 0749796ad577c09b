use Rattle.std.proofs.Common.{◌+◌, ◌<◌, List, length, take, sym, ◌∙◌, subst, arith}
use Rattle.graph_model.specs.declared.graph.Version.{Version}
use Rattle.history_graph.specs.Left.{AreOfLeft}
use Rattle.history_graph.proofs.Leaving.{left_more, no_head}
use Rattle.history_graph.proofs.versions.versions_of.Goals as goal
use Rattle.history_graph.proofs.versions.versions_of.Goals.{in-Some+in_ok-version+in_ok-push, in_default}

pub loop-name-preserved : goal.loop-name-preserved
loop-name-preserved c =
    let s = c.args.state.now in
    let parts = c.args.parts.now in
    let heads = c.args.heads.now in
    let names = c.args.names.now in
    let i = c.loop-name.name-index in
    let name = c.name-item.result in
    let l : i < length names = omega arith in
    elim c.match-look.branch [
      | in-Some+in_ok-version+in_ok-push w ↦
          subst (λ (news : List Version). AreOfLeft s parts c.args.writer heads (take (i + 1) names) news) (sym (w.news-is ∙ w.in_ok-push.ensures.ok))
          (left_more s parts c.args.writer heads names i name l c.name-item.is c.loop-name.news c.loop-name.invariant w.in-Some.left.now w.in_ok-version.version
          (sym w.in-Some.ensures) w.in_ok-version.ensures.ok)
      | in_default w ↦ absurd (no_head heads names name c.requires.names (i, l, sym c.name-item.is) (sym w.in_default.ensures))
    ]
