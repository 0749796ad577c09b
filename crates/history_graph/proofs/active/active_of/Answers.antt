use Rattle.std.proofs.Common.{ℕ, ◌+◌, ◌<◌, ◌≤◌, List, [], length, sym, ◌∙◌, subst, arith}
use Rattle.graph_model.specs.declared.graph.Version.{Version}
use Rattle.graph_model.specs.Graphs.{VersionAt}
use Rattle.graph_model.proofs.Lookups.{version_read}
use Rattle.history_graph.specs.Active.{Holds, AreThose}
use Rattle.history_graph.specs.Grown.{count_on}
use Rattle.history_graph.proofs.Listing.{those_none, holds_push, holds_skip, all_held}
use Rattle.history_graph.proofs.active.active_of.Goals as goal
use Rattle.history_graph.proofs.active.active_of.Goals.{then-version-eq0+in_ok-push, else-version-eq0}

pub loop-index-init : goal.loop-index-init
loop-index-init c = subst (λ (found : List ℕ). AreThose (Holds c.args.graph.now) [] found) (sym c.new-active.ensures) (those_none (Holds c.args.graph.now))

pub loop-index-preserved : goal.loop-index-preserved
loop-index-preserved c =
    let g = c.args.graph.now in
    let i = c.loop-index.index in
    let x = c.index-versions-index.result in
    let l : i < length c.as_slice-versions.result.now = omega arith in
    let at : VersionAt g (i + 1) x = version_read g c.as_slice-versions.result.now i x c.as_slice-versions.ensures l c.index-versions-index.is in
    elim c.if-version-eq0.branch [
      | then-version-eq0+in_ok-push w ↦
          subst (λ (found : List ℕ). AreThose (Holds g) (count_on 0 (i + 1)) found) (sym (w.active-is ∙ w.in_ok-push.ensures.ok))
          (holds_push g i c.loop-index.active c.loop-index.invariant x at w.if-version-eq0.true)
      | else-version-eq0 w ↦
          subst (λ (found : List ℕ). AreThose (Holds g) (count_on 0 (i + 1)) found) (sym w.active-is)
          (holds_skip g i c.loop-index.active c.loop-index.invariant x at w.if-version-eq0.false)
    ]

pub returns : goal.returns
returns c =
    let l : length c.as_slice-versions.result.now ≤ c.loop-index.index = omega arith in
    all_held c.args.graph.now c.loop-index.index c.loop-index.active (subst (λ (xs : List Version). length xs ≤ c.loop-index.index) c.as_slice-versions.ensures l) c.loop-index.invariant
