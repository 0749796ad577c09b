use Rattle.std.proofs.Common.{ℕ, ◌+◌, ◌<◌, ◌≤◌, List, length, sym, ap, subst, arith}
use Rattle.graph_model.specs.Graphs.{VersionAt}
use Rattle.graph_model.proofs.Lookups.{version_read}
use Rattle.history_graph.specs.Sets.{Names, IsWith}
use Rattle.state_judge.proofs.Agreed.{AreNamed, none_named, named_more, named_skip, all_named}
use Rattle.state_judge.proofs.judging.active_names.Goals.{then-version-eq0+in_ok-add_names, else-version-eq0}
use Rattle.state_judge.proofs.judging.active_names.Goals as goal

pub loop-version-init : goal.loop-version-init
loop-version-init c = subst (λ (set : Names). AreNamed c.args.graph.now 0 set) (sym c.new-names.ensures) (none_named c.args.graph.now)

pub loop-version-preserved : goal.loop-version-preserved
loop-version-preserved c =
    let g = c.args.graph.now in
    let i = c.loop-version.version-index in
    let x = c.version-item.result in
    let l : i < length c.as_slice-version-items.result.now = omega arith in
    let at : VersionAt g (i + 1) x = version_read g c.as_slice-version-items.result.now i x c.as_slice-version-items.ensures l c.version-item.is in
    elim c.if-version-eq0.branch [
      | then-version-eq0+in_ok-add_names w ↦
          subst (λ (set : Names). AreNamed g (i + 1) set) (sym w.names-is)
          (named_more g i x c.loop-version.names w.add_names.new.set at w.if-version-eq0.true c.loop-version.invariant
          (subst (λ (ns : List (List ℕ)). IsWith c.loop-version.names ns w.add_names.new.set) w.as_slice.ensures w.in_ok-add_names.ensures))
      | else-version-eq0 w ↦
          subst (λ (set : Names). AreNamed g (i + 1) set) (sym w.names-is)
          (named_skip g i x c.loop-version.names at w.if-version-eq0.false c.loop-version.invariant)
    ]

pub returns : goal.returns
returns c =
    let e = ap length c.as_slice-version-items.ensures in
    let l : length c.args.graph.now.versions ≤ c.loop-version.version-index = omega arith in
    all_named c.args.graph.now c.loop-version.version-index c.loop-version.names l c.loop-version.invariant
