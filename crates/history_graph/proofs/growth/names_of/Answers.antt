use Rattle.std.proofs.Common.{ℕ, ◌<◌, ◌≤◌, List, length, take, sym, subst, arith}
use Rattle.history_graph.specs.Sets.{Names, IsWith}
use Rattle.history_graph.specs.Grown.{AreNamesOf}
use Rattle.history_graph.proofs.Aging.{names_none, names_more, names_all}
use Rattle.history_graph.proofs.growth.names_of.Goals as goal

pub loop-version-init : goal.loop-version-init
loop-version-init c = subst (λ (fresh : Names). AreNamesOf (take 0 c.args.versions.now) fresh) (sym c.new-fresh.ensures) (names_none c.args.versions.now)

pub loop-version-preserved : goal.loop-version-preserved
loop-version-preserved c =
    let versions = c.args.versions.now in
    let i = c.loop-version.version-index in
    let l : i < length versions = omega arith in
    names_more versions i c.version-item.result c.loop-version.fresh c.add_names.new.set l (sym c.version-item.is) c.loop-version.invariant
    (subst (λ (ns : List (List ℕ)). IsWith c.loop-version.fresh ns c.add_names.new.set) c.as_slice.ensures c.in_ok-add_names.ensures)

pub returns : goal.returns
returns c =
    let l : length c.args.versions.now ≤ c.loop-version.version-index = omega arith in
    names_all c.args.versions.now c.loop-version.version-index c.loop-version.fresh l c.loop-version.invariant
