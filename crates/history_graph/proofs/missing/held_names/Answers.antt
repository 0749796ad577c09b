use Rattle.std.proofs.Common.{ℕ, ◌<◌, ◌≤◌, List, [], length, get_or, take, sym, subst, arith}
use Rattle.std.proofs.lemmas.List.{get_or_default}
use Rattle.history_graph.specs.Sets.{Names, IsWithThose}
use Rattle.history_graph.specs.Touched.{AreHeldAmong}
use Rattle.history_graph.proofs.Listing.{taken, holds_at}
use Rattle.history_graph.proofs.Missed.{held_none, held_more, held_all}
use Rattle.history_graph.proofs.missing.held_names.Goals as goal

pub loop-v-init : goal.loop-v-init
loop-v-init c = subst (λ (held : Names). AreHeldAmong c.args.graph.now c.args.marks.now [] held) (sym c.new-held.ensures) (held_none c.args.graph.now c.args.marks.now)

pub active_version-version-requires : goal.active_version-version-requires
active_version-version-requires c =
    let active = c.args.active.now in
    let i = c.loop-v.v-index in
    let v = get_or active i 0 in
    holds_at c.args.graph.now active i v c.requires c.loop-v-test.true (get_or_default active i 0 v c.loop-v-test.true)

pub loop-v-preserved : goal.loop-v-preserved
loop-v-preserved c =
    let g = c.args.graph.now in
    let marks = c.args.marks.now in
    let active = c.args.active.now in
    let i = c.loop-v.v-index in
    let v = get_or active i 0 in
    let l : i < length active = c.loop-v-test.true in
    subst (λ (among : List ℕ). AreHeldAmong g marks among c.add_those.new.set) (taken active i v l (get_or_default active i 0 v l))
    (held_more g marks (take i active) c.loop-v.held c.loop-v.invariant v c.active_version-version.result.now c.active_version-version.ensures c.add_those.new.set
    (subst (λ (ns : List (List ℕ)). IsWithThose c.loop-v.held ns marks.looked c.add_those.new.set) c.as_slice.ensures c.in_ok-add_those.ensures))

pub returns : goal.returns
returns c =
    let l : length c.args.active.now ≤ c.loop-v.v-index = omega arith in
    held_all c.args.graph.now c.args.marks.now c.args.active.now c.loop-v.v-index c.loop-v.held c.requires l c.loop-v.invariant
