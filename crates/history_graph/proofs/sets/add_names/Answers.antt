use Rattle.std.proofs.Common.{◌≡◌, ◌+◌, ◌<◌, [], length, get_or, take, sym, ◌∙◌, subst, arith}
use Rattle.history_graph.specs.Sets.{Names, IsWith}
use Rattle.history_graph.proofs.Adding.{with_more, place_is}
use Rattle.history_graph.proofs.sets.add_names.Goals as goal

pub loop-name-preserved : goal.loop-name-preserved
loop-name-preserved c =
    let names = c.args.names.now in
    let i = c.loop-name.name-index in
    let l : i < length names = omega arith in
    let e : get_or names i [] ≡ c.in_ok-copy.field-0 = place_is names i c.name-item.result [] l c.name-item.is ∙ sym c.in_ok-copy.ensures in
    subst (λ (s : Names). IsWith c.args.set.now (take (i + 1) names) s) (sym c.in_ok-bind.ensures.ok)
    (with_more names i c.in_ok-copy.field-0 l e c.args.set.now c.loop-name.set c.loop-name.invariant)
