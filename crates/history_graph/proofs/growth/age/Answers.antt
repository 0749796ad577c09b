use Rattle.std.proofs.Common.{◌<◌, ◌≤◌, List, length, get_or, ap, ◌∙◌, arith}
use Rattle.std.proofs.lemmas.List.{get_or_default}
use Rattle.graph_model.specs.declared.graph.Version.{Version}
use Rattle.history_graph.proofs.Aging.{marked_more}
use Rattle.history_graph.proofs.growth.age.Goals as goal

pub loop-v-preserved : goal.loop-v-preserved
loop-v-preserved c =
    let numbers = c.args.numbers.now in
    let i = c.loop-v.v-index in
    let v = get_or numbers i 0 in
    let l : i < length numbers = c.loop-v-test.true in
    let b = (c.requires i 0 l).1 in
    let size = c.loop-v.invariant.size ∙ ap (λ (xs : List Version). length xs) (c.into_vec-all.ensures ∙ c.replace.ensures.value) in
    let high : v ≤ length c.loop-v.all.items = omega (arith, b, size) in
    marked_more c.args.writer numbers i v l (get_or_default numbers i 0 v l) c.into_vec-all.result.items c.loop-v.all.items c.loop-v.invariant c.index_mut-version.result.now (c.requires i 0 l).0 high
    c.index_mut-version.ensures.value
