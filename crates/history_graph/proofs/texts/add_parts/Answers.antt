use Rattle.std.proofs.Common.{ℕ, ◌<◌, ◌≤◌, List, length, sym, subst, arith}
use Rattle.std.specs.Prelude.{Contains}
use Rattle.history_graph.specs.Texts.{HasTextAt, HasTextIn, OneHas, IsWithAll}
use Rattle.history_graph.proofs.Items.{items_more, items_all}
use Rattle.history_graph.proofs.texts.add_parts.Goals as goal

pub add_objects-requires : goal.add_objects-requires
add_objects-requires c = λ at k.
    let l : c.loop-part.part-index < length c.args.parts.now = omega arith in
    c.requires c.part-item.result (c.loop-part.part-index, l, sym c.part-item.is) at (subst (λ (ns : List ℕ). Contains ns at) c.as_slice.ensures k)

pub loop-part-preserved : goal.loop-part-preserved
loop-part-preserved c =
    let s = c.args.state.now in
    let i = c.loop-part.part-index in
    let l : i < length c.args.parts.now = omega arith in
    items_more (HasTextIn s) c.args.parts.now i c.args.texts.now c.loop-part.texts c.add_objects.new.texts c.part-item.result l c.part-item.is c.loop-part.invariant
    (subst (λ (ns : List ℕ). IsWithAll c.loop-part.texts (OneHas (HasTextAt s) ns) c.add_objects.new.texts) c.as_slice.ensures c.in_ok-add_objects.ensures)

pub returns : goal.returns
returns c =
    let l : length c.args.parts.now ≤ c.loop-part.part-index = omega arith in
    items_all (HasTextIn c.args.state.now) c.args.parts.now c.loop-part.part-index c.args.texts.now c.loop-part.texts l c.loop-part.invariant
