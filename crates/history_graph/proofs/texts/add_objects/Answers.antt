use Rattle.std.proofs.Common.{ℕ, ◌<◌, ◌≤◌, length, get_or, sym, ◌∙◌, subst, arith}
use Rattle.std.proofs.lemmas.List.{get_or_default}
use Rattle.std.proofs.lemmas.List.Elements.{Contains-get_or}
use Rattle.std.proofs.lemmas.Option.{same_Some}
use Rattle.py_heap.specs.declared.heap.Object.{Object}
use Rattle.history_graph.specs.Texts.{HasText, HasTextAt}
use Rattle.history_graph.proofs.Items.{with_such, items_more, items_all}
use Rattle.history_graph.proofs.texts.add_objects.Goals as goal

pub get-requires : goal.get-requires
get-requires c = let i = c.loop-at.at-index in c.requires (get_or c.args.addresses.now i 0) (Contains-get_or c.args.addresses.now i 0 c.loop-at-test.true)

pub loop-at-preserved : goal.loop-at-preserved
loop-at-preserved c =
    let s = c.args.state.now in
    let addresses = c.args.addresses.now in
    let i = c.loop-at.at-index in
    let at : ℕ = get_or addresses i 0 in
    let l : i < length addresses = c.loop-at-test.true in
    let o : Object = c.get.result.now in
    items_more (HasTextAt s) addresses i c.args.texts.now c.loop-at.texts c.add_object.new.texts at l (get_or_default addresses i 0 at l) c.loop-at.invariant
    (with_such (HasText o) (HasTextAt s at) c.loop-at.texts c.add_object.new.texts (λ t h. (o, c.get.ensures, h))
    (λ t h. subst (λ (q : Object). HasText q t) (same_Some h.0 o (sym h.1 ∙ c.get.ensures)) h.2) c.in_ok-add_object.ensures)

pub returns : goal.returns
returns c =
    let l : length c.args.addresses.now ≤ c.loop-at.at-index = omega arith in
    items_all (HasTextAt c.args.state.now) c.args.addresses.now c.loop-at.at-index c.args.texts.now c.loop-at.texts l c.loop-at.invariant
