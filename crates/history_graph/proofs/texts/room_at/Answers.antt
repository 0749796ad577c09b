use Rattle.std.proofs.Common.{ℕ, ◌<◌, ◌≤◌, List, length, get_or, sym, ◌∙◌, subst, arith, take_all}
use Rattle.std.proofs.lemmas.List.{get_or_default}
use Rattle.std.proofs.lemmas.List.Elements.{Contains-get_or}
use Rattle.std.proofs.lemmas.Option.{same_Some}
use Rattle.py_heap.specs.declared.heap.Object.{Object}
use Rattle.history_graph.specs.Texts.{HasText, HasTextAt, OneHas, AreAtMost}
use Rattle.history_graph.proofs.Amounts.{most_of, room_more}
use Rattle.history_graph.proofs.texts.room_at.Goals as goal

pub get-requires : goal.get-requires
get-requires c = let i = c.loop-at.at-index in c.requires (get_or c.args.addresses.now i 0) (Contains-get_or c.args.addresses.now i 0 c.loop-at-test.true)

pub loop-at-preserved : goal.loop-at-preserved
loop-at-preserved c = λ few.
    let s = c.args.state.now in
    let addresses = c.args.addresses.now in
    let i = c.loop-at.at-index in
    let at : ℕ = get_or addresses i 0 in
    let l : i < length addresses = c.loop-at-test.true in
    let o : Object = c.get.result.now in
    let total = c.loop-at.total in
    let room = c.room_in.result in
    let e = c.saturating_add-total.ensures in
    let here : AreAtMost (HasTextAt s at) room =
    most_of (HasText o) (HasTextAt s at) room (λ t h. subst (λ (q : Object). HasText q t) (same_Some h.0 o (sym h.1 ∙ c.get.ensures)) h.2) (c.room_in.ensures (omega (arith, few, e))) in
    room_more (HasTextAt s) addresses i at l (get_or_default addresses i 0 at l) total room c.saturating_add-total.result (c.loop-at.invariant (omega (arith, few, e))) here (omega (arith, few, e))

pub returns : goal.returns
returns c = λ few.
    let addresses = c.args.addresses.now in
    let l : length addresses ≤ c.loop-at.at-index = omega arith in
    subst (λ (ns : List ℕ). AreAtMost (OneHas (HasTextAt c.args.state.now) ns) c.loop-at.total) (take_all c.loop-at.at-index addresses l) (c.loop-at.invariant few)
