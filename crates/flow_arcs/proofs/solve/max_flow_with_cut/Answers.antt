use Rattle.std.proofs.Common.{◌≡◌, ℕ, ◌-◌, ◌<◌, List, get_or, sym, ◌∙◌, arith}
use Rattle.std.proofs.lemmas.List.{get_or_read}
use Rattle.flow_model.specs.Flows.{Net, IsNet, IsLegal, value}
use Rattle.flow_arcs.specs.Pairs.{carried}
use Rattle.flow_arcs.specs.Searches.{IsSearch}
use Rattle.flow_arcs.proofs.Solving.{total_capacity, given_bound}
use Rattle.flow_arcs.proofs.solve.max_flow_with_cut.Goals as goal

-- the level that is read is the sink's
sink_level : (net : Net) (rest level by order : List ℕ) (mark : ℕ) → IsNet net → IsSearch net rest level by order → mark ≡ get_or level 1 mark → mark ≡ get_or level 1 0
sink_level net rest level by order mark n h r = let l = h.levels in let e = n.ends in get_or_read level 1 mark (omega arith) r 0

smaller : (net : Net) (old new : List ℕ) → IsLegal net new → value net old < value net new → total_capacity net.arcs - value net new < total_capacity net.arcs - value net old
smaller net old new l r = let b = given_bound net.arcs new 0 l.within in omega arith

pub index-requires : goal.index-requires
index-requires c =
    let l = c.in_ok-search.ensures.search.levels in
    let e = c.in_ok-links.ensures.net.ends in
    omega (arith, c.in_ok-search.search.level.ok.0)

pub flow_and_cut-requires-clause-unreached : goal.flow_and_cut-requires-clause-unreached
flow_and_cut-requires-clause-unreached c =
    sym (sink_level c.args.net.now c.deref-in-rounds-2.result.now c.in_ok-search.search.level.items c.in_ok-search.search.by.items c.in_ok-search.search.order.items c.index.result.now c.in_ok-links.ensures.net c.in_ok-search.ensures.search c.index.ensures)
    ∙ c.if-index-eq0.true

pub flow_and_cut-requires-clause-closed : goal.flow_and_cut-requires-clause-closed
flow_and_cut-requires-clause-closed c =
    let s = sink_level c.args.net.now c.deref-in-rounds-2.result.now c.in_ok-search.search.level.items c.in_ok-search.search.by.items c.in_ok-search.search.order.items c.index.result.now c.in_ok-links.ensures.net c.in_ok-search.ensures.search c.index.ensures in
    rw c.deref-then-index-eq0.ensures.value (rw c.deref-in-rounds-2.ensures.value at (c.in_ok-search.ensures.closed (sym s ∙ c.if-index-eq0.true)))

pub send_round-requires-clause-reached : goal.send_round-requires-clause-reached
send_round-requires-clause-reached c =
    let s = sink_level c.args.net.now c.deref-in-rounds-2.result.now c.in_ok-search.search.level.items c.in_ok-search.search.by.items c.in_ok-search.search.order.items c.index.result.now c.in_ok-links.ensures.net c.in_ok-search.ensures.search c.index.ensures in
    let f = c.if-index-eq0.false in
    omega arith

pub rounds-smaller : goal.rounds-smaller
rounds-smaller c =
    smaller c.args.net.now (carried c.rounds.sender.rest.items) (carried c.send_round.new.self.rest.items) c.in_ok-send_round.ensures.legal c.in_ok-send_round.ensures.raised
