use Rattle.std.proofs.Common.{◌≡◌, ◌<◌, length, get_or, ◌∙◌, arith}
use Rattle.std.proofs.lemmas.List.{get_or_read}
use Rattle.flow_arcs.proofs.Searching.{done_more, closed_from_done}
use Rattle.flow_arcs.proofs.search.search_levels.Goals as goal
use Rattle.flow_arcs.proofs.search.search_levels.Goals.{then-nodes-test+else-index-eq0, else-nodes-test}

pub nodes-init : goal.nodes-init
nodes-init c = record { search = c.in_ok-search.ensures c.args.rest.now; done = λ k l. absurd (omega arith); low = omega arith }

pub index-requires : goal.index-requires
index-requires c =
    let l = c.nodes.invariant.search.levels in
    let e = c.requires.net.ends in
    omega (arith, c.nodes.search.level.ok.0)

pub spread-requires-clause-reached : goal.spread-requires-clause-reached
spread-requires-clause-reached c =
    let i = c.nodes.invariant in
    let order = c.nodes.search.order.items in
    let l : c.nodes.done < length order = omega (arith, c.nodes.search.order.ok.0, c.nodes-test.true) in
    let r : c.index-node.result.now ≡ get_or order c.nodes.done 0 = get_or_read order c.nodes.done c.index-node.result.now l c.index-node.ensures 0 in
    rw r (i.search.listed c.nodes.done l)

pub nodes-preserved : goal.nodes-preserved
nodes-preserved c =
    let i = c.nodes.invariant in
    let e = c.in_ok-spread.ensures in
    let order = c.nodes.search.order.items in
    let l : c.nodes.done < length order = omega (arith, c.nodes.search.order.ok.0, c.nodes-test.true) in
    record {
      search = e.search;
      done = done_more c.args.net.now.arcs c.args.rest.now c.nodes.search.level.items c.spread.new.self.level.items order c.spread.new.self.order.items c.nodes.done c.index-node.result.now e.grows l
          (get_or_read order c.nodes.done c.index-node.result.now l c.index-node.ensures 0) i.done e.done;
      low = let g = e.grows.longer in omega arith;
    }

pub nodes-smaller : goal.nodes-smaller
nodes-smaller c =
    let l : c.nodes.done < length c.nodes.search.order.items = omega (arith, c.nodes.search.order.ok.0, c.nodes-test.true) in
    let n = c.nodes.invariant.search.counted in
    let k = c.nodes.invariant.search.levels in
    omega arith

pub returns-clause-closed : goal.returns-clause-closed
returns-clause-closed c = λ s.
    let i = c.nodes.invariant in
    let level = c.nodes.search.level.items in
    elim c.nodes-test.branch [
      | then-nodes-test+else-index-eq0 w ↦
          absurd (w.if-index-eq0.false (get_or_read level 1 _ (let n = i.search.levels in let e = c.requires.net.ends in omega arith) w.index.ensures 0 ∙ s))
      | else-nodes-test w ↦
          closed_from_done c.args.net.now c.args.rest.now level c.nodes.search.by.items c.nodes.search.order.items c.nodes.done i.search
          (omega (arith, c.nodes.search.order.ok.0, w.nodes-test.false)) i.done
    ]
