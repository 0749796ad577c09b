use Rattle.std.proofs.Common.{◌≡◌, ◌+◌, ◌-◌, ◌<◌, length, get_or, sym, ◌∙◌, arith}
use Rattle.std.proofs.lemmas.List.{get_or_read}
use Rattle.flow_arcs.proofs.Partners.{length_tails}
use Rattle.flow_arcs.proofs.Searching.{reached_below, grows_none, grows_along, shut_first, next_below, next_leaves, shut_more}
use Rattle.flow_arcs.proofs.search.Search.spread.Goals as goal

pub index-position-requires : goal.index-position-requires
index-position-requires c =
    let b = reached_below c.args.net.now c.args.rest.now c.args.self.now.level.items c.args.self.now.by.items c.args.self.now.order.items c.args.node c.requires.search c.requires.reached in
    let f = c.requires.links.firsts in
    omega (arith, c.args.links.now.first.ok.0)

pub arcs-init : goal.arcs-init
arcs-init c =
    let h = c.requires.lists in
    let first = c.args.links.now.first.items in
    let next = c.args.links.now.next.items in
    let b : c.args.node < length first = (
    let r = reached_below c.args.net.now c.args.rest.now c.args.self.now.level.items c.args.self.now.by.items c.args.self.now.order.items c.args.node c.requires.search c.requires.reached in
    let f = c.requires.links.firsts in
    omega arith) in
    let q : c.index-position.result.now ≡ get_or first c.args.node 0 = get_or_read first c.args.node c.index-position.result.now b c.index-position.ensures 0 in
    record {
      low = let a = h.first_low c.args.node in omega arith;
      leaves = λ e f. h.first_leaves c.args.node e (sym q ∙ f);
      search = c.requires.search;
      grows = grows_none c.args.self.now.level.items c.args.self.now.order.items;
      done = shut_first c.args.net.now c.args.rest.now c.args.self.now.level.items first next c.args.node c.index-position.result.now h q;
    }

pub look_along-requires-clause-reached : goal.look_along-requires-clause-reached
look_along-requires-clause-reached c = c.arcs.invariant.grows.kept c.args.node c.requires.reached

pub look_along-requires-clause-arc : goal.look_along-requires-clause-arc
look_along-requires-clause-arc c = let l = length_tails c.args.net.now.arcs in let b = c.arcs.invariant.low in let t = c.arcs-test.true in omega arith

pub look_along-requires-clause-leaves : goal.look_along-requires-clause-leaves
look_along-requires-clause-leaves c = c.arcs.invariant.leaves (c.arcs.position - 1) (let t = c.arcs-test.true in omega arith)

pub index-position-requires-in-arcs : goal.index-position-requires-in-arcs
index-position-requires-in-arcs c =
    let n = c.requires.lists.nexts in
    let b = c.arcs.invariant.low in
    let t = c.arcs-test.true in
    omega (arith, c.args.links.now.next.ok.0)

pub arcs-preserved : goal.arcs-preserved
arcs-preserved c =
    let h = c.requires.lists in
    let i = c.arcs.invariant in
    let e = c.in_ok-look_along.ensures in
    let first = c.args.links.now.first.items in
    let next = c.args.links.now.next.items in
    let p : c.arcs.position ≡ (c.arcs.position - 1) + 1 = (let t = c.arcs-test.true in omega arith) in
    let t = i.leaves (c.arcs.position - 1) p in
    let w : c.arcs.position - 1 < length next = (let n = h.nexts in let b = i.low in omega arith) in
    let q : c.index-position-in-arcs.result.now ≡ get_or next (c.arcs.position - 1) 0 = get_or_read next (c.arcs.position - 1) c.index-position-in-arcs.result.now w c.index-position-in-arcs.ensures 0 in
    let b = next_below c.args.net.now c.args.rest.now c.arcs.self.level.items first next c.args.node c.arcs.position h c.look_along.new.self.level.items (c.arcs.position - 1) c.index-position-in-arcs.result.now p i.low t q in
    record {
      low = let l = i.low in omega arith;
      leaves = next_leaves c.args.net.now c.args.rest.now c.arcs.self.level.items first next c.args.node c.arcs.position h c.look_along.new.self.level.items (c.arcs.position - 1) c.index-position-in-arcs.result.now p i.low t q;
      search = e.search;
      grows = grows_along c.args.self.now.level.items c.arcs.self.level.items c.look_along.new.self.level.items c.args.self.now.order.items c.arcs.self.order.items c.look_along.new.self.order.items i.grows e.grows;
      done = shut_more c.args.net.now c.args.rest.now c.arcs.self.level.items first next c.args.node c.arcs.position h c.look_along.new.self.level.items (c.arcs.position - 1) c.index-position-in-arcs.result.now p i.low t q
          e.shut e.grows.kept i.done;
    }

pub arcs-smaller : goal.arcs-smaller
arcs-smaller c =
    let h = c.requires.lists in
    let i = c.arcs.invariant in
    let next = c.args.links.now.next.items in
    let p : c.arcs.position ≡ (c.arcs.position - 1) + 1 = (let t = c.arcs-test.true in omega arith) in
    let w : c.arcs.position - 1 < length next = (let n = h.nexts in let b = i.low in omega arith) in
    let q : c.index-position-in-arcs.result.now ≡ get_or next (c.arcs.position - 1) 0 = get_or_read next (c.arcs.position - 1) c.index-position-in-arcs.result.now w c.index-position-in-arcs.ensures 0 in
    next_below c.args.net.now c.args.rest.now c.arcs.self.level.items c.args.links.now.first.items next c.args.node c.arcs.position h c.look_along.new.self.level.items (c.arcs.position - 1) c.index-position-in-arcs.result.now p i.low
    (i.leaves (c.arcs.position - 1) p) q

pub returns-clause-done : goal.returns-clause-done
returns-clause-done c = λ e l t. c.arcs.invariant.done e l (let f = c.arcs-test.false in omega arith) t
