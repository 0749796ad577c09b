use Rattle.std.proofs.Common.{◌≡◌, ℕ, ◌+◌, ◌^◌, ◌<◌, List, [], ◌∷◌, ◌++◌, length, get_or, set, sym, ap, ◌∙◌, subst, arith}
use Rattle.std.proofs.lemmas.List.{get_or_read}
use Rattle.flow_model.specs.Flows.{Net, IsNet}
use Rattle.flow_arcs.specs.Pairs.{heads, tails}
use Rattle.flow_arcs.specs.Searches.{IsSearch, Grows, IsShut}
use Rattle.flow_arcs.specs.Ways.{IsLinks}
use Rattle.flow_arcs.proofs.Partners.{pairs_length}
use Rattle.flow_arcs.proofs.Searching.{reached_below, level_fits, search_push, search_grows, search_shuts}
use Rattle.flow_arcs.proofs.Ways.{heads_below, enters}
use Rattle.flow_arcs.proofs.search.Search.look_along.Goals as goal
use Rattle.flow_arcs.proofs.search.Search.look_along.Goals.{else-rest-arc-gt0-via-then-rest-arc-gt0+else-index-eq0, else-rest-arc-gt0-via-else-rest-arc-gt0}

-- the node that is read to be entered by the arc
module _ (net : Net) (rest level by order to first next : List ℕ) (node head e : ℕ) (n : IsNet net) (t : IsLinks net to first next) (h : IsSearch net rest level by order) (r : 0 < get_or level node 0)
    (k : e < length (heads net.arcs)) (l : get_or (tails net.arcs) e 0 ≡ node) (i : head ≡ get_or to e head) where
  entered : get_or (heads net.arcs) e 0 ≡ head
  entered = enters net to first next e head t k i

  head_below : head < length level
  head_below = let s = h.levels in let b = subst (λ v. v < net.nodes) entered (heads_below net.nodes net.arcs n.joined e k) in omega arith

  head_listed : head < length by
  head_listed = let s = h.levels in let a = h.arcs in let b = head_below in omega arith

  -- its level is read to be 0
  module _ (mark : ℕ) (m : mark ≡ get_or level head mark) (u : mark ≡ 0) where
    unseen : get_or level head 0 ≡ 0
    unseen = sym (get_or_read level head mark head_below m 0) ∙ u

    fits : get_or level node 0 + 1 < 2 ^ 32
    fits = level_fits net rest level by order node head e n h r k l entered unseen

    searched : (order' : List ℕ) (new : ℕ) → 0 < get_or rest e 0 → new ≡ get_or level node 0 + 1 → order' ≡ order ++ head ∷ [] → IsSearch net rest (set level head new) (set by head e) order'
    searched order' new room p o = rw (o, p) (search_push net rest level by order node head e n h r k l entered unseen room)

    grown : (order' : List ℕ) (new : ℕ) → new ≡ get_or level node 0 + 1 → order' ≡ order ++ head ∷ [] → Grows level (set level head new) order order'
    grown order' new p o = rw (o, p) (search_grows net rest level by order node head e n h r k l entered unseen)

    shuts : (new : ℕ) → new ≡ get_or level node 0 + 1 → IsShut net.arcs rest (set level head new) e
    shuts new p = rw p (search_shuts net rest level by order node head e n h r k l entered unseen)

-- one more than the level that is read
above : (net : Net) (rest level by order : List ℕ) (node low : ℕ) → IsSearch net rest level by order → 0 < get_or level node 0 → low ≡ get_or level node low → low + 1 ≡ get_or level node 0 + 1
above net rest level by order node low h r q = let b = reached_below net rest level by order node h r in let l = h.levels in ap (λ v. v + 1) (get_or_read level node low (omega arith) q 0)

pub bounds-rest-arc : goal.bounds-rest-arc
bounds-rest-arc c = let l = pairs_length c.args.net.now.arcs c.args.rest.now c.requires.paired in let a = c.requires.arc in omega arith

pub index-requires : goal.index-requires
index-requires c =
    let b = head_below c.args.net.now c.args.rest.now c.args.self.now.level.items c.args.self.now.by.items c.args.self.now.order.items c.args.links.now.to.items c.args.links.now.first.items c.args.links.now.next.items
    c.args.node c.index-head.result.now c.args.arc c.requires.net c.requires.links c.requires.search c.requires.reached c.requires.arc c.requires.leaves c.index-head.ensures in
    omega (arith, c.args.self.now.level.ok.0)

pub overflow_add-level : goal.overflow_add-level
overflow_add-level c =
    let f = fits c.args.net.now c.args.rest.now c.args.self.now.level.items c.args.self.now.by.items c.args.self.now.order.items c.args.links.now.to.items c.args.links.now.first.items c.args.links.now.next.items
    c.args.node c.index-head.result.now c.args.arc c.requires.net c.requires.links c.requires.search c.requires.reached c.requires.arc c.requires.leaves c.index-head.ensures
    c.index.result.now c.index.ensures c.if-index-eq0.true in
    let a = above c.args.net.now c.args.rest.now c.args.self.now.level.items c.args.self.now.by.items c.args.self.now.order.items c.args.node c.index-then-index-eq0.result.now c.requires.search c.requires.reached c.index-then-index-eq0.ensures in
    omega arith

pub index_mut-requires : goal.index_mut-requires
index_mut-requires c =
    let b = head_below c.args.net.now c.args.rest.now c.args.self.now.level.items c.args.self.now.by.items c.args.self.now.order.items c.args.links.now.to.items c.args.links.now.first.items c.args.links.now.next.items
    c.args.node c.index-head.result.now c.args.arc c.requires.net c.requires.links c.requires.search c.requires.reached c.requires.arc c.requires.leaves c.index-head.ensures in
    omega (arith, c.args.self.now.level.ok.0)

pub index_mut-requires-then-index-eq0 : goal.index_mut-requires-then-index-eq0
index_mut-requires-then-index-eq0 c =
    let b = head_listed c.args.net.now c.args.rest.now c.args.self.now.level.items c.args.self.now.by.items c.args.self.now.order.items c.args.links.now.to.items c.args.links.now.first.items c.args.links.now.next.items
    c.args.node c.index-head.result.now c.args.arc c.requires.net c.requires.links c.requires.search c.requires.reached c.requires.arc c.requires.leaves c.index-head.ensures in
    omega (arith, c.args.self.now.by.ok.0)

pub returns-in_ok-push-clause-search : goal.returns-in_ok-push-clause-search
returns-in_ok-push-clause-search c =
    searched c.args.net.now c.args.rest.now c.args.self.now.level.items c.args.self.now.by.items c.args.self.now.order.items c.args.links.now.to.items c.args.links.now.first.items c.args.links.now.next.items
    c.args.node c.index-head.result.now c.args.arc c.requires.net c.requires.links c.requires.search c.requires.reached c.requires.arc c.requires.leaves c.index-head.ensures
    c.index.result.now c.index.ensures c.if-index-eq0.true c.push.new.self.items _ c.if-rest-arc-gt0.true
    (above c.args.net.now c.args.rest.now c.args.self.now.level.items c.args.self.now.by.items c.args.self.now.order.items c.args.node c.index-then-index-eq0.result.now c.requires.search c.requires.reached c.index-then-index-eq0.ensures)
    c.in_ok-push.ensures.items

pub returns-in_ok-push-clause-shut : goal.returns-in_ok-push-clause-shut
returns-in_ok-push-clause-shut c =
    shuts c.args.net.now c.args.rest.now c.args.self.now.level.items c.args.self.now.by.items c.args.self.now.order.items c.args.links.now.to.items c.args.links.now.first.items c.args.links.now.next.items
    c.args.node c.index-head.result.now c.args.arc c.requires.net c.requires.links c.requires.search c.requires.reached c.requires.arc c.requires.leaves c.index-head.ensures
    c.index.result.now c.index.ensures c.if-index-eq0.true _
    (above c.args.net.now c.args.rest.now c.args.self.now.level.items c.args.self.now.by.items c.args.self.now.order.items c.args.node c.index-then-index-eq0.result.now c.requires.search c.requires.reached c.index-then-index-eq0.ensures)

pub returns-else-rest-arc-gt0-clause-shut : goal.returns-else-rest-arc-gt0-clause-shut
returns-else-rest-arc-gt0-clause-shut c = λ r. elim c.else-rest-arc-gt0.branch [
  | else-rest-arc-gt0-via-then-rest-arc-gt0+else-index-eq0 w ↦
      rw (entered c.args.net.now c.args.rest.now c.args.self.now.level.items c.args.self.now.by.items c.args.self.now.order.items c.args.links.now.to.items c.args.links.now.first.items c.args.links.now.next.items
      c.args.node c.index-head.result.now c.args.arc c.requires.net c.requires.links c.requires.search c.requires.reached c.requires.arc c.requires.leaves c.index-head.ensures)
      (let b = head_below c.args.net.now c.args.rest.now c.args.self.now.level.items c.args.self.now.by.items c.args.self.now.order.items c.args.links.now.to.items c.args.links.now.first.items c.args.links.now.next.items
      c.args.node c.index-head.result.now c.args.arc c.requires.net c.requires.links c.requires.search c.requires.reached c.requires.arc c.requires.leaves c.index-head.ensures in
      let g = get_or_read c.args.self.now.level.items c.index-head.result.now w.index.result.now b w.index.ensures 0 in
      let n = w.if-index-eq0.false in
      omega arith)
  | else-rest-arc-gt0-via-else-rest-arc-gt0 w ↦ absurd (let f = w.if-rest-arc-gt0.false in omega arith)
]
