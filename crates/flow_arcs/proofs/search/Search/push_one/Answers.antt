use Rattle.std.proofs.Common.{◌≡◌, ◌≢◌, ℕ, ◌<◌, List, length, get_or, sym, ap, subst, arith}
use Rattle.std.proofs.lemmas.List.{get_or_read}
use Rattle.flow_model.specs.Flows.{Net}
use Rattle.flow_arcs.specs.Pairs.{tails, partner, pushed}
use Rattle.flow_arcs.specs.Searches.{IsSearch, IsReached}
use Rattle.flow_arcs.specs.Ways.{IsLinks}
use Rattle.flow_arcs.proofs.Partners.{partner_rests, partner_below, pairs_length, tail_read}
use Rattle.flow_arcs.proofs.Pushing.{IsPushed, link, fits, push_step, push_begins, push_ends}
use Rattle.flow_arcs.proofs.Searching.{reached_below}
use Rattle.flow_arcs.proofs.search.Search.push_one.Goals as goal

-- the arc that is read, by which the node was reached
module _ (net : Net) (old rest level by order : List ℕ) (node e : ℕ) (h : IsSearch net old level by order) (p : IsPushed net old rest level node) (inner : node ≢ 0) (r : e ≡ get_or by node e) where
  read : e ≡ get_or by node 0
  read = let b = reached_below net old level by order node h p.reached in let a = h.arcs in get_or_read by node e (omega arith) r 0

  linked : IsReached net.arcs old level node e
  linked = link net old rest level by order node e h p inner read

  module _ (to first next : List ℕ) (back before : ℕ) (t : IsLinks net to first next) (q : back ≡ partner e) (s : before ≡ get_or to back before) where
    comes : before ≡ get_or (tails net.arcs) e 0
    comes = tail_read net.arcs to e back before t.ends linked.numbered q s

    goes_on : (rest' : List ℕ) → rest' ≡ pushed rest e 1 → IsPushed net old rest' level before
    goes_on rest' f = rw f (subst (λ v. IsPushed net old (pushed rest e 1) level v) (sym comes) (push_step net old rest level by order node e h p inner read))

    lower : get_or level before 0 < get_or level node 0
    lower = let a = linked.above in let z = ap (λ v. get_or level v 0) comes in omega arith

pub index-arc-requires : goal.index-arc-requires
index-arc-requires c =
    let h = c.requires.search in
    let b = reached_below c.args.net.now c.args.rest.now.items c.args.self.now.level.items c.args.self.now.by.items c.args.self.now.order.items c.arcs.node h c.arcs.invariant.reached in
    let a = h.arcs in
    omega (arith, c.args.self.now.by.ok.0)

pub arcs-init : goal.arcs-init
arcs-init c = push_begins c.args.net.now c.args.rest.now.items c.args.self.now.level.items c.requires.paired c.requires.reached

pub push-requires : goal.push-requires
push-requires c =
    let p = c.arcs.invariant in
    let l = linked c.args.net.now c.args.rest.now.items c.arcs.rest.items c.args.self.now.level.items c.args.self.now.by.items c.args.self.now.order.items c.arcs.node c.index-arc.result.now
    c.requires.search p c.arcs-test.true c.index-arc.ensures in
    let r = partner_rests c.args.net.now.arcs c.arcs.rest.items c.index-arc.result.now p.paired l.numbered in
    let s = pairs_length c.args.net.now.arcs c.arcs.rest.items p.paired in
    let f = c.requires.few in
    record {
      arc = r.0;
      back = r.1;
      few = omega arith;
      fits = fits c.args.net.now c.args.rest.now.items c.arcs.rest.items c.args.self.now.level.items c.args.self.now.by.items c.args.self.now.order.items c.arcs.node c.index-arc.result.now c.requires.search p c.arcs-test.true
          (read c.args.net.now c.args.rest.now.items c.arcs.rest.items c.args.self.now.level.items c.args.self.now.by.items c.args.self.now.order.items c.arcs.node c.index-arc.result.now c.requires.search p c.arcs-test.true c.index-arc.ensures);
      sum = r.2;
    }

pub partner-requires : goal.partner-requires
partner-requires c =
    let l = linked c.args.net.now c.args.rest.now.items c.arcs.rest.items c.args.self.now.level.items c.args.self.now.by.items c.args.self.now.order.items c.arcs.node c.index-arc.result.now
    c.requires.search c.arcs.invariant c.arcs-test.true c.index-arc.ensures in
    let b = partner_below c.args.net.now.arcs c.index-arc.result.now l.numbered in
    let f = c.requires.few in
    omega arith

pub index-node-requires : goal.index-node-requires
index-node-requires c =
    let l = linked c.args.net.now c.args.rest.now.items c.arcs.rest.items c.args.self.now.level.items c.args.self.now.by.items c.args.self.now.order.items c.arcs.node c.index-arc.result.now
    c.requires.search c.arcs.invariant c.arcs-test.true c.index-arc.ensures in
    let b = partner_below c.args.net.now.arcs c.index-arc.result.now l.numbered in
    let e = c.partner.ensures.value in
    let s = ap length c.requires.links.ends in
    omega (arith, c.args.links.now.to.ok.0)

pub arcs-preserved : goal.arcs-preserved
arcs-preserved c =
    goes_on c.args.net.now c.args.rest.now.items c.arcs.rest.items c.args.self.now.level.items c.args.self.now.by.items c.args.self.now.order.items c.arcs.node c.index-arc.result.now
    c.requires.search c.arcs.invariant c.arcs-test.true c.index-arc.ensures c.args.links.now.to.items c.args.links.now.first.items c.args.links.now.next.items c.partner.result c.index-node.result.now
    c.requires.links c.partner.ensures.value c.index-node.ensures c.push.new.rest.items c.push.ensures

pub arcs-smaller : goal.arcs-smaller
arcs-smaller c =
    lower c.args.net.now c.args.rest.now.items c.arcs.rest.items c.args.self.now.level.items c.args.self.now.by.items c.args.self.now.order.items c.arcs.node c.index-arc.result.now
    c.requires.search c.arcs.invariant c.arcs-test.true c.index-arc.ensures c.args.links.now.to.items c.args.links.now.first.items c.args.links.now.next.items c.partner.result c.index-node.result.now
    c.requires.links c.partner.ensures.value c.index-node.ensures

pub returns-clause-legal : goal.returns-clause-legal
returns-clause-legal c =
    let p = rw c.arcs-test.false at c.arcs.invariant in
    (push_ends c.args.net.now c.args.rest.now.items c.arcs.rest.items c.args.self.now.level.items c.requires.net c.requires.legal p).0

pub returns-clause-raised : goal.returns-clause-raised
returns-clause-raised c =
    let p = rw c.arcs-test.false at c.arcs.invariant in
    (push_ends c.args.net.now c.args.rest.now.items c.arcs.rest.items c.args.self.now.level.items c.requires.net c.requires.legal p).1
