use Rattle.std.proofs.Common.{◌≡◌, ℕ, ◌+◌, ◌<◌, ◌≤◌, List, [], length, get_or, take, replicate, ap, ◌∙◌, arith}
use Rattle.std.proofs.lemmas.List.{length-set, length-replicate}
use Rattle.flow_model.specs.Flows.{Net, IsNet}
use Rattle.flow_arcs.specs.Pairs.{heads, tails, partner, IsPaired}
use Rattle.flow_arcs.specs.Lists.{AreListsOf}
use Rattle.flow_arcs.proofs.Partners.{pairs_length, rest_below, partner_below, tail_read, length_tails}
use Rattle.flow_arcs.proofs.Listing.{none_linked, relinked, passed, all_linked}
use Rattle.flow_arcs.proofs.Ways.{tails_below}
use Rattle.flow_arcs.proofs.links.Links.relink.Goals as goal
use Rattle.flow_arcs.proofs.links.Links.relink.Goals.{then-room-gt0, else-room-gt0}

-- the node that an arc leaves has a list
within : (net : Net) (to first : List ℕ) (e p node : ℕ) → IsNet net → to ≡ heads net.arcs → e < length (heads net.arcs) → p ≡ partner e → node ≡ get_or to p node → length first ≡ net.nodes → node < length first
within net to first e p node n h l q r f =
    let s = tail_read net.arcs to e p node h l q r in
    let t = tails_below net.nodes net.arcs n.joined e l in
    omega arith

-- after the last arc
seen : (net : Net) (rest : List ℕ) (i : ℕ) → IsPaired net.arcs rest → length rest ≤ i → length (tails net.arcs) ≤ i
seen net rest i h l = let t = length_tails net.arcs in let s = pairs_length net.arcs rest h in omega arith

begun : (wanted : ℕ → Type 0) (n : ℕ) (ts first next : List ℕ) → first ≡ replicate n 0 → next ≡ [] → (length first ≡ n) × AreListsOf wanted (take 0 ts) first next
begun wanted n ts first next f e = rw (f, e) (length-replicate n 0, none_linked wanted n)

pub loop-arc-init : goal.loop-arc-init
loop-arc-init c =
    let b = begun (λ e. 0 < get_or c.args.rest.now e 0) c.args.net.now.nodes (tails c.args.net.now.arcs) c.in_ok-first.first.items c.new-next.result.items
    (c.in_ok-first.ensures.items_if_clones_equal (λ y h. h) ∙ ap (λ n. replicate {A = ℕ} n 0) c.nodes.ensures.value) c.new-next.ensures.items in
    record { firsts = b.0; lists = b.1 }

pub partner-requires : goal.partner-requires
partner-requires c =
    let l = rest_below c.args.net.now.arcs c.args.rest.now c.loop-arc.arc c.requires.paired (omega arith) in
    let b = partner_below c.args.net.now.arcs c.loop-arc.arc l in
    let f = c.requires.few in
    omega arith

pub index-requires : goal.index-requires
index-requires c =
    let l = rest_below c.args.net.now.arcs c.args.rest.now c.loop-arc.arc c.requires.paired (omega arith) in
    let b = partner_below c.args.net.now.arcs c.loop-arc.arc l in
    let e = c.partner.ensures.value in
    let s = ap length c.requires.ends in
    omega (arith, c.args.self.now.to.ok.0)

pub index-requires-in-loop-arc : goal.index-requires-in-loop-arc
index-requires-in-loop-arc c =
    let l = rest_below c.args.net.now.arcs c.args.rest.now c.loop-arc.arc c.requires.paired (omega arith) in
    let w = within c.args.net.now c.args.self.now.to.items c.loop-arc.first.items c.loop-arc.arc c.partner.result c.index.result.now c.requires.net c.requires.ends l
    c.partner.ensures.value c.index.ensures c.loop-arc.invariant.firsts in
    omega (arith, c.loop-arc.first.ok.0)

pub index_mut-requires : goal.index_mut-requires
index_mut-requires c =
    let l = rest_below c.args.net.now.arcs c.args.rest.now c.loop-arc.arc c.requires.paired (omega arith) in
    let w = within c.args.net.now c.args.self.now.to.items c.loop-arc.first.items c.loop-arc.arc c.partner.result c.index.result.now c.requires.net c.requires.ends l
    c.partner.ensures.value c.index.ensures c.loop-arc.invariant.firsts in
    omega (arith, c.loop-arc.first.ok.0)

pub loop-arc-preserved : goal.loop-arc-preserved
loop-arc-preserved c =
    let l = rest_below c.args.net.now.arcs c.args.rest.now c.loop-arc.arc c.requires.paired (omega arith) in
    let v = tail_read c.args.net.now.arcs c.args.self.now.to.items c.loop-arc.arc c.partner.result c.index.result.now c.requires.ends l c.partner.ensures.value c.index.ensures in
    let w = within c.args.net.now c.args.self.now.to.items c.loop-arc.first.items c.loop-arc.arc c.partner.result c.index.result.now c.requires.net c.requires.ends l
    c.partner.ensures.value c.index.ensures c.loop-arc.invariant.firsts in
    let t : c.loop-arc.arc < length (tails c.args.net.now.arcs) = (let k = length_tails c.args.net.now.arcs in omega arith) in
    elim c.if-room-gt0.branch [
      | then-room-gt0 x ↦ record {
        firsts = let e = ap (λ z. length z.items) x.first-is in let s = length-set c.loop-arc.first.items c.index.result.now (c.loop-arc.arc + 1) in let f = c.loop-arc.invariant.firsts in omega arith;
        lists = relinked (λ e. 0 < get_or c.args.rest.now e 0) (tails c.args.net.now.arcs) c.loop-arc.first.items c.loop-arc.next.items c.loop-arc.arc c.index.result.now c.index-in-loop-arc.result.now
            t v w c.loop-arc.invariant.lists c.index-in-loop-arc.ensures c.if-room-gt0.first.items c.push.new.self.items (ap (λ z. z.items) x.first-is) c.in_ok-push.ensures.items;
      }
      | else-room-gt0 x ↦ record {
        firsts = let e = ap (λ z. length z.items) x.first-is in let f = c.loop-arc.invariant.firsts in omega arith;
        lists = passed (λ e. 0 < get_or c.args.rest.now e 0) (tails c.args.net.now.arcs) c.loop-arc.first.items c.loop-arc.next.items c.loop-arc.arc c.index.result.now c.index-in-loop-arc.result.now
            t v w c.loop-arc.invariant.lists c.index-in-loop-arc.ensures c.if-room-gt0.first.items c.push.new.self.items (ap (λ z. z.items) x.first-is) c.in_ok-push.ensures.items
            (λ r. let f = x.if-room-gt0.false in omega arith);
      }
    ]

pub overflow_cast-arc : goal.overflow_cast-arc
overflow_cast-arc c =
    let l = rest_below c.args.net.now.arcs c.args.rest.now c.loop-arc.arc c.requires.paired (omega arith) in
    let f = c.requires.few in
    omega arith

pub overflow_cast-arc-then-room-gt0 : goal.overflow_cast-arc-then-room-gt0
overflow_cast-arc-then-room-gt0 c =
    let l = rest_below c.args.net.now.arcs c.args.rest.now c.loop-arc.arc c.requires.paired (omega arith) in
    let f = c.requires.few in
    omega arith

pub overflow_add-arc : goal.overflow_add-arc
overflow_add-arc c =
    let l = rest_below c.args.net.now.arcs c.args.rest.now c.loop-arc.arc c.requires.paired (omega arith) in
    let f = c.requires.few in
    omega arith

pub returns-clause-links : goal.returns-clause-links
returns-clause-links c =
    (all_linked c.args.net.now (λ e. 0 < get_or c.args.rest.now e 0) c.args.self.now.to.items c.loop-arc.first.items c.loop-arc.next.items c.loop-arc.arc c.requires.ends c.loop-arc.invariant.firsts
    (seen c.args.net.now c.args.rest.now c.loop-arc.arc c.requires.paired (omega arith)) c.loop-arc.invariant.lists).0

pub returns-clause-lists : goal.returns-clause-lists
returns-clause-lists c =
    (all_linked c.args.net.now (λ e. 0 < get_or c.args.rest.now e 0) c.args.self.now.to.items c.loop-arc.first.items c.loop-arc.next.items c.loop-arc.arc c.requires.ends c.loop-arc.invariant.firsts
    (seen c.args.net.now c.args.rest.now c.loop-arc.arc c.requires.paired (omega arith)) c.loop-arc.invariant.lists).1
