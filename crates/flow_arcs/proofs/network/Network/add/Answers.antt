use Rattle.std.proofs.Common.{◌≡◌, ℕ, ◌+◌, ◌^◌, ◌<◌, List, [], ◌∷◌, ◌++◌, length, get_or, set, ap, arith}
use Rattle.std.proofs.lemmas.List.{length_push}
use Rattle.flow_model.specs.declared.Arc.{Arc}
use Rattle.flow_model.specs.Flows.{Net, Joins}
use Rattle.flow_arcs.specs.Lists.{IsListed}
use Rattle.flow_arcs.proofs.Listing.{listed_more, listed_length}
use Rattle.flow_arcs.proofs.network.Network.add.Goals as goal

listed : (nodes : ℕ) (arcs arcs' : List Arc) (arc : Arc) (first first' first1 first2 next next' next1 next2 : List ℕ) → IsListed (record { nodes = nodes; arcs = arcs }) first next → Joins nodes arc → length arcs + 1 < 2 ^ 31
    → ((n : ℕ) → get_or first' n 0 ≡ get_or first n 0) → arc.from < length first' → arc.to < length first'
    → arcs' ≡ arcs ++ arc ∷ [] → next' ≡ next → first1 ≡ set first' arc.from (length next' + 1) → next1 ≡ next' ++ get_or first' arc.from 0 ∷ []
    → first2 ≡ set first1 arc.to (length next1 + 1) → next2 ≡ next1 ++ get_or first1 arc.to 0 ∷ []
    → IsListed (record { nodes = nodes; arcs = arcs' }) first2 next2
listed nodes arcs arcs' arc first first' first1 first2 next next' next1 next2 h j f r a b e n p q s t =
    rw (s, t, p, q, n, e) (listed_more nodes arcs arc first first' next h j f r a b)

pub add-requires-clause-few : goal.add-requires-clause-few
add-requires-clause-few c =
    let l = listed_length c.self.inside.nodes c.self.inside.arcs c.self.inside.lists.first.items c.self.inside.lists.next.items c.self.invariant in
    let e = ap length c.make_room.ensures.next in
    let f = c.if-number-ge-MOST_ARCS.false in
    let n = c.len-number.ensures in
    omega arith

pub add-requires-2-clause-few : goal.add-requires-2-clause-few
add-requires-2-clause-few c =
    let l = listed_length c.self.inside.nodes c.self.inside.arcs c.self.inside.lists.first.items c.self.inside.lists.next.items c.self.invariant in
    let e = ap length c.make_room.ensures.next in
    let p = ap length c.add.ensures.next in
    let q = length_push c.make_room.new.self.next.items (get_or c.make_room.new.self.first.items c.args.from 0) in
    let f = c.if-number-ge-MOST_ARCS.false in
    let n = c.len-number.ensures in
    omega arith

pub invariant_of-self-2 : goal.invariant_of-self-2
invariant_of-self-2 c =
    listed c.self.inside.nodes c.self.inside.arcs _ (record { from = c.args.from; to = c.args.to; capacity = c.args.capacity }) c.self.inside.lists.first.items c.make_room.new.self.first.items c.add.new.self.first.items c.add-2.new.self.first.items
    c.self.inside.lists.next.items c.make_room.new.self.next.items c.add.new.self.next.items c.add-2.new.self.next.items
    c.self.invariant
    (record {
      from = let v = ap (λ (n : Net). n.nodes) c.self.view_is in let r = c.requires.from_within in omega arith;
      to = let v = ap (λ (n : Net). n.nodes) c.self.view_is in let r = c.requires.to_within in omega arith;
      leaves = c.requires.leaves;
      enters = c.requires.enters;
    })
    (let f = c.if-number-ge-MOST_ARCS.false in let n = c.len-number.ensures in omega arith)
    c.make_room.ensures.first
    (let r = c.in_ok-make_room.ensures.node in let m = c.max.ensures in omega arith)
    (let r = c.in_ok-make_room.ensures.node in let m = c.max.ensures in omega arith)
    (c.in_ok-push.ensures.ok) c.make_room.ensures.next c.add.ensures.first c.add.ensures.next c.add-2.ensures.first c.add-2.ensures.next
