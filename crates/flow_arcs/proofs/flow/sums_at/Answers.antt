use Rattle.std.proofs.Common.{◌≡◌, ℕ, suc, ◌+◌, ◌-◌, ◌*◌, ◌/◌, ◌^◌, ◌<◌, ◌≤◌, List, length, get_or, refl, sym, ◌∙◌, arith}
use Rattle.std.proofs.lemmas.List.{get_or_read}
use Rattle.flow_model.specs.declared.Arc.{Arc}
use Rattle.flow_model.specs.Flows.{given, taken}
use Rattle.flow_arcs.specs.Pairs.{tails}
use Rattle.flow_arcs.specs.Lists.{IsLists}
use Rattle.flow_arcs.proofs.Partners.{length_heads, length_tails}
use Rattle.flow_arcs.proofs.Listing.{below, outs, ins, length_outs, length_ins, given_all, taken_all, walk_begins, walk_holds, walk_step, even_amount, odd_amount, given_small, taken_small, halves_even, halves_odd, half_below}
use Rattle.flow_arcs.proofs.flow.sums_at.Goals as goal
use Rattle.flow_arcs.proofs.flow.sums_at.Goals.{then-arc-eq0, else-arc-eq0}

pairs : (arcs : List Arc) → length (tails arcs) ≡ 2 * length arcs
pairs arcs = length_tails arcs ∙ length_heads arcs

module _ (arcs : List Arc) (on first next : List ℕ) (node : ℕ) (h : IsLists (tails arcs) first next) (l : length on ≡ length arcs) where
  out_length : length (outs on) ≡ length (tails arcs)
  out_length = let a = length_outs on in let b = pairs arcs in omega arith

  in_length : length (ins on) ≡ length (tails arcs)
  in_length = let a = length_ins on in let b = pairs arcs in omega arith

  pub begins_given : (position : ℕ) → position ≡ get_or first node 0 → 0 + below position (tails arcs) (outs on) node ≡ given arcs on node
  begins_given position p =
      let a = h.first_low node in
      let b = walk_begins (tails arcs) (outs on) node position out_length (omega arith) (λ e f g. h.first_skips node e (omega arith) g tt) in
      let c = given_all arcs on (length (tails arcs)) node l refl in
      omega arith

  pub begins_taken : (position : ℕ) → position ≡ get_or first node 0 → 0 + below position (tails arcs) (ins on) node ≡ taken arcs on node
  begins_taken position p =
      let a = h.first_low node in
      let b = walk_begins (tails arcs) (ins on) node position in_length (omega arith) (λ e f g. h.first_skips node e (omega arith) g tt) in
      let c = taken_all arcs on (length (tails arcs)) node l refl in
      omega arith

  -- one arc of the walk, and its entry, which is one more than its number
  module _ (e position q : ℕ) (p : position ≡ suc e) (b : position ≤ length (tails arcs)) (t : get_or (tails arcs) e 0 ≡ node) where
    pub held_given : get_or (outs on) e 0 ≤ below position (tails arcs) (outs on) node
    held_given = walk_holds (tails arcs) (outs on) node e position p (omega arith) out_length t

    pub held_taken : get_or (ins on) e 0 ≤ below position (tails arcs) (ins on) node
    held_taken = walk_holds (tails arcs) (ins on) node e position p (omega arith) in_length t

    pub next_given : q ≡ get_or next e 0 → below position (tails arcs) (outs on) node ≡ below q (tails arcs) (outs on) node + get_or (outs on) e 0
    next_given n =
        let a = h.next_low e (omega arith) in
        walk_step (tails arcs) (outs on) node e q position p (omega arith) out_length t (omega arith) (λ k f g z. h.next_skips e k (omega arith) (omega arith) g tt (z ∙ sym t))

    pub next_taken : q ≡ get_or next e 0 → below position (tails arcs) (ins on) node ≡ below q (tails arcs) (ins on) node + get_or (ins on) e 0
    next_taken n =
        let a = h.next_low e (omega arith) in
        walk_step (tails arcs) (ins on) node e q position p (omega arith) in_length t (omega arith) (λ k f g z. h.next_skips e k (omega arith) (omega arith) g tt (z ∙ sym t))

pub arcs-init : goal.arcs-init
arcs-init c =
    let p = c.number_at-position.ensures in
    let d = c.deref.ensures.value in
    let q = rw d at p in
    let h = c.lists-lists.ensures in
    let first = c.lists-lists.result.now.first.items in
    record {
      given = begins_given c.args.net.now.arcs c.args.on.now first c.lists-lists.result.now.next.items c.args.node h c.requires c.number_at-position.result q;
      taken = begins_taken c.args.net.now.arcs c.args.on.now first c.lists-lists.result.now.next.items c.args.node h c.requires c.number_at-position.result q;
      low = let a = h.first_low c.args.node in omega arith;
      leaves = λ e f. h.first_leaves c.args.node e (sym q ∙ f);
    }

pub bounds-on-arc : goal.bounds-on-arc
bounds-on-arc c =
    let b = pairs c.args.net.now.arcs in
    let i = c.arcs.invariant.low in
    let r = c.requires in
    let t = c.arcs-test.true in
    half_below (c.arcs.position - 1) (length c.args.on.now) (omega arith)

pub overflow_add-given : goal.overflow_add-given
overflow_add-given c =
    let t = c.arcs-test.true in
    let e = even_amount c.args.on.now (c.arcs.position - 1) ((c.arcs.position - 1) / 2) (halves_even (c.arcs.position - 1) c.if-arc-eq0.true) in
    let f = e.0 in
    let h = held_given c.args.net.now.arcs c.args.on.now c.lists-lists.result.now.first.items c.lists-lists.result.now.next.items c.args.node c.lists-lists.ensures c.requires
    (c.arcs.position - 1) c.arcs.position 0 (omega arith) c.arcs.invariant.low (c.arcs.invariant.leaves (c.arcs.position - 1) (omega arith)) in
    let g = c.arcs.invariant.given in
    let s = given_small c.args.net.now.arcs c.args.on.now c.args.node (λ k. omega (arith, c.type_inv.on k)) in
    let a : length c.args.net.now.arcs < 2 ^ 31 = c.arcs-arcs.ensures.pairs in
    omega (arith, c.from-amount.ensures)

pub overflow_add-taken : goal.overflow_add-taken
overflow_add-taken c =
    let t = c.arcs-test.true in
    let e = odd_amount c.args.on.now (c.arcs.position - 1) ((c.arcs.position - 1) / 2) (halves_odd (c.arcs.position - 1) c.if-arc-eq0.false) in
    let f = e.0 in
    let h = held_taken c.args.net.now.arcs c.args.on.now c.lists-lists.result.now.first.items c.lists-lists.result.now.next.items c.args.node c.lists-lists.ensures c.requires
    (c.arcs.position - 1) c.arcs.position 0 (omega arith) c.arcs.invariant.low (c.arcs.invariant.leaves (c.arcs.position - 1) (omega arith)) in
    let g = c.arcs.invariant.taken in
    let s = taken_small c.args.net.now.arcs c.args.on.now c.args.node (λ k. omega (arith, c.type_inv.on k)) in
    let a : length c.args.net.now.arcs < 2 ^ 31 = c.arcs-arcs.ensures.pairs in
    omega (arith, c.from-amount.ensures)

pub arcs-preserved : goal.arcs-preserved
arcs-preserved c =
    let t = c.arcs-test.true in
    let e = c.arcs.position - 1 in
    let h = c.lists-lists.ensures in
    let first = c.lists-lists.result.now.first.items in
    let next = c.lists-lists.result.now.next.items in
    let b : c.arcs.position - 1 < length (tails c.args.net.now.arcs) = (let i = c.arcs.invariant.low in omega arith) in
    let w : c.arcs.position - 1 < length next = (let n = h.nexts in omega arith) in
    let q : c.index-position.result.now ≡ get_or next (c.arcs.position - 1) 0 = get_or_read next (c.arcs.position - 1) c.index-position.result.now w c.index-position.ensures 0 in
    let v = c.arcs.invariant.leaves (c.arcs.position - 1) (omega arith) in
    let g = c.arcs.invariant.given in
    let k = c.arcs.invariant.taken in
    let x = next_given c.args.net.now.arcs c.args.on.now first next c.args.node h c.requires (c.arcs.position - 1) c.arcs.position c.index-position.result.now (omega arith) c.arcs.invariant.low v q in
    let y = next_taken c.args.net.now.arcs c.args.on.now first next c.args.node h c.requires (c.arcs.position - 1) c.arcs.position c.index-position.result.now (omega arith) c.arcs.invariant.low v q in
    let a = c.from-amount.ensures in
    record {
      given = elim c.if-arc-eq0.branch [
        | then-arc-eq0 w ↦ (let m = even_amount c.args.on.now (c.arcs.position - 1) ((c.arcs.position - 1) / 2) (halves_even (c.arcs.position - 1) w.if-arc-eq0.true) in let z = m.0 in let s = w.given-is in omega arith)
        | else-arc-eq0 w ↦ (let m = odd_amount c.args.on.now (c.arcs.position - 1) ((c.arcs.position - 1) / 2) (halves_odd (c.arcs.position - 1) w.if-arc-eq0.false) in let z = m.1 in let s = w.given-is in omega arith)
      ];
      taken = elim c.if-arc-eq0.branch [
        | then-arc-eq0 w ↦ (let m = even_amount c.args.on.now (c.arcs.position - 1) ((c.arcs.position - 1) / 2) (halves_even (c.arcs.position - 1) w.if-arc-eq0.true) in let z = m.1 in let s = w.taken-is in omega arith)
        | else-arc-eq0 w ↦ (let m = odd_amount c.args.on.now (c.arcs.position - 1) ((c.arcs.position - 1) / 2) (halves_odd (c.arcs.position - 1) w.if-arc-eq0.false) in let z = m.0 in let s = w.taken-is in omega arith)
      ];
      low = let l = h.next_low (c.arcs.position - 1) b in omega arith;
      leaves = λ d f. h.next_leaves (c.arcs.position - 1) d b (sym q ∙ f) ∙ v;
    }
