-- One goes along a path, arc by arc from the sink back to the source.
use Rattle.std.proofs.Common.{◌≡◌, ◌≢◌, ℕ, ◌+◌, ◌<◌, ◌≤◌, cond, ◌==◌, List, get_or, refl, sym, ap, subst, arith}
use Rattle.std.proofs.lemmas.Bool.{ne_eqb}
use Rattle.flow_model.specs.declared.Arc.{Arc}
use Rattle.flow_model.specs.Flows.{Net, IsNet, given, taken, IsLegal, value}
use Rattle.flow_model.proofs.Cuts.{taken-source}
use Rattle.flow_arcs.specs.Pairs.{tails, carried, pushed, IsPaired}
use Rattle.flow_arcs.specs.Searches.{IsReached, IsSearch}
use Rattle.flow_arcs.proofs.Partners.{pairs_length, pushed_paired, pushed_other, pushed_moves, carried_within}

-- the new flow is the old one but that a node other than the sink gives one more than it takes
abbrev pub IsMoved : List Arc → List ℕ → List ℕ → ℕ → Type 0
IsMoved arcs old on at = (node : ℕ) → node ≢ 1 → given arcs on node + taken arcs old node ≡ (taken arcs on node + given arcs old node) + cond (at == node) 1 0

-- what the walk back from the sink keeps, at a node: the arcs that leave lower levels may carry no less than before
pub record IsPushed (net : Net) (old rest level : List ℕ) (node : ℕ) : Type 0 where
  pub paired : IsPaired net.arcs rest
  pub reached : 0 < get_or level node 0
  pub kept : (e : ℕ) → get_or level (get_or (tails net.arcs) e 0) 0 < get_or level node 0 → get_or old e 0 ≤ get_or rest e 0
  pub moved : IsMoved net.arcs (carried old) (carried rest) node

pub push_begins : (net : Net) (old level : List ℕ) → IsPaired net.arcs old → 0 < get_or level 1 0 → IsPushed net old old level 1
push_begins net old level p r = record {
  paired = p;
  reached = r;
  kept = λ e l. omega arith;
  moved = λ node ne. let z : ◌≡◌ {A = ℕ} (cond (1 == node) 1 0) 0 = rw (ne_eqb 1 node (λ q. ne (sym q))) refl in omega arith;
}

-- one arc of the path
module _ (net : Net) (old rest level by order : List ℕ) (node e : ℕ) (h : IsSearch net old level by order) (p : IsPushed net old rest level node) (inner : node ≢ 0) (read : e ≡ get_or by node 0) where
  pub link : IsReached net.arcs old level node e
  link = subst (λ d. IsReached net.arcs old level node d) (sym read) (h.linked node inner p.reached)

  pub fits : 1 ≤ get_or rest e 0
  fits = let r = link.room in let k = p.kept e (let a = link.above in omega arith) in omega arith

  pub push_step : IsPushed net old (pushed rest e 1) level (get_or (tails net.arcs) e 0)
  push_step =
      let l = pairs_length net.arcs rest p.paired in
      let n = link.numbered in
      let g = link.above in
      record {
        paired = pushed_paired net.arcs rest e 1 p.paired fits;
        reached = link.from;
        kept = λ d q.
            let k = p.kept d (omega arith) in
            let o = pushed_other rest e 1 d (λ s. let z = ap (λ m. get_or level (get_or (tails net.arcs) m 0) 0) s in omega arith) in
            omega arith;
        moved = λ v ne.
            let m = rw link.enters at (pushed_moves net.arcs rest e 1 v p.paired (omega arith) fits) in
            let o = p.moved v ne in
            omega arith;
      }

-- the walk ends at the source
pub push_ends : (net : Net) (old rest level : List ℕ) → IsNet net → IsLegal net (carried old) → IsPushed net old rest level 0
    → IsLegal net (carried rest) × (value net (carried rest) ≡ value net (carried old) + 1)
push_ends net old rest level n l p = (
  record {
    within = carried_within net.arcs rest p.paired;
    balanced = λ node low high.
        let m = p.moved node (λ e. omega arith) in
        let b = l.balanced node low high in
        let z : ◌≡◌ {A = ℕ} (cond (0 == node) 1 0) 0 = rw (ne_eqb 0 node (λ e. omega arith)) refl in
        omega arith;
  },
  (let m = p.moved 0 (λ e. omega arith) in
      let s = taken-source net.nodes net.arcs (carried old) n.joined in
      let t = taken-source net.nodes net.arcs (carried rest) n.joined in
      omega arith),
)
