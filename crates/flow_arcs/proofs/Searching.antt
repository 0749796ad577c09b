-- A search keeps its facts as it reaches one node more.
use Rattle.std.proofs.Common.{◌≡◌, ◌≢◌, ℕ, zero, suc, replicate, ◌+◌, ◌^◌, ◌<◌, ◌≤◌, List, [], ◌∷◌, ◌++◌, length, get_or, set, refl, sym, ap, ◌∙◌, subst, inl, inr, arith}
use Rattle.std.proofs.lemmas.Bool.{cases_eq, cases_lt, eq-eqb, ne_eqb}
use Rattle.std.proofs.lemmas.List.{get_or_append_left, get_or_push, get_or_past, get_or-set_same, get_or-set_other, length-set, length_push, length-replicate, get_or-replicate}
use Rattle.flow_model.specs.Flows.{Net, IsNet}
use Rattle.flow_model.specs.declared.Arc.{Arc}
use Rattle.flow_arcs.specs.Lists.{AreListsOf}
use Rattle.flow_arcs.specs.Pairs.{heads, tails}
use Rattle.flow_arcs.specs.Searches.{zeros, IsReached, IsSearch, Grows, IsShut, IsDone, IsClosed}
use Rattle.flow_arcs.proofs.Partners.{length_tails}
use Rattle.flow_arcs.proofs.Ways.{heads_below}

-- an index with a number that isn't 0 is within the list
pub below_length : (xs : List ℕ) (i : ℕ) → 0 < get_or xs i 0 → i < length xs
below_length xs i h = elim (cases_lt i (length xs)) [ inl l ↦ l | inr g ↦ absurd (let e = get_or_past xs i 0 g in omega arith) ]

-- what is reached is a node
pub reached_below : (net : Net) (rest level by order : List ℕ) (node : ℕ) → IsSearch net rest level by order → 0 < get_or level node 0 → node < net.nodes
reached_below net rest level by order node h r = let b = below_length level node r in let l = h.levels in omega arith

-- a 0 that is written over
pub zeros_set : (xs : List ℕ) (i y : ℕ) → i < length xs → get_or xs i 0 ≡ 0 → 0 < y → zeros (set xs i y) + 1 ≡ zeros xs
zeros_set [] i y l h p = absurd (omega arith)
zeros_set (x ∷ xs) zero y l h p = rw (eq-eqb x 0 h, ne_eqb y 0 (λ e. omega arith)) (omega arith)
zeros_set (x ∷ xs) (suc i) y l h p = let e = zeros_set xs i y (omega arith) h p in omega arith

-- one node more
module _ (net : Net) (rest level by order : List ℕ) (node head e : ℕ) (n : IsNet net) (h : IsSearch net rest level by order) (reached : 0 < get_or level node 0)
    (numbered : e < length (heads net.arcs)) (leaves : get_or (tails net.arcs) e 0 ≡ node) (enters : get_or (heads net.arcs) e 0 ≡ head) (unseen : get_or level head 0 ≡ 0) where
  head_below : head < net.nodes
  head_below = subst (λ v. v < net.nodes) enters (heads_below net.nodes net.arcs n.joined e numbered)

  -- its level fits
  pub level_fits : get_or level node 0 + 1 < 2 ^ 32
  level_fits =
      let l = h.levels in
      let b = head_below in
      let z = zeros_set level head 1 (omega arith) unseen (omega arith) in
      let c = h.counted in
      let w = h.low node in
      let f = h.few in
      omega arith

  new_level : get_or (set level head (get_or level node 0 + 1)) head 0 ≡ get_or level node 0 + 1
  new_level = let l = h.levels in let b = head_below in get_or-set_same level head (get_or level node 0 + 1) 0 (omega arith)

  old_level : (v : ℕ) → v ≢ head → get_or (set level head (get_or level node 0 + 1)) v 0 ≡ get_or level v 0
  old_level v ne = get_or-set_other level head v (get_or level node 0 + 1) 0 ne

  other : (v : ℕ) → 0 < get_or level v 0 → v ≢ head
  other v l q = let z = ap (λ m. get_or level m 0) q in omega arith

  kept_level : (v : ℕ) → 0 < get_or level v 0 → get_or (set level head (get_or level node 0 + 1)) v 0 ≡ get_or level v 0
  kept_level v l = old_level v (other v l)

  old_order : (k : ℕ) → k < length order → get_or (order ++ head ∷ []) k 0 ≡ get_or order k 0
  old_order k l = get_or_append_left order (head ∷ []) 0 k l

  new_order : get_or (order ++ head ∷ []) (length order) 0 ≡ head
  new_order = get_or_push order head 0 (length order) refl

  more_linked : (v d : ℕ) → 0 < get_or level v 0 → IsReached net.arcs rest level v d → IsReached net.arcs rest (set level head (get_or level node 0 + 1)) v d
  more_linked v d l r = record {
    numbered = r.numbered;
    enters = r.enters;
    from = let f = r.from in let k = kept_level (get_or (tails net.arcs) d 0) f in omega arith;
    above = let f = r.from in let k = kept_level (get_or (tails net.arcs) d 0) f in let g = r.above in let m = kept_level v l in omega arith;
    room = r.room;
  }

  pub search_push : 0 < get_or rest e 0 → IsSearch net rest (set level head (get_or level node 0 + 1)) (set by head e) (order ++ head ∷ [])
  search_push room =
      let b = head_below in
      let o = length_push order head in
      record {
        few = h.few;
        levels = length-set level head (get_or level node 0 + 1) ∙ h.levels;
        arcs = length-set by head e ∙ h.arcs;
        root = let r = h.root in kept_level 0 (omega arith) ∙ r;
        counted =
            let l = h.levels in
            let z = zeros_set level head (get_or level node 0 + 1) (omega arith) unseen (omega arith) in
            let c = h.counted in
            let s = length-set level head (get_or level node 0 + 1) in
            omega arith;
        low = λ v. elim (cases_eq v head) [
          | inl q ↦ (let w = h.low node in rw (q, new_level) (omega arith))
          | inr q ↦ (let w = h.low v in rw (old_level v q) (omega arith))
        ];
        listed = λ k l. elim (cases_eq k (length order)) [
          | inl q ↦ rw (q, new_order, new_level) (omega arith)
          | inr q ↦ rw (old_order k (omega arith)) (let f = h.listed k (omega arith) in let g = kept_level (get_or order k 0) f in omega arith)
        ];
        found = λ v l. elim (cases_eq v head) [
          | inl q ↦ (length order, omega arith, new_order ∙ sym q)
          | inr q ↦ (let f = h.found v (rw (old_level v q) at l) in let k = f.1 in (f.0, omega arith, old_order f.0 f.1 ∙ f.2))
        ];
        linked = λ v i l. elim (cases_eq v head) [
          | inl q ↦ (let a = h.arcs in rw (q, get_or-set_same by head e 0 (omega arith)) (record {
            numbered = numbered;
            enters = enters;
            from = rw leaves (let k = kept_level node reached in omega arith);
            above = rw leaves (let k = kept_level node reached in let m = new_level in omega arith);
            room = room;
          }))
          | inr q ↦ (let m = rw (old_level v q) at l in rw (get_or-set_other by head v e 0 q) (more_linked v (get_or by v 0) m (h.linked v i m)))
        ];
      }

  pub search_grows : Grows level (set level head (get_or level node 0 + 1)) order (order ++ head ∷ [])
  search_grows =
      let o = length_push order head in
      record {
        longer = omega arith;
        same = old_order;
        kept = λ v l. let k = kept_level v l in omega arith;
      }

  pub search_shuts : IsShut net.arcs rest (set level head (get_or level node 0 + 1)) e
  search_shuts = λ r. rw (enters, new_level) (omega arith)

-- no node is reached
abbrev pub blank : ℕ → List ℕ
blank n = replicate n 0

zero_at : (n v : ℕ) → get_or (blank n) v 0 ≡ 0
zero_at zero v = refl
zero_at (suc n) zero = refl
zero_at (suc n) (suc v) = zero_at n v

zeros-replicate : (n : ℕ) → zeros (blank n) ≡ n
zeros-replicate zero = refl
zeros-replicate (suc n) = let e = zeros-replicate n in omega arith

-- the search that has reached the source alone
module _ (net : Net) (rest : List ℕ) (n : IsNet net) (f : net.nodes < 2 ^ 32) where
  blank_length : length (blank net.nodes) ≡ net.nodes
  blank_length = length-replicate net.nodes 0

  first_level : get_or (set (blank net.nodes) 0 1) 0 0 ≡ 1
  first_level = let e = n.ends in let l = blank_length in get_or-set_same (blank net.nodes) 0 1 0 (omega arith)

  other_level : (v : ℕ) → v ≢ 0 → get_or (set (blank net.nodes) 0 1) v 0 ≡ 0
  other_level v ne = get_or-set_other (blank net.nodes) 0 v 1 0 ne ∙ zero_at net.nodes v

  pub search_begins : IsSearch net rest (set (blank net.nodes) 0 1) (blank net.nodes) (0 ∷ [])
  search_begins =
      let e = n.ends in
      let l = blank_length in
      let s = length-set (blank net.nodes) 0 1 in
      let z = zeros_set (blank net.nodes) 0 1 (omega arith) (get_or-replicate net.nodes 0 0 0 (omega arith)) (omega arith) in
      let q = zeros-replicate net.nodes in
      let r = first_level in
      record {
        few = f;
        levels = omega arith;
        arcs = l;
        root = omega arith;
        counted = omega arith;
        low = λ v. elim (cases_eq v 0) [ inl q ↦ rw (q, first_level) (omega arith) | inr q ↦ rw (other_level v q) (omega arith) ];
        listed = λ k b. let z : k ≡ 0 = omega arith in rw (z, first_level) (omega arith);
        found = λ v g. elim (cases_eq v 0) [
          | inl q ↦ (0, omega arith, sym q)
          | inr q ↦ absurd (let o = other_level v q in omega arith)
        ];
        linked = λ v i g. absurd (let o = other_level v i in omega arith);
      }

-- nothing more is reached
pub grows_none : (level order : List ℕ) → Grows level level order order
grows_none level order = record { longer = omega arith; same = λ k l. refl; kept = λ node l. l }

pub grows_along : (level level' level'' order order' order'' : List ℕ) → Grows level level' order order' → Grows level' level'' order' order'' → Grows level level'' order order''
grows_along level level' level'' order order' order'' g h = record {
  longer = let a = g.longer in let b = h.longer in omega arith;
  same = λ k l. h.same k (let a = g.longer in omega arith) ∙ g.same k l;
  kept = λ node l. h.kept node (g.kept node l);
}

-- a walk along the list of a node
module _ (net : Net) (rest level first next : List ℕ) (node position : ℕ) (h : AreListsOf (λ e. 0 < get_or rest e 0) (tails net.arcs) first next) where
  -- begins before each arc that may carry more
  pub shut_first : position ≡ get_or first node 0 → (e : ℕ) → e < length (heads net.arcs) → position ≤ e → get_or (tails net.arcs) e 0 ≡ node → IsShut net.arcs rest level e
  shut_first q e l b t = let k = length_tails net.arcs in λ r. absurd (h.first_skips node e (omega arith) (omega arith) r t)

  -- and skips none
  module _ (level' : List ℕ) (arc after : ℕ) (p : position ≡ arc + 1) (low : position ≤ length (tails net.arcs)) (t : get_or (tails net.arcs) arc 0 ≡ node) (q : after ≡ get_or next arc 0) where
    pub next_below : after < position
    next_below = let b = h.next_low arc (omega arith) in omega arith

    pub next_leaves : (e : ℕ) → after ≡ e + 1 → get_or (tails net.arcs) e 0 ≡ node
    next_leaves e s = h.next_leaves arc e (omega arith) (sym q ∙ s) ∙ t

    pub shut_more : IsShut net.arcs rest level' arc → ((v : ℕ) → 0 < get_or level v 0 → 0 < get_or level' v 0)
        → ((e : ℕ) → e < length (heads net.arcs) → position ≤ e → get_or (tails net.arcs) e 0 ≡ node → IsShut net.arcs rest level e)
        → (e : ℕ) → e < length (heads net.arcs) → after ≤ e → get_or (tails net.arcs) e 0 ≡ node → IsShut net.arcs rest level' e
    shut_more s k d e l b u = λ r. elim (cases_lt e arc) [
      | inl f ↦ absurd (h.next_skips arc e (omega arith) (omega arith) f r (u ∙ sym t))
      | inr f ↦ elim (cases_eq e arc) [
        | inl g ↦ subst (λ v. IsShut net.arcs rest level' v) (sym g) s r
        | inr g ↦ k (get_or (heads net.arcs) e 0) (d e l (omega arith) u r)
      ]
    ]

-- one node more from which the search has looked
pub done_more : (arcs : List Arc) (rest level level' order order' : List ℕ) (done node : ℕ) → Grows level level' order order' → done < length order → node ≡ get_or order done 0
    → ((k : ℕ) → k < done → k < length order → IsDone arcs rest level (get_or order k 0)) → IsDone arcs rest level' node
    → (k : ℕ) → k < done + 1 → k < length order' → IsDone arcs rest level' (get_or order' k 0)
done_more arcs rest level level' order order' done node g l r d n k b m = elim (cases_eq k done) [
  | inl q ↦ subst (λ v. IsDone arcs rest level' v) (r ∙ (sym (g.same done l) ∙ ap (λ i. get_or order' i 0) (sym q))) n
  | inr q ↦ (λ e f t s. g.kept (get_or (heads arcs) e 0) (d k (omega arith) (omega arith) e f (t ∙ g.same k (omega arith)) s))
]

-- a search that has looked from each node that it reached is closed
pub closed_from_done : (net : Net) (rest level by order : List ℕ) (done : ℕ) → IsSearch net rest level by order → length order ≤ done
    → ((k : ℕ) → k < done → k < length order → IsDone net.arcs rest level (get_or order k 0)) → IsClosed net.arcs rest level
closed_from_done net rest level by order done h l d node s =
    let f = h.found node s in
    let b = f.1 in
    subst (λ v. IsDone net.arcs rest level v) f.2 (d f.0 (omega arith) f.1)
