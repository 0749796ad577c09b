-- One arc more in the lists, lists of the arcs that may carry more, and what a walk along a node's list adds up.
use Rattle.std.proofs.Common.{◌≡◌, ◌≢◌, ℕ, zero, suc, ◌+◌, ◌-◌, ◌*◌, ◌^◌, ◌/◌, ◌%◌, ◌<◌, ◌≤◌, cond, ◌==◌, Bool, true, false, List, [], ◌∷◌, ◌++◌, length, get_or, set, take, replicate, refl, sym, ap, ◌∙◌, subst, inl, inr, arith}
use Rattle.std.proofs.lemmas.Bool.{cases_eq, eq-eqb, ne_eqb}
use Rattle.std.proofs.lemmas.List.{get_or_read, take_more, take_all, length-take-le, get_or_append_left, get_or_push, get_or-set_same, get_or-set_other, length-set, length_push}
use Rattle.std.specs.List.{AllByRecursion}
use Rattle.flow_model.specs.declared.Arc.{Arc}
use Rattle.flow_model.specs.Flows.{Net, Joins, given, taken}
use Rattle.flow_arcs.specs.Pairs.{tails, heads}
use Rattle.flow_arcs.specs.Lists.{AreListsOf, IsLists, IsListed}
use Rattle.flow_arcs.specs.Ways.{IsLinks}
use Rattle.flow_arcs.proofs.Partners.{length_heads, length_tails}

-- one directed arc more, in the list of its node or not
module _ (wanted : ℕ → Type 0) (ts first next : List ℕ) (node : ℕ) (h : AreListsOf wanted ts first next) where
  old_tail : (e : ℕ) → e < length ts → get_or (ts ++ node ∷ []) e 0 ≡ get_or ts e 0
  old_tail e l = get_or_append_left ts (node ∷ []) 0 e l

  new_tail : (e : ℕ) → length ts ≡ e → get_or (ts ++ node ∷ []) e 0 ≡ node
  new_tail e l = get_or_push ts node 0 e l

  more_tails : length (ts ++ node ∷ []) ≡ length ts + 1
  more_tails = length_push ts node

  old_next : (d : ℕ) → d < length next → get_or (next ++ get_or first node 0 ∷ []) d 0 ≡ get_or next d 0
  old_next d l = get_or_append_left next (get_or first node 0 ∷ []) 0 d l

  new_next : (d : ℕ) → length next ≡ d → get_or (next ++ get_or first node 0 ∷ []) d 0 ≡ get_or first node 0
  new_next d l = get_or_push next (get_or first node 0) 0 d l

  more_nexts : length (next ++ get_or first node 0 ∷ []) ≡ length (ts ++ node ∷ [])
  more_nexts = let k = h.nexts in let l = more_tails in let m = length_push next (get_or first node 0) in omega arith

  more_low : (d : ℕ) → d < length (ts ++ node ∷ []) → get_or (next ++ get_or first node 0 ∷ []) d 0 ≤ d
  more_low d b = let k = h.nexts in let l = more_tails in elim (cases_eq d (length next)) [
    | inl q ↦ (let a = h.first_low node in rw (new_next d (sym q)) (omega arith))
    | inr q ↦ (let a = h.next_low d (omega arith) in rw (old_next d (omega arith)) a)
  ]

  more_leaves : (d e : ℕ) → d < length (ts ++ node ∷ []) → get_or (next ++ get_or first node 0 ∷ []) d 0 ≡ e + 1 → get_or (ts ++ node ∷ []) e 0 ≡ get_or (ts ++ node ∷ []) d 0
  more_leaves d e b f = let k = h.nexts in let l = more_tails in elim (cases_eq d (length next)) [
    | inl q ↦ (let g = new_next d (sym q) in let a = h.first_low node in
        old_tail e (omega arith) ∙ (h.first_leaves node e (sym g ∙ f) ∙ sym (new_tail d (omega arith))))
    | inr q ↦ (let g = old_next d (omega arith) in let a = h.next_low d (omega arith) in
        old_tail e (omega arith) ∙ (h.next_leaves d e (omega arith) (sym g ∙ f) ∙ sym (old_tail d (omega arith))))
  ]

  more_skips : (d e : ℕ) → d < length (ts ++ node ∷ []) → get_or (next ++ get_or first node 0 ∷ []) d 0 ≤ e → e < d → wanted e → get_or (ts ++ node ∷ []) e 0 ≢ get_or (ts ++ node ∷ []) d 0
  more_skips d e b f c w = let k = h.nexts in let l = more_tails in elim (cases_eq d (length next)) [
    | inl q ↦ (let g = new_next d (sym q) in
        λ z. h.first_skips node e (omega arith) (omega arith) w (sym (old_tail e (omega arith)) ∙ (z ∙ new_tail d (omega arith))))
    | inr q ↦ (let g = old_next d (omega arith) in
        λ z. h.next_skips d e (omega arith) (omega arith) c w (sym (old_tail e (omega arith)) ∙ (z ∙ old_tail d (omega arith))))
  ]

  old_leaves : (n e : ℕ) → get_or first n 0 ≡ e + 1 → get_or (ts ++ node ∷ []) e 0 ≡ n
  old_leaves n e f = let a = h.first_low n in old_tail e (omega arith) ∙ h.first_leaves n e f

  -- it isn't wanted
  pub lists_passed : (wanted (length ts) → ⊥) → AreListsOf wanted (ts ++ node ∷ []) first (next ++ get_or first node 0 ∷ [])
  lists_passed none =
      let l = more_tails in
      record {
        nexts = more_nexts;
        first_low = λ n. let a = h.first_low n in omega arith;
        first_leaves = old_leaves;
        first_skips = λ n e f b w. elim (cases_eq e (length ts)) [
          | inl s ↦ absurd (none (subst wanted s w))
          | inr s ↦ (λ z. h.first_skips n e f (omega arith) w (sym (old_tail e (omega arith)) ∙ z))
        ];
        next_low = more_low;
        next_leaves = more_leaves;
        next_skips = more_skips;
      }

  module _ (within : node < length first) where
    new_first : get_or (set first node (length next + 1)) node 0 ≡ length next + 1
    new_first = get_or-set_same first node (length next + 1) 0 within

    old_first : (n : ℕ) → n ≢ node → get_or (set first node (length next + 1)) n 0 ≡ get_or first n 0
    old_first n ne = get_or-set_other first node n (length next + 1) 0 ne

    pub lists_more : AreListsOf wanted (ts ++ node ∷ []) (set first node (length next + 1)) (next ++ get_or first node 0 ∷ [])
    lists_more =
        let k = h.nexts in
        let l = more_tails in
        record {
          nexts = more_nexts;
          first_low = λ n. elim (cases_eq n node) [
            | inl q ↦ rw (q, new_first) (omega arith)
            | inr q ↦ (let a = h.first_low n in rw (old_first n q) (omega arith))
          ];
          first_leaves = λ n e f. elim (cases_eq n node) [
            | inl q ↦ (let a = new_first in let g = rw q at f in new_tail e (omega arith) ∙ sym q)
            | inr q ↦ old_leaves n e (sym (old_first n q) ∙ f)
          ];
          first_skips = λ n e f b w. elim (cases_eq n node) [
            | inl q ↦ absurd (let a = new_first in let g = rw q at f in omega arith)
            | inr q ↦ (let g = old_first n q in
                elim (cases_eq e (length ts)) [
                  | inl s ↦ (λ z. q (sym z ∙ new_tail e (sym s)))
                  | inr s ↦ (λ z. h.first_skips n e (omega arith) (omega arith) w (sym (old_tail e (omega arith)) ∙ z))
                ])
          ];
          next_low = more_low;
          next_leaves = more_leaves;
          next_skips = more_skips;
        }

-- the lists of the first arcs, and of one more
module _ (wanted : ℕ → Type 0) (ts first next : List ℕ) (i node position : ℕ) (l : i < length ts) (leaves : node ≡ get_or ts i 0) (within : node < length first)
    (h : AreListsOf wanted (take i ts) first next) (read : position ≡ get_or first node position) where
  one_more : take (i + 1) ts ≡ take i ts ++ node ∷ []
  one_more = take_more ts i 0 l ∙ ap (λ n. take i ts ++ n ∷ []) (sym leaves)

  pub relinked : (first' next' : List ℕ) → first' ≡ set first node (i + 1) → next' ≡ next ++ position ∷ [] → AreListsOf wanted (take (i + 1) ts) first' next'
  relinked first' next' f n =
      let e : length next ≡ i = h.nexts ∙ length-take-le i ts (omega arith) in
      let m = lists_more wanted (take i ts) first next node h within in
      rw (f, n, one_more, get_or_read first node position within read 0) (rw e at m)

  pub passed : (first' next' : List ℕ) → first' ≡ first → next' ≡ next ++ position ∷ [] → (wanted i → ⊥) → AreListsOf wanted (take (i + 1) ts) first' next'
  passed first' next' f n none =
      rw (f, n, one_more, get_or_read first node position within read 0)
      (lists_passed wanted (take i ts) first next node h (λ w. none (subst wanted (length-take-le i ts (omega arith)) w)))

-- no arc is in a list yet
pub none_linked : (wanted : ℕ → Type 0) (n : ℕ) → AreListsOf wanted [] (replicate n 0) []
none_linked wanted n = record {
  nexts = refl;
  first_low = λ node. let z = zero_at n node in omega arith;
  first_leaves = λ node e q. absurd (let z = zero_at n node in omega arith);
  first_skips = λ node e q b. absurd (omega arith);
  next_low = λ d b. absurd (omega arith);
  next_leaves = λ d e b. absurd (omega arith);
  next_skips = λ d e b. absurd (omega arith);
}
  where
    zero_at : (m v : ℕ) → get_or {A = ℕ} (replicate m 0) v 0 ≡ 0
    zero_at zero v = refl
    zero_at (suc m) zero = refl
    zero_at (suc m) (suc v) = zero_at m v

-- all arcs are in their lists
pub all_linked : (net : Net) (wanted : ℕ → Type 0) (to first next : List ℕ) (i : ℕ) → to ≡ heads net.arcs → length first ≡ net.nodes → length (tails net.arcs) ≤ i → AreListsOf wanted (take i (tails net.arcs)) first next
    → IsLinks net to first next × AreListsOf wanted (tails net.arcs) first next
all_linked net wanted to first next i e f l h =
    let t = length_tails net.arcs in
    let k : AreListsOf wanted (tails net.arcs) first next = subst (λ ts. AreListsOf wanted ts first next) (take_all i (tails net.arcs) l) h in (
      record {
        ends = e;
        firsts = f;
        nexts = let n = k.nexts in omega arith;
        leaves = λ node e q. (let a = k.first_low node in omega arith, k.first_leaves node e q);
        goes_on = λ d e q. let b = entry_below next d e q in let n = k.nexts in (let a = k.next_low d (omega arith) in omega arith, k.next_leaves d e (omega arith) q);
      },
      k,
    )
  where
    entry_below : (xs : List ℕ) (d e : ℕ) → get_or xs d 0 ≡ e + 1 → d < length xs
    entry_below [] d e q = absurd (omega arith)
    entry_below (x ∷ xs) zero e q = omega arith
    entry_below (x ∷ xs) (suc d) e q = let r = entry_below xs d e q in omega arith

-- another list of firsts that reads the same
pub lists_read : (ts first first' next : List ℕ) → ((n : ℕ) → get_or first' n 0 ≡ get_or first n 0) → IsLists ts first next → IsLists ts first' next
lists_read ts first first' next r h = record {
  nexts = h.nexts;
  first_low = λ n. rw (r n) (h.first_low n);
  first_leaves = λ n e f. h.first_leaves n e (sym (r n) ∙ f);
  first_skips = λ n e f b w. h.first_skips n e (rw (r n) at f) b w;
  next_low = h.next_low;
  next_leaves = h.next_leaves;
  next_skips = h.next_skips;
}

pub tails_push : (arcs : List Arc) (arc : Arc) → tails (arcs ++ arc ∷ []) ≡ (tails arcs ++ arc.from ∷ []) ++ arc.to ∷ []
tails_push [] arc = refl
tails_push (x ∷ arcs) arc = ap (λ r. x.from ∷ x.to ∷ r) (tails_push arcs arc)

-- what each directed arc adds to what its node gives, and to what it takes
abbrev pub outs : List ℕ → List ℕ
outs [] = []
outs (x ∷ on) = x ∷ 0 ∷ outs on

abbrev pub ins : List ℕ → List ℕ
ins [] = []
ins (x ∷ on) = 0 ∷ x ∷ ins on

-- the amounts of the first p directed arcs that leave the node
abbrev pub below : ℕ → List ℕ → List ℕ → ℕ → ℕ
below zero ts xs node = 0
below (suc p) [] xs node = 0
below (suc p) (t ∷ ts) [] node = 0
below (suc p) (t ∷ ts) (x ∷ xs) node = cond (t == node) x 0 + below p ts xs node

cond_none : (b : Bool) → ◌≡◌ {A = ℕ} (cond b 0 0) 0
cond_none true = refl
cond_none false = refl

pub below_step : (p : ℕ) (ts xs : List ℕ) (node : ℕ) → p < length ts → length xs ≡ length ts → below (suc p) ts xs node ≡ below p ts xs node + cond (get_or ts p 0 == node) (get_or xs p 0) 0
below_step p [] xs node l e = absurd (omega arith)
below_step p (t ∷ ts) [] node l e = absurd (omega arith)
below_step zero (t ∷ ts) (x ∷ xs) node l e = omega arith
below_step (suc p) (t ∷ ts) (x ∷ xs) node l e = let r = below_step p ts xs node (omega arith) (omega arith) in omega arith

pub below_skip : (d p q : ℕ) (ts xs : List ℕ) (node : ℕ) → q ≡ d + p → q ≤ length ts → length xs ≡ length ts → ((e : ℕ) → p ≤ e → e < q → get_or ts e 0 ≢ node) → below q ts xs node ≡ below p ts xs node
below_skip zero p q ts xs node e l m f = let z : q ≡ p = omega arith in ap (λ k. below k ts xs node) z
below_skip (suc d) p zero ts xs node e l m f = absurd (omega arith)
below_skip (suc d) p (suc q) ts xs node e l m f =
    let s = below_step q ts xs node (omega arith) m in
    let n = rw (ne_eqb (get_or ts q 0) node (f q (omega arith) (omega arith))) at s in
    let r = below_skip d p q ts xs node (omega arith) (omega arith) m (λ k a b. f k a (omega arith)) in
    omega arith

pub length_outs : (on : List ℕ) → length (outs on) ≡ 2 * length on
length_outs [] = refl
length_outs (x ∷ on) = let e = length_outs on in omega arith

pub length_ins : (on : List ℕ) → length (ins on) ≡ 2 * length on
length_ins [] = refl
length_ins (x ∷ on) = let e = length_ins on in omega arith

pub given_all : (arcs : List Arc) (on : List ℕ) (p node : ℕ) → length on ≡ length arcs → p ≡ length (tails arcs) → below p (tails arcs) (outs on) node ≡ given arcs on node
given_all [] on zero node e l = refl
given_all [] on (suc p) node e l = refl
given_all (arc ∷ arcs) [] p node e l = absurd (omega arith)
given_all (arc ∷ arcs) (x ∷ on) zero node e l = absurd (omega arith)
given_all (arc ∷ arcs) (x ∷ on) (suc zero) node e l = absurd (omega arith)
given_all (arc ∷ arcs) (x ∷ on) (suc (suc p)) node e l =
    let r = given_all arcs on p node (omega arith) (omega arith) in
    let z = cond_none (arc.to == node) in
    omega arith

pub taken_all : (arcs : List Arc) (on : List ℕ) (p node : ℕ) → length on ≡ length arcs → p ≡ length (tails arcs) → below p (tails arcs) (ins on) node ≡ taken arcs on node
taken_all [] on zero node e l = refl
taken_all [] on (suc p) node e l = refl
taken_all (arc ∷ arcs) [] p node e l = absurd (omega arith)
taken_all (arc ∷ arcs) (x ∷ on) zero node e l = absurd (omega arith)
taken_all (arc ∷ arcs) (x ∷ on) (suc zero) node e l = absurd (omega arith)
taken_all (arc ∷ arcs) (x ∷ on) (suc (suc p)) node e l =
    let r = taken_all arcs on p node (omega arith) (omega arith) in
    let z = cond_none (arc.from == node) in
    omega arith

-- an even number goes along its arc, an odd one back
pub even_amount : (on : List ℕ) (e i : ℕ) → e ≡ 2 * i → (get_or (outs on) e 0 ≡ get_or on i 0) × (get_or (ins on) e 0 ≡ 0)
even_amount [] e i q = (refl, refl)
even_amount (x ∷ on) zero zero q = (refl, refl)
even_amount (x ∷ on) zero (suc i) q = absurd (omega arith)
even_amount (x ∷ on) (suc zero) i q = absurd (omega arith)
even_amount (x ∷ on) (suc (suc e)) zero q = absurd (omega arith)
even_amount (x ∷ on) (suc (suc e)) (suc i) q = even_amount on e i (omega arith)

pub odd_amount : (on : List ℕ) (e i : ℕ) → e ≡ 2 * i + 1 → (get_or (ins on) e 0 ≡ get_or on i 0) × (get_or (outs on) e 0 ≡ 0)
odd_amount [] e i q = (refl, refl)
odd_amount (x ∷ on) zero i q = absurd (omega arith)
odd_amount (x ∷ on) (suc zero) zero q = (refl, refl)
odd_amount (x ∷ on) (suc zero) (suc i) q = absurd (omega arith)
odd_amount (x ∷ on) (suc (suc e)) zero q = absurd (omega arith)
odd_amount (x ∷ on) (suc (suc e)) (suc i) q = odd_amount on e i (omega arith)

-- the sums fit 128 bits
pub given_small : (arcs : List Arc) (on : List ℕ) (node : ℕ) → ((k : ℕ) → get_or on k 0 < 2 ^ 64) → given arcs on node ≤ length arcs * 2 ^ 64
given_small [] on node h = omega arith
given_small (arc ∷ arcs) [] node h = omega arith
given_small (arc ∷ arcs) (x ∷ on) node h =
    let r = given_small arcs on node (λ k. h (suc k)) in
    let b = h 0 in
    elim (arc.from == node) as (λ c. cond c x 0 + given arcs on node ≤ (suc (length arcs)) * 2 ^ 64) [ true ↦ omega arith | false ↦ omega arith ]

pub taken_small : (arcs : List Arc) (on : List ℕ) (node : ℕ) → ((k : ℕ) → get_or on k 0 < 2 ^ 64) → taken arcs on node ≤ length arcs * 2 ^ 64
taken_small [] on node h = omega arith
taken_small (arc ∷ arcs) [] node h = omega arith
taken_small (arc ∷ arcs) (x ∷ on) node h =
    let r = taken_small arcs on node (λ k. h (suc k)) in
    let b = h 0 in
    elim (arc.to == node) as (λ c. cond c x 0 + taken arcs on node ≤ (suc (length arcs)) * 2 ^ 64) [ true ↦ omega arith | false ↦ omega arith ]

-- a walk begins at an entry above the numbers of all arcs that leave the node
pub walk_begins : (ts xs : List ℕ) (node position : ℕ) → length xs ≡ length ts → position ≤ length ts → ((e : ℕ) → position ≤ e → e < length ts → get_or ts e 0 ≢ node)
    → below (length ts) ts xs node ≡ below position ts xs node
walk_begins ts xs node position l b f = below_skip (length ts - position) position (length ts) ts xs node (omega arith) (omega arith) l f

-- an arc of the walk
pub walk_holds : (ts xs : List ℕ) (node e position : ℕ) → position ≡ suc e → e < length ts → length xs ≡ length ts → get_or ts e 0 ≡ node → get_or xs e 0 ≤ below position ts xs node
walk_holds ts xs node e position q l m t =
    let s = below_step e ts xs node l m in
    let h = rw (eq-eqb (get_or ts e 0) node t) at s in
    rw q (omega arith)

-- and the next one
pub walk_step : (ts xs : List ℕ) (node e q position : ℕ) → position ≡ suc e → e < length ts → length xs ≡ length ts → get_or ts e 0 ≡ node → q ≤ e → ((k : ℕ) → q ≤ k → k < e → get_or ts k 0 ≢ node)
    → below position ts xs node ≡ below q ts xs node + get_or xs e 0
walk_step ts xs node e q position p l m t b f =
    let s = below_step e ts xs node l m in
    let h = rw (eq-eqb (get_or ts e 0) node t) at s in
    let r = below_skip (e - q) q e ts xs node (omega arith) (omega arith) m f in
    rw p (omega arith)

pub halves_even : (e : ℕ) → e % 2 ≡ 0 → e ≡ 2 * (e / 2)
halves_even e h = omega arith

pub halves_odd : (e : ℕ) → e % 2 ≢ 0 → e ≡ 2 * (e / 2) + 1
halves_odd e h = omega arith

pub half_below : (e n : ℕ) → e < 2 * n → e / 2 < n
half_below e n h = omega arith

joined_more : (nodes : ℕ) (arcs : List Arc) (arc : Arc) → AllByRecursion (Joins nodes) arcs → Joins nodes arc → AllByRecursion (Joins nodes) (arcs ++ arc ∷ [])
joined_more nodes [] arc h j = (j, tt)
joined_more nodes (x ∷ arcs) arc h j = (h.0, joined_more nodes arcs arc h.1 j)

-- a network with one arc more
pub listed_more : (nodes : ℕ) (arcs : List Arc) (arc : Arc) (first first' next : List ℕ) → IsListed (record { nodes = nodes; arcs = arcs }) first next → Joins nodes arc → length arcs + 1 < 2 ^ 31
    → ((n : ℕ) → get_or first' n 0 ≡ get_or first n 0) → arc.from < length first' → arc.to < length first'
    → IsListed (record { nodes = nodes; arcs = arcs ++ arc ∷ [] })
    (set (set first' arc.from (length next + 1)) arc.to (length (next ++ get_or first' arc.from 0 ∷ []) + 1))
    ((next ++ get_or first' arc.from 0 ∷ []) ++ get_or (set first' arc.from (length next + 1)) arc.to 0 ∷ [])
listed_more nodes arcs arc first first' next h j f r a b = record {
  numbered = record {
    legal = record { ends = h.numbered.legal.ends; joined = joined_more nodes arcs arc h.numbered.legal.joined j };
    few = let l = length_push arcs arc in omega arith;
  };
  lists = rw (tails_push arcs arc)
      (lists_more (λ e. Unit {0}) (tails arcs ++ arc.from ∷ []) (set first' arc.from (length next + 1)) (next ++ get_or first' arc.from 0 ∷ []) arc.to
      (lists_more (λ e. Unit {0}) (tails arcs) first' next arc.from (lists_read (tails arcs) first first' next r h.lists) a)
      (let l = length-set first' arc.from (length next + 1) in omega arith));
}

-- the lists have two entries for each arc
pub listed_length : (nodes : ℕ) (arcs : List Arc) (first next : List ℕ) → IsListed (record { nodes = nodes; arcs = arcs }) first next → length next ≡ 2 * length arcs
listed_length nodes arcs first next h = h.lists.nexts ∙ (length_tails arcs ∙ length_heads arcs)
