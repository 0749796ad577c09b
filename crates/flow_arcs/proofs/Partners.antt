-- What a push along a directed arc changes.
use Rattle.std.proofs.Common.{◌≡◌, ◌≢◌, ℕ, zero, suc, ◌+◌, ◌-◌, ◌^◌, ◌%◌, ◌<◌, ◌≤◌, cond, ◌==◌, Bool, true, false, List, [], ◌∷◌, length, get_or, set, drop, ◌*◌, refl, ap, ◌∙◌, arith}
use Rattle.std.proofs.lemmas.List.{drop_all, get_or_read, length-set}
use Rattle.flow_model.specs.declared.Arc.{Arc}
use Rattle.flow_model.specs.Flows.{given, taken, IsWithin}
use Rattle.flow_arcs.specs.Arcs.{arc_at}
use Rattle.flow_arcs.specs.Pairs.{tails, heads, partner, IsPaired, carried, pushed}

-- the lists have two entries for each arc
pub pairs_length : (arcs : List Arc) (rest : List ℕ) → IsPaired arcs rest → length rest ≡ length (heads arcs)
pairs_length [] [] h = refl
pairs_length [] (x ∷ rest) h = absurd h
pairs_length (arc ∷ arcs) [] h = absurd h
pairs_length (arc ∷ arcs) (x ∷ []) h = absurd h
pairs_length (arc ∷ arcs) (x ∷ y ∷ rest) h = let e = pairs_length arcs rest h.1 in omega arith

pub rest_below : (arcs : List Arc) (rest : List ℕ) (e : ℕ) → IsPaired arcs rest → e < length rest → e < length (heads arcs)
rest_below arcs rest e h l = let s = pairs_length arcs rest h in omega arith

pub partner_below : (arcs : List Arc) (e : ℕ) → e < length (heads arcs) → partner e < length (heads arcs)
partner_below [] e h = absurd (omega arith)
partner_below (arc ∷ arcs) zero h = omega arith
partner_below (arc ∷ arcs) (suc zero) h = omega arith
partner_below (arc ∷ arcs) (suc (suc e)) h = let r = partner_below arcs e (omega arith) in omega arith

-- what two partners may carry fits 64 bits
pub partners_fit : (arcs : List Arc) (rest : List ℕ) (e : ℕ) → IsPaired arcs rest → e < length rest → get_or rest e 0 + get_or rest (partner e) 0 < 2 ^ 64
partners_fit [] [] e h l = absurd (omega arith)
partners_fit [] (x ∷ rest) e h l = absurd h
partners_fit (arc ∷ arcs) [] e h l = absurd h
partners_fit (arc ∷ arcs) (x ∷ []) e h l = absurd h
partners_fit (arc ∷ arcs) (x ∷ y ∷ rest) zero h l = let s = h.0.sum in let c = h.0.capped in omega arith
partners_fit (arc ∷ arcs) (x ∷ y ∷ rest) (suc zero) h l = let s = h.0.sum in let c = h.0.capped in omega arith
partners_fit (arc ∷ arcs) (x ∷ y ∷ rest) (suc (suc e)) h l = partners_fit arcs rest e h.1 (omega arith)

-- a push keeps the sums
pub pushed_paired : (arcs : List Arc) (rest : List ℕ) (e amount : ℕ) → IsPaired arcs rest → amount ≤ get_or rest e 0 → IsPaired arcs (pushed rest e amount)
pushed_paired [] [] e amount h l = tt
pushed_paired [] (x ∷ rest) e amount h l = absurd h
pushed_paired (arc ∷ arcs) [] e amount h l = absurd h
pushed_paired (arc ∷ arcs) (x ∷ []) e amount h l = absurd h
pushed_paired (arc ∷ arcs) (x ∷ y ∷ rest) zero amount h l = (record { sum = let s = h.0.sum in omega arith; capped = h.0.capped }, h.1)
pushed_paired (arc ∷ arcs) (x ∷ y ∷ rest) (suc zero) amount h l = (record { sum = let s = h.0.sum in omega arith; capped = h.0.capped }, h.1)
pushed_paired (arc ∷ arcs) (x ∷ y ∷ rest) (suc (suc e)) amount h l = (h.0, pushed_paired arcs rest e amount h.1 l)

-- no other arc may carry less than before
pub pushed_other : (rest : List ℕ) (e amount d : ℕ) → d ≢ e → get_or rest d 0 ≤ get_or (pushed rest e amount) d 0
pushed_other [] e amount d n = omega arith
pushed_other (x ∷ []) e amount d n = omega arith
pushed_other (x ∷ y ∷ rest) zero amount zero n = absurd (n refl)
pushed_other (x ∷ y ∷ rest) zero amount (suc zero) n = omega arith
pushed_other (x ∷ y ∷ rest) zero amount (suc (suc d)) n = omega arith
pushed_other (x ∷ y ∷ rest) (suc zero) amount zero n = omega arith
pushed_other (x ∷ y ∷ rest) (suc zero) amount (suc zero) n = absurd (n refl)
pushed_other (x ∷ y ∷ rest) (suc zero) amount (suc (suc d)) n = omega arith
pushed_other (x ∷ y ∷ rest) (suc (suc e)) amount zero n = omega arith
pushed_other (x ∷ y ∷ rest) (suc (suc e)) amount (suc zero) n = omega arith
pushed_other (x ∷ y ∷ rest) (suc (suc e)) amount (suc (suc d)) n = pushed_other rest e amount d (λ q. n (ap (λ k. suc (suc k)) q))

step_along : (b c : Bool) (g t y amount : ℕ) → (cond b (y + amount) 0 + g) + (cond c y 0 + t) + cond c amount 0 ≡ (cond b y 0 + g) + (cond c (y + amount) 0 + t) + cond b amount 0
step_along true true g t y amount = omega arith
step_along true false g t y amount = omega arith
step_along false true g t y amount = omega arith
step_along false false g t y amount = omega arith

step_back : (b c : Bool) (g t y amount : ℕ) → amount ≤ y → (cond b (y - amount) 0 + g) + (cond c y 0 + t) + cond b amount 0 ≡ (cond b y 0 + g) + (cond c (y - amount) 0 + t) + cond c amount 0
step_back true true g t y amount l = omega arith
step_back true false g t y amount l = omega arith
step_back false true g t y amount l = omega arith
step_back false false g t y amount l = omega arith

more_sums : (b c : Bool) (x g g' t t' p q : ℕ) → g' + t + p ≡ g + t' + q → (cond b x 0 + g') + (cond c x 0 + t) + p ≡ (cond b x 0 + g) + (cond c x 0 + t') + q
more_sums true true x g g' t t' p q h = omega arith
more_sums true false x g g' t t' p q h = omega arith
more_sums false true x g g' t t' p q h = omega arith
more_sums false false x g g' t t' p q h = omega arith

-- a push moves its amount from the node that the arc leaves to the one that it enters
pub pushed_moves : (arcs : List Arc) (rest : List ℕ) (e amount node : ℕ) → IsPaired arcs rest → e < length rest → amount ≤ get_or rest e 0
    → given arcs (carried (pushed rest e amount)) node + taken arcs (carried rest) node + cond (get_or (heads arcs) e 0 == node) amount 0
    ≡ given arcs (carried rest) node + taken arcs (carried (pushed rest e amount)) node + cond (get_or (tails arcs) e 0 == node) amount 0
pushed_moves [] [] e amount node h k l = absurd (omega arith)
pushed_moves [] (x ∷ rest) e amount node h k l = absurd h
pushed_moves (arc ∷ arcs) [] e amount node h k l = absurd h
pushed_moves (arc ∷ arcs) (x ∷ []) e amount node h k l = absurd h
pushed_moves (arc ∷ arcs) (x ∷ y ∷ rest) zero amount node h k l = step_along (arc.from == node) (arc.to == node) (given arcs (carried rest) node) (taken arcs (carried rest) node) y amount
pushed_moves (arc ∷ arcs) (x ∷ y ∷ rest) (suc zero) amount node h k l = step_back (arc.from == node) (arc.to == node) (given arcs (carried rest) node) (taken arcs (carried rest) node) y amount l
pushed_moves (arc ∷ arcs) (x ∷ y ∷ rest) (suc (suc e)) amount node h k l =
    more_sums (arc.from == node) (arc.to == node) y (given arcs (carried rest) node) (given arcs (carried (pushed rest e amount)) node) (taken arcs (carried rest) node) (taken arcs (carried (pushed rest e amount)) node) _ _
    (pushed_moves arcs rest e amount node h.1 (omega arith) l)

-- flows within the capacities
pub carried_within : (arcs : List Arc) (rest : List ℕ) → IsPaired arcs rest → IsWithin arcs (carried rest)
carried_within [] [] h = tt
carried_within [] (x ∷ rest) h = absurd h
carried_within (arc ∷ arcs) [] h = absurd h
carried_within (arc ∷ arcs) (x ∷ []) h = absurd h
carried_within (arc ∷ arcs) (x ∷ y ∷ rest) h = (let s = h.0.sum in omega arith, carried_within arcs rest h.1)

-- the push in the code, number by number
pub pushed_is : (rest : List ℕ) (e amount : ℕ) → e < length rest → partner e < length rest
    → set (set rest e (get_or rest e 0 - amount)) (partner e) (get_or (set rest e (get_or rest e 0 - amount)) (partner e) 0 + amount) ≡ pushed rest e amount
pushed_is [] e amount h k = absurd (omega arith)
pushed_is (x ∷ []) zero amount h k = absurd (omega arith)
pushed_is (x ∷ []) (suc e) amount h k = absurd (omega arith)
pushed_is (x ∷ y ∷ rest) zero amount h k = refl
pushed_is (x ∷ y ∷ rest) (suc zero) amount h k = refl
pushed_is (x ∷ y ∷ rest) (suc (suc e)) amount h k = ap (λ r. x ∷ y ∷ r) (pushed_is rest e amount (omega arith) (omega arith))

pub partner_even : (e : ℕ) → e % 2 ≡ 0 → partner e ≡ e + 1
partner_even zero h = refl
partner_even (suc zero) h = absurd (omega arith)
partner_even (suc (suc e)) h = let r = partner_even e (omega arith) in omega arith

pub partner_odd : (e : ℕ) → e % 2 ≢ 0 → partner e + 1 ≡ e
partner_odd zero h = absurd (h refl)
partner_odd (suc zero) h = refl
partner_odd (suc (suc e)) h = let r = partner_odd e (λ q. h (omega arith)) in omega arith

partner_twice : (e : ℕ) → partner (partner e) ≡ e
partner_twice zero = refl
partner_twice (suc zero) = refl
partner_twice (suc (suc e)) = ap (λ n. suc (suc n)) (partner_twice e)

-- the partner of an arc's partner is that arc
pub partner_back : (e p : ℕ) → p ≡ partner e → partner p ≡ e
partner_back e p q = ap partner q ∙ partner_twice e

pub pushed_read : (rest : List ℕ) (e p amount x y : ℕ) → p ≡ partner e → e < length rest → partner e < length rest → x ≡ get_or rest e x → y ≡ get_or (set rest e (x - amount)) p y
    → set (set rest e (x - amount)) p (y + amount) ≡ pushed rest e amount
pushed_read rest e p amount x y q h k a b =
    let c = get_or_read rest e x h a 0 in
    let l = length-set rest e (x - amount) in
    let m : p < length (set rest e (x - amount)) = omega arith in
    let d = get_or_read (set rest e (x - amount)) p y m b 0 in
    rw (d, q, c) (pushed_is rest e amount h k)

-- what a push along an arc needs
pub partner_rests : (arcs : List Arc) (rest : List ℕ) (e : ℕ) → IsPaired arcs rest → e < length (heads arcs)
    → (e < length rest) × (partner e < length rest) × (get_or rest e 0 + get_or rest (partner e) 0 < 2 ^ 64)
partner_rests arcs rest e h k =
    let l = pairs_length arcs rest h in
    let p = partner_below arcs e k in
    (omega arith, omega arith, partners_fit arcs rest e h (omega arith))

pub length_tails : (arcs : List Arc) → length (tails arcs) ≡ length (heads arcs)
length_tails [] = refl
length_tails (arc ∷ arcs) = ap (λ n. suc (suc n)) (length_tails arcs)

-- a partner enters the node that the arc leaves
pub tail_partner : (arcs : List Arc) (e : ℕ) → e < length (heads arcs) → get_or (heads arcs) (partner e) 0 ≡ get_or (tails arcs) e 0
tail_partner [] e h = absurd (omega arith)
tail_partner (arc ∷ arcs) zero h = refl
tail_partner (arc ∷ arcs) (suc zero) h = refl
tail_partner (arc ∷ arcs) (suc (suc e)) h = tail_partner arcs e (omega arith)

-- the node that a partner is read to enter
pub tail_read : (arcs : List Arc) (to : List ℕ) (e p node : ℕ) → to ≡ heads arcs → e < length (heads arcs) → p ≡ partner e → node ≡ get_or to p node → node ≡ get_or (tails arcs) e 0
tail_read arcs to e p node h l q r =
    let b = partner_below arcs e l in
    let k : p < length to = (let s = ap length h in omega arith) in
    get_or_read to p node k r 0 ∙ (ap (λ xs. get_or xs p 0) h ∙ (ap (λ d. get_or (heads arcs) d 0) q ∙ tail_partner arcs e l))

-- what the arcs carry, arc by arc
pair_at : (arcs : List Arc) (rest : List ℕ) (i j : ℕ) → IsPaired arcs rest → i < length arcs → j ≡ 2 * i
    → (suc j < length rest) × (carried (drop j rest) ≡ get_or rest (suc j) 0 ∷ carried (drop (suc (suc j)) rest))
pair_at [] rest i j h l e = absurd (omega arith)
pair_at (arc ∷ arcs) [] i j h l e = absurd h
pair_at (arc ∷ arcs) (x ∷ []) i j h l e = absurd h
pair_at (arc ∷ arcs) (x ∷ y ∷ rest) i zero h l e = (omega arith, refl)
pair_at (arc ∷ arcs) (x ∷ y ∷ rest) i (suc zero) h l e = absurd (omega arith)
pair_at (arc ∷ arcs) (x ∷ y ∷ rest) zero (suc (suc j)) h l e = absurd (omega arith)
pair_at (arc ∷ arcs) (x ∷ y ∷ rest) (suc i) (suc (suc j)) h l e =
    let r = pair_at arcs rest i j h.1 (omega arith) (omega arith) in
    (let k = r.0 in omega arith, r.1)

pub carried_at : (arcs : List Arc) (rest : List ℕ) (i : ℕ) → IsPaired arcs rest → i < length arcs
    → (2 * i + 1 < length rest) × (carried (drop (2 * i) rest) ≡ get_or rest (2 * i + 1) 0 ∷ carried (drop (2 * (i + 1)) rest))
carried_at arcs rest i h l =
    let r = pair_at arcs rest i (2 * i) h l refl in
    let a : 2 * i + 1 ≡ suc (2 * i) = omega arith in
    let b : 2 * (i + 1) ≡ suc (suc (2 * i)) = omega arith in
    rw (a, b) r

pub length_heads : (arcs : List Arc) → length (heads arcs) ≡ 2 * length arcs
length_heads [] = refl
length_heads (arc ∷ arcs) = let e = length_heads arcs in omega arith

-- nothing is left after the last arc
pub carried_none : (arcs : List Arc) (rest : List ℕ) (n : ℕ) → IsPaired arcs rest → length arcs ≤ n → carried (drop (2 * n) rest) ≡ []
carried_none arcs rest n h l = let e = pairs_length arcs rest h in let d = length_heads arcs in rw (drop_all (2 * n) rest (omega arith))

pub partner_near : (e : ℕ) → partner e ≤ e + 1
partner_near zero = omega arith
partner_near (suc zero) = omega arith
partner_near (suc (suc e)) = let r = partner_near e in omega arith

-- the two directed arcs of an arc
pub record AreBoth (arcs : List Arc) (rest : List ℕ) (a e : ℕ) : Type 0 where
  pub numbered : suc e < length (heads arcs)
  pub along_from : get_or (tails arcs) e 0 ≡ (arc_at arcs a).from
  pub along_to : get_or (heads arcs) e 0 ≡ (arc_at arcs a).to
  pub back_from : get_or (tails arcs) (suc e) 0 ≡ (arc_at arcs a).to
  pub back_to : get_or (heads arcs) (suc e) 0 ≡ (arc_at arcs a).from
  pub sum : get_or rest e 0 + get_or (carried rest) a 0 ≡ (arc_at arcs a).capacity
  pub back : get_or rest (suc e) 0 ≡ get_or (carried rest) a 0

pub both_arcs : (arcs : List Arc) (rest : List ℕ) (a e : ℕ) → IsPaired arcs rest → a < length arcs → e ≡ 2 * a → AreBoth arcs rest a e
both_arcs [] rest a e h l q = absurd (omega arith)
both_arcs (arc ∷ arcs) [] a e h l q = absurd h
both_arcs (arc ∷ arcs) (x ∷ []) a e h l q = absurd h
both_arcs (arc ∷ arcs) (x ∷ y ∷ rest) zero zero h l q = record {
  numbered = omega arith;
  along_from = refl;
  along_to = refl;
  back_from = refl;
  back_to = refl;
  sum = h.0.sum;
  back = refl;
}
both_arcs (arc ∷ arcs) (x ∷ y ∷ rest) zero (suc e) h l q = absurd (omega arith)
both_arcs (arc ∷ arcs) (x ∷ y ∷ rest) (suc a) zero h l q = absurd (omega arith)
both_arcs (arc ∷ arcs) (x ∷ y ∷ rest) (suc a) (suc zero) h l q = absurd (omega arith)
both_arcs (arc ∷ arcs) (x ∷ y ∷ rest) (suc a) (suc (suc e)) h l q =
    let r = both_arcs arcs rest a e h.1 (omega arith) (omega arith) in
    record {
      numbered = let n = r.numbered in omega arith;
      along_from = r.along_from;
      along_to = r.along_to;
      back_from = r.back_from;
      back_to = r.back_to;
      sum = r.sum;
      back = r.back;
    }
