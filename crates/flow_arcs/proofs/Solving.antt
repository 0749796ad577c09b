-- The flow that carries nothing, the bound on every value, and a closed search as a cut.
use Rattle.std.proofs.Common.{◌≡◌, ℕ, zero, suc, ◌+◌, ◌*◌, ◌<◌, ◌≤◌, Bool, true, false, not, ◌&&◌, cond, ◌==◌, ltb, List, [], ◌∷◌, length, get_or, replicate, map, refl, sym, ap, ◌∙◌, inl, inr, arith}
use Rattle.std.proofs.lemmas.Bool.{cases_lt, lt-ltb, le-ltb, ltb-true, ltb-false}
use Rattle.flow_model.specs.declared.Arc.{Arc}
use Rattle.flow_model.specs.Flows.{Net, IsNet, given, taken, IsWithin, IsLegal, value, IsCut, cut_capacity, IsGreatest}
use Rattle.flow_model.proofs.Cuts.{leaving, entering, leaving-entering, a_cut_bounds}
use Rattle.flow_arcs.specs.Arcs.{arc_at}
use Rattle.flow_arcs.specs.Pairs.{tails, heads, carried, IsPaired}
use Rattle.flow_arcs.specs.Searches.{IsSearch, IsClosed}
use Rattle.flow_arcs.specs.Sides.{side}
use Rattle.flow_arcs.proofs.Sums.{within_length}
use Rattle.flow_arcs.proofs.Partners.{both_arcs}

-- the flow that carries nothing
idle_within : (arcs : List Arc) → IsWithin arcs (replicate (length arcs) 0)
idle_within [] = tt
idle_within (arc ∷ arcs) = (omega arith, idle_within arcs)

idle_given : (arcs : List Arc) (n node : ℕ) → given arcs (replicate n 0) node ≡ 0
idle_given [] n node = refl
idle_given (arc ∷ arcs) zero node = refl
idle_given (arc ∷ arcs) (suc n) node =
    let e = idle_given arcs n node in
    elim (arc.from == node) as (λ b. cond b 0 0 + given arcs (replicate n 0) node ≡ 0) [ true ↦ omega arith | false ↦ omega arith ]

idle_taken : (arcs : List Arc) (n node : ℕ) → taken arcs (replicate n 0) node ≡ 0
idle_taken [] n node = refl
idle_taken (arc ∷ arcs) zero node = refl
idle_taken (arc ∷ arcs) (suc n) node =
    let e = idle_taken arcs n node in
    elim (arc.to == node) as (λ b. cond b 0 0 + taken arcs (replicate n 0) node ≡ 0) [ true ↦ omega arith | false ↦ omega arith ]

pub idle_legal : (net : Net) → IsLegal net (replicate (length net.arcs) 0)
idle_legal net = record {
  within = idle_within net.arcs;
  balanced = λ node low high. idle_taken net.arcs (length net.arcs) node ∙ sym (idle_given net.arcs (length net.arcs) node);
}

-- what the arcs may carry together
abbrev pub total_capacity : List Arc → ℕ
total_capacity [] = 0
total_capacity (arc ∷ arcs) = arc.capacity + total_capacity arcs

pub given_bound : (arcs : List Arc) (flow : List ℕ) (node : ℕ) → IsWithin arcs flow → given arcs flow node ≤ total_capacity arcs
given_bound [] flow node h = omega arith
given_bound (arc ∷ arcs) [] node h = absurd h
given_bound (arc ∷ arcs) (x ∷ flow) node h =
    let e = given_bound arcs flow node h.1 in
    let l = h.0 in
    elim (arc.from == node) as (λ b. cond b x 0 + given arcs flow node ≤ arc.capacity + total_capacity arcs) [ true ↦ omega arith | false ↦ omega arith ]

-- the arcs that leave the set are full, and those that enter it carry nothing
tight_arc : (p q : Bool) (x c l e k : ℕ) → (p ≡ true → q ≡ false → x ≡ c) → (p ≡ false → q ≡ true → x ≡ 0) → l ≡ e + k → cond p x 0 + l ≡ (cond q x 0 + e) + (cond (p && not q) c 0 + k)
tight_arc true true x c l e k f g h = omega arith
tight_arc true false x c l e k f g h = let s = f refl refl in omega arith
tight_arc false true x c l e k f g h = let s = g refl refl in omega arith
tight_arc false false x c l e k f g h = omega arith

tight : (side : ℕ → Bool) (arcs : List Arc) (flow : List ℕ) → length flow ≡ length arcs
    → ((a : ℕ) → a < length arcs → side (arc_at arcs a).from ≡ true → side (arc_at arcs a).to ≡ false → get_or flow a 0 ≡ (arc_at arcs a).capacity)
    → ((a : ℕ) → a < length arcs → side (arc_at arcs a).from ≡ false → side (arc_at arcs a).to ≡ true → get_or flow a 0 ≡ 0)
    → leaving side arcs flow ≡ entering side arcs flow + cut_capacity side arcs
tight side [] flow l f g = refl
tight side (arc ∷ arcs) [] l f g = absurd (omega arith)
tight side (arc ∷ arcs) (x ∷ flow) l f g =
    tight_arc (side arc.from) (side arc.to) x arc.capacity _ _ _ (f 0 (omega arith)) (g 0 (omega arith))
    (tight side arcs flow (omega arith) (λ a k. f (suc a) (omega arith)) (λ a k. g (suc a) (omega arith)))

-- the nodes that were reached, as a list
abbrev pub reached : List ℕ → List Bool
reached level = map (λ (mark : ℕ). ltb 0 mark) level

side_reached : (level : List ℕ) (node : ℕ) → side (reached level) node ≡ ltb 0 (get_or level node 0)
side_reached [] node = refl
side_reached (x ∷ level) zero = refl
side_reached (x ∷ level) (suc node) = side_reached level node

pub cut_reached : (net : Net) (rest level by order : List ℕ) → IsSearch net rest level by order → get_or level 1 0 ≡ 0 → IsCut (side (reached level))
cut_reached net rest level by order h s = record {
  source = side_reached level 0 ∙ lt-ltb 0 (get_or level 0 0) (let r = h.root in omega arith);
  sink = side_reached level 1 ∙ le-ltb 0 (get_or level 1 0) (omega arith);
}

-- a closed search is a cut whose capacity is the value
module _ (net : Net) (rest level by order : List ℕ) (n : IsNet net) (p : IsPaired net.arcs rest) (l : IsLegal net (carried rest)) (h : IsSearch net rest level by order)
    (s : get_or level 1 0 ≡ 0) (c : IsClosed net.arcs rest level) where
  inside : (node : ℕ) → side (reached level) node ≡ true → 0 < get_or level node 0
  inside node e = ltb-true 0 (get_or level node 0) (sym (side_reached level node) ∙ e)

  outside : (node : ℕ) → side (reached level) node ≡ false → get_or level node 0 ≡ 0
  outside node e = let z = ltb-false 0 (get_or level node 0) (sym (side_reached level node) ∙ e) in omega arith

  -- a directed arc out of the set may carry no more
  shut : (e m k : ℕ) → e < length (heads net.arcs) → get_or (tails net.arcs) e 0 ≡ m → get_or (heads net.arcs) e 0 ≡ k → side (reached level) m ≡ true → side (reached level) k ≡ false → get_or rest e 0 ≡ 0
  shut e m k b t f i o =
      let z = outside k o in
      let w = ap (λ v. get_or level v 0) f in
      elim (cases_lt 0 (get_or rest e 0)) [ inl r ↦ absurd (let d = c m (inside m i) e b t r in omega arith) | inr r ↦ omega arith ]

  full : (a : ℕ) → a < length net.arcs → side (reached level) (arc_at net.arcs a).from ≡ true → side (reached level) (arc_at net.arcs a).to ≡ false → get_or (carried rest) a 0 ≡ (arc_at net.arcs a).capacity
  full a k i o =
      let r = both_arcs net.arcs rest a (2 * a) p k refl in
      let b = r.numbered in
      let z = shut (2 * a) _ _ (omega arith) r.along_from r.along_to i o in
      let q = r.sum in
      omega arith

  empty : (a : ℕ) → a < length net.arcs → side (reached level) (arc_at net.arcs a).from ≡ false → side (reached level) (arc_at net.arcs a).to ≡ true → get_or (carried rest) a 0 ≡ 0
  empty a k o i =
      let r = both_arcs net.arcs rest a (2 * a) p k refl in
      sym r.back ∙ shut (suc (2 * a)) _ _ r.numbered r.back_from r.back_to i o

  pub capacity_reached : cut_capacity (side (reached level)) net.arcs ≡ value net (carried rest)
  capacity_reached =
      let e = leaving-entering net (carried rest) (side (reached level)) n l (cut_reached net rest level by order h s) in
      let t = tight (side (reached level)) net.arcs (carried rest) (within_length net.arcs (carried rest) l.within) full empty in
      omega arith

-- a legal flow whose value is a cut's capacity is greatest
pub greatest_from_cut : (net : Net) (on : List ℕ) (s : ℕ → Bool) → IsNet net → IsCut s → cut_capacity s net.arcs ≡ value net on → IsGreatest net on
greatest_from_cut net on s n c e = λ other l. let b = a_cut_bounds net other s n l c in omega arith
