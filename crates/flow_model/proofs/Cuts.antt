-- What a legal flow carries out of a set of nodes, and that a cut bounds its value.
use Rattle.std.proofs.Common.{◌≡◌, ℕ, zero, suc, ◌+◌, ◌<◌, ◌≤◌, Bool, true, false, not, ◌&&◌, cond, ◌==◌, List, [], ◌∷◌, refl, sym, ap, ◌∙◌, inl, inr, zero-add, arith}
use Rattle.std.specs.List.{AllByRecursion}
use Rattle.std.proofs.lemmas.Bool.{eq-eqb, ne_eqb, cases_eq}
use Rattle.flow_model.specs.declared.Arc.{Arc}
use Rattle.flow_model.specs.Flows.{Net, Joins, IsNet, given, taken, IsWithin, IsLegal, value, IsCut, cut_capacity}

-- what the arcs carry whose first node is in the set
abbrev pub leaving : (ℕ → Bool) → List Arc → List ℕ → ℕ
leaving side [] flow = 0
leaving side (arc ∷ arcs) [] = 0
leaving side (arc ∷ arcs) (x ∷ flow) = cond (side arc.from) x 0 + leaving side arcs flow

-- what the arcs carry whose second node is in the set
abbrev pub entering : (ℕ → Bool) → List Arc → List ℕ → ℕ
entering side [] flow = 0
entering side (arc ∷ arcs) [] = 0
entering side (arc ∷ arcs) (x ∷ flow) = cond (side arc.to) x 0 + entering side arcs flow

-- the sum of f over the nodes of the set that are below n
abbrev pub total : (ℕ → Bool) → ℕ → (ℕ → ℕ) → ℕ
total side zero f = 0
total side (suc n) f = cond (side n) (f n) 0 + total side n f

total-zero : (side : ℕ → Bool) (n : ℕ) → total side n (λ k. 0) ≡ 0
total-zero side zero = refl
total-zero side (suc n) = elim (side n) as (λ b. cond b 0 0 + total side n (λ k. 0) ≡ 0) [ true ↦ omega (arith, total-zero side n) | false ↦ omega (arith, total-zero side n) ]

step-add : (b : Bool) (x y t u v : ℕ) → t ≡ u + v → cond b (x + y) 0 + t ≡ (cond b x 0 + u) + (cond b y 0 + v)
step-add true x y t u v h = omega arith
step-add false x y t u v h = omega arith

total-add : (side : ℕ → Bool) (n : ℕ) (f g : ℕ → ℕ) → total side n (λ k. f k + g k) ≡ total side n f + total side n g
total-add side zero f g = refl
total-add side (suc n) f g = step-add (side n) (f n) (g n) _ _ _ (total-add side n f g)

cond-zero : (b : Bool) → ◌≡◌ {A = ℕ} (cond b 0 0) 0
cond-zero true = refl
cond-zero false = refl

total-none : (side : ℕ → Bool) (n a x : ℕ) → n ≤ a → total side n (λ k. cond (a == k) x 0) ≡ 0
total-none side zero a x h = refl
total-none side (suc n) a x h =
    rw (ne_eqb a n (λ e. omega arith), cond-zero, zero-add) (total-none side n a x (omega arith))

total-one : (side : ℕ → Bool) (n a x : ℕ) → a < n → total side n (λ k. cond (a == k) x 0) ≡ cond (side a) x 0
total-one side zero a x h = absurd (omega arith)
total-one side (suc n) a x h = elim (cases_eq a n) [
  | inl e ↦ rw (eq-eqb a n e, total-none side n a x (omega arith), e) (omega arith)
  | inr e ↦ rw (ne_eqb a n e, cond-zero, zero-add) (total-one side n a x (omega arith))
]

total-given : (side : ℕ → Bool) (n : ℕ) (arcs : List Arc) (flow : List ℕ) → AllByRecursion (Joins n) arcs → total side n (given arcs flow) ≡ leaving side arcs flow
total-given side n [] flow h = total-zero side n
total-given side n (arc ∷ arcs) [] h = total-zero side n
total-given side n (arc ∷ arcs) (x ∷ flow) h =
    total-add side n (λ k. cond (arc.from == k) x 0) (given arcs flow) ∙ (rw (total-one side n arc.from x h.0.from, total-given side n arcs flow h.1))

total-taken : (side : ℕ → Bool) (n : ℕ) (arcs : List Arc) (flow : List ℕ) → AllByRecursion (Joins n) arcs → total side n (taken arcs flow) ≡ entering side arcs flow
total-taken side n [] flow h = total-zero side n
total-taken side n (arc ∷ arcs) [] h = total-zero side n
total-taken side n (arc ∷ arcs) (x ∷ flow) h =
    total-add side n (λ k. cond (arc.to == k) x 0) (taken arcs flow) ∙ (rw (total-one side n arc.to x h.0.to, total-taken side n arcs flow h.1))

-- nothing enters the source
pub taken-source : (n : ℕ) (arcs : List Arc) (flow : List ℕ) → AllByRecursion (Joins n) arcs → taken arcs flow 0 ≡ 0
taken-source n [] flow h = refl
taken-source n (arc ∷ arcs) [] h = refl
taken-source n (arc ∷ arcs) (x ∷ flow) h =
    rw (ne_eqb arc.to 0 h.0.enters, zero-add) (taken-source n arcs flow h.1)

total-step : (b : Bool) (x y t u v : ℕ) → x ≡ y → t ≡ v + u → cond b x 0 + t ≡ v + (cond b y 0 + u)
total-step true x y t u v e h = omega arith
total-step false x y t u v e h = omega arith

-- over the nodes of a cut below n, what they give is what the source gives and what they take
total-balanced : (side : ℕ → Bool) (f g : ℕ → ℕ) (n : ℕ) → side 0 ≡ true → side 1 ≡ false → g 0 ≡ 0 → ((k : ℕ) → 1 < k → k < suc n → g k ≡ f k)
    → total side (suc n) f ≡ f 0 + total side (suc n) g
total-balanced side f g zero s t z h = rw (s, z) (omega arith)
total-balanced side f g (suc zero) s t z h = rw (t, s, z) (omega arith)
total-balanced side f g (suc (suc n)) s t z h =
    total-step (side (suc (suc n))) _ _ _ _ _ (sym (h (suc (suc n)) (omega arith) (omega arith))) (total-balanced side f g (suc n) s t z (λ k p q. h k p (omega arith)))

-- what leaves the nodes of a cut is what enters them and the value
pub leaving-entering : (net : Net) (flow : List ℕ) (side : ℕ → Bool) → IsNet net → IsLegal net flow → IsCut side
    → leaving side net.arcs flow ≡ value net flow + entering side net.arcs flow
leaving-entering net flow side n l s = at net.nodes n.ends n.joined l.balanced
  where
    at : (nodes : ℕ) → 2 ≤ nodes → AllByRecursion (Joins nodes) net.arcs → ((k : ℕ) → 1 < k → k < nodes → taken net.arcs flow k ≡ given net.arcs flow k)
        → leaving side net.arcs flow ≡ value net flow + entering side net.arcs flow
    at zero two j b = absurd (omega arith)
    at (suc m) two j b =
        sym (total-given side (suc m) net.arcs flow j) ∙ (total-balanced side (given net.arcs flow) (taken net.arcs flow) m s.source s.sink (taken-source (suc m) net.arcs flow j) b
        ∙ ap (λ t. value net flow + t) (total-taken side (suc m) net.arcs flow j))

arc-bound : (p q : Bool) (x c l e k : ℕ) → x ≤ c → l ≤ e + k → cond p x 0 + l ≤ (cond q x 0 + e) + (cond (p && not q) c 0 + k)
arc-bound true true x c l e k h i = omega arith
arc-bound true false x c l e k h i = omega arith
arc-bound false true x c l e k h i = omega arith
arc-bound false false x c l e k h i = omega arith

-- what leaves a set is at most what enters it and what it may carry
leaving-le : (side : ℕ → Bool) (arcs : List Arc) (flow : List ℕ) → IsWithin arcs flow → leaving side arcs flow ≤ entering side arcs flow + cut_capacity side arcs
leaving-le side [] [] h = omega arith
leaving-le side [] (x ∷ flow) h = absurd h
leaving-le side (arc ∷ arcs) [] h = absurd h
leaving-le side (arc ∷ arcs) (x ∷ flow) h = arc-bound (side arc.from) (side arc.to) x arc.capacity _ _ _ h.0 (leaving-le side arcs flow h.1)

-- no legal flow has a greater value than a cut has capacity
pub a_cut_bounds : (net : Net) (flow : List ℕ) (side : ℕ → Bool) → IsNet net → IsLegal net flow → IsCut side → value net flow ≤ cut_capacity side net.arcs
a_cut_bounds net flow side n l s =
    let e = leaving-entering net flow side n l s in
    let b = leaving-le side net.arcs flow l.within in
    omega arith
