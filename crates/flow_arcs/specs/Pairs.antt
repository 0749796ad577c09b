-- Residual arcs: two directed arcs for each arc, at 2i along it and at 2i + 1 back, and how much more each may carry.
use Rattle.std.specs.Prelude.{◌≡◌, ℕ, zero, suc, ◌+◌, ◌-◌, ◌^◌, ◌<◌, List, [], ◌∷◌}
use Rattle.flow_model.specs.declared.Arc.{Arc}

-- the node that each directed arc leaves
abbrev pub tails : List Arc → List ℕ
tails [] = []
tails (arc ∷ arcs) = arc.from ∷ arc.to ∷ tails arcs

-- the node that each directed arc enters
abbrev pub heads : List Arc → List ℕ
heads [] = []
heads (arc ∷ arcs) = arc.to ∷ arc.from ∷ heads arcs

-- the other directed arc of the same arc
abbrev pub partner : ℕ → ℕ
partner zero = 1
partner (suc zero) = 0
partner (suc (suc e)) = suc (suc (partner e))

-- what two partners may still carry sums to the arc's capacity
pub record IsPair (arc : Arc) (along back : ℕ) : Type 0 where
  pub sum : along + back ≡ arc.capacity
  pub capped : arc.capacity < 2 ^ 64

abbrev pub IsPaired : List Arc → List ℕ → Type 0
IsPaired [] [] = Unit {0}
IsPaired [] (x ∷ rest) = ⊥
IsPaired (arc ∷ arcs) [] = ⊥
IsPaired (arc ∷ arcs) (x ∷ []) = ⊥
IsPaired (arc ∷ arcs) (x ∷ y ∷ rest) = IsPair arc x y × IsPaired arcs rest

-- what each arc carries: what its second partner may carry back
abbrev pub carried : List ℕ → List ℕ
carried [] = []
carried (x ∷ []) = []
carried (x ∷ y ∷ rest) = y ∷ carried rest

-- an amount goes along a directed arc: it may carry that much less, and its partner that much more
abbrev pub pushed : List ℕ → ℕ → ℕ → List ℕ
pushed [] e amount = []
pushed (x ∷ []) e amount = x ∷ []
pushed (x ∷ y ∷ rest) zero amount = (x - amount) ∷ (y + amount) ∷ rest
pushed (x ∷ y ∷ rest) (suc zero) amount = (x + amount) ∷ (y - amount) ∷ rest
pushed (x ∷ y ∷ rest) (suc (suc e)) amount = x ∷ y ∷ pushed rest e amount
