-- Flows over the plan network.
use Rattle.std.proofs.Common.{◌≡◌, ℕ, suc, List, [], ◌∷◌, length, refl, ap}
use Rattle.flow_model.specs.declared.Arc.{Arc}
use Rattle.flow_model.specs.Flows.{IsWithin}

pub within-length : (arcs : List Arc) (flow : List ℕ) → IsWithin arcs flow → length flow ≡ length arcs
within-length [] [] h = refl
within-length [] (x ∷ flow) h = absurd h
within-length (arc ∷ arcs) [] h = absurd h
within-length (arc ∷ arcs) (x ∷ flow) h = ap suc (within-length arcs flow h.1)
