-- Flows within their capacities.
use Rattle.std.proofs.Common.{◌≡◌, ℕ, zero, suc, ◌<◌, ◌≤◌, List, [], ◌∷◌, length, get_or, refl, ap, arith}
use Rattle.flow_model.specs.declared.Arc.{Arc}
use Rattle.flow_model.specs.Flows.{IsWithin}
use Rattle.flow_arcs.specs.Arcs.{no_arc}

-- flows within the capacities, arc by arc
pub within_length : (arcs : List Arc) (flow : List ℕ) → IsWithin arcs flow → length flow ≡ length arcs
within_length [] [] h = refl
within_length [] (x ∷ flow) h = absurd h
within_length (arc ∷ arcs) [] h = absurd h
within_length (arc ∷ arcs) (x ∷ flow) h = ap suc (within_length arcs flow h.1)

pub within_at : (arcs : List Arc) (flow : List ℕ) (i : ℕ) → IsWithin arcs flow → i < length arcs → get_or flow i 0 ≤ (get_or arcs i no_arc).capacity
within_at [] flow i h k = absurd (omega arith)
within_at (arc ∷ arcs) [] i h k = absurd h
within_at (arc ∷ arcs) (x ∷ flow) zero h k = h.0
within_at (arc ∷ arcs) (x ∷ flow) (suc i) h k = within_at arcs flow i h.1 (omega arith)

pub within_each : (arcs : List Arc) (flow : List ℕ) → length flow ≡ length arcs → ((i : ℕ) → i < length arcs → get_or flow i 0 ≤ (get_or arcs i no_arc).capacity) → IsWithin arcs flow
within_each [] [] e h = tt
within_each [] (x ∷ flow) e h = absurd (omega arith)
within_each (arc ∷ arcs) [] e h = absurd (omega arith)
within_each (arc ∷ arcs) (x ∷ flow) e h = (h 0 (omega arith), within_each arcs flow (omega arith) (λ i k. h (suc i) (omega arith)))
