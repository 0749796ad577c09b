-- What is wrong with a flow.
use Rattle.std.specs.Prelude.{◌≡◌, ◌≢◌, ℕ, ◌<◌, List, length, map, slice_index}
use Rattle.flow_model.specs.Flows.{Net, given, taken, IsWithin}
use Rattle.flow_model.specs.First.{IsFirst}
use Rattle.flow_arcs.specs.declared.check.FlowFault.{FlowFault}
use Rattle.flow_arcs.specs.declared.check.FlowFault.TheVariants.{Length, Over, Unbalanced}

-- the fault of a flow: its length; or else the least arc that carries more than its capacity; or else the least inner node
-- that doesn't give what it takes
abbrev pub IsFirstFault : Net → List ℕ → FlowFault → Type 0
IsFirstFault net flow Length = length flow ≢ length net.arcs
IsFirstFault net flow (Over arc) = (length flow ≡ length net.arcs) × IsFirst (λ at. slice_index (map (λ arc. arc.capacity) net.arcs) at < slice_index flow at) arc
IsFirstFault net flow (Unbalanced node) = IsWithin net.arcs flow × IsFirst (λ n. (1 < n) × (n < net.nodes) × (taken net.arcs flow n ≢ given net.arcs flow n)) node
