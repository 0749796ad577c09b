-- What is wrong with weights.
use Rattle.std.specs.Prelude.{◌≡◌, ◌<◌, ◌≤◌}
use Rattle.graph_model.specs.declared.graph.Graph.{Graph}
use Rattle.graph_model.specs.declared.plan.Weights.{Weights}
use Rattle.graph_model.specs.Plans.{total_weight}
use Rattle.plan_model.specs.declared.weights.Weight.{Weight}
use Rattle.plan_model.specs.declared.weights.Weight.TheVariants.{CopyBase, PerByte, RunBase, PerStep}
use Rattle.plan_model.specs.declared.weights.WeightFault.{WeightFault}
use Rattle.plan_model.specs.declared.weights.WeightFault.TheVariants.{Over, TooMuch}

-- the weights before this one are at most 1,000,000 each, and this one exceeds it
abbrev pub IsFirstOver : Weights → Weight → Type 0
IsFirstOver w CopyBase = 1000000 < w.copy_base
IsFirstOver w PerByte = (w.copy_base ≤ 1000000) × (1000000 < w.per_byte)
IsFirstOver w RunBase = (w.copy_base ≤ 1000000) × (w.per_byte ≤ 1000000) × (1000000 < w.run_base)
IsFirstOver w PerStep = (w.copy_base ≤ 1000000) × (w.per_byte ≤ 1000000) × (w.run_base ≤ 1000000) × (1000000 < w.per_step)

-- none of the weights exceeds 1,000,000
pub record AreSmall (w : Weights) : Type 0 where
  pub copy_base : w.copy_base ≤ 1000000
  pub per_byte : w.per_byte ≤ 1000000
  pub run_base : w.run_base ≤ 1000000
  pub per_step : w.per_step ≤ 1000000

-- the first weight that exceeds 1,000,000; or else the sum of the finite weights, if it reaches 2^63
abbrev pub IsWeightFault : Graph → Weights → WeightFault → Type 0
IsWeightFault g w (Over weight) = IsFirstOver w weight
IsWeightFault g w (TooMuch sum) = AreSmall w × (sum ≡ total_weight g w) × (9223372036854775808 ≤ sum)
