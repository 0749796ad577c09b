-- Plans: which are feasible, and what they cost.
use Rattle.std.specs.Prelude.{◌≡◌, ℕ, ◌+◌, ◌*◌, ◌-◌, ◌<◌, ◌≤◌, ◌⊎◌, false, cond, ◌==◌, Contains, Some, None, slice_get, sum_by}
use Rattle.graph_model.specs.declared.graph.CellRecord.{CellRecord}
use Rattle.graph_model.specs.declared.graph.Version.{Version}
use Rattle.graph_model.specs.declared.graph.Graph.{Graph}
use Rattle.graph_model.specs.declared.plan.Plan.{Plan}
use Rattle.graph_model.specs.declared.plan.Weights.{Weights}
use Rattle.graph_model.specs.Graphs.{CellAt, VersionAt, IsActive, ReadsOldOf}
use Rattle.graph_model.specs.Faults.{Ascends}

-- what a plan names: active versions and cells, each list ascending
pub record NamesOf (g : Graph) (p : Plan) : Type 0 where
  pub copied_ascends : Ascends (λ m n. m < n) p.copied
  pub rerun_ascends : Ascends (λ m n. m < n) p.rerun
  pub copied : (v : ℕ) → Contains p.copied v → (x : Version) × IsActive g v x
  pub rerun : (c : ℕ) → Contains p.rerun c → (x : CellRecord) × CellAt g c x

-- each active version is copied or its writer is run again; a cell is run again with the writers of the replaced
-- versions that it read; nothing copied holds a handle; nothing run again drew
pub record IsFeasible (g : Graph) (p : Plan) : Type 0 where
  pub covered : (v : ℕ) (x : Version) → IsActive g v x → Contains p.copied v ⊎ Contains p.rerun x.writer
  pub closed : (c w : ℕ) → Contains p.rerun c → ReadsOldOf g c w → Contains p.rerun w
  pub no_handle : (v : ℕ) (x : Version) → Contains p.copied v → VersionAt g v x → x.handle ≡ false
  pub no_draw : (c : ℕ) (x : CellRecord) → Contains p.rerun c → CellAt g c x → x.drew ≡ false

-- what copying a version costs: nothing if it is absent
abbrev pub copy_weight : Weights → Version → ℕ
copy_weight w x = cond x.absent 0 (w.copy_base + w.per_byte * x.size)

-- what running a cell again costs
abbrev pub rerun_weight : Weights → CellRecord → ℕ
rerun_weight w x = w.run_base + w.per_step * x.steps

abbrev pub copy_cost : Graph → Weights → ℕ → ℕ
copy_cost g w v = elim (slice_get g.versions (v - 1)) [ None ↦ 0 | Some x ↦ copy_weight w x ]

abbrev pub rerun_cost : Graph → Weights → ℕ → ℕ
rerun_cost g w c = elim (slice_get g.cells (c - 1)) [ None ↦ 0 | Some x ↦ rerun_weight w x ]

-- the cost of a plan: the sum of the weights of its members
abbrev pub cost : Graph → Weights → Plan → ℕ
cost g w p = sum_by (copy_cost g w) p.copied + sum_by (rerun_cost g w) p.rerun

-- the finite weights: of the active versions without a handle and of the cells that didn't draw
abbrev pub finite_copy : Weights → Version → ℕ
finite_copy w x = cond (x.replaced == 0) (cond x.handle 0 (copy_weight w x)) 0

abbrev pub finite_rerun : Weights → CellRecord → ℕ
finite_rerun w x = cond x.drew 0 (rerun_weight w x)

abbrev pub total_weight : Graph → Weights → ℕ
total_weight g w = sum_by (finite_copy w) g.versions + sum_by (finite_rerun w) g.cells

-- weights are admitted if none of the four exceeds 1,000,000 and the finite weights sum below 2^63
pub record AreAdmitted (g : Graph) (w : Weights) : Type 0 where
  pub copy_base : w.copy_base ≤ 1000000
  pub per_byte : w.per_byte ≤ 1000000
  pub run_base : w.run_base ≤ 1000000
  pub per_step : w.per_step ≤ 1000000
  pub total : total_weight g w < 9223372036854775808
