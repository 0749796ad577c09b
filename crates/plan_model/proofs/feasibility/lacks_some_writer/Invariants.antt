use Rattle.std.proofs.Common.{ℕ, ◌<◌, get_or}
use Rattle.plan_model.specs.Failing.{LacksWriter}
use Rattle.plan_model.proofs.feasibility.lacks_some_writer.Given as goal

abbrev pub invariant-loop-v : goal.invariant-loop-v
invariant-loop-v l = (k d : ℕ) → k < l.v-index → LacksWriter l.graph l.rerun (get_or l.reads k d) → ⊥
