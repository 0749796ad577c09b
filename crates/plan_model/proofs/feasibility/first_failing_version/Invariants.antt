use Rattle.std.proofs.Common.{ℕ, ◌+◌, ◌<◌}
use Rattle.plan_model.specs.Failing.{FailsVersion}
use Rattle.plan_model.proofs.feasibility.first_failing_version.Given as goal

abbrev pub invariant-loop-before : goal.invariant-loop-before
invariant-loop-before l = (m : ℕ) → m < l.before + 1 → FailsVersion l.graph l.plan m → ⊥
