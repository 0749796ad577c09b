use Rattle.std.proofs.Common.{ℕ, ◌<◌}
use Rattle.linked_parts.specs.Parts.{HasNameAt}
use Rattle.linked_parts.proofs.parts.Parts.find.Given as goal

abbrev pub invariant-loop-index : goal.invariant-loop-index
invariant-loop-index l = (m : ℕ) → m < l.index → ¬ HasNameAt l.self m l.name
