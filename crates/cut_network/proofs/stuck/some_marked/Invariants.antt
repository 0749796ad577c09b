use Rattle.std.proofs.Common.{ℕ, ◌<◌, get_or}
use Rattle.graph_model.specs.Marks.{IsMarked, WroteOld}
use Rattle.cut_network.proofs.stuck.some_marked.Given as goal

abbrev pub invariant-loop-v : goal.invariant-loop-v
invariant-loop-v l = (k d : ℕ) → k < l.v-index → ((w : ℕ) × WroteOld l.graph (get_or l.reads k d) w × IsMarked l.marks w) → ⊥
