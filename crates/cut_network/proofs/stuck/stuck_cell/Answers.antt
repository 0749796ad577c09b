use Rattle.std.proofs.Common.{ℕ, List, subst}
use Rattle.std.specs.Prelude.{Contains, MatchOption}
use Rattle.flow_model.specs.First.{IsFirst}
use Rattle.cut_network.specs.Drawn.{HasDrawn}
use Rattle.cut_network.proofs.Sticking.{stuck_so}
use Rattle.cut_network.proofs.stuck.stuck_cell.Goals as goal

pub returns-in_ok-cells-in-Some : goal.returns-in_ok-cells-in-Some
returns-in_ok-cells-in-Some c =
    let g = c.args.graph.now in
    let P : List ℕ → Type 0 = λ cells. MatchOption c.first_drawn.result ((d : ℕ) → Contains cells d × HasDrawn g d → ⊥) (λ d. IsFirst (λ n. Contains cells n × HasDrawn g n) d) in
    stuck_so g c.args.v c.in-Some.version.now c.in_ok-cells-in-Some.cells.items c.first_drawn.result c.in-Some.ensures c.if-version-eq0.true c.if-version.true c.in_ok-cells-in-Some.ensures.members
    (subst P c.deref.ensures.value c.first_drawn.ensures)
