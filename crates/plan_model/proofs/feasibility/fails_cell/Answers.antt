use Rattle.std.proofs.Common.{ℕ, List, sym, subst}
use Rattle.std.specs.Prelude.{Contains}
use Rattle.plan_model.specs.Failing.{RerunFails}
use Rattle.plan_model.proofs.Failures.{rerun_fails_cell, cell_fails_rerun}
use Rattle.plan_model.proofs.feasibility.fails_cell.Goals as goal

pub returns-then-has : goal.returns-then-has
returns-then-has c =
    let x = c.in-Some.cell.now in
    let P : List ℕ → Type 0 = λ rerun. RerunFails c.args.graph.now rerun x in
    let Q : List ℕ → Type 0 = λ rerun. Contains rerun c.args.c in (
      λ t. rerun_fails_cell c.args.graph.now c.args.plan.now c.args.c x c.in-Some.ensures
          (subst Q c.as_slice-rerun.ensures (c.has.ensures.0 c.if-has.true)) (subst P c.as_slice-rerun.ensures (c.rerun_fails.ensures.0 t)),
      λ h. c.rerun_fails.ensures.1 (subst P (sym c.as_slice-rerun.ensures) (cell_fails_rerun c.args.graph.now c.args.plan.now c.args.c x c.in-Some.ensures h).1),
    )
