use Rattle.std.proofs.Common.{ℕ, List, inl, subst}
use Rattle.plan_model.specs.Failing.{LacksSomeWriter}
use Rattle.plan_model.proofs.feasibility.rerun_fails.Goals as goal

pub returns-then-lacks_some_writer : goal.returns-then-lacks_some_writer
returns-then-lacks_some_writer c =
    let P : List ℕ → Type 0 = LacksSomeWriter c.args.graph.now c.args.rerun.now in
    (λ t. inl (subst P c.as_slice.ensures (c.lacks_some_writer.ensures.0 t)), λ h. c.if-lacks_some_writer.true)
