use Rattle.std.proofs.Common.{ℕ, refl, arith}
use Rattle.graph_model.specs.declared.graph.Version.{Version}
use Rattle.graph_model.specs.Graphs.{IsActive}
use Rattle.plan_model.proofs.Deciding.{all_contained, all_more}
use Rattle.plan_model.proofs.names.all_active.Goals as goal

pub loop-v-preserved : goal.loop-v-preserved
loop-v-preserved c =
    let P : ℕ → Type 0 = λ n. (x : Version) × IsActive c.args.graph.now n x in
    all_more P c.args.copied.now c.loop-v.v-index c.loop-v-test.true c.loop-v.invariant (c.is_active.ensures.active.0 c.if-not-is_active.false)

pub returns : goal.returns
returns c =
    let P : ℕ → Type 0 = λ n. (x : Version) × IsActive c.args.graph.now n x in
    (λ t. all_contained P c.args.copied.now (λ k d l. c.loop-v.invariant k d (omega arith)), λ h. refl)
