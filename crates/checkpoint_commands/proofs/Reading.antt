-- What the weights and the checkpoint rule out, and what a checkpoint brings.
use Rattle.std.proofs.Common.{Ok, Err, sym, subst, arith}
use Rattle.graph_model.specs.declared.plan.Weights.{Weights}
use Rattle.graph_model.specs.Faults.{IsGraph}
use Rattle.graph_model.specs.Plans.{IsFeasible}
use Rattle.plan_model.specs.declared.weights.Weight.{Weight}
use Rattle.plan_model.specs.declared.weights.Weight.TheVariants.{CopyBase, PerByte, RunBase, PerStep}
use Rattle.plan_model.specs.Weighing.{IsFirstOver, AreSmall}
use Rattle.checkpoint_reader.specs.declared.checkpoint.Checkpoint.{Checkpoint}
use Rattle.checkpoint_reader.specs.declared.fields.Fields.{Fields}
use Rattle.checkpoint_reader.specs.Reads.{Answer}
use Rattle.checkpoint_reader.specs.Judging.{IsAnswer}

pub none_over : (w : Weights) (weight : Weight) → AreSmall w → IsFirstOver w weight → ⊥
none_over w CopyBase s h = let k = s.copy_base in omega (arith, k, h)
none_over w PerByte s h = let k = s.per_byte in let l = h.1 in omega (arith, k, l)
none_over w RunBase s h = let k = s.run_base in let l = h.2 in omega (arith, k, l)
none_over w PerStep s h = let k = s.per_step in let l = h.3 in omega (arith, k, l)

pub brings : (a : Answer Fields) (k : Checkpoint) → IsAnswer a (Ok k) → IsGraph k.graph × IsFeasible k.graph k.plan
brings (Ok read) k h = subst (λ (c : Checkpoint). IsGraph c.graph × IsFeasible c.graph c.plan) (sym h.0) (h.1, h.4)
brings (Err f) k h = cc
