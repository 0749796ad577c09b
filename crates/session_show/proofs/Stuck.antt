-- The one version of a counter that holds a handle is stuck with its one cell, and its weights are those of an empty graph.
use Rattle.std.proofs.Common.{◌≡◌, ◌⊎◌, ℕ, ◌<◌, Bool, true, false, cond, ◌==◌, List, [], ◌∷◌, Err, inl, inr, refl, sym, ap, subst, arith, lit<}
use Rattle.std.specs.Prelude.{codes}
use Rattle.graph_model.specs.declared.plan.Weights.{Weights}
use Rattle.graph_model.specs.Graphs.{Needs, IsFirstStuck}
use Rattle.graph_model.specs.Plans.{AreAdmitted}
use Rattle.plan_model.specs.declared.weights.WeightFault.{WeightFault}
use Rattle.plan_model.specs.declared.weights.WeightFault.TheVariants.{Over, TooMuch}
use Rattle.plan_model.specs.Weighing.{IsWeightFault}
use Rattle.session_core.specs.declared.engine.PackFault.{PackFault}
use Rattle.session_core.specs.declared.engine.PackFault.TheVariants.{OutOfMemory, Stuck}
use Rattle.session_core.specs.Meanings.{Served}
use Rattle.session_core.specs.Engines.{Packs}
use Rattle.session_show.specs.Counting.{drawing, held, no_graph, stuck_graph, graph_at, total, counting}

pub first_pair : IsFirstStuck stuck_graph 1 1
first_pair = record {
  stuck = record {
    version = held;
    active = ((lit< tt, refl), refl);
    handle = refl;
    cell = drawing;
    needed = Needs.writer held (lit< tt, refl);
    at = (lit< tt, refl);
    drew = refl;
  };
  least_version = λ u d l s. let p = s.active.0.0 in omega (arith, l, p);
  least_cell = λ d l s. let p = s.at.0 in omega (arith, l, p);
}

-- ---- weights, which are of no version and no cell here

either_admitted : (b : Bool) (w : Weights) → AreAdmitted no_graph w → AreAdmitted (cond b stuck_graph no_graph) w
either_admitted true w h = record { copy_base = h.copy_base; per_byte = h.per_byte; run_base = h.run_base; per_step = h.per_step; total = h.total }
either_admitted false w h = h

pub admitted : (n : ℕ) (w : Weights) → AreAdmitted no_graph w → AreAdmitted (graph_at n) w
admitted n = either_admitted (n == 2)

either_fault : (b : Bool) (w : Weights) (fault : WeightFault) → IsWeightFault no_graph w fault → IsWeightFault (cond b stuck_graph no_graph) w fault
either_fault true w (Over weight) h = h
either_fault true w (TooMuch sum) h = h
either_fault false w fault h = h

pub fault_of : (n : ℕ) (w : Weights) (fault : WeightFault) → IsWeightFault no_graph w fault → IsWeightFault (graph_at n) w fault
fault_of n = either_fault (n == 2)

-- ---- it isn't packed

pub packs_stuck : (served : List Served) (w : Weights) (fault : PackFault) → total served ≡ 2 → AreAdmitted no_graph w → (fault ≡ OutOfMemory) ⊎ (fault ≡ Stuck 1 1 (codes "h" ∷ [])) → Packs counting served w (Err fault)
packs_stuck served w fault two good (inl e) = subst (λ (f : PackFault). Packs counting served w (Err f)) (sym e) (graph_at (total served), refl, admitted (total served) w good)
packs_stuck served w fault two good (inr e) =
    subst (λ (f : PackFault). Packs counting served w (Err f)) (sym e)
    (stuck_graph, sym (ap graph_at two), admitted 2 w good, first_pair, (held, (lit< tt, refl), refl))
