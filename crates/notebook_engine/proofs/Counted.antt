-- A cell leaves the count of its session as it is, and takes the same draws whatever the count is.
use Rattle.std.proofs.Common.{◌≡◌, ℕ, List, refl, sym, ◌∙◌, arith}
use Rattle.nb_outside.specs.declared.feed.Drawn.{Drawn}
use Rattle.py_tree.specs.declared.statements.Stmt.{Stmt}
use Rattle.py_heap.specs.declared.state.State.{State}
use Rattle.py_machine.specs.declared.machine.Machine.{Machine}
use Rattle.py_machine.specs.Runs.{start, step, charge}
use Rattle.py_meaning.specs.Kept.{Leaves}
use Rattle.py_meaning.specs.Meaning.{cell}
use Rattle.py_meaning.specs.Cells.{outcome, end_state, UsesUp}
use Rattle.py_meaning.proofs.Keeping.{IsKept, run_keeps}
use Rattle.py_heap.specs.References.{IsClosed}
use Rattle.py_laws.specs.Same.{HasPair, Same, Every}
use Rattle.py_laws.proofs.Sameness.{same_itself}
use Rattle.py_laws.proofs.Framing.{ended, same_result}

-- the count of the state is the same
record SameCount (m n : Machine) : Type 0 where
  same : n.state.count ≡ m.state.count

step_same : Leaves SameCount step
unfolding step
step_same m = grind arith

charge_same : (n : ℕ) → Leaves SameCount (charge n)
unfolding charge
charge_same n m = grind arith

count_kept : IsKept SameCount
count_kept = record {
  same = λ m. record { same = refl };
  trans = λ a b c p q. record { same = q.same ∙ p.same };
  steps = step_same;
  charges = charge_same;
  looks = λ name m. record { same = refl };
  binds = λ name held m. record { same = refl };
  unbinds = λ name m. record { same = refl };
  frames = λ frame m. record { same = refl };
  adds = λ new m. record { same = refl };
  changes = λ at c new m e. record { same = refl };
  writes = λ bytes m. record { same = refl };
  draws = λ d m. record { same = refl };
}

pub cell_counts : (body : List Stmt) (s : State) (draws : List Drawn) → (end_state body s draws).count ≡ s.count
cell_counts body s draws = (run_keeps SameCount count_kept (cell body) draws (start s)).same

-- ---- the draws

-- from states with the same names and meters it takes the same draws and ends alike
same_draws : (body : List Stmt) (draws : List Drawn) (s t : State) → Same Every s t → s.meter ≡ t.meter
    → ((outcome body s draws).0 ≡ (outcome body t draws).0) × ((outcome body s draws).1.drawn ≡ (outcome body t draws).1.drawn)
same_draws body draws s t same meters =
    let o = ended Every body draws s t meters (λ name l. tt) (HasPair same.by) same.same in
    (same_result _ _ o.result, o.alike.counts.drawn)

counted_so : (s : State) (n : ℕ) → IsClosed s → Same Every s (record s { count = n })
counted_so s n closed =
    let h = same_itself s closed Every in
    record { by = h.by; same = record { pairs = h.same.pairs; names = h.same.names; objects = h.same.objects } }

pub uses_at_any_count : (body : List Stmt) (s : State) (n : ℕ) (draws : List Drawn) → IsClosed s → UsesUp body s draws → UsesUp body (record s { count = n }) draws
uses_at_any_count body s n draws closed uses =
    let both = same_draws body draws s (record s { count = n }) (counted_so s n closed) refl in
    record { ends = λ asks. uses.ends (both.0 ∙ asks); takes = sym both.1 ∙ uses.takes }
