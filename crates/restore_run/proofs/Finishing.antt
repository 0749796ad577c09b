-- What a checkpoint is restored to, or the fault, from the state in which its walk ends.
use Rattle.std.proofs.Common.{◌≡◌, ◌≢◌, ◌⊎◌, inl, inr, ℕ, List, length, Result, Ok, Err, refl, sym, ap, ◌∙◌, subst}
use Rattle.std.specs.Prelude.{IfOk, IfErr}
use Rattle.py_heap.specs.declared.state.State.{State}
use Rattle.py_machine.specs.Runs.{Name}
use Rattle.graph_model.specs.Faults.{Never}
use Rattle.linked_parts.specs.Parts.{ArePartsOf}
use Rattle.checkpoint_reader.specs.declared.checkpoint.Checkpoint.{Checkpoint}
use Rattle.replay_laws.specs.Tidied.{IsTidied}
use Rattle.state_judge.specs.Agreeing.{IsUnlike, IsLoose}
use Rattle.restore_run.specs.declared.restored.Restored.{Restored}
use Rattle.restore_run.specs.declared.fault.RestoreFault.{RestoreFault}
use Rattle.restore_run.specs.declared.fault.RestoreFault.TheVariants as fault
use Rattle.restore_run.specs.Restoring.{DrawsAgain, IsWalked, IsRestoredFrom, IsFinished, IsEndFault, IsRestoredOn, IsRestoreFault, AreCheckpoint}

module _ (bytes : List ℕ) (k : Checkpoint) (last s : State) (are : AreCheckpoint bytes k) (walked : IsWalked k (length k.graph.cells) last) (tidied : IsTidied (record last { count = k.count; meter = k.meter }) s) where
  from : IsRestoredFrom k s
  from = record { last = last; walked = walked; tidied = tidied }

  pub restored_on : (host : ℕ) (result : Result Restored RestoreFault) → IfOk result (IsFinished s host k.graph) → IfOk result (IsRestoredOn bytes host)
  restored_on host (Ok r) f = record {
    checkpoint = k;
    are = are;
    state = subst (IsRestoredFrom k) (sym f.state) from;
    agrees = subst (λ (t : State). Never (IsUnlike k.graph t)) (sym f.state) f.agrees;
    none_loose = subst (λ (t : State). (name : Name) → ¬ IsLoose k.graph t name) (sym f.state) f.none_loose;
    host = f.host;
    graph = f.graph;
    parts = subst (λ (t : State). ArePartsOf t r.history.parts) (sym f.state) f.parts;
    objects = f.objects ∙ ap (λ (t : State). length t.heap) (sym f.state);
  }
  restored_on host (Err e) f = tt

  of_fault : (f : RestoreFault) → IsEndFault k.graph s f → f ≢ fault.OutOfMemory → IsRestoreFault bytes f
  of_fault fault.OutOfMemory h other = absurd (other refl)
  of_fault (fault.Checkpoint e) h other = absurd h
  of_fault (fault.DrewAgain c) h other = absurd h
  of_fault (fault.Unlike v) h other = (k, s, are, from, h)
  of_fault (fault.Loose name) h other = (k, s, are, from, h)

  pub fault_of : (result : Result Restored RestoreFault) → IfErr result (IsEndFault k.graph s) → IfErr result (λ f. f ≢ fault.OutOfMemory → IsRestoreFault bytes f)
  fault_of (Ok r) h = tt
  fault_of (Err f) h = of_fault f h

-- ---- the walk takes no notice of the count and the meter

abbrev pub uncounted : Checkpoint → Checkpoint
uncounted k = record { count = 0; meter = 0; graph = k.graph; plan = k.plan; parts = k.parts }

draws_again : (k : Checkpoint) (c : ℕ) → DrawsAgain (uncounted k) c → DrawsAgain k c
draws_again k c d = record { before = d.before; walked = d.walked; rerun = d.rerun; cell = d.cell; at = d.at; asks = d.asks }

pub stopped_early : (bytes : List ℕ) (k : Checkpoint) (f : RestoreFault) → AreCheckpoint bytes k
    → (f ≡ fault.OutOfMemory) ⊎ ((c : ℕ) × (f ≡ fault.DrewAgain c) × DrawsAgain (uncounted k) c) → f ≢ fault.OutOfMemory → IsRestoreFault bytes f
stopped_early bytes k f are why other = elim why [
  | inl e ↦ absurd (other e)
  | inr w ↦ subst (IsRestoreFault bytes) (sym w.1) (k, are, draws_again k w.0 w.2)
]
