-- A cell's end, from the run that gave it.
use Rattle.std.proofs.Common.{◌≡◌, ℕ, true, List, [], Option, Result, Ok, Err, refl, sym, ap, subst}
use Rattle.std.proofs.lemmas.List.{append-nil}
use Rattle.nb_outside.specs.Feeds.{Seen, Fed}
use Rattle.nb_outside.proofs.Feeding.{fed_none}
use Rattle.py_tree.specs.declared.statements.Stmt.{Stmt}
use Rattle.py_heap.specs.declared.state.State.{State}
use Rattle.py_machine.specs.declared.error.Fault.{Fault}
use Rattle.py_machine.specs.declared.error.Fault.TheVariants.{OutOfMemory, DrawFailed, Raised}
use Rattle.py_machine.specs.declared.machine.Machine.{Machine}
use Rattle.py_machine.specs.Runs.{Outcome, Stop, asks, start, tells, told, Runs}
use Rattle.py_meaning.specs.declared.end.CellError.{CellError}
use Rattle.py_meaning.specs.Acts.{run}
use Rattle.py_meaning.specs.Cells.{Asks, UsesUp, outcome, result_in, error_in, end_of, end, end_state}
use Rattle.py_meaning.specs.Meaning.{cell}

abbrev Shown : Type 0
Shown = Option (List ℕ)

-- nothing was taken at the start
pub fed_start : (seen : Seen) (m : Machine) (s : State) → m ≡ start s → Fed seen m.drawn seen
fed_start seen m s e = subst (λ (z : Machine). Fed seen z.drawn seen) (sym e) (fed_none seen)

pub ended : (body : List Stmt) (s : State) (m n : Machine) (r : Result Shown Fault) → m ≡ start s → Runs (run (cell body)) m r n → tells r ≡ true → outcome body s n.drawn ≡ (told r, n)
ended body s m n r e h t = (rw e at h) n.drawn (record { rest = []; is = sym (append-nil n.drawn) }) t

end_fields : (o : Outcome Shown) (n : Machine) (stop : Result Shown Stop) (result : Shown) (error : Option CellError) → o ≡ (stop, n) → result ≡ result_in stop → error ≡ error_in stop
    → record { printed = n.printed; result = result; error = error; steps = n.steps; draws = n.drawn; marks = n.marks } ≡ end_of o
end_fields o n stop result error e f g = rw (e, f, g) refl

pub end_is : (body : List Stmt) (s : State) (m n : Machine) (r : Result Shown Fault) (result : Shown) (error : Option CellError) → m ≡ start s → Runs (run (cell body)) m r n → tells r ≡ true
    → result ≡ result_in (told r) → error ≡ error_in (told r)
    → record { printed = n.printed; result = result; error = error; steps = n.steps; draws = n.drawn; marks = n.marks } ≡ end body s n.drawn
end_is body s m n r result error e h t f g = end_fields (outcome body s n.drawn) n (told r) result error (ended body s m n r e h t) f g

pub state_is : (body : List Stmt) (s : State) (m n : Machine) (r : Result Shown Fault) → m ≡ start s → Runs (run (cell body)) m r n → tells r ≡ true → n.state ≡ end_state body s n.drawn
state_is body s m n r e h t = sym (ap (λ (o : Outcome Shown). o.1.state) (ended body s m n r e h t))

-- what tells doesn't ask
tells_no_ask : (r : Result Shown Fault) → tells r ≡ true → told r ≡ Err asks → ⊥
tells_no_ask (Ok a) t e = cc e
tells_no_ask (Err OutOfMemory) t e = cc t
tells_no_ask (Err DrawFailed) t e = cc e
tells_no_ask (Err (Raised x)) t e = cc e

pub uses_up : (body : List Stmt) (s : State) (m n : Machine) (r : Result Shown Fault) → m ≡ start s → Runs (run (cell body)) m r n → tells r ≡ true → UsesUp body s n.drawn
uses_up body s m n r e h t =
    let o = ended body s m n r e h t in
    record {
      ends = λ (a : Asks (outcome body s n.drawn)). tells_no_ask r t (rw o at a);
      takes = rw o refl;
    }
