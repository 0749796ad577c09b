-- What functions that show values ensure.
use Rattle.std.specs.Prelude.{◌≡◌, ℕ, true, List, [], ◌++◌, length, Result, Ok, Err}
use Rattle.nb_outside.specs.declared.feed.Drawn.{Drawn}
use Rattle.py_heap.specs.declared.state.State.{State}
use Rattle.py_machine.specs.declared.error.Fault.{Fault}
use Rattle.py_machine.specs.declared.error.Fault.TheVariants.{OutOfMemory, DrawFailed, Raised}
use Rattle.py_machine.specs.declared.machine.Machine.{Machine}
use Rattle.py_machine.specs.Runs.{Computation, Outcome, Stop, raised, draw_failed, asks, tells, told}
use Rattle.py_machine.specs.Runs as runs
use Rattle.py_show.specs.Limits.{Limit, limited}
use Rattle.py_show.specs.OnState.{Ending, Puts}

-- how a function ended that puts its text where it is told to
abbrev pub put_told : Result (Unit {0}) Fault → Limit → Result Limit Stop
put_told (Ok u) text = Ok text
put_told (Err OutOfMemory) text = Err asks
put_told (Err DrawFailed) text = Err draw_failed
put_told (Err (Raised e)) text = Err (raised e)

-- the steps of a function, unless memory runs out
abbrev pub Takes : {A : Type 0} → Ending A → Result A Fault → ℕ → Type 0
Takes ending result new = tells result ≡ true → ending ≡ (told result, new)

-- what a function puts after a text, unless memory runs out
abbrev pub Gives : Puts → Limit → ℕ → Result (Unit {0}) Fault → Limit → ℕ → Type 0
Gives p text steps result new now = tells result ≡ true → p text steps ≡ (put_told result new, now)

-- the text that a run gives, after the bytes before it, as far as the limit
abbrev pub limited_text : List ℕ → Result (List ℕ) Stop → Result Limit Stop
limited_text before (Ok text) = Ok (limited (before ++ text))
limited_text before (Err e) = Err e

abbrev pub limited_after : List ℕ → Outcome (List ℕ) → Outcome Limit
limited_after before outcome = (limited_text before outcome.0, outcome.1)

-- On every machine that has this state and these steps, the run gives what is put after the bytes that the text stands
-- for, or the same end. Of the machine only the steps change.
abbrev pub PutsRun : Computation (List ℕ) → State → Limit → ℕ → Result (Unit {0}) Fault → Limit → ℕ → Type 0
PutsRun go state text steps result new now = (before : List ℕ) (draws : List Drawn) (m : Machine)
    → m.state ≡ state → m.steps ≡ steps → limited before ≡ text → tells result ≡ true
    → limited_after before (go draws m) ≡ (put_told result new, record m { steps = now })

-- the same, on a machine
abbrev pub PutsOn : Computation (List ℕ) → Machine → Limit → Result (Unit {0}) Fault → Limit → Machine → Type 0
PutsOn go old text result new now = (before : List ℕ) (draws : List Drawn)
    → limited before ≡ text → tells result ≡ true → limited_after before (go draws old) ≡ (put_told result new, now)

-- the run gives the text, as far as the limit
abbrev pub GivesText : Computation (List ℕ) → Machine → Result Limit Fault → Machine → Type 0
GivesText go old result new = (draws : List Drawn) → tells result ≡ true → limited_after [] (go draws old) ≡ (told result, new)

-- whether something was done
abbrev pub done : {A : Type 0} → Result A Fault → Result (Unit {0}) Stop
done (Ok a) = Ok tt
done (Err OutOfMemory) = Err asks
done (Err DrawFailed) = Err draw_failed
done (Err (Raised e)) = Err (raised e)

-- the bytes that the text stands for are charged
abbrev pub Charges : Limit → Machine → Result (List ℕ) Fault → Machine → Type 0
Charges text old result new = (bytes : List ℕ) → limited bytes ≡ text → tells result ≡ true → runs.charge (length bytes) old ≡ (done result, new)
