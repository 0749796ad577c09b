-- Steps one after the other.
use Rattle.std.proofs.Common.{◌≡◌, ℕ, suc, true, List, Result, Ok, Err, refl}
use Rattle.nb_outside.specs.declared.feed.Drawn.{Drawn}
use Rattle.py_machine.specs.declared.machine.Machine.{Machine}
use Rattle.py_machine.specs.declared.error.Fault.{Fault}
use Rattle.py_machine.specs.declared.error.Fault.TheVariants.{OutOfMemory, DrawFailed, Raised}
use Rattle.py_machine.specs.Runs.{tells, told}
use Rattle.py_machine.specs.Runs as runs
use Rattle.py_meaning.specs.Acts.{run}
use Rattle.py_meaning.specs.Operators.{steps}

pub one_step : (n k : ℕ) (draws : List Drawn) (m new : Machine) → n ≡ suc k → runs.step m ≡ (Ok tt, new) → run (steps n) draws m ≡ run (steps k) draws new
unfolding steps
one_step n k draws m new e h = rw (e, h) refl

pub no_step : (n : ℕ) (draws : List Drawn) (m : Machine) → n ≡ 0 → run (steps n) draws m ≡ (Ok tt, m)
unfolding steps
no_step n draws m e = rw e refl

-- an error of the step is the error of the steps
pub failed_step : (n k : ℕ) (draws : List Drawn) (m new : Machine) (e : Fault) (r : Result (Unit {0}) Fault) → n ≡ suc k → r ≡ Err e → tells r ≡ true
    → (tells {A = Unit {0}} (Err e) ≡ true → runs.step m ≡ (told {A = Unit {0}} (Err e), new)) → run (steps n) draws m ≡ (told r, new)
unfolding steps
failed_step n k draws m new OutOfMemory r e is t h = let none = rw is at t in absurd (let no : ⊥ = cc none in no)
failed_step n k draws m new DrawFailed r e is t h = let f = h refl in rw (e, is, f) refl
failed_step n k draws m new (Raised x) r e is t h = let f = h refl in rw (e, is, f) refl
