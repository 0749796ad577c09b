-- A level with one left is made of the one below.
use Rattle.std.proofs.Common.{◌≡◌, ℕ, zero, suc, ◌-◌, ◌<◌, true, Result, Err, refl, ap, arith}
use Rattle.py_machine.specs.declared.error.Fault.{Fault}
use Rattle.py_machine.specs.declared.error.Fault.TheVariants.{OutOfMemory, DrawFailed, Raised}
use Rattle.py_machine.specs.declared.machine.Machine.{Machine}
use Rattle.py_machine.specs.Runs.{Outcome, after, tells, told}
use Rattle.py_meaning.specs.Meaning.{level}

pub some_left : {X : Type 0} (f : ℕ → X) (n : ℕ) → 0 < n → f n ≡ f (suc (n - 1))
some_left f n some = let e : n ≡ suc (n - 1) = omega arith in ap f e

-- the levels that are left at a level
pub level-left : (n : ℕ) → (level n).left ≡ n
unfolding level
level-left zero = refl
level-left (suc n) = refl

-- an error hands itself on
pub after_err : {A B : Type 0} (e : Fault) (r : Result B Fault) (o : Outcome A) (m : Machine) (next : A → Machine → Outcome B) → r ≡ Err e → tells r ≡ true
    → (tells {A = A} (Err e) ≡ true → o ≡ (told {A = A} (Err e), m)) → after o.0 o.1 next ≡ (told r, m)
after_err OutOfMemory r o m next is t h = let none = rw is at t in absurd (let no : ⊥ = cc none in no)
after_err DrawFailed r o m next is t h = let e = h refl in rw (is, e) refl
after_err (Raised x) r o m next is t h = let e = h refl in rw (is, e) refl
