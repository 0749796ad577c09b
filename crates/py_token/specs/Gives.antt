-- What a call answers: what is to come, unless memory fails.
use Rattle.std.specs.Prelude.{◌≡◌, Result, Ok, Err}
use Rattle.py_token.specs.declared.faults.TokenFault.{TokenFault}
use Rattle.py_token.specs.declared.faults.TokenError.{TokenError}
use Rattle.py_token.specs.declared.faults.TokenError.TheVariants.{OutOfMemory, Fault}

abbrev pub Fails : {A : Type 0} → TokenError → Result A TokenFault → Type 0
Fails OutOfMemory expected = Unit {0}
Fails (Fault f) expected = expected ≡ Err f

abbrev pub Gives : {A : Type 0} → Result A TokenError → Result A TokenFault → Type 0
Gives (Ok a) expected = expected ≡ Ok a
Gives (Err e) expected = Fails e expected

-- a fact of the fault, if there is one
abbrev pub AtFault : TokenError → (TokenFault → Type 0) → Type 0
AtFault OutOfMemory P = Unit {0}
AtFault (Fault f) P = P f

abbrev pub IfFault : {A : Type 0} → Result A TokenError → (TokenFault → Type 0) → Type 0
IfFault (Ok a) P = Unit {0}
IfFault (Err e) P = AtFault e P
