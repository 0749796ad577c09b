-- Steps that may fail, and what a call that takes them answers.
use Rattle.std.specs.Prelude.{◌≡◌, Bool, true, false, Result, Ok, Err}
use Rattle.jupyter_messages.specs.declared.fault.MessageFault.{MessageFault}
use Rattle.jupyter_messages.specs.declared.fault.MessageFault.TheVariants.{OutOfMemory, NotJson, NoField, WrongKind, BadUuid, UnknownType}

-- the next step, if there is a value
infixl 10 ◌>>=◌
abbrev pub ◌>>=◌ : {A B : Type 0} → Result A MessageFault → (A → Result B MessageFault) → Result B MessageFault
(Ok x) >>= next = next x
(Err fault) >>= next = Err fault

-- a fault of the message, and none of memory
abbrev pub is_told : MessageFault → Bool
is_told OutOfMemory = false
is_told NotJson = true
is_told (NoField name) = true
is_told (WrongKind name) = true
is_told BadUuid = true
is_told (UnknownType name) = true

-- the answer tells something of the message
abbrev pub tells : {X : Type 0} → Result X MessageFault → Bool
tells (Ok x) = true
tells (Err fault) = is_told fault

abbrev pub seen : {X Y : Type 0} → (X → Y) → Result X MessageFault → Result Y MessageFault
seen view (Ok x) = Ok (view x)
seen view (Err fault) = Err fault

-- the value or the fault that reading gives, unless memory runs out
abbrev pub Gives : {X : Type 0} → Result X MessageFault → Result X MessageFault → Type 0
Gives result reading = tells result ≡ true → reading ≡ result

-- the same of a value that is seen through a view
abbrev pub GivesAs : {X Y : Type 0} → (X → Y) → Result X MessageFault → Result Y MessageFault → Type 0
GivesAs view result reading = tells result ≡ true → reading ≡ seen view result
