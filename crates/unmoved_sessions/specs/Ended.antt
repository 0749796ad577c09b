-- Entries after which a session is dead, and what a dead session says.
use Rattle.std.specs.Prelude.{◌≡◌, true}
use Rattle.session_core.specs.declared.entry.Entry.{Entry}
use Rattle.session_core.specs.declared.entry.Entry.TheVariants.{Opened, Ran, Died, Dead, Sealed, Moved, Adopted, Refused, Resumed}
use Rattle.session_core.specs.declared.entry.MoveRefusal.TheVariants.{DeadKernel}
use Rattle.session_core.specs.Asks.{is_end}

-- a death, or the answer to a shutdown without a restart
abbrev pub EndsSession : Entry → Type 0
EndsSession (Opened host request channel) = ⊥
EndsSession (Ran host request draws reply) = is_end request.ask ≡ true
EndsSession (Died host request count cause) = Unit {0}
EndsSession (Dead host request count) = ⊥
EndsSession (Sealed host request to) = ⊥
EndsSession (Moved to) = ⊥
EndsSession (Adopted from to request certified objects) = ⊥
EndsSession (Refused host request reason) = ⊥
EndsSession (Resumed host request) = ⊥

-- that the session is dead, to a move too
abbrev pub TellsDeath : Entry → Type 0
TellsDeath (Opened host request channel) = ⊥
TellsDeath (Ran host request draws reply) = ⊥
TellsDeath (Died host request count cause) = ⊥
TellsDeath (Dead host request count) = Unit {0}
TellsDeath (Sealed host request to) = ⊥
TellsDeath (Moved to) = ⊥
TellsDeath (Adopted from to request certified objects) = ⊥
TellsDeath (Refused host request reason) = reason ≡ DeadKernel
TellsDeath (Resumed host request) = ⊥
