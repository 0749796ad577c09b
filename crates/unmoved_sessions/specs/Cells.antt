-- Requests that ask for cells, and entries that are deaths.
use Rattle.std.specs.Prelude.{◌≡◌, ℕ, true, false, List}
use Rattle.std.specs.List.{AllZip}
use Rattle.session_core.specs.declared.request.Ask.TheVariants.{Execute}
use Rattle.session_core.specs.declared.request.Request.{Request}
use Rattle.session_core.specs.declared.entry.DiedCause.{DiedCause}
use Rattle.session_core.specs.declared.entry.Entry.{Entry}
use Rattle.session_core.specs.declared.entry.Entry.TheVariants.{Opened, Ran, Died, Dead, Sealed, Moved, Adopted, Refused, Resumed}

-- it asks for a cell, which is stored and not silent
abbrev pub AsksCell : Request → Type 0
AsksCell r = (code : List ℕ) × (r.ask ≡ Execute code false true)

-- anything but a death
abbrev pub IsNoDeath : Entry → Type 0
IsNoDeath (Opened host request channel) = Unit {0}
IsNoDeath (Ran host request draws reply) = Unit {0}
IsNoDeath (Died host request count cause) = ⊥
IsNoDeath (Dead host request count) = Unit {0}
IsNoDeath (Sealed host request to) = Unit {0}
IsNoDeath (Moved to) = Unit {0}
IsNoDeath (Adopted from to request certified objects) = Unit {0}
IsNoDeath (Refused host request reason) = Unit {0}
IsNoDeath (Resumed host request) = Unit {0}

-- on this host and with this count, the session dies at the request
abbrev pub DiesAt : ℕ → ℕ → Request → Entry → Type 0
DiesAt host count r e = (cause : DiedCause) × (e ≡ Died host r count cause)

-- on this host and with this count, it is dead at each request
abbrev pub StaysDead : ℕ → ℕ → List Request → List Entry → Type 0
StaysDead host count requests entries = AllZip (λ r e. e ≡ Dead host r count) requests entries
