-- What entries are about.
use Rattle.std.specs.Prelude.{◌≡◌, ℕ, Bool, true, false}
use Rattle.session_core.specs.declared.request.Request.{Request}
use Rattle.session_core.specs.declared.entry.Entry.{Entry}
use Rattle.session_core.specs.declared.entry.Entry.TheVariants.{Opened, Ran, Died, Dead, Sealed, Moved, Adopted, Refused, Resumed}

-- of a session that dies, or is dead
abbrev pub IsOfDeath : Entry → Type 0
IsOfDeath (Died host request count cause) = Unit {0}
IsOfDeath (Dead host request count) = Unit {0}
IsOfDeath _ = ⊥

-- of a request to move, or of the move itself
abbrev pub IsOfMove : Entry → Type 0
IsOfMove (Opened host request channel) = ⊥
IsOfMove (Ran host request draws reply) = ⊥
IsOfMove (Died host request count cause) = ⊥
IsOfMove (Dead host request count) = ⊥
IsOfMove (Sealed host request to) = Unit {0}
IsOfMove (Moved to) = Unit {0}
IsOfMove (Adopted from to request certified objects) = Unit {0}
IsOfMove (Refused host request reason) = Unit {0}
IsOfMove (Resumed host request) = Unit {0}

-- an entry that ends a request while the Resident is out, of whose request this holds
abbrev pub IsEnd : (Request → Type 0) → Entry → Type 0
IsEnd P (Opened host request channel) = ⊥
IsEnd P (Ran host request draws reply) = P request
IsEnd P (Died host request count cause) = P request
IsEnd P (Dead host request count) = P request
IsEnd P (Sealed host request to) = ⊥
IsEnd P (Moved to) = ⊥
IsEnd P (Adopted from to request certified objects) = ⊥
IsEnd P (Refused host request reason) = P request
IsEnd P (Resumed host request) = P request

-- an entry with which a move ends
abbrev pub IsArrival : Entry → Type 0
IsArrival (Opened host request channel) = ⊥
IsArrival (Ran host request draws reply) = ⊥
IsArrival (Died host request count cause) = ⊥
IsArrival (Dead host request count) = ⊥
IsArrival (Sealed host request to) = ⊥
IsArrival (Moved to) = ⊥
IsArrival (Adopted from to request certified objects) = Unit {0}
IsArrival (Refused host request reason) = ⊥
IsArrival (Resumed host request) = Unit {0}

-- the entry says that this request ran at its host, or else that the session died of it there
abbrev pub RanOrDied : Bool → ℕ → Request → Entry → Type 0
RanOrDied ran at asked (Opened host request channel) = ⊥
RanOrDied ran at asked (Ran host request draws reply) = (ran ≡ true) × (host ≡ at) × (request ≡ asked)
RanOrDied ran at asked (Died host request count cause) = (ran ≡ false) × (host ≡ at) × (request ≡ asked)
RanOrDied ran at asked (Dead host request count) = ⊥
RanOrDied ran at asked (Sealed host request to) = ⊥
RanOrDied ran at asked (Moved to) = ⊥
RanOrDied ran at asked (Adopted from to request certified objects) = ⊥
RanOrDied ran at asked (Refused host request reason) = ⊥
RanOrDied ran at asked (Resumed host request) = ⊥
