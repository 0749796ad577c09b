-- What the calls of the gate do.
use Rattle.std.specs.Prelude.{◌≡◌, ℕ, Bool, true, false, []}
use Rattle.session_core.specs.declared.request.Request.{Request}
use Rattle.session_core.specs.declared.entry.Entry.{Entry}
use Rattle.session_core.specs.declared.entry.Entry.TheVariants.{Opened, Ran, Died, Dead, Sealed, Moved, Adopted, Refused, Resumed}
use Rattle.session_core.specs.Legal.{Progress, after}
use Rattle.session_core.specs.Feeding.{drawn_by}
use Rattle.session_gate.specs.declared.served.ServedAs.{ServedAs}
use Rattle.session_gate.specs.declared.served.ServedAs.TheVariants as how

-- the entry changes neither what was served nor whether the session is dead, and records no draws
abbrev pub IsStill : Progress → Entry → Type 0
IsStill p e = ((after p e).served ≡ p.served) × ((after p e).dead ≡ p.dead) × (drawn_by e ≡ [])

-- the same, and the owner is as before
abbrev pub IsQuiet : Progress → Entry → Type 0
IsQuiet p e = ((after p e).served ≡ p.served) × ((after p e).dead ≡ p.dead) × ((after p e).owner ≡ p.owner) × (drawn_by e ≡ [])

-- the owner's answer to a request that is no move; it is Dead if the session was dead, and only then
abbrev pub IsServed : ServedAs → ℕ → Request → Bool → Entry → Type 0
IsServed served owner r dead (Opened host request channel) = ⊥
IsServed served owner r dead (Ran host request draws reply) = (served ≡ how.Ran) × (dead ≡ false) × (host ≡ owner) × (request ≡ r)
IsServed served owner r dead (Died host request count cause) = (served ≡ how.Died) × (dead ≡ false) × (host ≡ owner) × (request ≡ r)
IsServed served owner r dead (Dead host request count) = (served ≡ how.Dead) × (dead ≡ true) × (host ≡ owner) × (request ≡ r)
IsServed served owner r dead (Sealed host request to) = ⊥
IsServed served owner r dead (Moved to) = ⊥
IsServed served owner r dead (Adopted from to request certified objects) = ⊥
IsServed served owner r dead (Refused host request reason) = ⊥
IsServed served owner r dead (Resumed host request) = ⊥
