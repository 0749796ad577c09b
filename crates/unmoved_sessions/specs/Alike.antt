-- Journals of one session that are the same but for the certificates of their moves, and what a session has that isn't short of memory.
use Rattle.std.specs.Prelude.{◌≡◌, List}
use Rattle.std.specs.List.{AllByRecursion, AllZip}
use Rattle.graph_model.specs.declared.plan.Certified.{Certified}
use Rattle.session_core.specs.declared.entry.DiedCause.{DiedCause}
use Rattle.session_core.specs.declared.entry.DiedCause.TheVariants.{OutOfMemory, TooMany}
use Rattle.session_core.specs.declared.entry.Entry.{Entry}
use Rattle.session_core.specs.declared.entry.Entry.TheVariants.{Opened, Ran, Died, Dead, Sealed, Moved, Adopted, Refused, Resumed}

-- ---- memory

abbrev pub IsNoWant : DiedCause → Type 0
IsNoWant OutOfMemory = ⊥
IsNoWant (TooMany which draws) = Unit {0}

-- anything but a death or a stay for want of memory
abbrev pub HadMemory : Entry → Type 0
HadMemory (Opened host request channel) = Unit {0}
HadMemory (Ran host request draws reply) = Unit {0}
HadMemory (Died host request count cause) = IsNoWant cause
HadMemory (Dead host request count) = Unit {0}
HadMemory (Sealed host request to) = Unit {0}
HadMemory (Moved to) = Unit {0}
HadMemory (Adopted from to request certified objects) = Unit {0}
HadMemory (Refused host request reason) = Unit {0}
HadMemory (Resumed host request) = ⊥

-- memory ran out at none of the entries
abbrev pub HadMemoryThroughout : List Entry → Type 0
HadMemoryThroughout es = AllByRecursion HadMemory es

-- ---- journals

-- the other entry is the same, but that a move may have been made by another certificate
abbrev pub IsAlike : Entry → Entry → Type 0
IsAlike (Opened host request channel) other = other ≡ Opened host request channel
IsAlike (Ran host request draws reply) other = other ≡ Ran host request draws reply
IsAlike (Died host request count cause) other = other ≡ Died host request count cause
IsAlike (Dead host request count) other = other ≡ Dead host request count
IsAlike (Sealed host request to) other = other ≡ Sealed host request to
IsAlike (Moved to) other = other ≡ Moved to
IsAlike (Adopted from to request certified objects) other = (by : Certified) × (other ≡ Adopted from to request by objects)
IsAlike (Refused host request reason) other = other ≡ Refused host request reason
IsAlike (Resumed host request) other = other ≡ Resumed host request

-- entry by entry
abbrev pub AreAlike : List Entry → List Entry → Type 0
AreAlike es fs = AllZip IsAlike es fs
