-- What a read of a stream came to.
use Rattle.std.specs.Prelude.{ℕ, ◌≤◌}
use Rattle.nb_links.specs.declared.tcp.Arrived.{Arrived}
use Rattle.nb_links.specs.declared.tcp.Arrived.TheVariants.{Bytes, NotYet, Failed}

-- no more bytes came than there was room for
abbrev pub IsWithin : Arrived → ℕ → Type 0
IsWithin (Bytes n) room = n ≤ room
IsWithin NotYet room = Unit {0}
IsWithin Failed room = Unit {0}
