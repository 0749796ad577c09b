-- What links and doors over memory tell.
use Rattle.std.specs.Prelude.{◌≡◌, ℕ, List, [], Option, Some, take, drop}
use Rattle.nb_links.specs.declared.mem_link.MemLink.{MemLink}
use Rattle.nb_links.specs.declared.mem_door.MemDoor.{MemDoor}
use Rattle.nb_links.specs.Lines.{Line}
use Rattle.nb_links.specs.Doors.{Passed}

abbrev pub line_of : MemLink → Line
line_of link = record { gave = take link.at link.bytes.items; left = drop link.at link.bytes.items; sent = link.sent.items }

abbrev pub told : MemLink → Option Line
told link = Some (line_of link)

-- nothing was given or sent yet, and no fault was met
abbrev pub IsNewLink : List ℕ → MemLink → Type 0
IsNewLink bytes link = (line_of link ≡ record { gave = []; left = bytes; sent = [] }) × (link.faults ≡ 0)

-- ---- doors

abbrev pub back_at : MemDoor → List MemLink
back_at door = door.back.items

abbrev pub passed : MemDoor → Option (Passed MemLink)
passed door = Some (record { came = door.came; back = back_at door })

-- no link came yet, and no fault was met
abbrev pub IsNewDoor : MemDoor → Type 0
IsNewDoor door = (door.came ≡ 0) × (back_at door ≡ []) × (door.faults ≡ 0)
