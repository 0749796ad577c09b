-- What a door answers.
use Rattle.std.specs.Prelude.{◌≡◌, ℕ, Option}
use Rattle.nb_links.specs.declared.door.DoorEnd.{DoorEnd}
use Rattle.nb_links.specs.declared.door.DoorEnd.TheVariants.{Came, Failed}
use Rattle.nb_links.specs.Lines.{Line}
use Rattle.nb_links.specs.Doors.{Passed, Comes, ComesFresh, IsOut}

-- a link came, fresh if it tells, and isn't taken back yet; or none did
abbrev pub Answers : {L : Type 0} → (L → Option Line) → (L → ℕ) → Option (Passed L) → Option (Passed L) → DoorEnd L → Type 0
Answers line faults old new (Came link) = Comes old new × IsOut new × ComesFresh old (line link) (faults link)
Answers line faults old new Failed = new ≡ old
