-- What a session drew from its feed.
use Rattle.std.specs.Prelude.{◌≡◌, ℕ, false, List, [], ◌++◌, replicate, Option, Some, None}
use Rattle.std.specs.List.{flat_map, AllByRecursion}
use Rattle.nb_outside.specs.declared.feed.Drawn.{Drawn}
use Rattle.nb_outside.specs.declared.feed.Drawn.TheVariants.{Failed}
use Rattle.nb_outside.specs.Feeds.{Seen, HasAll, Fed}
use Rattle.session_core.specs.declared.entry.DiedCause.TheVariants.{OutOfMemory, TooMany}
use Rattle.session_core.specs.declared.entry.Entry.{Entry}
use Rattle.session_core.specs.declared.entry.Entry.TheVariants.{Opened, Ran, Died, Dead, Sealed, Moved, Adopted, Refused, Resumed}
use Rattle.session_core.specs.Legal.{progress_of}

-- what an entry says was drawn
abbrev pub drawn_by : Entry → List Drawn
drawn_by (Opened host request channel) = []
drawn_by (Ran host request draws reply) = draws
drawn_by (Died host request count OutOfMemory) = []
drawn_by (Died host request count (TooMany which draws)) = draws
drawn_by (Dead host request count) = []
drawn_by (Sealed host request to) = []
drawn_by (Moved to) = []
drawn_by (Adopted from to request certified objects) = []
drawn_by (Refused host request reason) = []
drawn_by (Resumed host request) = []

-- what the entries say was drawn, in order
abbrev pub drawn_in : List Entry → List Drawn
drawn_in entries = flat_map drawn_by entries

-- the entry says all that was drawn for it: each does but a death for want of memory
abbrev pub TellsDraws : Entry → Type 0
TellsDraws (Opened host request channel) = Unit {0}
TellsDraws (Ran host request draws reply) = Unit {0}
TellsDraws (Died host request count OutOfMemory) = ⊥
TellsDraws (Died host request count (TooMany which draws)) = Unit {0}
TellsDraws (Dead host request count) = Unit {0}
TellsDraws (Sealed host request to) = Unit {0}
TellsDraws (Moved to) = Unit {0}
TellsDraws (Adopted from to request certified objects) = Unit {0}
TellsDraws (Refused host request reason) = Unit {0}
TellsDraws (Resumed host request) = Unit {0}

-- what was taken from a feed for an entry: what the entry says, if it tells
abbrev pub Drew : Entry → Seen → Seen → Type 0
Drew entry old new = (draws : List Drawn) × Fed old draws new × (TellsDraws entry → draws ≡ drawn_by entry)

-- these draws are the first of a feed's answers, if it tells them; a feed whose answers are all given fails
abbrev pub AreFirstAnswers : Option (List Drawn) → List Drawn → Type 0
AreFirstAnswers None draws = Unit {0}
AreFirstAnswers (Some answers) draws = (more : List Drawn) × (n : ℕ) × (answers ++ replicate n Failed ≡ draws ++ more)

-- From a feed that was made with these answers just this was taken: what the entries say was drawn, and then, if the session died
-- for want of memory, what was drawn for the ask of which it died. No entry says that, so it is lost.
pub record HasFed (answers : Option (List Drawn)) (entries : List Entry) (seen : Seen) : Type 0 where
  pub start : Seen
  pub made : start.made ≡ answers
  pub all : HasAll start
  pub lost : List Drawn
  pub fed : Fed start (drawn_in entries ++ lost) seen
  -- nothing is lost while the session is alive, nor if no entry is a death for want of memory
  pub none_lost : (progress_of entries).dead ≡ false → lost ≡ []
  pub all_told : AllByRecursion TellsDraws entries → lost ≡ []
