-- A session on one thread, between two requests.
use Rattle.std.specs.Prelude.{◌≡◌, ℕ, Bool, true, false, List}
use Rattle.session_core.specs.declared.entry.Entry.{Entry}
use Rattle.session_core.specs.Meanings.{Served, Meaning}
use Rattle.session_core.specs.Legal.{settled, progress_of, IsLegal}

-- what a contract sees of it: its journal, for how many more entries there is room, and the number of hosts
pub record Seen : Type 0 where
  pub entries : List Entry
  pub spare : ℕ
  pub hosts : ℕ

-- What it keeps: the journal is legal and settled; while the session is alive its engine stands for what was served, on the
-- owner; once it is dead its count is that of what was served.
pub record IsAlone (meaning : Meaning) (Stands : List Served → Type 0) (host hosts : ℕ) (is_dead : Bool) (count : ℕ) (entries : List Entry) : Type 0 where
  pub legal : IsLegal meaning hosts entries
  pub phase : (progress_of entries).phase ≡ settled
  pub dead : is_dead ≡ (progress_of entries).dead
  pub alive : is_dead ≡ false → Stands (progress_of entries).served × (host ≡ (progress_of entries).owner)
  pub counts : is_dead ≡ true → count ≡ meaning.count (progress_of entries).served
