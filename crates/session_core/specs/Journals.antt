-- What a contract sees of a journal.
use Rattle.std.specs.Prelude.{ℕ, List}
use Rattle.session_core.specs.declared.entry.Entry.{Entry}

-- the entries, and for how many more there is room
pub record Recorded : Type 0 where
  pub entries : List Entry
  pub spare : ℕ
