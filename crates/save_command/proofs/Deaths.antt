-- Deaths for want of memory among entries, one after the other.
use Rattle.std.proofs.Common.{ℕ, ◌<◌, List, get_or}
use Rattle.session_core.specs.declared.entry.Entry.{Entry}
use Rattle.save_command.specs.Saving.{IsDeathOfMemory}

-- none of the entries before this index is one
abbrev pub NoneBefore : List Entry → ℕ → Type 0
NoneBefore es n = (k : ℕ) → k < n → (d : Entry) → ¬ IsDeathOfMemory (get_or es k d)
