-- The statuses of each command.
use Rattle.std.specs.Prelude.{◌≡◌, ◌⊎◌, ℕ}
use Rattle.command_words.specs.declared.words.Command.{Command}
use Rattle.command_words.specs.declared.words.Command.TheVariants.{Run, Plan, Save, Restore, Made, Serve}
use Rattle.node_run.specs.Streams.{IsStatus}
use Rattle.save_command.specs.Saved.{IsSaveStatus}
use Rattle.elastic_notebook.specs.Saying.{IsAnswered}

abbrev pub IsStatusOf : Command → ℕ → Type 0
IsStatusOf (Run hosts workers) status = IsStatus status
IsStatusOf (Save w) status = IsSaveStatus status
IsStatusOf (Plan w) status = IsAnswered status
IsStatusOf Restore status = IsAnswered status
IsStatusOf (Made cells) status = (status ≡ 0) ⊎ ((status ≡ 4) ⊎ (status ≡ 5))
IsStatusOf (Serve links) status = (status ≡ 0) ⊎ ((status ≡ 5) ⊎ (status ≡ 11))
