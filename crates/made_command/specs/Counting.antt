-- What is counted of the journals of a stream, and what the command writes.
use Rattle.std.specs.Prelude.{◌≡◌, ◌⊎◌, ℕ, ◌+◌, ◌-◌, ◌^◌, min, List, [], ◌∷◌, ◌++◌, codes, length, Option, Some, None}
use Rattle.std.specs.Fmt.{decimal}
use Rattle.std.specs.List.{AllByRecursion}
use Rattle.nb_outside.specs.Streams.{Adds}
use Rattle.session_core.specs.declared.entry.Entry.{Entry}
use Rattle.session_core.specs.declared.entry.Entry.TheVariants.{Opened, Ran, Died, Dead, Sealed, Moved, Adopted, Refused, Resumed}
use Rattle.session_core.specs.declared.reply.Failure.{Failure}
use Rattle.session_core.specs.declared.reply.Reply.{Reply}
use Rattle.session_core.specs.declared.reply.Reply.TheVariants.{Executed, Info, Complete, Shut}
use Rattle.node_intake.specs.Intake.{Node}
use Rattle.notebook_meaning.specs.Notebooks.{notebooks}
use Rattle.node_run.specs.declared.end.RunEnd.TheVariants.{Whole}
use Rattle.node_run.specs.Frames.{AddsFront}
use Rattle.node_run.specs.Journals.{Answers, AreJournals}
use Rattle.node_run.specs.Streams.{IsNodeOf}
use Rattle.unmoved_sessions.specs.Alike.{HadMemoryThroughout}
use Rattle.made_command.specs.declared.counts.Counts.{Counts}
use Rattle.made_command.specs.Made.{stream}

-- ---- what is counted

abbrev pub nothing : Counts
nothing = record { cells = 0; errors = 0; moves = 0; printed = 0 }

abbrev pub both : Counts → Counts → Counts
both a b = record { cells = a.cells + b.cells; errors = a.errors + b.errors; moves = a.moves + b.moves; printed = a.printed + b.printed }

abbrev pub error_count : Option Failure → ℕ
error_count None = 0
error_count (Some failure) = 1

-- a cell, its error if it has one, and the bytes that it printed
abbrev pub counts_of_reply : Reply → Counts
counts_of_reply (Executed count silent printed shown error) = record { cells = 1; errors = error_count error; moves = 0; printed = length printed }
counts_of_reply Info = nothing
counts_of_reply (Complete completion) = nothing
counts_of_reply (Shut restart) = nothing

abbrev pub counts_of_entry : Entry → Counts
counts_of_entry (Opened host request channel) = nothing
counts_of_entry (Ran host request draws reply) = counts_of_reply reply
counts_of_entry (Died host request count cause) = nothing
counts_of_entry (Dead host request count) = nothing
counts_of_entry (Sealed host request to) = nothing
counts_of_entry (Moved to) = nothing
counts_of_entry (Adopted from to request certified objects) = record nothing { moves = 1 }
counts_of_entry (Refused host request reason) = nothing
counts_of_entry (Resumed host request) = nothing

abbrev pub counts_of_journal : List Entry → Counts
counts_of_journal [] = nothing
counts_of_journal (e ∷ es) = both (counts_of_entry e) (counts_of_journal es)

abbrev pub counts_of : List (List Entry) → Counts
counts_of [] = nothing
counts_of (es ∷ journals) = both (counts_of_journal es) (counts_of journals)

-- ---- how it is shown

-- a number from 2 ^ 64 on is shown as the one before that
abbrev pub cap : ℕ → ℕ
cap n = min n (2 ^ 64 - 1)

abbrev pub capped : Counts → Counts
capped c = record { cells = cap c.cells; errors = cap c.errors; moves = cap c.moves; printed = cap c.printed }

unfoldable pub line : Counts → List ℕ
line c = codes "cells " ++ (decimal c.cells ++ (codes " errors " ++ (decimal c.errors ++ (codes " moves " ++ (decimal c.moves ++ (codes " printed " ++ (decimal c.printed ++ codes "\n")))))))

-- ---- the command

-- no feed gives anything
abbrev pub no_draws : Answers
no_draws kernel = Some []

-- the line that tells the counts of the journals of the sessions of three hosts that took in the stream with this many cells
pub record IsCount (cells : ℕ) (text : List ℕ) : Type 0 where
  pub node : Node
  pub journals : List (List Entry)
  pub is_node : IsNodeOf 3 Whole (stream cells) (Some []) node
  pub are_journals : AreJournals notebooks 3 no_draws node.sessions journals
  pub text_is : text ≡ line (capped (counts_of journals))

-- memory ran out in none of the sessions
abbrev pub HadMemoryInAll : List (List Entry) → Type 0
HadMemoryInAll journals = AllByRecursion HadMemoryThroughout journals

-- At status 0 such a line was written, at 4 its first bytes, and at 5 nothing.
abbrev pub MadeTold : ℕ → ℕ → Option (List ℕ) → Option (List ℕ) → Type 0
MadeTold cells status sink_old sink_new =
    ((status ≡ 0) × (text : List ℕ) × IsCount cells text × Adds sink_old sink_new text)
    ⊎ (((status ≡ 4) × (text : List ℕ) × IsCount cells text × AddsFront sink_old sink_new text)
    ⊎ ((status ≡ 5) × Adds sink_old sink_new []))
