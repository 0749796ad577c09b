-- What the command `restore` says of the bytes of a checkpoint, and its status.
use Rattle.std.specs.Prelude.{◌≡◌, ◌≢◌, ◌⊎◌, ℕ, cond, nat_le, codes, List, [], ◌++◌, length, Option, Some, None, Result, Ok, Err}
use Rattle.std.specs.List.{flat_map}
use Rattle.std.specs.Fmt.{decimal}
use Rattle.std.specs.FinMap as finite
use Rattle.py_value.specs.declared.value.Value.{Value}
use Rattle.py_heap.specs.declared.state.State.{State}
use Rattle.py_heap.specs.Valid.{meter_limit}
use Rattle.py_machine.specs.Errors.{error_name}
use Rattle.py_machine.specs.Runs.{Name, Stop, raised, draw_failed, asks, start}
use Rattle.py_meaning.specs.Acts.{run}
use Rattle.py_meaning.specs.Shown.{shown}
use Rattle.checkpoint_reader.specs.declared.fault.CheckpointFault.TheVariants as checkpoint
use Rattle.checkpoint_commands.specs.Lines.{new_line}
use Rattle.checkpoint_commands.specs.Said.{fault_line}
use Rattle.restore_run.specs.declared.restored.Restored.{Restored}
use Rattle.restore_run.specs.declared.fault.RestoreFault.{RestoreFault}
use Rattle.restore_run.specs.declared.fault.RestoreFault.TheVariants as fault
use Rattle.restore_run.specs.Restoring.{IsRestoredOn, IsRestoreFault}

-- ---- a state

-- the text, or MemoryError if it is too long; or the name of the error that showing it raises
abbrev pub text_in : Result (List ℕ) Stop → List ℕ
text_in (Ok text) = cond (nat_le (length text) meter_limit) text (codes "MemoryError")
text_in (Err (raised e)) = error_name e.kind
text_in (Err draw_failed) = codes "OSError"
text_in (Err asks) = []

-- what a value shows in a state, from no steps on, with the value itself at the first of 800 levels
unfoldable pub shown_text : State → Value → List ℕ
shown_text s held = text_in (run (shown 800 [] [] held) [] (start s)).0

abbrev pub line_with : State → Name → Option Value → List ℕ
line_with s name None = []
line_with s name (Some held) = name ++ codes " = " ++ shown_text s held ++ codes "\n"

-- the line of a name
abbrev pub line_of : State → Name → List ℕ
line_of s name = line_with s name (finite.get s.globals name)

abbrev pub last_line : State → List ℕ
last_line s = codes "count " ++ decimal s.count ++ codes " meter " ++ decimal s.meter ++ new_line

-- a line for each name with a value, ascending, and the line of the count and the meter
abbrev pub state_lines : State → List ℕ
state_lines s = flat_map (line_of s) (finite.keys s.globals) ++ last_line s

-- ---- a fault

abbrev pub draws_line : ℕ → List ℕ
draws_line c = codes "draws again in cell " ++ decimal c ++ new_line

abbrev pub unlike_line : ℕ → List ℕ
unlike_line v = codes "unlike in version " ++ decimal v ++ new_line

abbrev pub loose_line : Name → List ℕ
loose_line name = codes "loose name " ++ name ++ codes "\n"

abbrev pub restore_line : RestoreFault → List ℕ
restore_line fault.OutOfMemory = []
restore_line (fault.Checkpoint f) = fault_line f
restore_line (fault.DrewAgain c) = draws_line c
restore_line (fault.Unlike v) = unlike_line v
restore_line (fault.Loose name) = loose_line name

abbrev pub status_of : RestoreFault → ℕ
status_of fault.OutOfMemory = 5
status_of (fault.Checkpoint f) = 7
status_of (fault.DrewAgain c) = 8
status_of (fault.Unlike v) = 9
status_of (fault.Loose name) = 9

-- a fault of the bytes is named
abbrev pub IsTold : RestoreFault → Type 0
IsTold f = f ≢ fault.Checkpoint checkpoint.OutOfMemory

-- ---- the answer

-- 0 with the lines of the state that the bytes are restored to on host 0; or the line and status of the first fault
abbrev pub IsToldOf : List ℕ → ℕ → List ℕ → Type 0
IsToldOf bytes status text = ((r : Restored) × IsRestoredOn bytes 0 r × (status ≡ 0) × (text ≡ state_lines r.kernel.state))
    ⊎ ((f : RestoreFault) × IsRestoreFault bytes f × (status ≡ status_of f) × (text ≡ restore_line f))
