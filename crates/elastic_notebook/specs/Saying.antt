-- What is said of a checkpoint that the source gives, and what each status tells.
use Rattle.std.specs.Prelude.{◌≡◌, ℕ, Bool, ◌||◌, ◌==◌, IsTrue, List, [], ◌++◌, Option, Some, None}
use Rattle.nb_outside.specs.Streams.{Adds}
use Rattle.plan_model.specs.Weighing.{AreSmall}
use Rattle.checkpoint_commands.specs.Said.{IsSaid}
use Rattle.checkpoint_commands.specs.Told.{IsToldOf}
use Rattle.elastic_notebook.specs.declared.say.Question.{Question}
use Rattle.elastic_notebook.specs.declared.say.Question.TheVariants.{Plan, Restore}
use Rattle.node_run.specs.Frames.{AddsFront}

-- the weights are within their range
abbrev pub IsAsked : Question → Type 0
IsAsked (Plan w) = AreSmall w
IsAsked Restore = Unit {0}

-- this text is said of these bytes, with this status
abbrev pub Says : Question → List ℕ → ℕ → List ℕ → Type 0
Says (Plan w) bytes status text = IsSaid bytes w status text
Says Restore bytes status text = IsToldOf bytes status text

-- the status is one that is said: the input was read to its end, and all was written
abbrev pub is_said : ℕ → Bool
is_said status = (status == 0) || ((status == 6) || ((status == 7) || ((status == 8) || (status == 9))))

-- nothing was written
abbrev pub is_silent : ℕ → Bool
is_silent status = (status == 3) || ((status == 5) || (status == 10))

-- the statuses of a command that reads a checkpoint
abbrev pub IsAnswered : ℕ → Type 0
IsAnswered status = IsTrue (is_said status || ((status == 4) || is_silent status))

-- what a command did that took these bytes of a source and left the rest in it
pub record SaysOf (q : Question) (status : ℕ) (taken left : List ℕ) (sink_old sink_new : Option (List ℕ)) : Type 0 where
  pub whole : IsTrue (is_said status) → (left ≡ []) × (text : List ℕ) × Says q taken status text × Adds sink_old sink_new text
  -- at 4 the first bytes of what was to be written
  pub cut : status ≡ 4 → (left ≡ []) × (said : ℕ) × (text : List ℕ) × Says q taken said text × AddsFront sink_old sink_new text
  pub silent : IsTrue (is_silent status) → Adds sink_old sink_new []

-- over a source that tells what it had and has left
abbrev pub SaysTold : Question → ℕ → Option (List ℕ) → Option (List ℕ) → Option (List ℕ) → Option (List ℕ) → Type 0
SaysTold q status None source_new sink_old sink_new = source_new ≡ None
SaysTold q status (Some had) source_new sink_old sink_new =
    (taken : List ℕ) × (left : List ℕ) × (had ≡ taken ++ left) × (source_new ≡ Some left) × SaysOf q status taken left sink_old sink_new
