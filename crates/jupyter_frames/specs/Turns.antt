-- A stream that comes in pieces, while frames are asked for in between.
use Rattle.std.specs.Prelude.{◌≡◌, ℕ, List, [], ◌∷◌, ◌++◌}
use Rattle.jupyter_frames.specs.declared.framer.Next.{Next}
use Rattle.jupyter_frames.specs.declared.framer.Next.TheVariants.{Frame, NotYet, Bad, OutOfMemory}
use Rattle.jupyter_frames.specs.Framing.{Held}
use Rattle.jupyter_frames.specs.Answers.{Gives}

-- a piece comes, or the next frame is asked for
pub data Turn : Type 0 where
  comes : List ℕ → Turn
  asks : Next → Turn

-- nothing has come
abbrev pub nothing_held : Held
nothing_held = record { place = 0; bytes = [] }

abbrev pub Does : Held → Turn → Held → Type 0
Does old (comes piece) new = new ≡ record old { bytes = old.bytes ++ piece }
Does old (asks next) new = Gives old next new

-- these turns, one after the other
abbrev pub DoAll : Held → List Turn → Held → Type 0
DoAll old [] new = new ≡ old
DoAll old (turn ∷ turns) new = (held : Held) × Does old turn held × DoAll held turns new

-- all that came
abbrev pub came : List Turn → List ℕ
came [] = []
came (comes piece ∷ turns) = piece ++ came turns
came (asks next ∷ turns) = came turns

-- the bodies that were given
abbrev pub given_by : Next → List (List ℕ)
given_by (Frame body) = body ∷ []
given_by NotYet = []
given_by (Bad fault) = []
given_by OutOfMemory = []

abbrev pub given : List Turn → List (List ℕ)
given [] = []
given (comes piece ∷ turns) = given turns
given (asks next ∷ turns) = given_by next ++ given turns

-- the answer says that no whole frame is left
abbrev pub SaysNone : Next → Type 0
SaysNone (Frame body) = ⊥
SaysNone NotYet = Unit {0}
SaysNone (Bad fault) = Unit {0}
SaysNone OutOfMemory = ⊥
