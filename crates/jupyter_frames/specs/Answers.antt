-- What the calls on a stream in pieces answer.
use Rattle.std.specs.Prelude.{◌≡◌, ◌≢◌, ◌+◌, [], ◌++◌, length, Result, Ok, Err}
use Rattle.jupyter_frames.specs.declared.framer.FrameFault.{FrameFault}
use Rattle.jupyter_frames.specs.declared.framer.FrameFault.TheVariants.{BadLength, Cut}
use Rattle.jupyter_frames.specs.declared.framer.Next.{Next}
use Rattle.jupyter_frames.specs.declared.framer.Next.TheVariants.{Frame, NotYet, Bad, OutOfMemory}
use Rattle.jupyter_frames.specs.Framing.{frame, IsBody, IsBegun, IsBad, place_after, Held}

-- The next whole frame is taken off the front. If none is there, the bytes begin one, or have a bad length, and nothing is
-- changed.
abbrev pub Gives : Held → Next → Held → Type 0
Gives old (Frame body) new = IsBody body × (old.bytes ≡ frame body ++ new.bytes) × (new.place ≡ place_after old.place (4 + length body))
Gives old NotYet new = IsBegun old.bytes × (new ≡ old)
Gives old (Bad (BadLength place n)) new = IsBad old.bytes n × (place ≡ old.place) × (new ≡ old)
Gives old (Bad (Cut place)) new = ⊥
Gives old OutOfMemory new = new ≡ old

-- bytes are held, and they begin a frame that isn't whole
abbrev pub HasBegun : Held → Type 0
HasBegun held = (held.bytes ≢ []) × IsBegun held.bytes

-- a stream ends within a frame exactly if bytes of a begun frame are held
abbrev pub IsCut : Held → Result (Unit {0}) FrameFault → Type 0
IsCut held (Ok u) = ¬ HasBegun held
IsCut held (Err (Cut place)) = HasBegun held × (place ≡ held.place)
IsCut held (Err (BadLength place n)) = ⊥
