-- What is taken in of a stream of bytes.
use Rattle.std.specs.Prelude.{◌≡◌, ◌≢◌, ℕ, ◌+◌, ◌⊎◌, Bool, true, false, List, [], length, Option, Some, None}
use Rattle.std.specs.List.{flat_map, AllByRecursion}
use Rattle.nb_outside.specs.Streams.{IsAtEnd}
use Rattle.jupyter_frames.specs.Framing.{frame, IsBody, IsBegun, IsBad, IsRest, stream, place_after, Held}
use Rattle.node_intake.specs.Intake.{Node, no_sessions, with_frames}
use Rattle.node_intake.specs.declared.session.IntakeEnd.{IntakeEnd}
use Rattle.node_intake.specs.declared.session.IntakeEnd.TheVariants.{End, Failed, TooMany}

-- Of these bytes this node was taken in: all whole frames up to the first place where no whole frame begins, and that place.
pub record HasTaken (hosts : ℕ) (bytes : List ℕ) (IsNode : Node → Type 0) (broken_at : Option ℕ) : Type 0 where
  pub bodies : List (List ℕ)
  pub rest : List ℕ
  pub are_bodies : AllByRecursion IsBody bodies
  pub is_rest : IsRest rest
  pub is_stream : bytes ≡ stream bodies rest
  pub node : IsNode (with_frames hosts no_sessions bodies)
  pub broken : ((rest ≡ []) × (broken_at ≡ None)) ⊎ ((rest ≢ []) × (broken_at ≡ Some (place_after 0 (length (flat_map frame bodies)))))

-- How taking in ended, with this left in the source, and this not taken in of what came: at the end of the input or at a bad
-- length, or before either.
abbrev pub EndsSo : IntakeEnd → Option (List ℕ) → List ℕ → Type 0
EndsSo End left rest = (IsAtEnd left × IsBegun rest) ⊎ ((n : ℕ) × IsBad rest n)
EndsSo Failed left rest = IsBegun rest
EndsSo TooMany left rest = IsBegun rest

-- ---- on the way

-- of these bytes the whole frames were taken in, as this node, and the others are held
pub record TookSoFar (hosts : ℕ) (bytes : List ℕ) (held : Held) (IsNode : Node → Type 0) : Type 0 where
  pub bodies : List (List ℕ)
  pub are_bodies : AllByRecursion IsBody bodies
  pub is_stream : bytes ≡ stream bodies held.bytes
  pub place : held.place ≡ place_after 0 (length (flat_map frame bodies))
  pub is_node : IsNode (with_frames hosts no_sessions bodies)

-- of these bytes the first whole frames were taken in, as this node
pub record TookFront (hosts : ℕ) (bytes : List ℕ) (IsNode : Node → Type 0) : Type 0 where
  pub bodies : List (List ℕ)
  pub rest : List ℕ
  pub are_bodies : AllByRecursion IsBody bodies
  pub is_stream : bytes ≡ stream bodies rest
  pub is_node : IsNode (with_frames hosts no_sessions bodies)

-- no whole frame is held, and a bad length only if no more may come
abbrev pub Stands : Bool → List ℕ → Type 0
Stands true rest = IsBegun rest
Stands false rest = (n : ℕ) × IsBad rest n

-- it ended so, or more may come
abbrev pub EndsOrGoesOn : Option IntakeEnd → Option (List ℕ) → List ℕ → Type 0
EndsOrGoesOn None left rest = IsBegun rest
EndsOrGoesOn (Some end) left rest = EndsSo end left rest

-- where the bytes that are held begin, if there are any
abbrev pub IsPlaceOf : Held → Option ℕ → Type 0
IsPlaceOf held None = held.bytes ≡ []
IsPlaceOf held (Some place) = (held.bytes ≢ []) × (place ≡ held.place)

-- The frames with these bodies were cut off at the front. A place is counted from the stream's first byte.
pub record IsCutOff (old : Held) (bodies : List (List ℕ)) (new : Held) : Type 0 where
  pub are_bodies : AllByRecursion IsBody bodies
  pub parts : old.bytes ≡ stream bodies new.bytes
  pub place : (before : ℕ) → old.place ≡ place_after 0 before → new.place ≡ place_after 0 (before + length (flat_map frame bodies))
