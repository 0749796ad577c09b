-- Frames that are taken in one after the other.
use Rattle.std.proofs.Common.{◌≡◌, ℕ, List, [], ◌∷◌, ◌++◌, refl}
use Rattle.jupyter_messages.specs.Reading.{message_in}
use Rattle.node_intake.specs.Intake.{Node, with_frames, with_message}

pub frame_more : (hosts : ℕ) (node : Node) (bodies : List (List ℕ)) (body : List ℕ) → with_frames hosts node (bodies ++ body ∷ []) ≡ with_message hosts (with_frames hosts node bodies) (message_in body)
frame_more hosts node [] body = refl
frame_more hosts node (first ∷ bodies) body = frame_more hosts (with_message hosts node (message_in first)) bodies body
