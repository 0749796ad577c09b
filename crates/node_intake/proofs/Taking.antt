-- Frames that are taken in as they come.
use Rattle.std.proofs.Common.{◌≡◌, ◌≢◌, ℕ, ◌+◌, ◌<◌, List, [], ◌∷◌, ◌++◌, length, take, drop, Option, Some, None, Result, Ok, Err, OnErr, refl, sym, ap, ◌∙◌, subst, append_assoc, ◌⊎◌, inl, inr, arith}
use Rattle.std.specs.Prelude.{map}
use Rattle.std.specs.List.{flat_map, AllByRecursion}
use Rattle.std.specs.Int.{w32, to_be_bytes}
use Rattle.std.proofs.lemmas.List.{append-nil, length-append, take-append-drop, take-map, take_at}
use Rattle.std.proofs.lemmas.Grind.{flat_map-append}
use Rattle.nb_outside.specs.Counts.{HasRisenBy}
use Rattle.nb_outside.specs.Streams.{Takes}
use Rattle.jupyter_messages.specs.declared.message.Message.{Message}
use Rattle.jupyter_messages.specs.declared.fault.MessageFault.{MessageFault}
use Rattle.jupyter_messages.specs.Reading.{message_in}
use Rattle.jupyter_frames.specs.Framing.{frame, IsBody, IsRest, place_after, Held}
use Rattle.jupyter_frames.specs.Turns.{nothing_held}
use Rattle.node_intake.specs.Intake.{Node, no_sessions, with_frames, with_message, with_messages}
use Rattle.node_intake.specs.declared.session.IntakeEnd.{IntakeEnd}
use Rattle.node_intake.specs.declared.session.IntakeEnd.TheVariants.{End, Failed, TooMany}
use Rattle.node_intake.specs.Taking.{HasTaken, EndsSo, TookSoFar, TookFront, IsPlaceOf, IsCutOff}

-- ---- frames

pub none_left : {X : Type 0} (xs : List X) → length xs ≡ 0 → xs ≡ []
none_left [] is = refl
none_left (x ∷ xs) is = absurd (omega (arith, is))

-- to take in these frames after those is to take in what is read of them
frames_read : (hosts : ℕ) (node : Node) (bodies : List (List ℕ)) → with_frames hosts node bodies ≡ with_messages hosts node (map message_in bodies)
frames_read hosts node [] = refl
frames_read hosts node (body ∷ bodies) = frames_read hosts (with_message hosts node (message_in body)) bodies

frames_both : (hosts : ℕ) (node : Node) (before bodies : List (List ℕ)) → with_frames hosts node (before ++ bodies) ≡ with_messages hosts (with_frames hosts node before) (map message_in bodies)
frames_both hosts node [] bodies = frames_read hosts node bodies
frames_both hosts node (first ∷ before) bodies = frames_both hosts (with_message hosts node (message_in first)) before bodies

bodies_both : (before bodies : List (List ℕ)) → AllByRecursion IsBody before → AllByRecursion IsBody bodies → AllByRecursion IsBody (before ++ bodies)
bodies_both [] bodies all are = are
bodies_both (first ∷ before) bodies all are = (all.0, bodies_both before bodies all.1 are)

frames_more : (bodies : List (List ℕ)) (body : List ℕ) → flat_map frame (bodies ++ body ∷ []) ≡ flat_map frame bodies ++ frame body
frames_more bodies body = flat_map-append frame bodies (body ∷ []) ∙ ap (λ z. flat_map frame bodies ++ z) (append-nil (frame body))

frame_length : (body : List ℕ) → length (frame body) ≡ 4 + length body
frame_length body = let l = length-append (to_be_bytes w32 (length body)) body in omega (arith, l)

-- no frame is cut off
pub none_cut : (held : Held) (bodies : List (List ℕ)) → bodies ≡ [] → IsCutOff held bodies held
none_cut held bodies none = subst (λ (bs : List (List ℕ)). IsCutOff held bs held) (sym none) (record {
  are_bodies = tt;
  parts = refl;
  place = λ before is. is ∙ ap (place_after 0) (omega arith);
})

-- one more is
pub one_cut : (old held new : Held) (bodies now : List (List ℕ)) (body : List ℕ) → now ≡ bodies ++ body ∷ [] → IsBody body → held.bytes ≡ frame body ++ new.bytes → new.place ≡ place_after held.place (4 + length body)
    → IsCutOff old bodies held → IsCutOff old now new
one_cut old held new bodies now body more is parts place cut = subst (λ (bs : List (List ℕ)). IsCutOff old bs new) (sym more) (record {
  are_bodies = bodies_both bodies (body ∷ []) cut.are_bodies (is, tt);
  parts = cut.parts ∙ ap (λ z. flat_map frame bodies ++ z) parts ∙ sym (append_assoc (flat_map frame bodies) (frame body) new.bytes) ∙ ap (λ z. z ++ new.bytes) (sym (frames_more bodies body));
  place = λ before here.
      let l = ap length (frames_more bodies body) ∙ length-append (flat_map frame bodies) (frame body) in
      let mid = cut.place before here in
      omega (arith, mid, place, l, frame_length body);
})

pub from_nothing : (hosts : ℕ) (held : Held) (IsNode : Node → Type 0) → held ≡ nothing_held → IsNode no_sessions → TookSoFar hosts [] held IsNode
from_nothing hosts held IsNode none is = subst (λ (h : Held). TookSoFar hosts [] h IsNode) (sym none) (record { bodies = []; are_bodies = tt; is_stream = refl; place = refl; is_node = is })

-- frames that were cut off are taken in
pub many_more : (hosts : ℕ) (bytes : List ℕ) (bodies : List (List ℕ)) (held new : Held) (IsNode IsThen : Node → Type 0) → IsCutOff held bodies new
    → ((node : Node) → IsNode node → IsThen (with_messages hosts node (map message_in bodies))) → TookSoFar hosts bytes held IsNode → TookSoFar hosts bytes new IsThen
many_more hosts bytes bodies held new IsNode IsThen cut takes t = record {
  bodies = t.bodies ++ bodies;
  are_bodies = bodies_both t.bodies bodies t.are_bodies cut.are_bodies;
  is_stream = t.is_stream ∙ ap (λ z. flat_map frame t.bodies ++ z) cut.parts ∙ sym (append_assoc (flat_map frame t.bodies) (flat_map frame bodies) new.bytes)
      ∙ ap (λ z. z ++ new.bytes) (sym (flat_map-append frame t.bodies bodies));
  place = cut.place (length (flat_map frame t.bodies)) t.place
      ∙ ap (place_after 0) (sym (ap length (flat_map-append frame t.bodies bodies) ∙ length-append (flat_map frame t.bodies) (flat_map frame bodies)));
  is_node = subst IsThen (sym (frames_both hosts no_sessions t.bodies bodies)) (takes (with_frames hosts no_sessions t.bodies) t.is_node);
}

-- what holds anyhow holds of an error
pub on_err : {A E : Type 0} {P : Type 0} (r : Result A E) → P → OnErr r P
on_err (Ok a) h = tt
on_err (Err e) h = h

-- none of them is
pub front_taken : (hosts : ℕ) (bytes : List ℕ) (held : Held) (IsNode IsThen : Node → Type 0) → ((node : Node) → IsNode node → IsThen node) → TookSoFar hosts bytes held IsNode → TookFront hosts bytes IsThen
front_taken hosts bytes held IsNode IsThen still t =
    record { bodies = t.bodies; rest = held.bytes; are_bodies = t.are_bodies; is_stream = t.is_stream; is_node = still _ t.is_node }

-- of what is read of some bodies the front is what is read of the front of them
read_front : (bodies : List (List ℕ)) (front later : List (Result Message MessageFault)) → map message_in bodies ≡ front ++ later
    → (first : List (List ℕ)) × (rest : List (List ℕ)) × (bodies ≡ first ++ rest) × (map message_in first ≡ front)
read_front bodies front later is = (
  take (length front) bodies,
  drop (length front) bodies,
  sym (take-append-drop (length front) bodies),
  sym (take-map message_in (length front) bodies) ∙ ap (take (length front)) is ∙ take_at front later (length front) refl,
)

bodies_front : (first rest : List (List ℕ)) → AllByRecursion IsBody (first ++ rest) → AllByRecursion IsBody first
bodies_front [] rest are = tt
bodies_front (body ∷ first) rest are = (are.0, bodies_front first rest are.1)

-- of frames that were cut off some are taken in, the first
pub some_more : (hosts : ℕ) (bytes : List ℕ) (bodies : List (List ℕ)) (front later : List (Result Message MessageFault)) (held new : Held) (IsNode IsThen : Node → Type 0) → IsCutOff held bodies new
    → map message_in bodies ≡ front ++ later → ((node : Node) → IsNode node → IsThen (with_messages hosts node front)) → TookSoFar hosts bytes held IsNode → TookFront hosts bytes IsThen
some_more hosts bytes bodies front later held new IsNode IsThen cut is takes t =
    let f = read_front bodies front later is in
    let frames = ap (flat_map frame) f.2 ∙ flat_map-append frame f.0 f.1 in record {
      bodies = t.bodies ++ f.0;
      rest = flat_map frame f.1 ++ new.bytes;
      are_bodies = bodies_both t.bodies f.0 t.are_bodies (bodies_front f.0 f.1 (subst (AllByRecursion IsBody) f.2 cut.are_bodies));
      is_stream = t.is_stream
          ∙ ap (λ z. flat_map frame t.bodies ++ z) (cut.parts ∙ ap (λ z. z ++ new.bytes) frames ∙ append_assoc (flat_map frame f.0) (flat_map frame f.1) new.bytes)
          ∙ sym (append_assoc (flat_map frame t.bodies) (flat_map frame f.0) (flat_map frame f.1 ++ new.bytes))
          ∙ ap (λ z. z ++ (flat_map frame f.1 ++ new.bytes)) (sym (flat_map-append frame t.bodies f.0));
      is_node = subst IsThen (sym (frames_both hosts no_sessions t.bodies f.0 ∙ ap (with_messages hosts (with_frames hosts no_sessions t.bodies)) f.3)) (takes (with_frames hosts no_sessions t.bodies) t.is_node);
    }

-- one message more is taken in
pub messages_more : (hosts : ℕ) (node : Node) (done : List (Result Message MessageFault)) (read : Result Message MessageFault)
    → with_messages hosts node (done ++ read ∷ []) ≡ with_message hosts (with_messages hosts node done) read
messages_more hosts node [] read = refl
messages_more hosts node (first ∷ done) read = messages_more hosts (with_message hosts node first) done read

-- a piece comes
pub piece_more : (hosts : ℕ) (bytes piece : List ℕ) (held new : Held) (IsNode : Node → Type 0) → new ≡ record held { bytes = held.bytes ++ piece } → TookSoFar hosts bytes held IsNode → TookSoFar hosts (bytes ++ piece) new IsNode
piece_more hosts bytes piece held new IsNode is t = subst (λ (h : Held). TookSoFar hosts (bytes ++ piece) h IsNode) (sym is) (record {
  bodies = t.bodies;
  are_bodies = t.are_bodies;
  is_stream = ap (λ z. z ++ piece) t.is_stream ∙ append_assoc (flat_map frame t.bodies) held.bytes piece;
  place = t.place;
  is_node = t.is_node;
})

-- a frame takes bytes off
pub fewer : (held new : Held) (body : List ℕ) → held.bytes ≡ frame body ++ new.bytes → length new.bytes < length held.bytes
fewer held new body parts = let l = ap length parts ∙ length-append (frame body) new.bytes in omega (arith, l, frame_length body)

-- ---- pieces

pub Takes-none : (old : Option (List ℕ)) → Takes old old []
Takes-none None = refl
Takes-none (Some bytes) = (bytes, refl, refl)

pub Takes-both : (old mid new : Option (List ℕ)) (a b : List ℕ) → Takes old mid a → Takes mid new b → Takes old new (a ++ b)
Takes-both None mid new a b p q = subst (λ m. Takes m new b) p q
Takes-both (Some bytes) mid new a b (rest, parts, is) q =
    let step = subst (λ m. Takes m new b) is q in
    (step.0, parts ∙ ap (λ ys. a ++ ys) step.1 ∙ sym (append_assoc a b step.0), step.2)

pub risen_by_one_more : (n a b c : ℕ) → HasRisenBy n a b → HasRisenBy 1 b c → HasRisenBy (n + 1) a c
risen_by_one_more n a b c (inl h) (inl k) = inl (omega arith)
risen_by_one_more n a b c (inr h) (inl k) = inr (omega arith)
risen_by_one_more n a b c (inl h) (inr k) = inr k
risen_by_one_more n a b c (inr h) (inr k) = inr k

-- of what comes in these pieces all is taken in that was, and the new frames
pub record GoesOn (hosts : ℕ) (old new : Option (List ℕ)) (held then : Held) (IsNode IsThen : Node → Type 0) : Type 0 where
  pub bytes : List ℕ
  pub takes : Takes old new bytes
  pub took : (before : List ℕ) → TookSoFar hosts before held IsNode → TookSoFar hosts (before ++ bytes) then IsThen

pub stays : (hosts : ℕ) (left : Option (List ℕ)) (held : Held) (IsNode : Node → Type 0) → GoesOn hosts left left held held IsNode IsNode
stays hosts left held IsNode = record {
  bytes = [];
  takes = Takes-none left;
  took = λ before t. subst (λ (z : List ℕ). TookSoFar hosts z held IsNode) (sym (append-nil before)) t;
}

pub took_both : (hosts : ℕ) (a b : List ℕ) (h i j : Held) (X Y Z : Node → Type 0)
    → ((before : List ℕ) → TookSoFar hosts before h X → TookSoFar hosts (before ++ a) i Y)
    → ((before : List ℕ) → TookSoFar hosts before i Y → TookSoFar hosts (before ++ b) j Z)
    → (before : List ℕ) → TookSoFar hosts before h X → TookSoFar hosts (before ++ (a ++ b)) j Z
took_both hosts a b h i j X Y Z p q before t = subst (λ (w : List ℕ). TookSoFar hosts w j Z) (append_assoc before a b) (q (before ++ a) (p before t))

pub goes_on : (hosts : ℕ) (old mid new : Option (List ℕ)) (h i j : Held) (X Y Z : Node → Type 0) (b : List ℕ) → GoesOn hosts old mid h i X Y → Takes mid new b
    → ((before : List ℕ) → TookSoFar hosts before i Y → TookSoFar hosts (before ++ b) j Z) → GoesOn hosts old new h j X Z
goes_on hosts old mid new h i j X Y Z b g t took = record {
  bytes = g.bytes ++ b;
  takes = Takes-both old mid new g.bytes b g.takes t;
  took = took_both hosts g.bytes b h i j X Y Z g.took took;
}

-- ---- the end

ends_rest : (end : IntakeEnd) (left : Option (List ℕ)) (rest : List ℕ) → EndsSo end left rest → IsRest rest
ends_rest End left rest (inl p) = inl p.1
ends_rest End left rest (inr p) = inr p
ends_rest Failed left rest p = inl p
ends_rest TooMany left rest p = inl p

broken_is : (held : Held) (place : ℕ) (broken : Option ℕ) → held.place ≡ place → IsPlaceOf held broken
    → ((held.bytes ≡ []) × (broken ≡ None)) ⊎ ((held.bytes ≢ []) × (broken ≡ Some place))
broken_is held place None is none = inl (none, refl)
broken_is held place (Some p) is some = inr (some.0, ap Some (some.1 ∙ is))

pub all_taken : (hosts : ℕ) (bytes : List ℕ) (held : Held) (IsNode IsThen : Node → Type 0) (broken : Option ℕ) (end : IntakeEnd) (left : Option (List ℕ)) → TookSoFar hosts bytes held IsNode
    → ((node : Node) → IsNode node → IsThen node) → IsPlaceOf held broken → EndsSo end left held.bytes → (has : HasTaken hosts bytes IsThen broken) × EndsSo end left has.rest
all_taken hosts bytes held IsNode IsThen broken end left took then place ends = (
  record {
    bodies = took.bodies;
    rest = held.bytes;
    are_bodies = took.are_bodies;
    is_rest = ends_rest end left held.bytes ends;
    is_stream = took.is_stream;
    node = then _ took.is_node;
    broken = broken_is held _ broken took.place place;
  },
  ends,
)
