-- A link goes on being served.
use Rattle.std.proofs.Common.{◌≡◌, ℕ, ◌≤◌, Bool, true, false, List, [], ◌∷◌, ◌++◌, length, map, take, Option, Some, None, Result, Ok, Err, inr, refl, sym, ap, ◌∙◌, subst, append_assoc, append-nil, length-append, arith}
use Rattle.std.specs.Prelude.{MatchResult, is_ok}
use Rattle.std.specs.List.{flat_map}
use Rattle.nb_outside.specs.Streams.{IsAtEnd}
use Rattle.nb_links.specs.Lines.{Line, Gives, IsDone}
use Rattle.jupyter_frames.specs.Framing.{frame, Held}
use Rattle.jupyter_frames.specs.Turns.{nothing_held}
use Rattle.session_queues.specs.declared.shared.SharedQueues.{SharedQueues}
use Rattle.reply_frames.specs.declared.node.NodeError.{NodeError}
use Rattle.node_intake.specs.declared.node.Intake.{Intake}
use Rattle.node_intake.specs.declared.session.IntakeEnd.{IntakeEnd}
use Rattle.node_intake.specs.declared.session.IntakeEnd.TheVariants as intake
use Rattle.node_intake.specs.Intake.{Taken, Node, no_sessions, with_frames}
use Rattle.node_intake.specs.Standing.{StandsFor, HasKept}
use Rattle.node_intake.specs.Taking.{TookSoFar, TookFront, EndsSo, EndsOrGoesOn, IsPlaceOf}
use Rattle.node_intake.proofs.Taking.{all_taken, from_nothing, front_taken, piece_more}
use Rattle.node_intake.proofs.Standing.{kept_all as same_kept}
use Rattle.node_run.specs.declared.open_session.OpenSession.{OpenSession}
use Rattle.node_run.specs.Admitted.{AreOpen, AreSeated}
use Rattle.node_run.specs.Unsent.{AreCounted, AreReadable, AreAlike, AreKept}
use Rattle.node_run.specs.Keeping.{kept_all}
use Rattle.node_run.proofs.Keeping.{alike_open}
use Rattle.node_serve.specs.Interleaving.{IsPutTo, Interleaves, AreFronts}
use Rattle.node_serve.specs.Units.{error_units, read_units, units_so_far}
use Rattle.node_serve.specs.Sent.{Wire, left_of, Tells, TellsFront, IsSending, HasSentFront, SendsOn}
use Rattle.node_serve.specs.Service.{InService, WasInService, Serves, IsEnd, IsFed, IsLeft}
use Rattle.node_serve.specs.Hearing.{end_in, IsLeftBy, Heeds, HeedsFront}
use Rattle.node_serve.specs.declared.service.Heard.{Heard}
use Rattle.node_serve.specs.declared.service.Heard.TheVariants.{More, NotYet, Ended}
use Rattle.node_serve.proofs.Interleaving.{lists_more}
use Rattle.node_serve.proofs.Fronts.{fronts_all}
use Rattle.node_serve.proofs.Sendings.{tells_more, tells_first, front_sent, front_longer, taken_on, lists_as, starts}
use Rattle.node_serve.proofs.Tellings.{take_front, errors_front, kept_on}

abbrev Holds : List SharedQueues → List OpenSession → List Taken → Type 0
Holds queues os ts = AreOpen ts os queues

took_as : (hosts : ℕ) (bytes : List ℕ) (held : Held) (P Q : Node → Type 0) → ((node : Node) → P node → Q node) → TookSoFar hosts bytes held P → TookSoFar hosts bytes held Q
took_as hosts bytes held P Q turn t = record { bodies = t.bodies; are_bodies = t.are_bodies; is_stream = t.is_stream; place = t.place; is_node = turn _ t.is_node }

stands_still : (queues : List SharedQueues) (old new : Intake (List OpenSession)) → AreAlike old.desk new.desk → new.errors.items ≡ old.errors.items → (node : Node) → StandsFor (Holds queues) old node → StandsFor (Holds queues) new node
stands_still queues old new alike same node s =
    record { sessions = alike_open old.desk new.desk node.sessions queues alike s.sessions; errors = same ∙ s.errors; apart = s.apart }

-- an entry that was read is told
pub entry_told : (hosts : ℕ) (queues : List SharedQueues) (start old new : Wire) (held : Held) (node then : Intake (List OpenSession)) (told : ℕ) (u : List ℕ) → AreAlike node.desk then.desk → then.errors.items ≡ node.errors.items
    → (AreCounted node.desk → IsPutTo (map read_units node.desk) u (map read_units then.desk) × AreCounted then.desk) → Tells old new u
    → InService hosts queues start old held node told → InService hosts queues start new held then told
entry_told hosts queues start old new held node then told u alike same put tells s =
    let p = put s.counted in
    let lists : IsPutTo (units_so_far told node.errors.items node.desk) u (units_so_far told node.errors.items then.desk) = inr (map read_units then.desk, p.0, refl) in
    record {
      taken = s.taken;
      took = took_as hosts s.taken held (StandsFor (Holds queues) node) (StandsFor (Holds queues) then) (stands_still queues node then alike same) s.took;
      counted = p.1;
      few = subst (λ (es : List NodeError). told ≤ length es) (sym same) s.few;
      sending = subst (λ (es : List NodeError). IsSending start new s.taken (units_so_far told es then.desk)) (sym same)
          (tells_more start old new s.taken u (units_so_far told node.errors.items node.desk) (units_so_far told node.errors.items then.desk) tells lists s.sending);
    }

-- an error is told
pub error_told : (hosts : ℕ) (queues : List SharedQueues) (start old new : Wire) (held : Held) (node : Intake (List OpenSession)) (told later : ℕ) → (told ≤ length node.errors.items → later ≤ length node.errors.items)
    → SendsOn true true old new (error_units 1 (take told node.errors.items)) (error_units 1 (take later node.errors.items))
    → InService hosts queues start old held node told → InService hosts queues start new held node later
error_told hosts queues start old new held node told later few on s =
    record { taken = s.taken; took = s.took; counted = s.counted; few = few s.few; sending = on start s.taken [] (map read_units node.desk) s.sending }

-- the lists go on as those that were kept
go_on : (told : ℕ) (old new : Intake (List OpenSession)) (units : List (List ℕ)) → told ≤ length old.errors.items → HasKept (λ (os : List OpenSession) (later : List OpenSession). AreKept os later) old new
    → Interleaves (units_so_far told old.errors.items old.desk) units → Interleaves (units_so_far told new.errors.items new.desk) units
go_on told old new units few kept all =
    let more = kept_on old.desk new.desk kept.desk in
    let errors : take told new.errors.items ≡ take told old.errors.items = ap (take told) kept.errors.1 ∙ take_front old.errors.items kept.errors.0 told few in
    let lists : units_so_far told new.errors.items new.desk ≡ units_so_far told old.errors.items old.desk ++ more.others =
    ap (λ es. error_units 1 es ∷ map read_units new.desk) errors ∙ ap (λ z. error_units 1 (take told old.errors.items) ∷ z) more.units in
    subst (λ ls. Interleaves ls units) (sym lists) (lists_more (units_so_far told old.errors.items old.desk) more.others units all more.empty)

-- a piece comes
pub piece_heard : (hosts : ℕ) (queues : List SharedQueues) (start old new : Wire) (held then : Held) (node later : Intake (List OpenSession)) (told next : ℕ) (piece : List ℕ) (heard : Heard)
    → Gives old.line new.line piece → old.faults ≤ new.faults → new.cut ≡ old.cut → Heeds queues hosts held node told piece heard then later next
    → InService hosts queues start old held node told → InService hosts queues start new then later next
piece_heard hosts queues start old new held then node later told next piece heard gives stays cut h s =
    let more = kept_on node.desk later.desk h.kept.desk in
    let size = ap length h.kept.errors.1 ∙ length-append node.errors.items h.kept.errors.0 in
    let few = s.few in
    subst (λ n. InService hosts queues start new then later n) (sym h.same) (record {
      taken = s.taken ++ piece;
      took = h.took s.taken s.took;
      counted = more.counted s.counted;
      few = omega (arith, size, few);
      sending = lists_as start new (s.taken ++ piece) (units_so_far told node.errors.items node.desk) (units_so_far told later.errors.items later.desk) (λ units all. go_on told node later units s.few h.kept all)
          (taken_on start old new s.taken piece (units_so_far told node.errors.items node.desk) gives stays cut s.sending);
    })

held_more : (held mid : Held) (piece : List ℕ) → mid.bytes ≡ held.bytes ++ piece → mid.place ≡ held.place → mid ≡ record held { bytes = held.bytes ++ piece }
held_more held mid piece bytes_are place_is =
    ap (λ (p : ℕ). let h : Held = record mid { place = p } in h) place_is ∙ ap (λ (bs : List ℕ). let h : Held = record held { bytes = bs } in h) bytes_are

-- what came is taken in, once it is put after what was held
pub piece_taken : (hosts : ℕ) (queues : List SharedQueues) (held mid then : Held) (node later : Intake (List OpenSession)) (told : ℕ) (piece : List ℕ) (heard : Heard)
    → mid.bytes ≡ held.bytes ++ piece → mid.place ≡ held.place
    → ((bytes : List ℕ) → TookSoFar hosts bytes mid (StandsFor (Holds queues) node) → TookSoFar hosts bytes then (StandsFor (Holds queues) later))
    → HasKept (λ (os : List OpenSession) (later : List OpenSession). AreKept os later) node later → IsLeftBy heard then.bytes → Heeds queues hosts held node told piece heard then later told
piece_taken hosts queues held mid then node later told piece heard bytes_are place_is took kept left =
    record {
      took = λ bytes t. took (bytes ++ piece) (piece_more hosts bytes piece held mid (StandsFor (Holds queues) node) (held_more held mid piece bytes_are place_is) t);
      kept = kept;
      left = left;
      same = refl;
    }

-- what is left by it says how reading ends
pub left_ends : (heard : Heard) (left : Option (List ℕ)) (rest : List ℕ) (cut : Bool) → cut ≡ false → IsLeftBy heard rest → EndsOrGoesOn (end_in heard) left rest × IsEnd (end_in heard) cut
left_ends More left rest cut whole is = (is, whole)
left_ends NotYet left rest cut whole is = absurd is
left_ends (Ended intake.End) left rest cut whole is = (inr is, whole)
left_ends (Ended intake.Failed) left rest cut whole is = absurd is
left_ends (Ended intake.TooMany) left rest cut whole is = absurd is

pub at_end : (line : Option Line) → IsDone line → IsAtEnd (left_of line)
at_end None done = tt
at_end (Some line) done = done

-- nothing comes
pub still_served : (hosts : ℕ) (queues : List SharedQueues) (start old new : Wire) (held : Held) (node : Intake (List OpenSession)) (told : ℕ)
    → ((taken : List ℕ) (lists : List (List (List ℕ))) → IsSending start old taken lists → IsSending start new taken lists)
    → InService hosts queues start old held node told → InService hosts queues start new held node told
still_served hosts queues start old new held node told on s =
    record { taken = s.taken; took = s.took; counted = s.counted; few = s.few; sending = on s.taken (units_so_far told node.errors.items node.desk) s.sending }

-- ---- memory runs out

units_whole : (told : ℕ) (errors : List NodeError) (os : List OpenSession) → AreFronts (units_so_far told errors os) (error_units 1 errors ∷ map read_units os)
units_whole told errors os = (errors_front told errors, fronts_all (map read_units os))

was_served : (hosts : ℕ) (queues : List SharedQueues) (start now : Wire) (held : Held) (node : Intake (List OpenSession)) (told : ℕ) (taken : List ℕ) → TookSoFar hosts taken held (StandsFor (Holds queues) node)
    → HasSentFront start now taken (units_so_far told node.errors.items node.desk) → WasInService hosts queues start now node
was_served hosts queues start now held node told taken took sent = record {
  taken = taken;
  took = front_taken hosts taken held (StandsFor (Holds queues) node) (StandsFor (Holds queues) node) (λ n st. st) took;
  sending = front_longer start now taken (units_so_far told node.errors.items node.desk) (error_units 1 node.errors.items ∷ map read_units node.desk) (units_whole told node.errors.items node.desk) sent;
}

-- at once
pub served_till : (hosts : ℕ) (queues : List SharedQueues) (start now : Wire) (held : Held) (node : Intake (List OpenSession)) (told : ℕ) → InService hosts queues start now held node told → WasInService hosts queues start now node
served_till hosts queues start now held node told s =
    was_served hosts queues start now held node told s.taken s.took (front_sent start now s.taken (units_so_far told node.errors.items node.desk) s.sending)

-- while an entry is told
pub entry_cut : (hosts : ℕ) (queues : List SharedQueues) (start old new : Wire) (held : Held) (node then : Intake (List OpenSession)) (told : ℕ) (u : List ℕ) → AreAlike node.desk then.desk → then.errors.items ≡ node.errors.items
    → (AreCounted node.desk → IsPutTo (map read_units node.desk) u (map read_units then.desk) × AreCounted then.desk) → TellsFront old new u
    → InService hosts queues start old held node told → WasInService hosts queues start new then
entry_cut hosts queues start old new held node then told u alike same put tells s =
    let p = put s.counted in
    let lists : IsPutTo (units_so_far told node.errors.items node.desk) u (units_so_far told node.errors.items then.desk) = inr (map read_units then.desk, p.0, refl) in
    was_served hosts queues start new held then told s.taken
    (took_as hosts s.taken held (StandsFor (Holds queues) node) (StandsFor (Holds queues) then) (stands_still queues node then alike same) s.took)
    (subst (λ (es : List NodeError). HasSentFront start new s.taken (units_so_far told es then.desk)) (sym same)
    (tells_first start old new s.taken u (units_so_far told node.errors.items node.desk) (units_so_far told node.errors.items then.desk) tells lists s.sending))

-- once an entry was read, and before it is told
pub entry_lost : (hosts : ℕ) (queues : List SharedQueues) (start now : Wire) (held : Held) (node then : Intake (List OpenSession)) (told : ℕ) → AreAlike node.desk then.desk → then.errors.items ≡ node.errors.items
    → AreFronts (map read_units node.desk) (map read_units then.desk) → InService hosts queues start now held node told → WasInService hosts queues start now then
entry_lost hosts queues start now held node then told alike same fronts s =
    let errors = node.errors.items in
    let sent = front_longer start now s.taken (units_so_far told errors node.desk) (units_so_far told errors then.desk) (([], sym (append-nil (error_units 1 (take told errors)))), fronts)
    (front_sent start now s.taken (units_so_far told errors node.desk) s.sending) in
    was_served hosts queues start now held then told s.taken
    (took_as hosts s.taken held (StandsFor (Holds queues) node) (StandsFor (Holds queues) then) (stands_still queues node then alike same) s.took)
    (subst (λ (es : List NodeError). HasSentFront start now s.taken (units_so_far told es then.desk)) (sym same) sent)

-- while an error is told
pub error_cut : (hosts : ℕ) (queues : List SharedQueues) (start old new : Wire) (held : Held) (node : Intake (List OpenSession)) (told later : ℕ)
    → SendsOn true false old new (error_units 1 (take told node.errors.items)) (error_units 1 (take later node.errors.items))
    → InService hosts queues start old held node told → WasInService hosts queues start new node
error_cut hosts queues start old new held node told later on s =
    was_served hosts queues start new held node later s.taken s.took (on start s.taken [] (map read_units node.desk) s.sending)

-- while a piece is taken in
pub piece_cut : (hosts : ℕ) (queues : List SharedQueues) (start old new : Wire) (held : Held) (node later : Intake (List OpenSession)) (told : ℕ) (piece : List ℕ)
    → Gives old.line new.line piece → old.faults ≤ new.faults → new.cut ≡ old.cut → HeedsFront queues hosts held node piece later
    → InService hosts queues start old held node told → WasInService hosts queues start new later
piece_cut hosts queues start old new held node later told piece gives stays cut h s =
    let sending = lists_as start new (s.taken ++ piece) (units_so_far told node.errors.items node.desk) (units_so_far told later.errors.items later.desk) (λ units all. go_on told node later units s.few h.kept all)
    (taken_on start old new s.taken piece (units_so_far told node.errors.items node.desk) gives stays cut s.sending) in
    record {
      taken = s.taken ++ piece;
      took = h.took s.taken s.took;
      sending = front_longer start new (s.taken ++ piece) (units_so_far told later.errors.items later.desk) (error_units 1 later.errors.items ∷ map read_units later.desk) (units_whole told later.errors.items later.desk)
          (front_sent start new (s.taken ++ piece) (units_so_far told later.errors.items later.desk) sending);
    }

-- before it is put after what was held
pub piece_lost : (hosts : ℕ) (queues : List SharedQueues) (held : Held) (node : Intake (List OpenSession)) (piece : List ℕ) → HeedsFront queues hosts held node piece node
piece_lost hosts queues held node piece = record {
  took = λ bytes t. record {
    bodies = t.bodies;
    rest = held.bytes ++ piece;
    are_bodies = t.are_bodies;
    is_stream = ap (λ z. z ++ piece) t.is_stream ∙ append_assoc (flat_map frame t.bodies) held.bytes piece;
    is_node = t.is_node;
  };
  kept = same_kept (λ (os : List OpenSession) (later : List OpenSession). AreKept os later) node kept_all;
}

-- and after
pub piece_front : (hosts : ℕ) (queues : List SharedQueues) (held mid : Held) (node later : Intake (List OpenSession)) (piece : List ℕ) → mid.bytes ≡ held.bytes ++ piece → mid.place ≡ held.place
    → ((bytes : List ℕ) → TookSoFar hosts bytes mid (StandsFor (Holds queues) node) → TookFront hosts bytes (StandsFor (Holds queues) later))
    → HasKept (λ (os : List OpenSession) (later : List OpenSession). AreKept os later) node later → HeedsFront queues hosts held node piece later
piece_front hosts queues held mid node later piece bytes_are place_is took kept = record {
  took = λ bytes t. took (bytes ++ piece) (piece_more hosts bytes piece held mid (StandsFor (Holds queues) node) (held_more held mid piece bytes_are place_is) t);
  kept = kept;
}

-- by what became of a piece
pub heard_serves : {E : Type 0} (r : Result Heard E) (hosts : ℕ) (queues : List SharedQueues) (old new : Wire) (held then : Held) (node later : Intake (List OpenSession)) (told next : ℕ) (piece : List ℕ)
    → Gives old.line new.line piece → old.faults ≤ new.faults → new.cut ≡ old.cut
    → MatchResult r (λ heard. Heeds queues hosts held node told piece heard then later next) (λ _. HeedsFront queues hosts held node piece later) → Serves (is_ok r) hosts queues old new held node told then later next
heard_serves (Ok heard) hosts queues old new held then node later told next piece gives stays cut h = λ start s. piece_heard hosts queues start old new held then node later told next piece heard gives stays cut h s
heard_serves (Err e) hosts queues old new held then node later told next piece gives stays cut h = λ start s. piece_cut hosts queues start old new held node later told piece gives stays cut h s

-- nothing came
pub still_till : (hosts : ℕ) (queues : List SharedQueues) (start old new : Wire) (held : Held) (node : Intake (List OpenSession)) (told : ℕ)
    → ((taken : List ℕ) (lists : List (List (List ℕ))) → IsSending start old taken lists → IsSending start new taken lists)
    → InService hosts queues start old held node told → WasInService hosts queues start new node
still_till hosts queues start old new held node told on s = served_till hosts queues start new held node told (still_served hosts queues start old new held node told on s)

-- the sessions that are open then
pub left_at : (hosts : ℕ) (queues : List SharedQueues) (start now : Wire) (node : Intake (List OpenSession)) (sessions : List OpenSession) → sessions ≡ node.desk → AreSeated sessions queues → AreReadable sessions queues
    → WasInService hosts queues start now node → IsLeft hosts queues start now sessions
left_at hosts queues start now node sessions desk seated readable s = record {
  taken = s.taken;
  errors = node.errors.items;
  took = record {
    bodies = s.took.bodies;
    rest = s.took.rest;
    are_bodies = s.took.are_bodies;
    is_stream = s.took.is_stream;
    is_node = (subst (λ (os : List OpenSession). AreOpen (with_frames hosts no_sessions s.took.bodies).sessions os queues) (sym desk) s.took.is_node.sessions, s.took.is_node.errors);
  };
  seated = seated;
  readable = readable;
  sending = subst (λ (os : List OpenSession). HasSentFront start now s.taken (error_units 1 node.errors.items ∷ map read_units os)) (sym desk) s.sending;
}

-- ---- from start to end

-- at the start
pub first_served : (hosts : ℕ) (queues : List SharedQueues) (w : Wire) (held : Held) (node : Intake (List OpenSession)) (told : ℕ) → w.cut ≡ false → held ≡ nothing_held → StandsFor (Holds queues) node no_sessions → node.desk ≡ [] → node.errors.items ≡ [] → told ≡ 0
    → InService hosts queues w w held node told
first_served hosts queues w held node told whole none stands desk errors zero_is = record {
  taken = [];
  took = from_nothing hosts held (StandsFor (Holds queues) node) none stands;
  counted = subst AreCounted (sym desk) tt;
  few = subst (λ n. n ≤ length node.errors.items) (sym zero_is) (omega arith);
  sending = subst (λ (os : List OpenSession). IsSending w w [] (units_so_far told node.errors.items os)) (sym desk)
      (subst (λ (es : List NodeError). IsSending w w [] (units_so_far told es [])) (sym errors)
      (subst (λ n. IsSending w w [] (units_so_far n [] [])) (sym zero_is) (starts w (units_so_far 0 [] []) whole (refl, tt))));
}

-- when no more is taken in
pub fed : (hosts : ℕ) (queues : List SharedQueues) (start now : Wire) (held : Held) (node : Intake (List OpenSession)) (told : ℕ) (sessions : List OpenSession) (errors : List NodeError) (broken : Option ℕ) (end : IntakeEnd)
    → sessions ≡ node.desk → errors ≡ node.errors.items → IsPlaceOf held broken → AreSeated sessions queues → AreReadable sessions queues → InService hosts queues start now held node told → EndsSo end (left_of now.line) held.bytes → IsEnd (Some end) now.cut
    → IsFed hosts queues start now sessions errors broken end told
fed hosts queues start now held node told sessions errors broken end desk are place seated readable s ends is_end =
    let IsThen : Node → Type 0 = λ (n : Node). AreOpen n.sessions sessions queues × (errors ≡ n.errors) in
    let all = all_taken hosts s.taken held (StandsFor (Holds queues) node) IsThen broken end (left_of now.line) s.took
    (λ (n : Node) (st : StandsFor (Holds queues) node n). (subst (λ (os : List OpenSession). AreOpen n.sessions os queues) (sym desk) st.sessions, are ∙ st.errors)) place ends in
    record {
      taken = s.taken;
      took = all.0;
      ends = all.1;
      is_end = is_end;
      seated = seated;
      readable = readable;
      counted = subst AreCounted (sym desk) s.counted;
      few = subst (λ (es : List NodeError). told ≤ length es) (sym are) s.few;
      sending = subst (λ (os : List OpenSession). IsSending start now s.taken (units_so_far told errors os)) (sym desk) (subst (λ (es : List NodeError). IsSending start now s.taken (units_so_far told es node.desk)) (sym are) s.sending);
    }
