-- What is taken in of the stream of one session, and what is written of it.
use Rattle.std.proofs.Common.{◌≡◌, ◌≢◌, ℕ, ◌+◌, ◌<◌, ◌≤◌, true, false, List, [], ◌∷◌, ◌++◌, length, append_assoc, length-append, Option, Some, None, inl, inr, refl, sym, ap, ◌∙◌, subst, arith}
use Rattle.std.specs.Prelude.{nat_le, ◌==◌}
use Rattle.std.specs.List.{flat_map, AllByRecursion, AllZip}
use Rattle.std.proofs.lemmas.Bool.{lt-leb, eq-eqb}
use Rattle.std.proofs.lemmas.List.{append-nil}
use Rattle.nb_outside.specs.Streams.{Adds}
use Rattle.jupyter_frames.specs.Framing.{frame, place_after, Cutting}
use Rattle.jupyter_frames.proofs.Cutting.{one_cutting}
use Rattle.session_core.specs.declared.request.Request.{Request}
use Rattle.session_core.specs.declared.entry.Entry.{Entry}
use Rattle.session_core.specs.Meanings.{Meaning}
use Rattle.session_core.specs.Feeding.{drawn_in, AreFirstAnswers}
use Rattle.jupyter_messages.specs.Reading.{message_in}
use Rattle.reply_frames.specs.declared.node.NodeError.{NodeError}
use Rattle.reply_frames.specs.declared.node.NodeErrorKind.TheVariants.{BadFrame}
use Rattle.node_intake.specs.Intake.{Taken, Node, no_sessions, most_requests, failed, with_message, with_frames, ended}
use Rattle.node_run.specs.declared.end.RunEnd.{RunEnd}
use Rattle.node_run.specs.declared.end.RunEnd.TheVariants.{Whole, Broken, SourceFailed, TooManyReads}
use Rattle.node_run.specs.Journals.{Answers, IsJournalOf, AreJournals}
use Rattle.node_run.specs.Frames.{error_frames, journal_frames, session_frames, written, AddsFront}
use Rattle.node_run.specs.Ends.{node_at, EndsAt}
use Rattle.node_run.specs.Streams.{IsNodeOf, Writes, Stops, Streams}
use Rattle.node_run.proofs.Stopping.{front_of}
use Rattle.notebook_meaning.specs.Notebooks.{notebooks}
use Rattle.unmoved_sessions.specs.Cells.{AsksCell}
use Rattle.unmoved_sessions.specs.Streams.{Opens, Asks, AreBodiesOf, errors_of, WritesAsUnmoved, StreamsAsUnmoved}
use Rattle.unmoved_sessions.proofs.Unmoved.{session_answered}

-- ---- from the bodies to the node

-- the session so far, with these requests
abbrev so_far : Taken → List Request → Taken
so_far s rs = record s { requests = rs }

-- a node with this session alone
abbrev alone : Taken → List NodeError → Node
alone s errors = record { sessions = s ∷ []; errors = errors }

opens : (hosts : ℕ) (s : Taken) (body : List ℕ) → Opens s body → s.host < hosts → with_message hosts no_sessions (message_in body) ≡ alone (so_far s []) []
opens hosts s body reads hosted =
    let there : nat_le hosts s.host ≡ false = lt-leb hosts s.host hosted in
    ap (with_message hosts no_sessions) reads ∙ rw there

asks : (hosts : ℕ) (s : Taken) (before : List Request) (body : List ℕ) (r : Request) → Asks s.kernel body r → length before < most_requests
    → with_message hosts (alone (so_far s before) []) (message_in body) ≡ alone (so_far s (before ++ r ∷ [])) []
asks hosts s before body r (reads, frontend) few =
    let same : (s.kernel == s.kernel) ≡ true = eq-eqb s.kernel s.kernel refl in
    let room : nat_le most_requests (length before) ≡ false = lt-leb most_requests (length before) few in
    ap (with_message hosts (alone (so_far s before) [])) reads
    ∙ (rw same (rw room (rw same (ap (λ n. alone (so_far s (before ++ record r { frontend = n } ∷ [])) []) (sym frontend)))))

all_ask : (hosts : ℕ) (s : Taken) (before rs : List Request) (bodies : List (List ℕ)) → AllZip (Asks s.kernel) bodies rs → length before + length rs ≤ most_requests
    → with_frames hosts (alone (so_far s before) []) bodies ≡ alone (so_far s (before ++ rs)) []
all_ask hosts s before [] [] are few = ap (λ z. alone (so_far s z) []) (sym (append-nil before))
all_ask hosts s before (r ∷ rs) [] are few = absurd are
all_ask hosts s before [] (body ∷ bodies) are few = absurd are
all_ask hosts s before (r ∷ rs) (body ∷ bodies) (here, are) few =
    let longer = length-append before (r ∷ []) in
    ap (λ node. with_frames hosts node bodies) (asks hosts s before body r here (omega arith))
    ∙ all_ask hosts s (before ++ r ∷ []) rs bodies are (omega (arith, longer))
    ∙ ap (λ z. alone (so_far s z) []) (append_assoc before (r ∷ []) rs)

bodies_open : (hosts : ℕ) (s : Taken) (bodies : List (List ℕ)) → AreBodiesOf s bodies → s.host < hosts → length s.requests ≤ most_requests
    → with_frames hosts no_sessions bodies ≡ alone s []
bodies_open hosts s [] are hosted few = absurd are
bodies_open hosts s (body ∷ bodies) (first, later) hosted few =
    ap (λ node. with_frames hosts node bodies) (opens hosts s body first hosted) ∙ all_ask hosts s [] s.requests bodies later (omega arith)

-- ---- from the bytes to the node

ended_none : (node : Node) (place : ℕ) (rest : List ℕ) → rest ≡ [] → ended node place rest ≡ node
ended_none node place rest none = ap (ended node place) none

ended_some : (node : Node) (place : ℕ) (rest : List ℕ) → rest ≢ [] → ended node place rest ≡ failed node (BadFrame place) None
ended_some node place [] some = absurd (some refl)
ended_some node place (byte ∷ rest) some = refl

node_at_is : (end : RunEnd) (hosts : ℕ) (s : Taken) (bodies : List (List ℕ)) (rest : List ℕ) (left : Option (List ℕ)) → with_frames hosts no_sessions bodies ≡ alone s [] → EndsAt end left rest
    → node_at end hosts bodies rest ≡ alone s (errors_of end bodies)
node_at_is Whole hosts s bodies rest left is ends =
    let place = place_after 0 (length (flat_map frame bodies)) in
    ended_none (with_frames hosts no_sessions bodies) place rest ends.1 ∙ is
node_at_is Broken hosts s bodies rest left is ends =
    let place = place_after 0 (length (flat_map frame bodies)) in
    ended_some (with_frames hosts no_sessions bodies) place rest ends.0 ∙ ap (λ (n : Node). failed n (BadFrame place) None) is
node_at_is SourceFailed hosts s bodies rest left is ends = is
node_at_is TooManyReads hosts s bodies rest left is ends = is

module _ (hosts : ℕ) (end : RunEnd) (bytes : List ℕ) (left : Option (List ℕ)) (node : Node) (cut : Cutting bytes) (is : IsNodeOf hosts end bytes left node) where
  same : (is.bodies ≡ cut.bodies) × (is.rest ≡ cut.rest)
  same = one_cutting is.bodies cut.bodies is.rest cut.rest is.are_bodies cut.are_bodies is.is_rest cut.is_rest (sym is.is_stream ∙ cut.is_stream)

  ends_is : EndsAt end left cut.rest
  ends_is = subst (EndsAt end left) same.1 is.ends

  pub node_is : (s : Taken) → AreBodiesOf s cut.bodies → s.host < hosts → length s.requests ≤ most_requests → node ≡ alone s (errors_of end cut.bodies)
  node_is s are hosted few =
      is.is_node ∙ ap (λ bodies. node_at end hosts bodies is.rest) same.0
      ∙ node_at_is end hosts s cut.bodies is.rest left (bodies_open hosts s cut.bodies are hosted few) is.ends

-- ---- from the node to what is written

-- one session has one journal
pub journal_alone : (meaning : Meaning) (hosts : ℕ) (gives : Answers) (s : Taken) (journals : List (List Entry)) → AreJournals meaning hosts gives (s ∷ []) journals
    → (es : List Entry) × (journals ≡ es ∷ []) × IsJournalOf meaning hosts (gives s.kernel) s es
journal_alone meaning hosts gives s [] are = absurd are
journal_alone meaning hosts gives s (es ∷ []) are = (es, refl, are.0)
journal_alone meaning hosts gives s (es ∷ (more ∷ journals)) are = absurd are.1

written_is : (s : Taken) (errors : List NodeError) (es : List Entry) → written (alone s errors) (es ∷ []) ≡ error_frames 1 errors ++ journal_frames s.kernel 1 es
unfolding session_frames
written_is s errors es = ap (λ z. error_frames 1 errors ++ z) (append-nil (journal_frames s.kernel 1 es))

module _ (hosts : ℕ) (gives : Answers) (bytes left : List ℕ) (cut : Cutting bytes) (s : Taken) (are : AreBodiesOf s cut.bodies) (hosted : s.host < hosts)
    (few : length s.requests ≤ most_requests) (cells : AllByRecursion AsksCell s.requests) where
  stream_written : (IsAdded : List ℕ → Type 0) (end : RunEnd) → Writes notebooks hosts gives end bytes (Some left) IsAdded → WritesAsUnmoved gives s bytes cut end left IsAdded
  stream_written IsAdded end writes =
      let errors = errors_of end cut.bodies in
      let node = node_is hosts end bytes (Some left) writes.node cut writes.is_node s are hosted few in
      let (es, one, journal) = journal_alone notebooks hosts gives s writes.journals (subst (λ (n : Node). AreJournals notebooks hosts gives n.sessions writes.journals) node writes.are_journals) in
      let (entries, begins, answered) = session_answered hosts (gives s.kernel) s es journal cells in
      let frames = ap (λ (n : Node). written n writes.journals) node ∙ (ap (written (alone s errors)) one ∙ written_is s errors es) in
      record {
        ends = ends_is hosts end bytes (Some left) writes.node cut writes.is_node;
        entries = entries;
        answered = answered;
        fed = subst (λ (z : List Entry). AreFirstAnswers (gives s.kernel) (drawn_in z)) begins journal.fed;
        added = subst IsAdded (frames ∙ ap (λ z. error_frames 1 errors ++ journal_frames s.kernel 1 z) begins) writes.added;
      }

  -- what is written if memory runs out is a beginning of what was to be written
  of_stops : (end : RunEnd) (sink_old sink_new : Option (List ℕ)) → Stops notebooks hosts gives end bytes (Some left) sink_old sink_new → Writes notebooks hosts gives end bytes (Some left) (AddsFront sink_old sink_new)
  of_stops end sink_old sink_new stops = record {
    node = stops.node;
    journals = stops.journals;
    is_node = stops.is_node;
    are_journals = stops.are_journals;
    added = front_of sink_old sink_new stops.node stops.journals stops.added;
  }

  pub stream_answered : (caused : RunEnd → Type 0) (status : ℕ) (sink_old sink_new : Option (List ℕ)) → Streams notebooks hosts gives caused status bytes left sink_old sink_new → StreamsAsUnmoved gives caused status s bytes cut left sink_old sink_new
  stream_answered caused status sink_old sink_new streams = record {
    whole = λ end is. let (why, writes) = streams.whole end is in (why, stream_written (Adds sink_old sink_new) end writes);
    cut_off = λ is. let (end, why, writes) = streams.cut is in (end, why, stream_written (AddsFront sink_old sink_new) end writes);
    short = λ is. elim (streams.short is) [
      | inl none ↦ inl none
      | inr some ↦ inr (some.0, some.1, stream_written (AddsFront sink_old sink_new) some.0 (of_stops some.0 sink_old sink_new some.2))
    ];
  }
