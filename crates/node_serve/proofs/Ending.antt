-- What was served, once all is done.
use Rattle.std.proofs.Common.{◌≡◌, ℕ, ◌≤◌, Bool, true, false, List, [], ◌∷◌, ◌++◌, length, map, take, Option, Result, Ok, Err, Some, None, inl, inr, refl, sym, ap, ◌∙◌, subst, append-nil}
use Rattle.std.specs.Prelude.{OnOk, MatchResult, is_ok}
use Rattle.std.specs.List.{AllByRecursion}
use Rattle.nb_links.specs.Lines.{Line}
use Rattle.jupyter_frames.specs.Framing.{IsBody, stream}
use Rattle.session_core.specs.Meanings.{Meaning}
use Rattle.session_core.specs.declared.entry.Entry.{Entry}
use Rattle.session_queues.specs.declared.shared.SharedQueues.{SharedQueues}
use Rattle.reply_frames.specs.declared.node.NodeError.{NodeError}
use Rattle.reply_frames.specs.declared.node.NodeErrorKind.TheVariants as kind
use Rattle.node_intake.specs.Intake.{Taken, Node, no_sessions, with_frames, ended}
use Rattle.node_intake.specs.Taking.{TookFront}
use Rattle.node_intake.specs.declared.session.IntakeEnd.{IntakeEnd}
use Rattle.node_intake.specs.declared.session.IntakeEnd.TheVariants as intake
use Rattle.node_run.specs.declared.end.RunEnd.{RunEnd}
use Rattle.node_run.specs.declared.end.RunEnd.TheVariants.{Whole, Broken, SourceFailed, TooManyReads}
use Rattle.node_run.specs.declared.open_session.OpenSession.{OpenSession}
use Rattle.node_run.specs.Admitted.{AreOpen}
use Rattle.node_run.specs.Ends.{end_after, errors_after}
use Rattle.node_run.specs.Journals.{Answers, ServedSession, journal_of, journals_of, AreRuns}
use Rattle.node_run.specs.Streams.{IsNodeOf, HasRun}
use Rattle.node_run.proofs.Ending.{has_run, node_ended}
use Rattle.node_serve.specs.declared.report.LinkEnd.{LinkEnd}
use Rattle.node_serve.specs.declared.report.LinkEnd.TheVariants.{LinkFault}
use Rattle.node_serve.specs.Units.{error_units, entry_units, session_units, units_of, read_units, run_units, FrontOf}
use Rattle.node_serve.specs.Sent.{Wire, left_of, WentOn, Sends, IsSending, HasSentFront, SendsOn}
use Rattle.node_serve.specs.Service.{IsEnd, IsFed, IsLeft}
use Rattle.node_serve.specs.Links.{HasSent, HasServed, AreJournalsSoFar, IsNodeSoFar, HasServedSoFar, link_end_of, IsReported, IsStopped}
use Rattle.node_serve.specs.Closing.{AreClosed}
use Rattle.node_serve.proofs.Sendings.{since, sends_front, sends_longer, sends_short, sends_as}
use Rattle.node_serve.proofs.Tellings.{take_front, errors_front_of}

same_rest : (a b c : List ℕ) → a ++ b ≡ a ++ c → b ≡ c
same_rest [] b c is = is
same_rest (x ∷ a) b c is =
    let all : x ∷ (a ++ b) ≡ x ∷ (a ++ c) = is in
    let rest : a ++ b ≡ a ++ c = cc in
    same_rest a b c rest

some_line : (a b : Line) → Some a ≡ Some b → a ≡ b
some_line a b is = cc

left_same : (start mid now : Option Line) (taken one two : List ℕ) → WentOn start mid taken one → WentOn start now taken two → left_of now ≡ left_of mid
left_same None mid now taken one two first then = ap left_of (then ∙ sym first)
left_same (Some line) mid now taken one two (r, parts, is) (s, also, same) =
    ap left_of same ∙ ap Some (same_rest taken s r (sym also ∙ parts)) ∙ sym (ap left_of is)

same_units : (meaning : Meaning) (hosts : ℕ) (gives : Answers) (ts : List Taken) (runs : List ServedSession) → AreRuns meaning hosts gives ts runs → map run_units runs ≡ session_units ts (journals_of runs)
same_units meaning hosts gives [] [] are = refl
same_units meaning hosts gives [] (r ∷ runs) are = absurd are
same_units meaning hosts gives (t ∷ ts) [] are = absurd are
same_units meaning hosts gives (t ∷ ts) (r ∷ runs) are =
    ap (λ k. entry_units k 1 (journal_of r) ∷ map run_units runs) are.0.0 ∙ ap (λ z. entry_units t.kernel 1 (journal_of r) ∷ z) (same_units meaning hosts gives ts runs are.1)

has_sent : (cut was : Bool) (end : IntakeEnd) (broken : Option ℕ) (node : Node) (journals : List (List Entry)) (sent : List ℕ) → IsEnd (Some end) was → (was ≡ true → cut ≡ true) → Sends cut (units_of node journals) sent
    → HasSent (link_end_of cut (end_after end broken)) (end_after end broken) node journals sent
has_sent true was end broken node journals sent is kept sends = sends
has_sent false was intake.End None node journals sent is kept sends = (refl, sends)
has_sent false was intake.End (Some place) node journals sent is kept sends = (refl, sends)
has_sent false was intake.Failed broken node journals sent is kept sends = let cut : false ≡ true = kept is in cc
has_sent false was intake.TooMany broken node journals sent is kept sends = absurd is

told_fault : (cut was : Bool) (end : IntakeEnd) (broken : Option ℕ) → IsEnd (Some end) was → (was ≡ true → cut ≡ true) → link_end_of cut (end_after end broken) ≡ LinkFault → cut ≡ true
told_fault true was end broken is kept told = refl
told_fault false was intake.End None is kept told = cc
told_fault false was intake.End (Some place) is kept told = cc
told_fault false was intake.Failed broken is kept told = kept is
told_fault false was intake.TooMany broken is kept told = absurd is

-- ---- at the start

-- no session is open
pub none_open : (os : List OpenSession) (queues : List SharedQueues) → AreOpen [] os queues → os ≡ []
none_open [] queues are = refl
none_open (o ∷ os) queues are = absurd are

-- ---- the errors that weren't told, and then the sessions

-- that of a broken frame is the last
told_still : (end : IntakeEnd) (broken : Option ℕ) (errors : List NodeError) (told : ℕ) → told ≤ length errors → take told (errors_after end broken errors) ≡ take told errors
told_still intake.End None errors told few = refl
told_still intake.End (Some place) errors told few = take_front errors _ told few
told_still intake.Failed broken errors told few = refl
told_still intake.TooMany broken errors told few = refl

told_goes : (end : IntakeEnd) (broken : Option ℕ) (errors : List NodeError) → (more : List NodeError) × (errors_after end broken errors ≡ errors ++ more)
told_goes intake.End None errors = ([], sym (append-nil errors))
told_goes intake.End (Some place) errors = (record { kind = kind.BadFrame place; about = None } ∷ [], refl)
told_goes intake.Failed broken errors = ([], sym (append-nil errors))
told_goes intake.TooMany broken errors = ([], sym (append-nil errors))

-- memory ran out before that of a broken frame was there
pub left_short : (w : Wire) (end : IntakeEnd) (broken : Option ℕ) (errors : List NodeError) (told : ℕ) → SendsOn true false w w (error_units 1 (take told errors)) (error_units 1 (errors_after end broken errors))
left_short w end broken errors told =
    sends_longer true w w (error_units 1 (take told errors)) (error_units 1 (take told errors)) (error_units 1 (errors_after end broken errors)) (errors_front_of told errors (errors_after end broken errors) (told_goes end broken errors))
    (sends_short w (error_units 1 (take told errors)))

-- or afterwards
pub left_told : (suffices : Bool) (old new : Wire) (end : IntakeEnd) (broken : Option ℕ) (errors all shown : List NodeError) (told : ℕ) → told ≤ length errors → all ≡ errors_after end broken errors → shown ≡ all
    → SendsOn true suffices old new (error_units 1 (take told shown)) (error_units 1 shown) → SendsOn true suffices old new (error_units 1 (take told errors)) (error_units 1 (errors_after end broken errors))
left_told suffices old new end broken errors all shown told few are same tells =
    let is : shown ≡ errors_after end broken errors = same ∙ are in
    sends_as true suffices old new (error_units 1 (take told errors)) (error_units 1 (take told shown)) (error_units 1 shown) (error_units 1 (errors_after end broken errors))
    (ap (error_units 1) (sym (told_still end broken errors told few) ∙ ap (take told) (sym is))) (ap (error_units 1) is) tells

-- all was told, since a start at which it was cut off only if it is now
pub all_told : (meaning : Meaning) (hosts : ℕ) (gives : Answers) (start mid later now : Wire) (taken : List ℕ) (units all : List (List ℕ)) (ts : List Taken) (sessions : List OpenSession) (suffices : Bool) (runs : List ServedSession)
    → SendsOn true suffices mid later units all → (c : AreClosed meaning hosts gives later now ts sessions suffices true runs) → IsSending start mid taken (units ∷ map read_units sessions) → IsSending (record start { cut = mid.cut }) now taken (all ∷ map run_units runs)
all_told meaning hosts gives start mid later now taken units all ts sessions suffices runs tells c s =
    let w : Wire = record start { cut = mid.cut } in
    let are = c.served refl in
    let told = tells w taken [] (map read_units sessions) (since start mid taken (units ∷ map read_units sessions) s) in
    let closed = c.told w taken all told in
    let lists : session_units ts c.journals ≡ map run_units runs = ap (session_units ts) are.2 ∙ sym (same_units meaning hosts gives ts runs are.1) in
    subst (λ ls. IsSending w now taken (all ∷ ls)) lists closed

pub reported : (meaning : Meaning) (hosts : ℕ) (gives : Answers) (queues : List SharedQueues) (start mid now : Wire) (sessions : List OpenSession) (errors later : List NodeError) (broken : Option ℕ) (end : IntakeEnd) (told : ℕ) (run_end : RunEnd) (link_end : LinkEnd) (runs : List ServedSession)
    → (fed : IsFed hosts queues start mid sessions errors broken end told) → later ≡ errors_after end broken errors → run_end ≡ end_after end broken → link_end ≡ link_end_of now.cut run_end
    → ((ts : List Taken) → AreOpen ts sessions queues → AreRuns meaning hosts gives ts runs) → IsSending (record start { cut = mid.cut }) now fed.taken (error_units 1 later ∷ map run_units runs)
    → IsReported meaning hosts gives start now link_end later runs
reported meaning hosts gives queues start mid now sessions errors later broken end told run_end link_end runs fed are_errors is ends are_runs s =
    let left = left_same start.line mid.line now.line fed.taken fed.sending.sent s.sent fed.sending.went s.went in
    let run : HasRun meaning hosts gives run_end fed.taken (left_of mid.line) later runs =
    has_run meaning hosts gives fed.taken (left_of mid.line) (λ ts. AreOpen ts sessions queues) errors broken end run_end later runs fed.took fed.ends is are_errors are_runs in
    let lists : error_units 1 later ∷ map run_units runs ≡ units_of run.node (journals_of runs) =
    ap (λ es. error_units 1 es ∷ map run_units runs) run.errors_are ∙ ap (λ z. error_units 1 run.node.errors ∷ z) (same_units meaning hosts gives run.node.sessions runs run.are_runs) in
    let all = has_sent now.cut mid.cut end broken run.node (journals_of runs) s.sent fed.is_end s.kept (subst (λ ls. Sends now.cut ls s.sent) lists s.sends) in
    let sure : HasSent link_end run_end run.node (journals_of runs) s.sent =
    subst (λ (e : LinkEnd). HasSent e run_end run.node (journals_of runs) s.sent) (sym ends)
    (subst (λ (e : RunEnd). HasSent (link_end_of now.cut e) e run.node (journals_of runs) s.sent) (sym is) all) in
    let served : HasServed meaning hosts gives link_end fed.taken (left_of mid.line) s.sent later runs = record { run_end = run_end; run = run; has_sent = sure } in
    record {
      taken = fed.taken;
      sent = s.sent;
      went = s.went;
      served = subst (λ l. HasServed meaning hosts gives link_end fed.taken l s.sent later runs) (sym left) served;
      stays = s.stays;
      fault = λ told. s.risen (told_fault now.cut mid.cut end broken fed.is_end s.kept (ap (link_end_of now.cut) (sym is) ∙ sym ends ∙ told));
    }

-- ---- until memory ran out

-- no frame was taken in
pub nothing_served : (meaning : Meaning) (hosts : ℕ) (gives : Answers) (left : Option (List ℕ)) → HasServedSoFar meaning hosts gives [] left []
nothing_served meaning hosts gives left = record {
  node = no_sessions;
  is_node = inl (record { bodies = []; rest = []; are_bodies = tt; is_stream = refl; is_node = refl });
  journals = [];
  are_journals = tt;
  has_sent = ([], ([], (refl, tt), refl));
}

stopped_at : (meaning : Meaning) (hosts : ℕ) (gives : Answers) (start mid now : Wire) (taken sent : List ℕ) (node : Node) (errors : List NodeError) (journals : List (List Entry)) → WentOn start.line mid.line taken sent
    → IsNodeSoFar hosts taken (left_of mid.line) node → errors ≡ node.errors → AreJournalsSoFar meaning hosts gives node.sessions journals → HasSentFront start now taken (error_units 1 errors ∷ session_units node.sessions journals)
    → IsStopped meaning hosts gives start now
stopped_at meaning hosts gives start mid now taken sent node errors journals went is are_errors are s = record {
  taken = taken;
  sent = s.sent;
  went = s.went;
  served = record {
    node = node;
    is_node = subst (λ l. IsNodeSoFar hosts taken l node) (sym (left_same start.line mid.line now.line taken sent s.sent went s.went)) is;
    journals = journals;
    are_journals = are;
    has_sent = subst (λ (es : List NodeError). FrontOf (error_units 1 es ∷ session_units node.sessions journals) s.sent) are_errors s.front;
  };
  stays = s.stays;
}

-- while the link was served
pub stopped_left : (meaning : Meaning) (hosts : ℕ) (gives : Answers) (queues : List SharedQueues) (start mid now : Wire) (sessions : List OpenSession) (then : Bool) (runs : List ServedSession) → IsLeft hosts queues start mid sessions
    → ((ts : List Taken) → AreOpen ts sessions queues → AreClosed meaning hosts gives mid now ts sessions false then runs) → IsStopped meaning hosts gives start now
stopped_left meaning hosts gives queues start mid now sessions then runs left closes =
    let node : Node = with_frames hosts no_sessions left.took.bodies in
    let c = closes node.sessions left.took.is_node.0 in
    let sent = sends_front then start now left.taken (error_units 1 left.errors ∷ session_units node.sessions c.journals) (c.told start left.taken (error_units 1 left.errors) left.sending) in
    stopped_at meaning hosts gives start mid now left.taken left.sending.sent node left.errors c.journals left.sending.went
    (inl (record { bodies = left.took.bodies; rest = left.took.rest; are_bodies = left.took.are_bodies; is_stream = left.took.is_stream; is_node = refl })) left.took.is_node.1 c.are_journals sent

whole_front : (hosts : ℕ) (bodies : List (List ℕ)) (rest taken : List ℕ) (node : Node) → AllByRecursion IsBody bodies → taken ≡ stream bodies rest → node ≡ with_frames hosts no_sessions bodies → TookFront hosts taken (λ (n : Node). node ≡ n)
whole_front hosts bodies rest taken node are is same = record { bodies = bodies; rest = rest; are_bodies = are; is_stream = is; is_node = same }

ended_whole : (node : Node) (place : ℕ) (rest : List ℕ) → rest ≡ [] → ended node place rest ≡ node
ended_whole node place rest none = ap (ended node place) none

-- the node of a run is one so far
node_so_far : (hosts : ℕ) (end : RunEnd) (taken : List ℕ) (left : Option (List ℕ)) (node : Node) → IsNodeOf hosts end taken left node → IsNodeSoFar hosts taken left node
node_so_far hosts Whole taken left node is =
    inl (whole_front hosts is.bodies is.rest taken node is.are_bodies is.is_stream (is.is_node ∙ ended_whole (with_frames hosts no_sessions is.bodies) _ is.rest is.ends.1))
node_so_far hosts Broken taken left node is = inr is
node_so_far hosts SourceFailed taken left node is = inl (whole_front hosts is.bodies is.rest taken node is.are_bodies is.is_stream is.is_node)
node_so_far hosts TooManyReads taken left node is = inl (whole_front hosts is.bodies is.rest taken node is.are_bodies is.is_stream is.is_node)

-- while what was left was done
pub stopped_fed : (meaning : Meaning) (hosts : ℕ) (gives : Answers) (queues : List SharedQueues) (start mid later now : Wire) (sessions : List OpenSession) (errors : List NodeError) (broken : Option ℕ) (end : IntakeEnd) (told : ℕ) (suffices then : Bool) (runs : List ServedSession)
    → (fed : IsFed hosts queues start mid sessions errors broken end told) → SendsOn true suffices mid later (error_units 1 (take told errors)) (error_units 1 (errors_after end broken errors))
    → ((ts : List Taken) → AreOpen ts sessions queues → AreClosed meaning hosts gives later now ts sessions suffices then runs) → IsStopped meaning hosts gives start now
stopped_fed meaning hosts gives queues start mid later now sessions errors broken end told suffices then runs fed tells closes =
    let ended_so = node_ended hosts fed.taken (left_of mid.line) (λ ts. AreOpen ts sessions queues) errors broken end fed.took fed.ends in
    let node = ended_so.0 in
    let c = closes node.sessions ended_so.3 in
    let sent = c.told start fed.taken (error_units 1 (errors_after end broken errors)) (tells start fed.taken [] (map read_units sessions) fed.sending) in
    stopped_at meaning hosts gives start mid now fed.taken fed.sending.sent node (errors_after end broken errors) c.journals fed.sending.went
    (node_so_far hosts (end_after end broken) fed.taken (left_of mid.line) node ended_so.1) ended_so.2 c.are_journals
    (sends_front then start now fed.taken (error_units 1 (errors_after end broken errors) ∷ session_units node.sessions c.journals) sent)

-- ---- by whether memory sufficed

pub match_both : {A E : Type 0} {P R : A → Type 0} {Q S : Type 0} (r : Result A E) → MatchResult r P (λ _. Q) → ((a : A) → P a → R a) → (Q → S) → MatchResult r R (λ _. S)
match_both (Ok a) is f g = f a is
match_both (Err e) is f g = g is

pub match_one : {A E : Type 0} {P : A → Type 0} {Q R : Type 0} (r : Result A E) → MatchResult r P (λ _. Q) → ((a : A) → P a → R) → (Q → R) → R
match_one (Ok a) is f g = f a is
match_one (Err e) is f g = g is

-- what was said of a call that gave no error
pub when_ok : {A E : Type 0} (P : Type 0) (r : Result A E) → OnOk r P → is_ok r ≡ true → P
when_ok P (Ok x) h is = h
when_ok P (Err e) h is = cc

-- what went over the link is told in both cases
pub match_went : {A E : Type 0} (start now : Wire) (P : A → List ℕ → List ℕ → Type 0) (Q : List ℕ → List ℕ → Type 0) (r : Result A E)
    → MatchResult r (λ a. (taken : List ℕ) × (sent : List ℕ) × WentOn start.line now.line taken sent × P a taken sent) (λ _. (taken : List ℕ) × (sent : List ℕ) × WentOn start.line now.line taken sent × Q taken sent)
    → (taken : List ℕ) × (sent : List ℕ) × WentOn start.line now.line taken sent × MatchResult r (λ a. P a taken sent) (λ _. Q taken sent)
match_went start now P Q (Ok a) is = is
match_went start now P Q (Err e) is = is

pub served_as : (meaning : Meaning) (n hosts : ℕ) (a gives : Answers) (start now : Wire) (end : LinkEnd) (errors : List NodeError) (runs : List ServedSession) → n ≡ hosts → gives ≡ a → IsReported meaning n a start now end errors runs
    → (taken : List ℕ) × (sent : List ℕ) × WentOn start.line now.line taken sent × HasServed meaning hosts gives end taken (left_of now.line) sent errors runs
served_as meaning n hosts a gives start now end errors runs same also r = (
  r.taken,
  r.sent,
  r.went,
  subst (λ k. HasServed meaning k gives end r.taken (left_of now.line) r.sent errors runs) same
      (subst (λ (b : Answers). HasServed meaning n b end r.taken (left_of now.line) r.sent errors runs) (sym also) r.served),
)

pub stopped_as : (meaning : Meaning) (n hosts : ℕ) (a gives : Answers) (start now : Wire) → n ≡ hosts → gives ≡ a → IsStopped meaning n a start now
    → (taken : List ℕ) × (sent : List ℕ) × WentOn start.line now.line taken sent × HasServedSoFar meaning hosts gives taken (left_of now.line) sent
stopped_as meaning n hosts a gives start now same also r = (
  r.taken,
  r.sent,
  r.went,
  subst (λ k. HasServedSoFar meaning k gives r.taken (left_of now.line) r.sent) same (subst (λ (b : Answers). HasServedSoFar meaning n b r.taken (left_of now.line) r.sent) (sym also) r.served),
)
