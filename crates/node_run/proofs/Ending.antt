-- How a run ends, and what it did then.
use Rattle.std.proofs.Common.{◌≡◌, ◌≢◌, ℕ, List, [], ◌∷◌, ◌++◌, length, Option, Some, None, Result, Ok, Err, refl, ap, sym, ◌∙◌, subst, ◌⊎◌, inl, inr, arith}
use Rattle.std.specs.Prelude.{IfOk, ◌==◌, cond}
use Rattle.std.specs.List.{flat_map}
use Rattle.nb_outside.specs.Streams.{Adds, Takes}
use Rattle.jupyter_frames.specs.Framing.{frame, IsBad, place_after}
use Rattle.session_core.specs.Meanings.{Meaning}
use Rattle.reply_frames.specs.declared.node.NodeError.{NodeError}
use Rattle.reply_frames.specs.declared.node.NodeErrorKind.TheVariants as kind
use Rattle.node_intake.specs.Intake.{Taken, Node, no_sessions, failed, with_frames, ended, node_of}
use Rattle.node_intake.specs.declared.session.IntakeEnd.{IntakeEnd}
use Rattle.node_intake.specs.declared.session.IntakeEnd.TheVariants as intake
use Rattle.node_intake.specs.Taking.{HasTaken, EndsSo}
use Rattle.node_run.specs.declared.end.RunEnd.{RunEnd}
use Rattle.node_run.specs.declared.end.RunEnd.TheVariants.{Whole, Broken, SourceFailed, TooManyReads}
use Rattle.node_run.specs.Journals.{Answers, ServedSession, journal_of, journals_of, AreRuns, AreJournals}
use Rattle.node_run.specs.Frames.{journal_frames, session_frames, run_frames, error_frames, AddsFront, AddsServedBefore}
use Rattle.nb_outside.specs.Counts.{HasRisen, HasRisenBy}
use Rattle.node_run.specs.Ends.{status_of, node_at, EndsAt, IsCaused, end_after, errors_after}
use Rattle.node_run.specs.Streams.{IsNodeOf, HasRun, Writes, StreamsTold}
use Rattle.node_run.proofs.Streaming.{Adds-none}
use Rattle.node_run.proofs.Stopping.{node_before}

-- ---- the node of a run

ended_none : (node : Node) (place : ℕ) (rest : List ℕ) → rest ≡ [] → ended node place rest ≡ node
ended_none node place rest none = ap (ended node place) none

ended_some : (node : Node) (place : ℕ) (rest : List ℕ) → rest ≢ [] → ended node place rest ≡ failed node (kind.BadFrame place) None
ended_some node place [] some = absurd (some refl)
ended_some node place (byte ∷ rest) some = refl

-- a node with these sessions and errors
record Agrees (node : Node) (sessions : List Taken) (errors : List NodeError) : Type 0 where
  are_sessions : sessions ≡ node.sessions
  are_errors : errors ≡ node.errors

same_node : (node other : Node) (sessions : List Taken) (errors : List NodeError) → other ≡ node → Agrees node sessions errors → Agrees other sessions errors
same_node node other sessions errors is agrees = subst (λ (n : Node). Agrees n sessions errors) (sym is) agrees

no_bad : (rest : List ℕ) (n : ℕ) → rest ≡ [] → IsBad rest n → ⊥
no_bad rest n none bad = let l = ap length none in omega (arith, l, bad.0)

abbrev IsBrokenAt : List ℕ → ℕ → Option ℕ → Type 0
IsBrokenAt rest place broken = ((rest ≡ []) × (broken ≡ None)) ⊎ ((rest ≢ []) × (broken ≡ Some place))

ends_at : (end : IntakeEnd) (left : Option (List ℕ)) (rest : List ℕ) (place : ℕ) (broken : Option ℕ) → EndsSo end left rest → IsBrokenAt rest place broken → EndsAt (end_after end broken) left rest
ends_at intake.End left rest place None (inl p) (inl none) = (p.0, none.0)
ends_at intake.End left rest place None (inr bad) (inl none) = absurd (no_bad rest bad.0 none.0 bad.1)
ends_at intake.End left rest place None ends (inr some) = cc
ends_at intake.End left rest place (Some p) ends (inl none) = cc
ends_at intake.End left rest place (Some p) ends (inr some) = (some.0, ends)
ends_at intake.Failed left rest place broken ends is = ends
ends_at intake.TooMany left rest place broken ends is = ends

node_agrees : (end : IntakeEnd) (hosts : ℕ) (bodies : List (List ℕ)) (rest : List ℕ) (broken : Option ℕ) (sessions : List Taken) (errors : List NodeError)
    → IsBrokenAt rest (place_after 0 (length (flat_map frame bodies))) broken → Agrees (with_frames hosts no_sessions bodies) sessions errors
    → Agrees (node_at (end_after end broken) hosts bodies rest) sessions (errors_after end broken errors)
node_agrees intake.End hosts bodies rest None sessions errors (inl none) agrees =
    same_node (with_frames hosts no_sessions bodies) (node_of hosts bodies rest) sessions errors (ended_none (with_frames hosts no_sessions bodies) _ rest none.0) agrees
node_agrees intake.End hosts bodies rest None sessions errors (inr some) agrees = cc
node_agrees intake.End hosts bodies rest (Some p) sessions errors (inl none) agrees = cc
node_agrees intake.End hosts bodies rest (Some p) sessions errors (inr some) agrees =
    let node = with_frames hosts no_sessions bodies in
    let place = place_after 0 (length (flat_map frame bodies)) in
    let same : p ≡ place = cc in
    same_node (failed node (kind.BadFrame place) None) (node_of hosts bodies rest) sessions _ (ended_some node place rest some.0) (record {
      are_sessions = agrees.are_sessions;
      are_errors = ap (λ es. es ++ record { kind = kind.BadFrame p; about = None } ∷ []) agrees.are_errors
          ∙ ap (λ q. node.errors ++ record { kind = kind.BadFrame q; about = None } ∷ []) same;
    })
node_agrees intake.Failed hosts bodies rest broken sessions errors is agrees = agrees
node_agrees intake.TooMany hosts bodies rest broken sessions errors is agrees = agrees

-- the node, with the errors and the desk that it had when reading ended
pub node_ended : (hosts : ℕ) (bytes : List ℕ) (left : Option (List ℕ)) (IsDesk : List Taken → Type 0) (before : List NodeError) (broken : Option ℕ) (end : IntakeEnd)
    → (taken : HasTaken hosts bytes (λ node. IsDesk node.sessions × (before ≡ node.errors)) broken) → EndsSo end left taken.rest
    → (node : Node) × IsNodeOf hosts (end_after end broken) bytes left node × (errors_after end broken before ≡ node.errors) × IsDesk node.sessions
node_ended hosts bytes left IsDesk before broken end taken ends =
    let plain_node : Node = with_frames hosts no_sessions taken.bodies in
    let plain : Agrees plain_node plain_node.sessions before = record { are_sessions = refl; are_errors = taken.node.1 } in
    let agrees = node_agrees end hosts taken.bodies taken.rest broken plain_node.sessions before taken.broken plain in (
      node_at (end_after end broken) hosts taken.bodies taken.rest,
      record {
        bodies = taken.bodies;
        rest = taken.rest;
        are_bodies = taken.are_bodies;
        is_rest = taken.is_rest;
        is_stream = taken.is_stream;
        is_node = refl;
        ends = ends_at end left taken.rest _ broken ends taken.broken;
      },
      agrees.are_errors,
      subst IsDesk agrees.are_sessions taken.node.0,
    )

pub has_run : (meaning : Meaning) (hosts : ℕ) (gives : Answers) (bytes : List ℕ) (left : Option (List ℕ)) (IsDesk : List Taken → Type 0) (before : List NodeError) (broken : Option ℕ) (end : IntakeEnd) (run_end : RunEnd)
    (errors : List NodeError) (runs : List ServedSession) → (taken : HasTaken hosts bytes (λ node. IsDesk node.sessions × (before ≡ node.errors)) broken) → EndsSo end left taken.rest → run_end ≡ end_after end broken
    → errors ≡ errors_after end broken before → ((ts : List Taken) → IsDesk ts → AreRuns meaning hosts gives ts runs) → HasRun meaning hosts gives run_end bytes left errors runs
has_run meaning hosts gives bytes left IsDesk before broken end run_end errors runs taken ends is are_errors are_runs =
    let n = node_ended hosts bytes left IsDesk before broken end taken ends in
    subst (λ (e : RunEnd). HasRun meaning hosts gives e bytes left errors runs) (sym is) (record {
      node = n.0;
      is_node = n.1;
      errors_are = are_errors ∙ n.2;
      are_runs = are_runs n.0.sessions n.3;
    })

pub failed_end : (end : IntakeEnd) (broken : Option ℕ) → end_after end broken ≡ SourceFailed → end ≡ intake.Failed
failed_end intake.End None e = cc
failed_end intake.End (Some place) e = cc
failed_end intake.Failed broken e = refl
failed_end intake.TooMany broken e = cc

pub many_end : (end : IntakeEnd) (broken : Option ℕ) → end_after end broken ≡ TooManyReads → end ≡ intake.TooMany
many_end intake.End None e = cc
many_end intake.End (Some place) e = cc
many_end intake.Failed broken e = cc
many_end intake.TooMany broken e = refl

-- what follows from facts of the Ok case
pub if_ok : {A E : Type 0} {P Q : A → Type 0} (r : Result A E) → IfOk r P → ((x : A) → P x → Q x) → IfOk r Q
if_ok (Ok x) p f = f x p
if_ok (Err e) p f = tt

pub if_ok_three : {A E : Type 0} {P Q R S : A → Type 0} (r : Result A E) → IfOk r P → IfOk r Q → IfOk r R → ((x : A) → P x → Q x → R x → S x) → IfOk r S
if_ok_three (Ok x) p q s f = f x p q s
if_ok_three (Err e) p q s f = tt

pub if_ok_all : {A E X : Type 0} (P : A → X → Type 0) (Q : X → Type 0) (r : Result A E) → ((x : X) → Q x → IfOk r (λ a. P a x)) → IfOk r (λ a. (x : X) → Q x → P a x)
if_ok_all P Q (Ok a) h = h
if_ok_all P Q (Err e) h = tt

-- ---- what is written of it

pub are_journals : (meaning : Meaning) (hosts : ℕ) (gives : Answers) (ss : List Taken) (runs : List ServedSession) → AreRuns meaning hosts gives ss runs → AreJournals meaning hosts gives ss (journals_of runs)
are_journals meaning hosts gives [] [] are = tt
are_journals meaning hosts gives [] (r ∷ runs) are = absurd are
are_journals meaning hosts gives (s ∷ ss) [] are = absurd are
are_journals meaning hosts gives (s ∷ ss) (r ∷ runs) are = (are.0.1, are_journals meaning hosts gives ss runs are.1)

same_frames : (meaning : Meaning) (hosts : ℕ) (gives : Answers) (ss : List Taken) (runs : List ServedSession) → AreRuns meaning hosts gives ss runs → run_frames runs ≡ session_frames ss (journals_of runs)
unfolding run_frames session_frames
same_frames meaning hosts gives [] [] are = refl
same_frames meaning hosts gives [] (r ∷ runs) are = absurd are
same_frames meaning hosts gives (s ∷ ss) [] are = absurd are
same_frames meaning hosts gives (s ∷ ss) (r ∷ runs) are =
    ap (λ k. journal_frames k 1 (journal_of r) ++ run_frames runs) are.0.0 ∙ ap (λ z. journal_frames s.kernel 1 (journal_of r) ++ z) (same_frames meaning hosts gives ss runs are.1)

pub same_written : (es fs : List NodeError) (rs ss : List ServedSession) → es ≡ fs → rs ≡ ss → error_frames 1 es ++ run_frames rs ≡ error_frames 1 fs ++ run_frames ss
same_written es fs rs ss p q = ap (λ z. error_frames 1 z ++ run_frames rs) p ∙ ap (λ z. error_frames 1 fs ++ run_frames z) q

pub same_served : (a b : Option (List ℕ)) (es fs : List NodeError) (rs ss : List ServedSession) → es ≡ fs → rs ≡ ss → AddsServedBefore a b es rs → AddsServedBefore a b fs ss
same_served a b es fs rs ss p q adds = subst (λ zs. AddsServedBefore a b fs zs) q (subst (λ zs. AddsServedBefore a b zs rs) p adds)

writes_of : (meaning : Meaning) (hosts : ℕ) (gives : Answers) (end : RunEnd) (bytes : List ℕ) (left : Option (List ℕ)) (errors : List NodeError) (runs : List ServedSession) (IsAdded : List ℕ → Type 0)
    → HasRun meaning hosts gives end bytes left errors runs → IsAdded (error_frames 1 errors ++ run_frames runs) → Writes meaning hosts gives end bytes left IsAdded
writes_of meaning hosts gives end bytes left errors runs IsAdded run adds = record {
  node = run.node;
  journals = journals_of runs;
  is_node = run.is_node;
  are_journals = are_journals meaning hosts gives run.node.sessions runs run.are_runs;
  added = subst IsAdded (ap (λ es. error_frames 1 es ++ run_frames runs) run.errors_are ∙ ap (λ z. error_frames 1 run.node.errors ++ z) (same_frames meaning hosts gives run.node.sessions runs run.are_runs)) adds;
}

-- ---- statuses

end_of : ℕ → RunEnd
end_of n = cond (n == 0) Whole (cond (n == 2) Broken (cond (n == 3) SourceFailed TooManyReads))

same_again : (end : RunEnd) → end_of (status_of end) ≡ end
unfolding end_of
same_again Whole = refl
same_again Broken = refl
same_again SourceFailed = refl
same_again TooManyReads = refl

same_end : (a b : RunEnd) → status_of a ≡ status_of b → a ≡ b
same_end a b e = sym (same_again a) ∙ ap end_of e ∙ same_again b

not_four : (end : RunEnd) → status_of end ≡ 4 → ⊥
not_four Whole e = omega (arith, e)
not_four Broken e = omega (arith, e)
not_four SourceFailed e = omega (arith, e)
not_four TooManyReads e = omega (arith, e)

not_five : (end : RunEnd) → status_of end ≡ 5 → ⊥
not_five Whole e = omega (arith, e)
not_five Broken e = omega (arith, e)
not_five SourceFailed e = omega (arith, e)
not_five TooManyReads e = omega (arith, e)

pub caused_by : (faults_old faults_new reads_old reads_new : ℕ) (end : RunEnd) → (end ≡ SourceFailed → HasRisen faults_old faults_new) → (end ≡ TooManyReads → HasRisenBy 4294967295 reads_old reads_new)
    → IsCaused faults_old faults_new reads_old reads_new end
caused_by faults_old faults_new reads_old reads_new Whole failed many = tt
caused_by faults_old faults_new reads_old reads_new Broken failed many = tt
caused_by faults_old faults_new reads_old reads_new SourceFailed failed many = failed refl
caused_by faults_old faults_new reads_old reads_new TooManyReads failed many = many refl

-- ---- a run over a source that tells

-- nothing was written
pub told_nothing : (meaning : Meaning) (hosts : ℕ) (gives : Answers) (caused : RunEnd → Type 0) (old new sink : Option (List ℕ)) (bytes : List ℕ) → Takes old new bytes → StreamsTold meaning hosts gives caused 5 old new sink sink
told_nothing meaning hosts gives caused None new sink bytes t = t
told_nothing meaning hosts gives caused (Some had) new sink bytes (rest, parts, is) = (
  bytes,
  rest,
  parts,
  is,
  record {
    whole = λ end e. absurd (not_five end (sym e));
    cut = λ e. absurd (omega (arith, e));
    short = λ e. inl (Adds-none sink);
  },
)

-- all was written
pub told_all : (meaning : Meaning) (hosts : ℕ) (gives : Answers) (caused : RunEnd → Type 0) (status : ℕ) (end : RunEnd) (old new a b : Option (List ℕ)) (bytes : List ℕ) (errors : List NodeError) (runs : List ServedSession) → status ≡ status_of end → Takes old new bytes
    → HasRun meaning hosts gives end bytes new errors runs → Adds a b (error_frames 1 errors ++ run_frames runs) → caused end → StreamsTold meaning hosts gives caused status old new a b
told_all meaning hosts gives caused status end None new a b bytes errors runs same t run adds why = t
told_all meaning hosts gives caused status end (Some had) new a b bytes errors runs same (rest, parts, is) run adds why =
    let told = subst (λ l. HasRun meaning hosts gives end bytes l errors runs) is run in (
      bytes,
      rest,
      parts,
      is,
      record {
        whole = λ other e. subst (λ (n : RunEnd). caused n × Writes meaning hosts gives n bytes (Some rest) (Adds a b)) (same_end end other (sym same ∙ e)) (why, writes_of meaning hosts gives end bytes (Some rest) errors runs (Adds a b) told adds);
        cut = λ e. absurd (not_four end (sym same ∙ e));
        short = λ e. absurd (not_five end (sym same ∙ e));
      },
    )

-- some of it was written, and the sink met a fault
pub told_cut : (meaning : Meaning) (hosts : ℕ) (gives : Answers) (caused : RunEnd → Type 0) (end : RunEnd) (old new a b : Option (List ℕ)) (bytes : List ℕ) (errors : List NodeError) (runs : List ServedSession) → Takes old new bytes
    → HasRun meaning hosts gives end bytes new errors runs → AddsFront a b (error_frames 1 errors ++ run_frames runs) → caused end → StreamsTold meaning hosts gives caused 4 old new a b
told_cut meaning hosts gives caused end None new a b bytes errors runs t run adds why = t
told_cut meaning hosts gives caused end (Some had) new a b bytes errors runs (rest, parts, is) run adds why =
    let told = subst (λ l. HasRun meaning hosts gives end bytes l errors runs) is run in (
      bytes,
      rest,
      parts,
      is,
      record {
        whole = λ other e. absurd (not_four other (sym e));
        cut = λ e. (end, why, writes_of meaning hosts gives end bytes (Some rest) errors runs (AddsFront a b) told adds);
        short = λ e. absurd (omega (arith, e));
      },
    )

-- memory ran out at some frames, and all before were written
pub told_short : (meaning : Meaning) (hosts : ℕ) (gives : Answers) (caused : RunEnd → Type 0) (end : RunEnd) (old new a b : Option (List ℕ)) (bytes : List ℕ) (errors : List NodeError) (runs : List ServedSession) → Takes old new bytes
    → HasRun meaning hosts gives end bytes new errors runs → AddsServedBefore a b errors runs → caused end → StreamsTold meaning hosts gives caused 5 old new a b
told_short meaning hosts gives caused end None new a b bytes errors runs t run adds why = t
told_short meaning hosts gives caused end (Some had) new a b bytes errors runs (rest, parts, is) run adds why =
    let told = subst (λ l. HasRun meaning hosts gives end bytes l errors runs) is run in (
      bytes,
      rest,
      parts,
      is,
      record {
        whole = λ other e. absurd (not_five other (sym e));
        cut = λ e. absurd (omega (arith, e));
        short = λ e. inr (
          end,
          why,
          record {
            node = told.node;
            journals = journals_of runs;
            is_node = told.is_node;
            are_journals = are_journals meaning hosts gives told.node.sessions runs told.are_runs;
            added = node_before meaning hosts gives a b told.node errors runs told.errors_are told.are_runs adds;
          },
        );
      },
    )
