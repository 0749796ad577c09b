-- What is written if memory runs out at the frames of an error or of an entry.
use Rattle.std.proofs.Common.{◌≡◌, ℕ, suc, ◌+◌, ◌<◌, List, [], ◌∷◌, ◌++◌, length, take, drop, get_or, append_assoc, append-nil, Option, Result, Err, refl, ap, sym, ◌∙◌, subst, inl, inr, arith}
use Rattle.std.specs.List.{AllZip, sum_by}
use Rattle.std.proofs.lemmas.List.Sums.{sum_by-cons}
use Rattle.std.proofs.lemmas.List.{append_cancel_right, take-append-drop, drop_more, length-take-le, map-append}
use Rattle.nb_outside.specs.Streams.{Adds}
use Rattle.session_core.specs.declared.entry.Entry.{Entry}
use Rattle.session_core.specs.Meanings.{Meaning}
use Rattle.reply_frames.specs.declared.node.NodeError.{NodeError}
use Rattle.reply_frames.specs.Nodes.{frame_of}
use Rattle.reply_frames.specs.Replies.{entry_frames, entry_length}
use Rattle.node_intake.specs.Intake.{Taken, Node}
use Rattle.node_run.specs.declared.write.WriteFault.{WriteFault}
use Rattle.node_run.specs.Journals.{Answers, ServedSession, journal_of, journals_of, IsRunOf, AreRuns}
use Rattle.node_run.specs.Frames.{error_frames, journal_frames, session_frames, run_frames, written, AddsFront, AddsErrorsBefore, AddsEntriesFrom, AddsEntriesBefore, AddsJournalsBefore, AddsBefore, AddsRunsBefore, AddsServedBefore, WritesSoFar}
use Rattle.node_run.proofs.Streaming.{Adds-both, piece_written, front_second}
use Rattle.node_run.proofs.Framing.{error_first, error_end, entry_first, entry_end, run_first, run_end}

-- ---- frames of two lists, one after the other

errors_append : (first : ℕ) (xs ys : List NodeError) → error_frames first (xs ++ ys) ≡ error_frames first xs ++ error_frames (first + length xs) ys
errors_append first [] ys =
    let same : first ≡ first + 0 = omega arith in
    ap (λ (n : ℕ). error_frames n ys) same ∙ ap (λ z. z ++ error_frames (first + 0) ys) (sym (error_end first))
errors_append first (x ∷ xs) ys =
    let same : (first + 1) + length xs ≡ first + length (x ∷ xs) = omega arith in
    error_first first x (xs ++ ys) ∙ ap (λ z. frame_of first x ++ z) (errors_append (first + 1) xs ys)
    ∙ sym (append_assoc (frame_of first x) (error_frames (first + 1) xs) (error_frames ((first + 1) + length xs) ys))
    ∙ ap (λ z. z ++ error_frames ((first + 1) + length xs) ys) (sym (error_first first x xs))
    ∙ ap (λ (n : ℕ). error_frames first (x ∷ xs) ++ error_frames n ys) same

pub entries_append : (kernel first : ℕ) (xs ys : List Entry) → journal_frames kernel first (xs ++ ys) ≡ journal_frames kernel first xs ++ journal_frames kernel (first + sum_by entry_length xs) ys
entries_append kernel first [] ys =
    let same : first ≡ first + 0 = omega arith in
    ap (λ (n : ℕ). journal_frames kernel n ys) same ∙ ap (λ z. z ++ journal_frames kernel (first + 0) ys) (sym (entry_end kernel first))
entries_append kernel first (x ∷ xs) ys =
    let next : ℕ = first + entry_length x in
    let all : sum_by entry_length (x ∷ xs) ≡ entry_length x + sum_by entry_length xs = sum_by-cons entry_length x xs in
    let same : next + sum_by entry_length xs ≡ first + sum_by entry_length (x ∷ xs) = omega (arith, all) in
    entry_first kernel first x (xs ++ ys) ∙ ap (λ z. entry_frames kernel x first ++ z) (entries_append kernel next xs ys)
    ∙ sym (append_assoc (entry_frames kernel x first) (journal_frames kernel next xs) (journal_frames kernel (next + sum_by entry_length xs) ys))
    ∙ ap (λ z. z ++ journal_frames kernel (next + sum_by entry_length xs) ys) (sym (entry_first kernel first x xs))
    ∙ ap (λ (n : ℕ). journal_frames kernel first (x ∷ xs) ++ journal_frames kernel n ys) same

runs_append : (xs ys : List ServedSession) → run_frames (xs ++ ys) ≡ run_frames xs ++ run_frames ys
runs_append [] ys = ap (λ z. z ++ run_frames ys) (sym run_end)
runs_append (x ∷ xs) ys =
    let first : List ℕ = journal_frames x.0 1 (journal_of x) in
    run_first x (xs ++ ys) ∙ ap (λ z. first ++ z) (runs_append xs ys) ∙ sym (append_assoc first (run_frames xs) (run_frames ys))
    ∙ ap (λ z. z ++ run_frames ys) (sym (run_first x xs))

session_first : (s : Taken) (ss : List Taken) (es : List Entry) (js : List (List Entry)) → session_frames (s ∷ ss) (es ∷ js) ≡ journal_frames s.kernel 1 es ++ session_frames ss js
unfolding session_frames
session_first s ss es js = refl

session_none : (js : List (List Entry)) → session_frames [] js ≡ []
unfolding session_frames
session_none js = refl

sessions_append : (ss ts : List Taken) (js ks : List (List Entry)) → length ss ≡ length js → session_frames (ss ++ ts) (js ++ ks) ≡ session_frames ss js ++ session_frames ts ks
sessions_append [] ts [] ks e = ap (λ z. z ++ session_frames ts ks) (sym (session_none []))
sessions_append [] ts (j ∷ js) ks e = absurd (omega (arith, e))
sessions_append (s ∷ ss) ts [] ks e = absurd (omega (arith, e))
sessions_append (s ∷ ss) ts (j ∷ js) ks e =
    let first : List ℕ = journal_frames s.kernel 1 j in
    session_first s (ss ++ ts) j (js ++ ks) ∙ ap (λ z. first ++ z) (sessions_append ss ts js ks (omega (arith, e)))
    ∙ sym (append_assoc first (session_frames ss js) (session_frames ts ks)) ∙ ap (λ z. z ++ session_frames ts ks) (sym (session_first s ss j js))

-- ---- in a loop over a list: what was written is of the elements before

written_is : (old now : Option (List ℕ)) (all before rest : List ℕ) → WritesSoFar old now all rest → all ≡ before ++ rest → Adds old now before
written_is old now all before rest w is = subst (Adds old now) (append_cancel_right w.done before rest (sym w.parts ∙ is)) w.adds

pub gathered_is : (old mid new : Option (List ℕ)) (all before had rest : List ℕ) → WritesSoFar old mid all (had ++ rest) → all ≡ before ++ rest → Adds mid new had → Adds old new before
gathered_is old mid new all before had rest w is adds = written_is old new all before rest (piece_written old mid new all (had ++ rest) had rest w refl adds) is

-- the fault of one call, as that of another
pub fault_alike : {A B : Type 0} (e f : WriteFault) → ◌≡◌ {A = Result A WriteFault} (Err e) (Err f) → ◌≡◌ {A = Result B WriteFault} (Err e) (Err f)
fault_alike e f is = let same : e ≡ f = cc is in ap (λ x. Err x) same

-- a list, cut at one of its elements
cut_at : {A : Type 0} (xs : List A) (at : ℕ) (x : A) → at < length xs → x ≡ get_or xs at x → xs ≡ take at xs ++ x ∷ drop (at + 1) xs
cut_at xs at x within is = sym (take-append-drop at xs) ∙ ap (λ ys. take at xs ++ ys) (drop_more xs at x within ∙ ap (λ y. y ∷ drop (at + 1) xs) (sym is))

pub stops_in_errors : (old mid new : Option (List ℕ)) (errors : List NodeError) (at : ℕ) (e : NodeError) → at < length errors → e ≡ get_or errors at e
    → WritesSoFar old mid (error_frames 1 errors) (error_frames (at + 1) (drop at errors)) → Adds mid new [] → AddsErrorsBefore old new errors
stops_in_errors old mid new errors at e within is w none =
    let before : List NodeError = take at errors in
    let n = length-take-le at errors (omega (arith, within)) in
    let first : 1 + length before ≡ at + 1 = omega (arith, n) in
    let split = ap (error_frames 1) (sym (take-append-drop at errors)) ∙ errors_append 1 before (drop at errors) ∙ ap (λ (k : ℕ). error_frames 1 before ++ error_frames k (drop at errors)) first in
    let done : Adds old mid (error_frames 1 before) = written_is old mid (error_frames 1 errors) (error_frames 1 before) (error_frames (at + 1) (drop at errors)) w split in
    record {
      before = before;
      failed = e;
      later = drop (at + 1) errors;
      parts = cut_at errors at e within is;
      adds = subst (Adds old new) (append-nil (error_frames 1 before)) (Adds-both old mid new (error_frames 1 before) [] done none);
    }

pub stops_in_entries : (old mid new : Option (List ℕ)) (kernel first : ℕ) (entries : List Entry) (at running : ℕ) (e : Entry) (gathered : List ℕ) → at < length entries → e ≡ get_or entries at e
    → running ≡ first + sum_by entry_length (take at entries) → WritesSoFar old mid (journal_frames kernel first entries) (gathered ++ journal_frames kernel running (drop at entries))
    → Adds mid new gathered → AddsEntriesFrom old new kernel first entries
stops_in_entries old mid new kernel first entries at running e gathered within is runs w adds =
    let before : List Entry = take at entries in
    let split = ap (journal_frames kernel first) (sym (take-append-drop at entries)) ∙ entries_append kernel first before (drop at entries)
    ∙ ap (λ (k : ℕ). journal_frames kernel first before ++ journal_frames kernel k (drop at entries)) (sym runs) in
    record {
      before = before;
      failed = e;
      later = drop (at + 1) entries;
      parts = cut_at entries at e within is;
      adds = gathered_is old mid new (journal_frames kernel first entries) (journal_frames kernel first before) gathered (journal_frames kernel running (drop at entries)) w split adds;
    }

pub stops_in_runs : (old mid new : Option (List ℕ)) (runs : List ServedSession) (at : ℕ) (r : ServedSession) → at < length runs → r ≡ get_or runs at r
    → WritesSoFar old mid (run_frames runs) (run_frames (drop at runs)) → AddsEntriesBefore mid new r.0 (journal_of r) → AddsRunsBefore old new runs
stops_in_runs old mid new runs at r within is w then =
    let before : List ServedSession = take at runs in
    let split = ap run_frames (sym (take-append-drop at runs)) ∙ runs_append before (drop at runs) in
    record {
      before = before;
      run = r;
      later = drop (at + 1) runs;
      parts = cut_at runs at r within is;
      between = mid;
      first = written_is old mid (run_frames runs) (run_frames before) (run_frames (drop at runs)) w split;
      then = then;
    }

-- ---- from the sessions that were served to those of the node

record IsZipped (R : Taken → ServedSession → Type 0) (ss : List Taken) (before : List ServedSession) (run : ServedSession) : Type 0 where
  front : List Taken
  here : Taken
  back : List Taken
  parts : ss ≡ front ++ here ∷ back
  zips : AllZip R front before
  is : R here run

zipped : (R : Taken → ServedSession → Type 0) (ss : List Taken) (before : List ServedSession) (run : ServedSession) (later : List ServedSession) → AllZip R ss (before ++ run ∷ later) → IsZipped R ss before run
zipped R [] [] run later are = absurd are
zipped R (s ∷ ss) [] run later are = record { front = []; here = s; back = ss; parts = refl; zips = tt; is = are.0 }
zipped R [] (b ∷ before) run later are = absurd are
zipped R (s ∷ ss) (b ∷ before) run later are =
    let z = zipped R ss before run later are.1 in
    record { front = s ∷ z.front; here = z.here; back = z.back; parts = ap (λ ys. s ∷ ys) z.parts; zips = (are.0, z.zips); is = z.is }

zip_length : (R : Taken → ServedSession → Type 0) (ss : List Taken) (rs : List ServedSession) → AllZip R ss rs → length ss ≡ length (journals_of rs)
zip_length R [] [] are = refl
zip_length R [] (r ∷ rs) are = absurd are
zip_length R (s ∷ ss) [] are = absurd are
zip_length R (s ∷ ss) (r ∷ rs) are = ap suc (zip_length R ss rs are.1)

module _ (meaning : Meaning) (hosts : ℕ) (gives : Answers) where
  frames_alike : (ss : List Taken) (rs : List ServedSession) → AreRuns meaning hosts gives ss rs → run_frames rs ≡ session_frames ss (journals_of rs)
  frames_alike [] [] are = run_end ∙ sym (session_none [])
  frames_alike [] (r ∷ rs) are = absurd are
  frames_alike (s ∷ ss) [] are = absurd are
  frames_alike (s ∷ ss) (r ∷ rs) are =
      run_first r rs ∙ ap (λ (k : ℕ). journal_frames k 1 (journal_of r) ++ run_frames rs) are.0.0
      ∙ ap (λ z. journal_frames s.kernel 1 (journal_of r) ++ z) (frames_alike ss rs are.1) ∙ sym (session_first s ss (journal_of r) (journals_of rs))

  journals_before : (old new : Option (List ℕ)) (ss : List Taken) (rs : List ServedSession) → AreRuns meaning hosts gives ss rs → AddsRunsBefore old new rs → AddsJournalsBefore old new ss (journals_of rs)
  journals_before old new ss rs are b =
      let z = zipped (IsRunOf meaning hosts gives) ss b.before b.run b.later (subst (AllZip (IsRunOf meaning hosts gives) ss) b.parts are) in
      record {
        sessions_before = z.front;
        session = z.here;
        sessions_later = z.back;
        are_sessions = z.parts;
        journals_before = journals_of b.before;
        journal = journal_of b.run;
        journals_later = journals_of b.later;
        are_journals = ap journals_of b.parts ∙ map-append journal_of b.before (b.run ∷ b.later);
        alike = zip_length (IsRunOf meaning hosts gives) z.front b.before z.zips;
        between = b.between;
        first = subst (Adds old b.between) (frames_alike z.front b.before z.zips) b.first;
        then = subst (λ (k : ℕ). AddsEntriesBefore b.between new k (journal_of b.run)) z.is.0 b.then;
      }

  pub node_before : (old new : Option (List ℕ)) (node : Node) (errors : List NodeError) (rs : List ServedSession) → errors ≡ node.errors → AreRuns meaning hosts gives node.sessions rs
      → AddsServedBefore old new errors rs → AddsBefore old new node (journals_of rs)
  node_before old new node errors rs same are (inl in_errors) = inl (subst (AddsErrorsBefore old new) same in_errors)
  node_before old new node errors rs same are (inr (mid, adds, in_runs)) =
      inr (mid, subst (λ es. Adds old mid (error_frames 1 es)) same adds, journals_before mid new node.sessions rs are in_runs)

-- ---- it is a beginning of what was to be written

front_of_errors : (old new : Option (List ℕ)) (errors : List NodeError) (more : List ℕ) → AddsErrorsBefore old new errors → AddsFront old new (error_frames 1 errors ++ more)
front_of_errors old new errors more b =
    let back : List ℕ = error_frames (1 + length b.before) (b.failed ∷ b.later) in (
      error_frames 1 b.before,
      back ++ more,
      ap (λ es. error_frames 1 es ++ more) b.parts ∙ ap (λ z. z ++ more) (errors_append 1 b.before (b.failed ∷ b.later)) ∙ append_assoc (error_frames 1 b.before) back more,
      b.adds,
    )

front_of_entries : (old new : Option (List ℕ)) (kernel : ℕ) (entries : List Entry) (more : List ℕ) → AddsEntriesBefore old new kernel entries → AddsFront old new (journal_frames kernel 1 entries ++ more)
front_of_entries old new kernel entries more b =
    let back : List ℕ = journal_frames kernel (1 + sum_by entry_length b.before) (b.failed ∷ b.later) in (
      journal_frames kernel 1 b.before,
      back ++ more,
      ap (λ es. journal_frames kernel 1 es ++ more) b.parts ∙ ap (λ z. z ++ more) (entries_append kernel 1 b.before (b.failed ∷ b.later))
          ∙ append_assoc (journal_frames kernel 1 b.before) back more,
      b.adds,
    )

front_of_journals : (old new : Option (List ℕ)) (ss : List Taken) (js : List (List Entry)) → AddsJournalsBefore old new ss js → AddsFront old new (session_frames ss js)
front_of_journals old new ss js b =
    let more : List ℕ = session_frames b.sessions_later b.journals_later in
    let rest = front_of_entries b.between new b.session.kernel b.journal more b.then in
    subst (AddsFront old new)
    (ap (λ z. session_frames b.sessions_before b.journals_before ++ z) (sym (session_first b.session b.sessions_later b.journal b.journals_later))
    ∙ sym (sessions_append b.sessions_before (b.session ∷ b.sessions_later) b.journals_before (b.journal ∷ b.journals_later) b.alike)
    ∙ ap (λ zs. session_frames zs (b.journals_before ++ b.journal ∷ b.journals_later)) (sym b.are_sessions) ∙ ap (session_frames ss) (sym b.are_journals))
    (front_second old b.between new (session_frames b.sessions_before b.journals_before) (journal_frames b.session.kernel 1 b.journal ++ more) b.first rest)

pub front_of : (old new : Option (List ℕ)) (node : Node) (journals : List (List Entry)) → AddsBefore old new node journals → AddsFront old new (written node journals)
front_of old new node journals (inl in_errors) = front_of_errors old new node.errors (session_frames node.sessions journals) in_errors
front_of old new node journals (inr (mid, adds, in_journals)) =
    front_second old mid new (error_frames 1 node.errors) (session_frames node.sessions journals) adds (front_of_journals mid new node.sessions journals in_journals)
