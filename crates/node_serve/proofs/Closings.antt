-- Sessions are closed one after the other.
use Rattle.std.proofs.Common.{◌≡◌, ℕ, ◌+◌, ◌≤◌, Bool, true, false, true≢false, cond, List, [], ◌∷◌, ◌++◌, length, map, take, Option, Some, None, refl, sym, ap, ◌∙◌, subst, append_assoc, length-append, arith}
use Rattle.std.specs.Prelude.{slice_get, drop}
use mathlib.Core.List.{reverse}
use Rattle.std.proofs.lemmas.List.{append-nil, length-reverse, reverse-reverse}
use Rattle.std.proofs.lemmas.Slice.Zip.{all_zipped_more}
use Rattle.nb_outside.specs.declared.feed.Drawn.{Drawn}
use Rattle.nb_outside.specs.Feeds.{Seen as SeenFeed}
use Rattle.session_core.specs.declared.entry.Entry.{Entry}
use Rattle.session_core.specs.Meanings.{Meaning}
use Rattle.session_core.specs.Legal.{IsLegal, asked, main_asked, control_asked}
use Rattle.session_core.specs.Feeding.{HasFed, AreFirstAnswers, drawn_in}
use Rattle.session_core.proofs.Feeding.{first_answers}
use Rattle.session_queues.specs.declared.shared.SharedQueues.{SharedQueues}
use Rattle.session_queues.specs.Ends.{OnOut, FoundNothing, HasWaiting}
use Rattle.session_gate.specs.Answered.{opening_of, as_main}
use Rattle.session_gate.specs.Facts.{Holds}
use Rattle.session_gate.specs.Custodies.{IsFinished}
use Rattle.host_workers.specs.Tables.{AreNumbered, IsTable}
use Rattle.node_intake.specs.Intake.{Taken}
use Rattle.node_run.specs.declared.open_session.OpenSession.{OpenSession}
use Rattle.node_run.specs.Admitted.{IsOpen, AreOpen, AreSeated}
use Rattle.node_run.specs.Journals.{Answers, IsJournalOf, ServedSession, journal_of, journals_of, IsRunOf, AreRuns}
use Rattle.node_run.specs.Unsent.{entries_of, read_of, IsCounted, AreCounted, IsReaderOf, AreReadable}
use Rattle.node_run.proofs.Asking.{main_begins, control_begins, main_requests_begin, begins}
use Rattle.node_run.proofs.Seating.{drop_rest}
use Rattle.node_run.proofs.Serving.{is_journal, next_of, same_queues, open_first, open_none}
use Rattle.node_serve.specs.Units.{entry_units, session_units, read_units, run_units}
use Rattle.node_serve.specs.Sent.{Wire, SendsWhile, SendsOn}
use Rattle.node_serve.specs.Links.{IsJournalSoFar, AreJournalsSoFar}
use Rattle.node_serve.specs.Closing.{IsTakenBack, IsCutShort, Closes, AreClosed}
use Rattle.node_serve.proofs.Sendings.{front_sent, sends_longer, sends_none, sends_short, sends_as}
use Rattle.node_serve.proofs.Tellings.{entries_front}

-- ---- a reader is closed

module _ {E F : Type 0} (seen : F → SeenFeed) where
  so_far : (meaning : Meaning) (hosts : ℕ) (gives : Answers) (q : SharedQueues) (number : ℕ) (s : Taken) (o : OpenSession) (h : Holds E F) → IsOpen q s o → IsFinished hosts q number o.pass gives seen h → HasWaiting h.ends
      → IsLegal meaning h.hosts h.entries → HasFed (seen h.feed).made h.entries (seen h.feed) → IsJournalSoFar meaning hosts (gives s.kernel) s h.entries
  so_far meaning hosts gives q number s o h is fin waits legal fed =
      let main = main_begins h.kernel h.entries h.ends fin.1 waits _ (fin.5 ∙ ap (λ p. p.main.lists) is.pass) (fin.6 ∙ ap (λ p. p.main.given) is.pass) in
      let control = control_begins h.kernel h.entries h.ends fin.1 waits _ (fin.7 ∙ ap (λ p. p.control.lists) is.pass) (fin.8 ∙ ap (λ p. p.control.given) is.pass) in
      let first = begins meaning h.hosts s.kernel h.kernel h.entries s.host s.request s.channel (as_main s.requests) (as_main (asked h.entries) ++ main.0) legal (main.1 ∙ append_assoc (opening_of h.kernel h.entries) (as_main (asked h.entries)) main.0) in
      let more = main_requests_begin s.kernel s.host s.request s.channel s.requests h.kernel h.entries main.0 main.1 in
      record {
        legal = subst (λ n. IsLegal meaning n h.entries) fin.4 legal;
        begins = first.1;
        main = more;
        control = control;
        settled = fin.0;
        fed = subst (λ a. AreFirstAnswers a (drawn_in h.entries)) (fin.9 ∙ ap gives first.0) (first_answers (seen h.feed).made h.entries (seen h.feed) fed);
      }

  -- the journal goes on after what was read
  pub parts_still : (h k : Holds E F) (read entries : List Entry) → k ≡ record h { out = k.out } → entries ≡ k.entries → ((rest : List Entry) × (h.entries ≡ read ++ rest)) → (rest : List Entry) × (entries ≡ read ++ rest)
  parts_still h k read entries same are parts = (parts.0, are ∙ ap (λ (x : Holds E F). x.entries) same ∙ parts.1)

  -- it is the journal of the session
  pub journal_still : (meaning : Meaning) (hosts : ℕ) (gives : Answers) (q : SharedQueues) (number : ℕ) (s : Taken) (o : OpenSession) (h k : Holds E F) (count : ℕ) (entries : List Entry) → k ≡ record h { out = k.out } → entries ≡ k.entries → count ≡ k.hosts
      → IsOpen q s o → IsFinished hosts q number o.pass gives seen h → FoundNothing h.ends → IsLegal meaning count entries → HasFed (seen k.feed).made k.entries (seen k.feed) → IsJournalOf meaning hosts (gives s.kernel) s entries
  journal_still meaning hosts gives q number s o h k count entries same are count_is is fin none legal fed =
      let es : k.entries ≡ h.entries = ap (λ (x : Holds E F). x.entries) same in
      let feed : k.feed ≡ h.feed = ap (λ (x : Holds E F). x.feed) same in
      let all : k.hosts ≡ h.hosts = ap (λ (x : Holds E F). x.hosts) same in
      let legal_now : IsLegal meaning h.hosts h.entries = subst (λ n. IsLegal meaning n h.entries) (count_is ∙ all) (subst (λ (x : List Entry). IsLegal meaning count x) (are ∙ es) legal) in
      let fed_now : HasFed (seen h.feed).made h.entries (seen h.feed) =
      subst (λ (f : F). HasFed (seen f).made h.entries (seen f)) feed (subst (λ (x : List Entry). HasFed (seen k.feed).made x (seen k.feed)) es fed) in
      subst (λ (x : List Entry). IsJournalOf meaning hosts (gives s.kernel) s x) (sym (are ∙ es)) (is_journal seen meaning hosts gives q number s o h is fin none legal_now fed_now)

  -- it is its journal as far as it came
  pub journal_so_far : (meaning : Meaning) (hosts : ℕ) (gives : Answers) (q : SharedQueues) (number : ℕ) (s : Taken) (o : OpenSession) (h k : Holds E F) → k ≡ record h { out = k.out }
      → IsOpen q s o → IsFinished hosts q number o.pass gives seen h → HasWaiting k.ends → IsLegal meaning k.hosts k.entries → HasFed (seen k.feed).made k.entries (seen k.feed) → IsJournalSoFar meaning hosts (gives s.kernel) s k.entries
  journal_so_far meaning hosts gives q number s o h k same is fin waits legal fed =
      let es : k.entries ≡ h.entries = ap (λ (x : Holds E F). x.entries) same in
      let feed : k.feed ≡ h.feed = ap (λ (x : Holds E F). x.feed) same in
      let all : k.hosts ≡ h.hosts = ap (λ (x : Holds E F). x.hosts) same in
      let ends : k.ends ≡ h.ends = ap (λ (x : Holds E F). x.ends) same in
      let legal_now : IsLegal meaning h.hosts h.entries = subst (λ n. IsLegal meaning n h.entries) all (subst (λ (x : List Entry). IsLegal meaning k.hosts x) es legal) in
      let fed_now : HasFed (seen h.feed).made h.entries (seen h.feed) =
      subst (λ (f : F). HasFed (seen f).made h.entries (seen f)) feed (subst (λ (x : List Entry). HasFed (seen k.feed).made x (seen k.feed)) es fed) in
      subst (λ (x : List Entry). IsJournalSoFar meaning hosts (gives s.kernel) s x) (sym es) (so_far meaning hosts gives q number s o h is fin (subst HasWaiting ends waits) legal_now fed_now)

  -- it is taken back
  pub taken_back : (meaning : Meaning) (hosts : ℕ) (gives : Answers) (q : SharedQueues) (number : ℕ) (s : Taken) (o : OpenSession) (h k : Holds E F) → k ≡ record h { out = k.out }
      → ((rest : List Entry) × (h.entries ≡ read_of o ++ rest)) → IsOpen q s o → IsFinished hosts q number o.pass gives seen h → HasWaiting k.ends → IsLegal meaning k.hosts k.entries
      → HasFed (seen k.feed).made k.entries (seen k.feed) → IsTakenBack meaning hosts gives s o
  taken_back meaning hosts gives q number s o h k same parts is fin waits legal fed = record {
    entries = k.entries;
    journal = journal_so_far meaning hosts gives q number s o h k same is fin waits legal fed;
    read = parts_still h k (read_of o) k.entries same refl parts;
  }

-- nothing is read without a reader
pub none_first : (reader : Option OnOut) (entries : List Entry) → reader ≡ None → (rest : List Entry) × (entries ≡ entries_of reader ++ rest)
none_first reader entries is = (entries, ap (λ (r : Option OnOut). entries_of r ++ entries) (sym is))

-- a journal in which all is answered
pub whole_so_far : (meaning : Meaning) (hosts : ℕ) (answers : Option (List Drawn)) (s : Taken) (es : List Entry) → IsJournalOf meaning hosts answers s es → IsJournalSoFar meaning hosts answers s es
whole_so_far meaning hosts answers s es j = record {
  legal = j.legal;
  begins = j.begins;
  main = ([], sym (append-nil (main_asked es) ∙ j.main));
  control = ([], sym (append-nil (control_asked es) ∙ j.control));
  settled = j.settled;
  fed = j.fed;
}

-- ---- what is left of a session is told

take_own : {X : Type 0} (xs ys : List X) → take (length xs) (xs ++ ys) ≡ xs
take_own [] ys = refl
take_own (x ∷ xs) ys = ap (λ z. x ∷ z) (take_own xs ys)

-- what was read are the first of the journal's entries, as many as were told
pub first_read : (read entries rest : List Entry) (place : ℕ) → entries ≡ read ++ rest → place ≡ length read → take place entries ≡ read
first_read read entries rest place parts is = ap (λ n. take n entries) is ∙ ap (take (length read)) parts ∙ take_own read rest

pub place_within : (read entries rest : List Entry) (place : ℕ) → entries ≡ read ++ rest → place ≡ length read → place ≤ length entries
place_within read entries rest place parts is = let all = ap length parts ∙ length-append read rest in omega (arith, all, is)

-- the units that were told of it
pub units_read : (o : OpenSession) (kernel place : ℕ) (entries rest : List Entry) → kernel ≡ o.kernel → entries ≡ read_of o ++ rest → place ≡ length (read_of o) → read_units o ≡ entry_units kernel 1 (take place entries)
units_read o kernel place entries rest is parts number =
    ap (λ k. entry_units k 1 (read_of o)) (sym is) ∙ ap (entry_units kernel 1) (sym (first_read (read_of o) entries rest place parts number))

-- memory ran out before the rest was told
pub short_before : (meaning : Meaning) (hosts : ℕ) (gives : Answers) (w : Wire) (q : SharedQueues) (s : Taken) (o : OpenSession) → IsOpen q s o → IsTakenBack meaning hosts gives s o → IsCutShort meaning hosts gives w w s o
short_before meaning hosts gives w q s o is t =
    let front = entries_front s.kernel (read_of o) t.read.0 in
    let units : read_units o ≡ entry_units s.kernel 1 (read_of o) = ap (λ k. entry_units k 1 (read_of o)) is.kernel in
    record {
      entries = t.entries;
      journal = t.journal;
      told = sends_longer true w w (read_units o) (read_units o) (entry_units s.kernel 1 t.entries)
          (front.0, ap (entry_units s.kernel 1) t.read.1 ∙ front.1 ∙ ap (λ z. z ++ front.0) (sym units)) (sends_short w (read_units o));
    }

-- and in between
pub short_between : (meaning : Meaning) (hosts : ℕ) (gives : Answers) (old new : Wire) (q : SharedQueues) (s : Taken) (o : OpenSession) (kernel place : ℕ) (entries rest : List Entry) → IsOpen q s o → kernel ≡ o.kernel → entries ≡ read_of o ++ rest
    → place ≡ length (read_of o) → IsJournalOf meaning hosts (gives s.kernel) s entries → SendsOn true false old new (entry_units kernel 1 (take place entries)) (entry_units kernel 1 entries) → IsCutShort meaning hosts gives old new s o
short_between meaning hosts gives old new q s o kernel place entries rest is same parts number journal tells = record {
  entries = entries;
  journal = whole_so_far meaning hosts (gives s.kernel) s entries journal;
  told = sends_as true false old new (read_units o) (entry_units kernel 1 (take place entries)) (entry_units kernel 1 entries) (entry_units s.kernel 1 entries)
      (units_read o kernel place entries rest same parts number) (ap (λ k. entry_units k 1 entries) (same ∙ is.kernel)) tells;
}

-- ---- one session more

pub closes_served : (meaning : Meaning) (hosts : ℕ) (gives : Answers) (old new : Wire) (s : Taken) (o : OpenSession) (run : ServedSession) (suffices : Bool) (runs later : List ServedSession) → IsRunOf meaning hosts gives s run
    → SendsOn true true old new (read_units o) (run_units run) → later ≡ cond suffices (runs ++ run ∷ []) runs → Closes meaning hosts gives old new s o true suffices runs later
closes_served meaning hosts gives old new s o run true runs later is told push = record {
  entries = journal_of run;
  journal = whole_so_far meaning hosts (gives s.kernel) s (journal_of run) is.1;
  told = sends_as true true old new (read_units o) (read_units o) (run_units run) (entry_units s.kernel 1 (journal_of run)) refl (ap (λ k. entry_units k 1 (journal_of run)) is.0) told;
  served = λ yes. (refl, (run, push, is, refl));
}
closes_served meaning hosts gives old new s o run false runs later is told push = record {
  entries = journal_of run;
  journal = whole_so_far meaning hosts (gives s.kernel) s (journal_of run) is.1;
  told = sends_as true false old new (read_units o) (read_units o) (run_units run) (entry_units s.kernel 1 (journal_of run)) refl (ap (λ k. entry_units k 1 (journal_of run)) is.0)
      (λ start taken lists others s. front_sent start new taken (lists ++ run_units run ∷ others) (told start taken lists others s));
  served = λ yes. absurd (true≢false (sym yes));
}

pub closes_short : (meaning : Meaning) (hosts : ℕ) (gives : Answers) (old new : Wire) (s : Taken) (o : OpenSession) (runs : List ServedSession) → IsCutShort meaning hosts gives old new s o → Closes meaning hosts gives old new s o true false runs runs
closes_short meaning hosts gives old new s o runs c = record { entries = c.entries; journal = c.journal; told = c.told; served = λ yes. absurd (true≢false (sym yes)) }

pub closes_let_go : (meaning : Meaning) (hosts : ℕ) (gives : Answers) (w : Wire) (q : SharedQueues) (s : Taken) (o : OpenSession) (before : Bool) (runs : List ServedSession) → before ≡ false → IsOpen q s o → IsTakenBack meaning hosts gives s o
    → Closes meaning hosts gives w w s o before before runs runs
closes_let_go meaning hosts gives w q s o true runs short is t = absurd (true≢false short)
closes_let_go meaning hosts gives w q s o false runs short is t =
    let front = entries_front s.kernel (read_of o) t.read.0 in
    let units : read_units o ≡ entry_units s.kernel 1 (read_of o) = ap (λ k. entry_units k 1 (read_of o)) is.kernel in
    record {
      entries = t.entries;
      journal = t.journal;
      told = sends_longer false w w (read_units o) (read_units o) (entry_units s.kernel 1 t.entries)
          (front.0, ap (entry_units s.kernel 1) t.read.1 ∙ front.1 ∙ ap (λ z. z ++ front.0) (sym units)) (sends_none false w (read_units o));
      served = λ yes. absurd (true≢false (sym yes));
    }

-- ---- all of them

-- of the sessions so many were closed, with these journals
pub record ClosedOf (meaning : Meaning) (hosts : ℕ) (gives : Answers) (queues : List SharedQueues) (first now : Wire) (all rest : List OpenSession) (done : ℕ) (before then : Bool) (runs : List ServedSession) (ts : List Taken) : Type 0 where
  pub closed : List Taken
  pub later : List Taken
  pub parts : ts ≡ closed ++ later
  pub are_open : AreOpen later rest (drop done queues)
  pub journals : List (List Entry)
  pub are_journals : AreJournalsSoFar meaning hosts gives closed journals
  pub told : (start : Wire) (taken : List ℕ) (errors : List (List ℕ)) → SendsWhile before start first taken (errors ∷ map read_units all)
      → SendsWhile then start now taken ((errors ∷ session_units closed journals) ++ map read_units rest)
  pub served : then ≡ true → (before ≡ true) × AreRuns meaning hosts gives closed runs × (journals ≡ journals_of runs)

-- and the others are left, with their cells, the next one last, and their queues
pub record ClosedSoFar (meaning : Meaning) (hosts : ℕ) (gives : Answers) (queues : List SharedQueues) (first now : Wire) (all rest : List OpenSession) (cells : List (SharedQueues × ℕ)) (before then : Bool) (runs : List ServedSession) : Type 0 where
  pub done : ℕ
  pub numbered : AreNumbered done (reverse cells)
  pub long : done + length cells ≡ 256
  pub seated : AreSeated rest (drop done queues)
  pub readable : AreReadable rest (drop done queues)
  pub counted : then ≡ true → AreCounted rest
  pub of : (ts : List Taken) → AreOpen ts all queues → ClosedOf meaning hosts gives queues first now all rest done before then runs ts

pub start_closed : (meaning : Meaning) (hosts : ℕ) (gives : Answers) (queues : List SharedQueues) (w : Wire) (all rest : List OpenSession) (cells table : List (SharedQueues × ℕ)) (suffices : Bool) (runs : List ServedSession)
    → rest ≡ all → cells ≡ reverse table → runs ≡ [] → IsTable table → AreSeated all queues → AreReadable all queues → (suffices ≡ true → AreCounted all) → ClosedSoFar meaning hosts gives queues w w all rest cells suffices suffices runs
start_closed meaning hosts gives queues w all rest cells table suffices runs same turned none is seated readable counted = record {
  done = 0;
  numbered = subst (AreNumbered 0) (sym (ap reverse turned ∙ reverse-reverse table)) is.numbered;
  long = let n = ap length turned in let m = length-reverse table in let all_is = is.all in omega arith;
  seated = subst (λ os. AreSeated os queues) (sym same) seated;
  readable = subst (λ os. AreReadable os queues) (sym same) readable;
  counted = λ yes. subst AreCounted (sym same) (counted yes);
  of = λ ts are. record {
    closed = [];
    later = ts;
    parts = refl;
    are_open = subst (λ os. AreOpen ts os queues) (sym same) are;
    journals = [];
    are_journals = tt;
    told = λ start taken errors s. subst (λ (os : List OpenSession). SendsWhile suffices start w taken (errors ∷ map read_units os)) (sym same) s;
    served = λ yes. (yes, subst (AreRuns meaning hosts gives []) (sym none) tt, ap journals_of (sym none));
  };
}

readable_first : (queues left : List SharedQueues) (rest : List OpenSession) (o : OpenSession) (q : SharedQueues) → queues ≡ q ∷ left → AreReadable (o ∷ rest) queues → IsReaderOf q o.reader × AreReadable rest left
readable_first queues left rest o q is are = let there : AreReadable (o ∷ rest) (q ∷ left) = subst (AreReadable (o ∷ rest)) is are in (there.0, there.1)

-- the reader of the next session is of its queues
pub next_readable : (queues left : List SharedQueues) (all rest : List OpenSession) (o : OpenSession) (q : SharedQueues) → queues ≡ q ∷ left → all ≡ o ∷ rest → AreReadable all queues → IsReaderOf q o.reader × AreReadable rest left
next_readable queues left all rest o q is parts are = readable_first queues left rest o q is (subst (λ os. AreReadable os queues) parts are)

pub next_counted : (all rest : List OpenSession) (o : OpenSession) → all ≡ o ∷ rest → AreCounted all → IsCounted o × AreCounted rest
next_counted all rest o parts are = let there : AreCounted (o ∷ rest) = subst AreCounted parts are in (there.0, there.1)

units_more : (meaning : Meaning) (hosts : ℕ) (gives : Answers) (ts : List Taken) (journals : List (List Entry)) (s : Taken) (es : List Entry) → AreJournalsSoFar meaning hosts gives ts journals
    → session_units (ts ++ s ∷ []) (journals ++ es ∷ []) ≡ session_units ts journals ++ entry_units s.kernel 1 es ∷ []
units_more meaning hosts gives [] [] s es are = refl
units_more meaning hosts gives [] (j ∷ journals) s es are = absurd are
units_more meaning hosts gives (t ∷ ts) [] s es are = absurd are
units_more meaning hosts gives (t ∷ ts) (j ∷ journals) s es are = ap (λ z. entry_units t.kernel 1 j ∷ z) (units_more meaning hosts gives ts journals s es are.1)

journals_more : (runs : List ServedSession) (run : ServedSession) → journals_of (runs ++ run ∷ []) ≡ journals_of runs ++ journal_of run ∷ []
journals_more [] run = refl
journals_more (r ∷ runs) run = ap (λ z. journal_of r ∷ z) (journals_more runs run)

-- one session more
closed_more : (meaning : Meaning) (hosts : ℕ) (gives : Answers) (queues left : List SharedQueues) (first mid now : Wire) (all more rest : List OpenSession) (done next : ℕ) (before then suffices : Bool) (runs later : List ServedSession) (ts : List Taken)
    (o : OpenSession) (q : SharedQueues) → more ≡ o ∷ rest → drop done queues ≡ q ∷ left → drop next queues ≡ left → ((s : Taken) → IsOpen q s o → Closes meaning hosts gives mid now s o then suffices runs later)
    → ClosedOf meaning hosts gives queues first mid all more done before then runs ts → ClosedOf meaning hosts gives queues first now all rest next before suffices later ts
closed_more meaning hosts gives queues left first mid now all more rest done next before then suffices runs later ts o q parts here there closes c =
    let open_is = open_first (drop done queues) left c.later rest o q here (subst (λ os. AreOpen c.later os (drop done queues)) parts c.are_open) in
    let s = open_is.0 in
    let n = closes s open_is.3 in
    record {
      closed = c.closed ++ s ∷ [];
      later = open_is.1;
      parts = c.parts ∙ ap (λ l. c.closed ++ l) open_is.2 ∙ sym (append_assoc c.closed (s ∷ []) open_is.1);
      are_open = subst (AreOpen open_is.1 rest) (sym there) open_is.4;
      journals = c.journals ++ n.entries ∷ [];
      are_journals = all_zipped_more (λ (t : Taken) (es : List Entry). IsJournalSoFar meaning hosts (gives t.kernel) t es) c.closed c.journals s n.entries c.are_journals n.journal;
      told = λ start taken errors sent.
          let lists = errors ∷ session_units c.closed c.journals in
          let old = subst (λ (os : List OpenSession). SendsWhile then start mid taken (lists ++ map read_units os)) parts (c.told start taken errors sent) in
          let told = n.told start taken lists (map read_units rest) old in
          let same : lists ++ entry_units s.kernel 1 n.entries ∷ map read_units rest ≡ (errors ∷ session_units (c.closed ++ s ∷ []) (c.journals ++ n.entries ∷ [])) ++ map read_units rest =
          sym (append_assoc lists (entry_units s.kernel 1 n.entries ∷ []) (map read_units rest))
          ∙ ap (λ z. (errors ∷ z) ++ map read_units rest) (sym (units_more meaning hosts gives c.closed c.journals s n.entries c.are_journals)) in
          subst (λ ls. SendsWhile suffices start now taken ls) same told;
      served = λ yes.
          let own = n.served yes in
          let others = c.served own.0 in (
            others.0,
            subst (AreRuns meaning hosts gives (c.closed ++ s ∷ [])) (sym own.1.1) (all_zipped_more (IsRunOf meaning hosts gives) c.closed runs s own.1.0 others.1 own.1.2),
            ap (λ js. js ++ n.entries ∷ []) others.2 ∙ ap (λ es. journals_of runs ++ es ∷ []) (sym own.1.3) ∙ sym (journals_more runs own.1.0) ∙ ap journals_of (sym own.1.1),
          );
    }

pub next_closed : (meaning : Meaning) (hosts : ℕ) (gives : Answers) (queues : List SharedQueues) (first mid now : Wire) (all left rest : List OpenSession) (cells cells_left : List (SharedQueues × ℕ)) (before then suffices : Bool) (runs later : List ServedSession)
    (o : OpenSession) (cell : SharedQueues × ℕ) → (so_far : ClosedSoFar meaning hosts gives queues first mid all left cells before then runs) → left ≡ o ∷ rest → reverse cells ≡ cell ∷ reverse cells_left → cells ≡ cells_left ++ cell ∷ []
    → slice_get queues cell.1 ≡ Some cell.0 → ((s : Taken) → IsOpen cell.0 s o → Closes meaning hosts gives mid now s o then suffices runs later) → (suffices ≡ true → then ≡ true)
    → ClosedSoFar meaning hosts gives queues first now all rest cells_left before suffices later
next_closed meaning hosts gives queues first mid now all left rest cells cells_left before then suffices runs later o cell c is turned parts listed closes still =
    let next = next_of queues left rest o c.done is c.seated in
    let numbered : AreNumbered c.done (cell ∷ reverse cells_left) = subst (AreNumbered c.done) turned c.numbered in
    let same = same_queues queues rest o c.done cell next numbered.0 listed in
    let fewer = ap length parts ∙ length-append cells_left (cell ∷ []) in
    let after : drop (c.done + 1) queues ≡ next.left = drop_rest c.done (c.done + 1) queues next.queue next.left refl next.parts in
    record {
      done = c.done + 1;
      numbered = numbered.1;
      long = let long = c.long in omega (arith, fewer);
      seated = subst (AreSeated rest) (sym after) next.seated;
      readable = subst (AreReadable rest) (sym after) (next_readable (drop c.done queues) next.left left rest o next.queue next.parts is c.readable).1;
      counted = λ yes. (next_counted left rest o is (c.counted (still yes))).1;
      of = λ ts are.
          closed_more meaning hosts gives queues next.left first mid now all left rest c.done (c.done + 1) before then suffices runs later ts o next.queue is next.parts after
          (λ s open_is. closes s (subst (λ q. IsOpen q s o) (sym same) open_is)) (c.of ts are);
    }

pub all_closed : (meaning : Meaning) (hosts : ℕ) (gives : Answers) (queues : List SharedQueues) (first now : Wire) (all rest : List OpenSession) (cells : List (SharedQueues × ℕ)) (before then : Bool) (runs : List ServedSession)
    → ClosedSoFar meaning hosts gives queues first now all rest cells before then runs → rest ≡ [] → (ts : List Taken) → AreOpen ts all queues → AreClosed meaning hosts gives first now ts all before then runs
all_closed meaning hosts gives queues first now all rest cells before then runs so_far none ts are =
    let c = so_far.of ts are in
    let nothing = open_none c.later (drop so_far.done queues) (subst (λ os. AreOpen c.later os (drop so_far.done queues)) none c.are_open) in
    let whole : ts ≡ c.closed = c.parts ∙ ap (λ l. c.closed ++ l) nothing ∙ append-nil c.closed in
    subst (λ us. AreClosed meaning hosts gives first now us all before then runs) (sym whole) (record {
      journals = c.journals;
      are_journals = c.are_journals;
      told = λ start taken errors sent.
          subst (λ ls. SendsWhile then start now taken ls) (append-nil (errors ∷ session_units c.closed c.journals))
          (subst (λ (os : List OpenSession). SendsWhile then start now taken ((errors ∷ session_units c.closed c.journals) ++ map read_units os)) none (c.told start taken errors sent));
      served = c.served;
    })
