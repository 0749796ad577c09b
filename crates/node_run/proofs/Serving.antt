-- Sessions that are served to their end, one after the other.
use Rattle.std.proofs.Common.{◌≡◌, ℕ, zero, suc, ◌+◌, ◌<◌, List, [], ◌∷◌, ◌++◌, length, Option, Some, refl, sym, ap, ◌∙◌, subst, append_assoc, arith}
use Rattle.std.specs.Prelude.{slice_get, drop}
use mathlib.Core.List.{reverse}
use Rattle.std.proofs.lemmas.List.{append-nil, reverse-reverse, length-reverse, length-append}
use Rattle.std.proofs.lemmas.Slice.Zip.{all_zipped_more}
use Rattle.nb_outside.specs.Feeds.{Seen as SeenFeed}
use Rattle.session_core.specs.Meanings.{Meaning}
use Rattle.session_core.specs.Legal.{IsLegal}
use Rattle.session_core.specs.Feeding.{HasFed, AreFirstAnswers, drawn_in}
use Rattle.session_core.proofs.Feeding.{first_answers}
use Rattle.session_queues.specs.declared.shared.SharedQueues.{SharedQueues}
use Rattle.session_queues.specs.Passes.{IsPassOf}
use Rattle.session_queues.specs.Ends.{FoundNothing}
use Rattle.session_gate.specs.Answered.{as_main}
use Rattle.session_gate.specs.Facts.{Holds}
use Rattle.session_gate.specs.Custodies.{IsFinished}
use Rattle.host_workers.specs.Tables.{AreNumbered, IsTable}
use Rattle.reply_frames.specs.declared.node.NodeError.{NodeError}
use Rattle.node_intake.specs.Intake.{Taken}
use Rattle.node_intake.specs.declared.session.IntakeEnd.{IntakeEnd}
use Rattle.node_intake.specs.Taking.{HasTaken, EndsSo}
use Rattle.node_run.specs.declared.open_session.OpenSession.{OpenSession}
use Rattle.node_run.specs.Admitted.{IsOpen, AreOpen, AreSeated}
use Rattle.node_run.specs.Journals.{Answers, IsJournalOf, ServedSession, IsRunOf, AreRuns}
use Rattle.node_run.proofs.Seating.{drop_first, drop_rest}
use Rattle.node_run.proofs.Asking.{main_is, control_is, main_requests_are, begins}

-- ---- one session

module _ {E F : Type 0} (seen : F → SeenFeed) where
  pub is_journal : (meaning : Meaning) (hosts : ℕ) (gives : Answers) (q : SharedQueues) (number : ℕ) (s : Taken) (o : OpenSession) (h : Holds E F) → IsOpen q s o → IsFinished hosts q number o.pass gives seen h → FoundNothing h.ends
      → IsLegal meaning h.hosts h.entries → HasFed (seen h.feed).made h.entries (seen h.feed) → IsJournalOf meaning hosts (gives s.kernel) s h.entries
  is_journal meaning hosts gives q number s o h is fin none legal fed =
      let main = main_is h.kernel h.entries h.ends fin.1 none _ (fin.5 ∙ ap (λ p. p.main.lists) is.pass) (fin.6 ∙ ap (λ p. p.main.given) is.pass) in
      let control = control_is h.kernel h.entries h.ends fin.1 none _ (fin.7 ∙ ap (λ p. p.control.lists) is.pass) (fin.8 ∙ ap (λ p. p.control.given) is.pass) in
      let first = begins meaning h.hosts s.kernel h.kernel h.entries s.host s.request s.channel (as_main s.requests) _ legal main in
      record {
        legal = subst (λ n. IsLegal meaning n h.entries) fin.4 legal;
        begins = first.1;
        main = main_requests_are s.kernel s.host s.request s.channel s.requests h.kernel h.entries main;
        control = sym control;
        settled = fin.0;
        fed = subst (λ a. AreFirstAnswers a (drawn_in h.entries)) (fin.9 ∙ ap gives first.0) (first_answers (seen h.feed).made h.entries (seen h.feed) fed);
      }

-- ---- one after the other

-- So many sessions were served, the first of all. The others are left, with their cells, the next one last, and their queues.
pub record ServedSoFar (meaning : Meaning) (hosts : ℕ) (gives : Answers) (queues : List SharedQueues) (all rest : List OpenSession) (cells : List (SharedQueues × ℕ)) (runs : List ServedSession) : Type 0 where
  pub done : ℕ
  pub numbered : AreNumbered done (reverse cells)
  pub long : done + length cells ≡ 256
  pub seated : AreSeated rest (drop done queues)
  pub served : (ts : List Taken) → AreOpen ts all queues → (first : List Taken) × (later : List Taken) × (ts ≡ first ++ later) × AreRuns meaning hosts gives first runs × AreOpen later rest (drop done queues)

pub start_served : (meaning : Meaning) (hosts : ℕ) (gives : Answers) (queues : List SharedQueues) (all rest : List OpenSession) (cells table : List (SharedQueues × ℕ)) (runs : List ServedSession)
    → rest ≡ all → cells ≡ reverse table → runs ≡ [] → IsTable table → AreSeated all queues → ServedSoFar meaning hosts gives queues all rest cells runs
start_served meaning hosts gives queues all rest cells table runs same turned none is seated = record {
  done = 0;
  numbered = subst (AreNumbered 0) (sym (ap reverse turned ∙ reverse-reverse table)) is.numbered;
  long = let n = ap length turned in let m = length-reverse table in let all_is = is.all in omega arith;
  seated = subst (λ os. AreSeated os queues) (sym same) seated;
  served = λ ts are. ([], ts, refl, subst (AreRuns meaning hosts gives []) (sym none) tt, subst (λ os. AreOpen ts os queues) (sym same) are);
}

-- the queues of the next session
pub record IsNext (queues : List SharedQueues) (rest : List OpenSession) (o : OpenSession) (done : ℕ) : Type 0 where
  pub queue : SharedQueues
  pub left : List SharedQueues
  pub parts : drop done queues ≡ queue ∷ left
  pub is_of : IsPassOf queue o.pass
  pub seated : AreSeated rest left

next_in : (queues left : List SharedQueues) (rest : List OpenSession) (o : OpenSession) (done : ℕ) → drop done queues ≡ left → AreSeated (o ∷ rest) left → IsNext queues rest o done
next_in queues [] rest o done is seated = absurd seated
next_in queues (q ∷ left) rest o done is seated = record { queue = q; left = left; parts = is; is_of = seated.0; seated = seated.2 }

pub next_of : (queues : List SharedQueues) (left rest : List OpenSession) (o : OpenSession) (done : ℕ) → left ≡ o ∷ rest → AreSeated left (drop done queues) → IsNext queues rest o done
next_of queues left rest o done is seated = next_in queues (drop done queues) rest o done refl (subst (λ os. AreSeated os (drop done queues)) is seated)

too_many : (queues : List SharedQueues) (q : SharedQueues) (left : List SharedQueues) (n : ℕ) → drop n queues ≡ q ∷ left → n < length queues
too_many [] q left zero is = cc
too_many [] q left (suc n) is = cc
too_many (r ∷ queues) q left zero is = omega arith
too_many (r ∷ queues) q left (suc n) is = let rest = too_many queues q left n is in omega arith

-- a cell is left for it
pub some_cell : (queues : List SharedQueues) (rest : List OpenSession) (o : OpenSession) (done cells : ℕ) → IsNext queues rest o done → length queues ≡ 256 → done + cells ≡ 256 → 0 < cells
some_cell queues rest o done cells next long all = let few = too_many queues next.queue next.left done next.parts in omega arith

-- and it has these queues
pub same_queues : (queues : List SharedQueues) (rest : List OpenSession) (o : OpenSession) (done : ℕ) (cell : SharedQueues × ℕ) → (next : IsNext queues rest o done) → cell.1 ≡ done → slice_get queues cell.1 ≡ Some cell.0 → cell.0 ≡ next.queue
same_queues queues rest o done cell next number listed =
    let here : slice_get queues done ≡ Some cell.0 = ap (slice_get queues) (sym number) ∙ listed in
    let there : slice_get queues done ≡ Some next.queue = drop_first done queues next.queue next.left next.parts in
    let same : Some cell.0 ≡ Some next.queue = sym here ∙ there in
    cc

pub open_first : (queues left : List SharedQueues) (later : List Taken) (rest : List OpenSession) (o : OpenSession) (q : SharedQueues) → queues ≡ q ∷ left → AreOpen later (o ∷ rest) queues
    → (s : Taken) × (more : List Taken) × (later ≡ s ∷ more) × IsOpen q s o × AreOpen more rest left
open_first queues left [] rest o q is are = absurd are
open_first queues left (s ∷ more) rest o q is are = let there : IsOpen q s o × AreOpen more rest left = subst (AreOpen (s ∷ more) (o ∷ rest)) is are in (s, more, refl, there.0, there.1)

pub next_served : (meaning : Meaning) (hosts : ℕ) (gives : Answers) (queues : List SharedQueues) (all left rest : List OpenSession) (cells cells_left : List (SharedQueues × ℕ)) (runs new : List ServedSession) (o : OpenSession) (cell : SharedQueues × ℕ) (run : ServedSession)
    → (so_far : ServedSoFar meaning hosts gives queues all left cells runs) → left ≡ o ∷ rest → reverse cells ≡ cell ∷ reverse cells_left → cells ≡ cells_left ++ cell ∷ [] → slice_get queues cell.1 ≡ Some cell.0
    → ((s : Taken) → IsOpen cell.0 s o → IsRunOf meaning hosts gives s run) → new ≡ runs ++ run ∷ [] → ServedSoFar meaning hosts gives queues all rest cells_left new
next_served meaning hosts gives queues all left rest cells cells_left runs new o cell run so_far is turned parts listed served push =
    let next = next_of queues left rest o so_far.done is so_far.seated in
    let numbered : AreNumbered so_far.done (cell ∷ reverse cells_left) = subst (AreNumbered so_far.done) turned so_far.numbered in
    let same = same_queues queues rest o so_far.done cell next numbered.0 listed in
    let fewer = ap length parts ∙ length-append cells_left (cell ∷ []) in
    let after : drop (so_far.done + 1) queues ≡ next.left = drop_rest so_far.done (so_far.done + 1) queues next.queue next.left refl next.parts in
    record {
      done = so_far.done + 1;
      numbered = numbered.1;
      long = let long = so_far.long in omega (arith, fewer);
      seated = subst (AreSeated rest) (sym after) next.seated;
      served = λ ts are.
          let before = so_far.served ts are in
          let first = open_first (drop so_far.done queues) next.left before.1 rest o next.queue next.parts (subst (λ os. AreOpen before.1 os (drop so_far.done queues)) is before.4) in
          let own = served first.0 (subst (λ q. IsOpen q first.0 o) (sym same) first.3) in (
            before.0 ++ first.0 ∷ [],
            first.1,
            before.2 ∙ ap (λ l. before.0 ++ l) first.2 ∙ sym (append_assoc before.0 (first.0 ∷ []) first.1),
            subst (AreRuns meaning hosts gives (before.0 ++ first.0 ∷ [])) (sym push) (all_zipped_more (IsRunOf meaning hosts gives) before.0 runs first.0 run before.3 own),
            subst (AreOpen first.1 rest) (sym after) first.4,
          );
    }

pub none_left : {X : Type 0} (xs : List X) → length xs ≡ 0 → xs ≡ []
none_left [] is = refl
none_left (x ∷ xs) is = absurd (omega (arith, is))

pub open_none : (later : List Taken) (queues : List SharedQueues) → AreOpen later [] queues → later ≡ []
open_none [] queues are = refl
open_none (s ∷ later) queues are = absurd are

pub all_served : (meaning : Meaning) (hosts : ℕ) (gives : Answers) (queues : List SharedQueues) (all rest : List OpenSession) (cells : List (SharedQueues × ℕ)) (runs : List ServedSession) → ServedSoFar meaning hosts gives queues all rest cells runs → rest ≡ []
    → (ts : List Taken) → AreOpen ts all queues → AreRuns meaning hosts gives ts runs
all_served meaning hosts gives queues all rest cells runs so_far none ts are =
    let end = so_far.served ts are in
    let nothing = open_none end.1 (drop so_far.done queues) (subst (λ os. AreOpen end.1 os (drop so_far.done queues)) none end.4) in
    subst (λ ss. AreRuns meaning hosts gives ss runs) (sym (end.2 ∙ ap (λ l. end.0 ++ l) nothing ∙ append-nil end.0)) end.3

-- ---- what the feeder hands on

-- it is taken in there what was at the desk
pub handed_on : (hosts : ℕ) (bytes : List ℕ) (queues : List SharedQueues) (desk sessions : List OpenSession) (before errors : List NodeError) (broken_before broken : Option ℕ) (end_before end : IntakeEnd) (left : Option (List ℕ))
    → sessions ≡ desk → errors ≡ before → broken ≡ broken_before → end ≡ end_before
    → (taken : HasTaken hosts bytes (λ node. AreOpen node.sessions desk queues × (before ≡ node.errors)) broken_before) × EndsSo end_before left taken.rest
    → (taken : HasTaken hosts bytes (λ node. AreOpen node.sessions sessions queues × (errors ≡ node.errors)) broken) × EndsSo end left taken.rest
handed_on hosts bytes queues desk sessions before errors broken_before broken end_before end left s e b d told =
    subst (λ (x : List OpenSession). (taken : HasTaken hosts bytes (λ node. AreOpen node.sessions x queues × (errors ≡ node.errors)) broken) × EndsSo end left taken.rest) (sym s)
    (subst (λ (x : List NodeError). (taken : HasTaken hosts bytes (λ node. AreOpen node.sessions desk queues × (x ≡ node.errors)) broken) × EndsSo end left taken.rest) (sym e)
    (subst (λ (x : Option ℕ). (taken : HasTaken hosts bytes (λ node. AreOpen node.sessions desk queues × (before ≡ node.errors)) x) × EndsSo end left taken.rest) (sym b)
    (subst (λ (x : IntakeEnd). (taken : HasTaken hosts bytes (λ node. AreOpen node.sessions desk queues × (before ≡ node.errors)) broken_before) × EndsSo x left taken.rest) (sym d) told)))
