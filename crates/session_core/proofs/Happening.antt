-- What each event keeps.
use Rattle.std.proofs.Common.{◌≡◌, ℕ, ◌<◌, Bool, true, false, not, cond, inl, inr, List, [], ◌∷◌, ◌++◌, refl, sym, ap, ◌∙◌, subst, append_assoc}
use Rattle.std.specs.Prelude.{filter}
use Rattle.std.proofs.lemmas.List.{append-nil}
use Rattle.std.proofs.lemmas.List.Elements.{filter-append}
use Rattle.session_core.specs.declared.request.Request.{Request}
use Rattle.session_core.specs.declared.request.Header.{Header}
use Rattle.session_core.specs.declared.request.Channel.{Channel}
use Rattle.session_core.specs.declared.entry.Entry.{Entry}
use Rattle.session_core.specs.declared.entry.Entry.TheVariants.{Opened, Ran, Died, Dead, Sealed, Moved, Adopted, Refused, Resumed}
use Rattle.session_core.specs.Asks.{is_main, is_control}
use Rattle.session_core.specs.Meanings.{Meaning}
use Rattle.session_core.specs.Legal.{settled, moved, Progress, after, progress_of, IsLegal, if_settled, asked_by, asked, main_asked, control_asked}
use Rattle.session_core.specs.Machine.{Seat, in_cell, out_with, parcel_for, carried_by, Waiting, Session, IsTaken, Event, admit, claim, ends, give, seal, move, adopt, IsNoted, Happens, Happen, admitted, main_admitted, control_admitted, IsSeated, HasResident, opened_session}
use Rattle.session_core.proofs.Progressing.{progress_more, asked_more, legal_more}

-- ---- lists of requests

abbrev pub AllAre : (Request → Bool) → List Request → Type 0
AllAre test [] = Unit {0}
AllAre test (r ∷ rs) = (test r ≡ true) × AllAre test rs

all_more : (test : Request → Bool) (rs : List Request) (r : Request) → AllAre test rs → test r ≡ true → AllAre test (rs ++ r ∷ [])
all_more test [] r h is = (is, tt)
all_more test (x ∷ rs) r h is = (h.0, all_more test rs r h.1 is)

pub filter_yes : (test : Request → Bool) (r : Request) (rs : List Request) → test r ≡ true → filter test (r ∷ rs) ≡ r ∷ filter test rs
filter_yes test r rs is = ap (λ b. cond b (r ∷ filter test rs) (filter test rs)) is

pub filter_no : (test : Request → Bool) (r : Request) (rs : List Request) → test r ≡ false → filter test (r ∷ rs) ≡ filter test rs
filter_no test r rs is = ap (λ b. cond b (r ∷ filter test rs) (filter test rs)) is

main_no_control : (b : Bool) → not b ≡ true → b ≡ false
main_no_control true h = sym h
main_no_control false h = refl

-- a list that was asked and waits goes on by the request that is taken
passed_on : (test : Request → Bool) (asked_list old new all : List Request) (r : Request) → all ≡ filter test asked_list ++ old → old ≡ r ∷ new → test r ≡ true
    → all ≡ filter test (asked_list ++ r ∷ []) ++ new
passed_on test xs old new all r h taken is =
    h ∙ ap (λ z. filter test xs ++ z) taken ∙ sym (append_assoc (filter test xs) (r ∷ []) new)
    ∙ ap (λ z. z ++ new) (ap (λ z. filter test xs ++ z) (sym (filter_yes test r [] is)) ∙ sym (filter-append test xs (r ∷ [])))

passed_over : (test : Request → Bool) (asked_list old new all : List Request) (r : Request) → all ≡ filter test asked_list ++ old → new ≡ old → test r ≡ false
    → all ≡ filter test (asked_list ++ r ∷ []) ++ new
passed_over test xs old new all r h same is =
    h ∙ ap (λ z. filter test xs ++ z) (sym same)
    ∙ ap (λ z. z ++ new) (sym (filter-append test xs (r ∷ []) ∙ ap (λ z. filter test xs ++ z) (filter_no test r [] is) ∙ append-nil (filter test xs)))

-- ---- what holds

-- the waiting lists hold what they may, and with what was asked make up all that was admitted
pub record Holds (es : List Entry) (w : Waiting) (mains controls : List Request) : Type 0 where
  pub main : mains ≡ main_asked es ++ w.main
  pub control : controls ≡ control_asked es ++ w.control
  pub in_main : AllAre is_main w.main
  pub in_control : AllAre is_control w.control

none_asked : (es fs : List Entry) (w v : Waiting) (main control : List Request) → Holds es w main control → asked fs ≡ asked es → v ≡ w → Holds fs v main control
none_asked es fs w v main control h same waits = record {
  main = h.main ∙ ap (λ z. filter is_main z ++ w.main) (sym same) ∙ ap (λ (z : Waiting). main_asked fs ++ z.main) (sym waits);
  control = h.control ∙ ap (λ z. filter is_control z ++ w.control) (sym same) ∙ ap (λ (z : Waiting). control_asked fs ++ z.control) (sym waits);
  in_main = subst (λ (z : Waiting). AllAre is_main z.main) (sym waits) h.in_main;
  in_control = subst (λ (z : Waiting). AllAre is_control z.control) (sym waits) h.in_control;
}

one_asked : (es fs : List Entry) (w v : Waiting) (main control : List Request) (r : Request) → Holds es w main control → asked fs ≡ asked es ++ r ∷ [] → IsTaken w v r → Holds fs v main control
one_asked es fs w v main control r h is (inl taken) =
    let listed = subst (AllAre is_main) taken.0 h.in_main in record {
      main = passed_on is_main (asked es) w.main v.main main r h.main taken.0 listed.0 ∙ ap (λ z. filter is_main z ++ v.main) (sym is);
      control = passed_over is_control (asked es) w.control v.control control r h.control taken.1 (main_no_control (is_control r) listed.0) ∙ ap (λ z. filter is_control z ++ v.control) (sym is);
      in_main = listed.1;
      in_control = subst (AllAre is_control) (sym taken.1) h.in_control;
    }
one_asked es fs w v main control r h is (inr taken) =
    let listed = subst (AllAre is_control) taken.0 h.in_control in record {
      main = passed_over is_main (asked es) w.main v.main main r h.main taken.1 (ap not listed.0) ∙ ap (λ z. filter is_main z ++ v.main) (sym is);
      control = passed_on is_control (asked es) w.control v.control control r h.control taken.0 listed.0 ∙ ap (λ z. filter is_control z ++ v.control) (sym is);
      in_main = subst (AllAre is_main) (sym taken.1) h.in_main;
      in_control = listed.1;
    }

-- a request is admitted: by the list that it joins
join_case : (es : List Entry) (w : Waiting) (main control : List Request) (r : Request) (b : Bool) → is_control r ≡ b → Holds es w main control
    → Holds es (cond b (record w { control = w.control ++ r ∷ [] }) (record w { main = w.main ++ r ∷ [] })) (main ++ filter is_main (r ∷ [])) (control ++ filter is_control (r ∷ []))
join_case es w main control r true is h = record {
  main = ap (λ z. main ++ z) (filter_no is_main r [] (ap not is)) ∙ append-nil main ∙ h.main;
  control = ap (λ z. control ++ z) (filter_yes is_control r [] is) ∙ ap (λ z. z ++ r ∷ []) h.control ∙ append_assoc (control_asked es) w.control (r ∷ []);
  in_main = h.in_main;
  in_control = all_more is_control w.control r h.in_control is;
}
join_case es w main control r false is h = record {
  main = ap (λ z. main ++ z) (filter_yes is_main r [] (ap not is)) ∙ ap (λ z. z ++ r ∷ []) h.main ∙ append_assoc (main_asked es) w.main (r ∷ []);
  control = ap (λ z. control ++ z) (filter_no is_control r [] is) ∙ append-nil control ∙ h.control;
  in_main = all_more is_main w.main r h.in_main (ap not is);
  in_control = h.in_control;
}

-- ---- one event

module _ (meaning : Meaning) (hosts : ℕ) where
  pub record Keeps (s : Session) (main control : List Request) : Type 0 where
    pub legal : IsLegal meaning hosts s.journal
    pub holds : Holds s.journal s.waiting main control
    pub seated : IsSeated s.seat (progress_of s.journal)

  noted_legal : (es fs : List Entry) (e : Entry) → IsLegal meaning hosts es → IsNoted meaning hosts es fs e → IsLegal meaning hosts fs
  noted_legal es fs e h n = subst (IsLegal meaning hosts) (sym n.1) (legal_more meaning hosts es e h n.0)

  noted_progress : (es fs : List Entry) (e : Entry) → IsNoted meaning hosts es fs e → progress_of fs ≡ after (progress_of es) e
  noted_progress es fs e n = ap progress_of n.1 ∙ progress_more es e

  noted_asked : (es fs : List Entry) (e : Entry) (rs : List Request) → IsNoted meaning hosts es fs e → asked_by (progress_of es).phase e ≡ rs → asked fs ≡ asked es ++ rs
  noted_asked es fs e rs n is = ap asked n.1 ∙ asked_more es e ∙ ap (λ z. asked es ++ z) is

  -- the session when a request has ended: its Resident stays out with the owner
  ended : (s t : Session) (main control : List Request) (e : Entry) (host : ℕ) (r : Request) → Keeps s main control → s.seat ≡ out_with host → t.seat ≡ s.seat
      → IsTaken s.waiting t.waiting r → IsNoted meaning hosts s.journal t.journal e
      → asked_by (progress_of s.journal).phase e ≡ r ∷ [] → (after (progress_of s.journal) e).phase ≡ settled
      → (after (progress_of s.journal) e).owner ≡ (progress_of s.journal).owner → Keeps t main control
  ended s t main control e host r h out stays taken noted asks phase owner =
      let sits = subst (λ z. IsSeated z (progress_of s.journal)) out h.seated in
      let now = noted_progress s.journal t.journal e noted in record {
        legal = noted_legal s.journal t.journal e h.legal noted;
        holds = one_asked s.journal t.journal s.waiting t.waiting main control r h.holds (noted_asked s.journal t.journal e (r ∷ []) noted asks) taken;
        seated = subst (λ z. IsSeated z (progress_of t.journal)) (sym (stays ∙ out)) (ap (λ (p : Progress). p.phase) now ∙ phase, sits.1 ∙ sym owner ∙ ap (λ (p : Progress). p.owner) (sym now));
      }

  settled_out : (s : Session) (main control : List Request) (host : ℕ) → Keeps s main control → s.seat ≡ out_with host → (progress_of s.journal).phase ≡ settled
  settled_out s main control host h out = (subst (λ z. IsSeated z (progress_of s.journal)) out h.seated).0

  ends_case : (s t : Session) (main control : List Request) (e : Entry) → Keeps s main control → Happens meaning hosts s (ends e) t → Keeps t main control
  ends_case s t main control (Opened host request channel) h a = absurd a.2
  ends_case s t main control (Ran host request draws reply) h a = ended s t main control _ a.0.0 request h a.0.1 a.1 a.2 a.3 refl (settled_out s main control a.0.0 h a.0.1) refl
  ends_case s t main control (Died host request count cause) h a = ended s t main control _ a.0.0 request h a.0.1 a.1 a.2 a.3 refl (settled_out s main control a.0.0 h a.0.1) refl
  ends_case s t main control (Dead host request count) h a = ended s t main control _ a.0.0 request h a.0.1 a.1 a.2 a.3 refl (settled_out s main control a.0.0 h a.0.1) refl
  ends_case s t main control (Sealed host request to) h a = absurd a.2
  ends_case s t main control (Moved to) h a = absurd a.2
  ends_case s t main control (Adopted from to request certified objects) h a = absurd a.2
  ends_case s t main control (Refused host request reason) h a = ended s t main control _ a.0.0 request h a.0.1 a.1 a.2 a.3 refl (settled_out s main control a.0.0 h a.0.1) refl
  ends_case s t main control (Resumed host request) h a = ended s t main control _ a.0.0 request h a.0.1 a.1 a.2 a.3
      (ap (λ phase. if_settled phase request) (settled_out s main control a.0.0 h a.0.1)) refl refl

  seal_case : (s t : Session) (main control : List Request) (e : Entry) → Keeps s main control → Happens meaning hosts s (seal e) t → Keeps t main control
  seal_case s t main control (Opened host request channel) h a = absurd a.1
  seal_case s t main control (Ran host request draws reply) h a = absurd a.1
  seal_case s t main control (Died host request count cause) h a = absurd a.1
  seal_case s t main control (Dead host request count) h a = absurd a.1
  seal_case s t main control (Sealed host request to) h a = let e = Sealed host request to in record {
    legal = noted_legal s.journal t.journal e h.legal a.2;
    holds = one_asked s.journal t.journal s.waiting t.waiting main control request h.holds (noted_asked s.journal t.journal e (request ∷ []) a.2 refl) a.1.0;
    seated = subst (λ z. IsSeated z (progress_of t.journal)) (sym a.1.1) (request, ap (λ (p : Progress). p.phase) (noted_progress s.journal t.journal e a.2));
  }
  seal_case s t main control (Moved to) h a = absurd a.1
  seal_case s t main control (Adopted from to request certified objects) h a = absurd a.1
  seal_case s t main control (Refused host request reason) h a = absurd a.1
  seal_case s t main control (Resumed host request) h a = absurd a.1

  -- an entry that asks nothing leaves what waits
  unasked : (s t : Session) (main control : List Request) (e : Entry) → Keeps s main control → IsNoted meaning hosts s.journal t.journal e → t.waiting ≡ s.waiting
      → asked_by (progress_of s.journal).phase e ≡ [] → IsSeated t.seat (progress_of t.journal) → Keeps t main control
  unasked s t main control e h noted waits asks sits = record {
    legal = noted_legal s.journal t.journal e h.legal noted;
    holds = none_asked s.journal t.journal s.waiting t.waiting main control h.holds (noted_asked s.journal t.journal e [] noted asks ∙ append-nil (asked s.journal)) waits;
    seated = sits;
  }

  move_case : (s t : Session) (main control : List Request) → Keeps s main control → Happens meaning hosts s move t → Keeps t main control
  move_case s t main control h (host, packed, carried, waits, noted) =
      let sits = subst (λ z. IsSeated z (progress_of s.journal)) packed h.seated in
      unasked s t main control (Moved host) h noted waits refl
      (subst (λ z. IsSeated z (progress_of t.journal)) (sym carried)
      (sits.0, ap (λ (p : Progress). p.phase) (noted_progress s.journal t.journal (Moved host) noted) ∙ ap moved sits.1))

  adopt_case : (s t : Session) (main control : List Request) (e : Entry) → Keeps s main control → Happens meaning hosts s (adopt e) t → Keeps t main control
  adopt_case s t main control (Opened host request channel) h a = absurd a.3
  adopt_case s t main control (Ran host request draws reply) h a = absurd a.3
  adopt_case s t main control (Died host request count cause) h a = absurd a.3
  adopt_case s t main control (Dead host request count) h a = absurd a.3
  adopt_case s t main control (Sealed host request to) h a = absurd a.3
  adopt_case s t main control (Moved to) h a = absurd a.3
  adopt_case s t main control (Adopted from to request certified objects) h a =
      unasked s t main control (Adopted from to request certified objects) h a.4 a.2 refl
      (subst (λ z. IsSeated z (progress_of t.journal)) (sym a.1) (ap (λ (p : Progress). p.phase) (noted_progress s.journal t.journal (Adopted from to request certified objects) a.4), refl))
  adopt_case s t main control (Refused host request reason) h a = absurd a.3
  adopt_case s t main control (Resumed host request) h a =
      let sits = subst (λ z. IsSeated z (progress_of s.journal)) a.0.1 h.seated in
      unasked s t main control (Resumed host request) h a.4 a.2 (ap (λ phase. if_settled phase request) sits.1)
      (subst (λ z. IsSeated z (progress_of t.journal)) (sym a.1) (ap (λ (p : Progress). p.phase) (noted_progress s.journal t.journal (Resumed host request) a.4), refl))

  claim_case : (s t : Session) (main control : List Request) → Keeps s main control → Happens meaning hosts s claim t → Keeps t main control
  claim_case s t main control h a = subst (λ z. Keeps z main control) (sym a.1) (record {
    legal = h.legal;
    holds = h.holds;
    seated = (subst (λ z. IsSeated z (progress_of s.journal)) a.0 h.seated, refl);
  })

  give_case : (s t : Session) (main control : List Request) → Keeps s main control → Happens meaning hosts s give t → Keeps t main control
  give_case s t main control h a = subst (λ z. Keeps z main control) (sym a.1) (record {
    legal = h.legal;
    holds = h.holds;
    seated = settled_out s main control a.0.0 h a.0.1;
  })

  admit_case : (s t : Session) (main control : List Request) (r : Request) → Keeps s main control → Happens meaning hosts s (admit r) t
      → Keeps t (main ++ filter is_main (r ∷ [])) (control ++ filter is_control (r ∷ []))
  admit_case s t main control r h a = subst (λ z. Keeps z (main ++ filter is_main (r ∷ [])) (control ++ filter is_control (r ∷ []))) (sym a) (record {
    legal = h.legal;
    holds = join_case s.journal s.waiting main control r (is_control r) refl h.holds;
    seated = h.seated;
  })

  -- ---- all events

  -- one list after two others
  joined_lists : (test : Request → Bool) (all : List Request) (r : Request) (rs : List Request) → (all ++ filter test (r ∷ [])) ++ filter test rs ≡ all ++ filter test (r ∷ rs)
  joined_lists test all r rs = append_assoc all (filter test (r ∷ [])) (filter test rs) ∙ ap (λ z. all ++ z) (sym (filter-append test (r ∷ []) rs))

  pub all_keep : (s t : Session) (main control : List Request) (events : List Event) → Keeps s main control → Happen meaning hosts s events t
      → Keeps t (main ++ main_admitted events) (control ++ control_admitted events)
  all_keep s t main control [] h a = subst (λ z. Keeps t z (control ++ [])) (sym (append-nil main)) (subst (λ z. Keeps t main z) (sym (append-nil control)) (subst (λ z. Keeps z main control) (sym a) h))
  all_keep s t main control (admit r ∷ events) h (next, one, more) =
      subst (λ z. Keeps t z (control ++ control_admitted (admit r ∷ events))) (joined_lists is_main main r (admitted events))
      (subst (λ z. Keeps t ((main ++ filter is_main (r ∷ [])) ++ main_admitted events) z) (joined_lists is_control control r (admitted events))
      (all_keep next t (main ++ filter is_main (r ∷ [])) (control ++ filter is_control (r ∷ [])) events (admit_case s next main control r h one) more))
  all_keep s t main control (claim ∷ events) h (next, one, more) = all_keep next t main control events (claim_case s next main control h one) more
  all_keep s t main control (ends e ∷ events) h (next, one, more) = all_keep next t main control events (ends_case s next main control e h one) more
  all_keep s t main control (give ∷ events) h (next, one, more) = all_keep next t main control events (give_case s next main control h one) more
  all_keep s t main control (seal e ∷ events) h (next, one, more) = all_keep next t main control events (seal_case s next main control e h one) more
  all_keep s t main control (move ∷ events) h (next, one, more) = all_keep next t main control events (move_case s next main control h one) more
  all_keep s t main control (adopt e ∷ events) h (next, one, more) = all_keep next t main control events (adopt_case s next main control e h one) more

  opened_keeps : (host : ℕ) (request : Header) (channel : Channel) → host < hosts → Keeps (opened_session host request channel) [] []
  opened_keeps host request channel there = record {
    legal = (there, tt);
    holds = record { main = refl; control = refl; in_main = tt; in_control = tt };
    seated = refl;
  }

  pub opened_goes_on : (host : ℕ) (request : Header) (channel : Channel) (events : List Event) (t : Session) → host < hosts → Happen meaning hosts (opened_session host request channel) events t
      → Keeps t (main_admitted events) (control_admitted events)
  opened_goes_on host request channel events t there a = all_keep (opened_session host request channel) t [] [] events (opened_keeps host request channel there) a

pub one_has : (seat : Seat) (a b : ℕ) → HasResident seat a → HasResident seat b → a ≡ b
one_has in_cell a b h k = absurd h
one_has (out_with x) a b h k = h ∙ sym k
one_has (parcel_for x) a b h k = absurd h
one_has (carried_by x) a b h k = h ∙ sym k
