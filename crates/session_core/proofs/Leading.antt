-- The machine leads to each legal journal.
use Rattle.std.proofs.Common.{◌≡◌, ℕ, Bool, true, false, not, cond, inl, inr, List, [], ◌∷◌, ◌++◌, refl, sym, ap, ap₂, ◌∙◌, subst, append_assoc}
use Rattle.std.specs.Prelude.{filter}
use Rattle.std.proofs.lemmas.List.{append-nil}
use Rattle.std.proofs.lemmas.List.Elements.{filter-append}
use Rattle.session_core.specs.declared.request.Request.{Request}
use Rattle.session_core.specs.declared.request.Header.{Header}
use Rattle.session_core.specs.declared.request.Channel.{Channel}
use Rattle.session_core.specs.declared.entry.Entry.{Entry}
use Rattle.session_core.specs.declared.entry.Entry.TheVariants.{Opened, Ran, Died, Dead, Sealed, Moved, Adopted, Refused, Resumed}
use Rattle.graph_model.specs.declared.plan.Certified.{Certified}
use Rattle.session_core.specs.Asks.{is_main, is_control}
use Rattle.session_core.specs.Entries.{IsEnd}
use Rattle.session_core.specs.Meanings.{Meaning}
use Rattle.session_core.specs.Legal.{Phase, settled, sealed, arriving, moved, after, before_all, progress_of, MayCome, MayBeMoved, MayBeAdopted, MayBeResumed, AllMayCome, IsLegal, if_settled, asked_by, asked_after, main_asked, control_asked}
use Rattle.session_core.specs.Machine.{Seat, in_cell, out_with, parcel_for, carried_by, Waiting, Session, joined, IsTaken, Event, admit, claim, ends, give, seal, move, adopt, Happens, Happen, opened_session, admitted, main_admitted, control_admitted}
use Rattle.session_core.specs.Answering.{Has}
use Rattle.session_core.specs.Reaching.{AreAll, BeginsWith, IsReached}
use Rattle.session_core.proofs.Progressing.{progress_more}
use Rattle.session_core.proofs.Happening.{filter_yes, filter_no}

-- ---- lists of requests

not_false : (b : Bool) → not b ≡ true → b ≡ false
not_false true h = sym h
not_false false h = refl

all_kept : (test : Request → Bool) (rs : List Request) → AreAll test rs → filter test rs ≡ rs
all_kept test [] h = refl
all_kept test (r ∷ rs) h = filter_yes test r rs h.0 ∙ ap (λ l. r ∷ l) (all_kept test rs h.1)

none_kept : (test other : Request → Bool) (rs : List Request) → ((r : Request) → test r ≡ true → other r ≡ false) → AreAll test rs → filter other rs ≡ []
none_kept test other [] f h = refl
none_kept test other (r ∷ rs) f h = filter_no other r rs (f r h.0) ∙ none_kept test other rs f h.1

main_no_control : (r : Request) → is_main r ≡ true → is_control r ≡ false
main_no_control r h = not_false (is_control r) h

control_no_main : (r : Request) → is_control r ≡ true → is_main r ≡ false
control_no_main r h = ap not h

-- the request that is answered is the front of its list
taken_case : (w : Waiting) (r : Request) (main control : List Request) (on_control : Bool) → is_control r ≡ on_control → w.main ≡ filter is_main (r ∷ []) ++ main → w.control ≡ filter is_control (r ∷ []) ++ control
    → IsTaken w (record { main = main; control = control }) r
taken_case w r main control true is m c = inr (
  c ∙ ap (λ l. l ++ control) (filter_yes is_control r [] is),
  sym (m ∙ ap (λ l. l ++ main) (filter_no is_main r [] (ap not is))),
)
taken_case w r main control false is m c = inl (
  m ∙ ap (λ l. l ++ main) (filter_yes is_main r [] (ap not is)),
  sym (c ∙ ap (λ l. l ++ control) (filter_no is_control r [] is)),
)

-- ---- admissions

admits : List Request → List Event
admits [] = []
admits (r ∷ rs) = admit r ∷ admits rs

admitted_all : (rs : List Request) → admitted (admits rs) ≡ rs
unfolding admits
admitted_all [] = refl
admitted_all (r ∷ rs) = ap (λ l. r ∷ l) (admitted_all rs)

admitted_more : (es fs : List Event) → admitted (es ++ fs) ≡ admitted es ++ admitted fs
admitted_more [] fs = refl
admitted_more (admit r ∷ es) fs = ap (λ l. r ∷ l) (admitted_more es fs)
admitted_more (claim ∷ es) fs = admitted_more es fs
admitted_more (ends e ∷ es) fs = admitted_more es fs
admitted_more (give ∷ es) fs = admitted_more es fs
admitted_more (seal e ∷ es) fs = admitted_more es fs
admitted_more (move ∷ es) fs = admitted_more es fs
admitted_more (adopt e ∷ es) fs = admitted_more es fs

abbrev waits : List Request → List Request → Waiting
waits main control = record { main = main; control = control }

abbrev sits : Waiting → List Entry → Seat → Session
sits w journal seat = record { waiting = w; journal = journal; seat = seat }

joined_main : (main control : List Request) (r : Request) → is_control r ≡ false → joined (waits main control) r ≡ waits (main ++ r ∷ []) control
joined_main main control r is = ap (λ b. cond b (waits main (control ++ r ∷ [])) (waits (main ++ r ∷ []) control)) is

joined_control : (main control : List Request) (r : Request) → is_control r ≡ true → joined (waits main control) r ≡ waits main (control ++ r ∷ [])
joined_control main control r is = ap (λ b. cond b (waits main (control ++ r ∷ [])) (waits (main ++ r ∷ []) control)) is

-- where the Resident is by then
abbrev seat_in : Phase → ℕ → Seat
seat_in settled owner = out_with owner
seat_in (sealed request to) owner = parcel_for to
seat_in (arriving request to) owner = carried_by to

module _ (meaning : Meaning) (hosts : ℕ) where
  happen_more : (s t u : Session) (es fs : List Event) → Happen meaning hosts s es t → Happen meaning hosts t fs u → Happen meaning hosts s (es ++ fs) u
  happen_more s t u [] fs h k = subst (λ x. Happen meaning hosts x fs u) h k
  happen_more s t u (e ∷ es) fs (next, one, more) k = (next, one, happen_more next t u es fs more k)

  admits_main : (journal : List Entry) (seat : Seat) (main control rs : List Request) → AreAll is_main rs
      → Happen meaning hosts (sits (waits main control) journal seat) (admits rs) (sits (waits (main ++ rs) control) journal seat)
  unfolding admits
  admits_main journal seat main control [] h = ap (λ l. sits (waits l control) journal seat) (append-nil main)
  admits_main journal seat main control (r ∷ rs) h = (
    sits (waits (main ++ r ∷ []) control) journal seat,
    ap (λ w. sits w journal seat) (sym (joined_main main control r (main_no_control r h.0))),
    subst (λ l. Happen meaning hosts (sits (waits (main ++ r ∷ []) control) journal seat) (admits rs) (sits (waits l control) journal seat)) (append_assoc main (r ∷ []) rs)
        (admits_main journal seat (main ++ r ∷ []) control rs h.1),
  )

  admits_control : (journal : List Entry) (seat : Seat) (main control rs : List Request) → AreAll is_control rs
      → Happen meaning hosts (sits (waits main control) journal seat) (admits rs) (sits (waits main (control ++ rs)) journal seat)
  unfolding admits
  admits_control journal seat main control [] h = ap (λ l. sits (waits main l) journal seat) (append-nil control)
  admits_control journal seat main control (r ∷ rs) h = (
    sits (waits main (control ++ r ∷ [])) journal seat,
    ap (λ w. sits w journal seat) (sym (joined_control main control r h.0)),
    subst (λ l. Happen meaning hosts (sits (waits main (control ++ r ∷ [])) journal seat) (admits rs) (sits (waits main l) journal seat)) (append_assoc control (r ∷ []) rs)
        (admits_control journal seat main (control ++ r ∷ []) rs h.1),
  )

  -- ---- one entry

  -- an event by which the entry comes, that admits nothing
  record Comes (before : List Entry) (w v : Waiting) (e : Entry) : Type 0 where
    event : Event
    happens : Happens meaning hosts (sits w before (seat_in (progress_of before).phase (progress_of before).owner)) event (sits v (before ++ e ∷ []) (seat_in (after (progress_of before) e).phase (after (progress_of before) e).owner))
    admits_none : admitted (event ∷ []) ≡ []

  -- an entry that ends a request of a settled session, which stays with its owner
  ended : (before : List Entry) (w v : Waiting) (e : Entry) → (progress_of before).phase ≡ settled → (after (progress_of before) e).phase ≡ settled → (after (progress_of before) e).owner ≡ (progress_of before).owner
      → IsEnd (IsTaken w v) e → MayCome meaning hosts (progress_of before) e → Comes before w v e
  ended before w v e phase also owner taken may = record {
    event = ends e;
    happens = (
      ((progress_of before).owner, ap (λ z. seat_in z (progress_of before).owner) phase),
      ap (λ z. seat_in z (after (progress_of before) e).owner) also ∙ ap out_with owner ∙ sym (ap (λ z. seat_in z (progress_of before).owner) phase),
      taken,
      (may, refl),
    );
    admits_none = refl;
  }

  taken_now : (w : Waiting) (r : Request) (main control : List Request) → w.main ≡ filter is_main (r ∷ []) ++ main → w.control ≡ filter is_control (r ∷ []) ++ control → IsTaken w (waits main control) r
  taken_now w r main control m c = taken_case w r main control (is_control r) refl m c

  moved_comes : (before : List Entry) (w : Waiting) (to : ℕ) (phase : Phase) → (progress_of before).phase ≡ phase → MayBeMoved meaning hosts phase to → Comes before w w (Moved to)
  moved_comes before w to settled is may = absurd may
  moved_comes before w to (sealed request host) is may = record {
    event = move;
    happens = (
      to,
      ap (λ z. seat_in z (progress_of before).owner) is ∙ ap parcel_for (sym may),
      ap (λ z. seat_in (moved z) (progress_of before).owner) is ∙ ap carried_by (sym may),
      refl,
      (subst (λ z. MayBeMoved meaning hosts z to) (sym is) may, refl),
    );
    admits_none = refl;
  }
  moved_comes before w to (arriving request host) is may = absurd may

  adopted_comes : (before : List Entry) (w : Waiting) (from to : ℕ) (request : Request) (certified : Certified) (objects : ℕ) (phase : Phase) → (progress_of before).phase ≡ phase
      → MayBeAdopted meaning hosts (progress_of before) phase from to request certified objects → Comes before w w (Adopted from to request certified objects)
  adopted_comes before w from to request certified objects settled is may = absurd may
  adopted_comes before w from to request certified objects (sealed asked_for host) is may = absurd may
  adopted_comes before w from to request certified objects (arriving asked_for host) is may = let e = Adopted from to request certified objects in record {
    event = adopt e;
    happens = (
      (host, ap (λ z. seat_in z (progress_of before).owner) is),
      ap (λ p. out_with p.owner) (sym (progress_more before e)),
      refl,
      tt,
      (subst (λ z. MayBeAdopted meaning hosts (progress_of before) z from to request certified objects) (sym is) may, refl),
    );
    admits_none = refl;
  }

  resumed_comes : (before : List Entry) (w : Waiting) (host : ℕ) (request : Request) (main control : List Request) (phase : Phase) → (progress_of before).phase ≡ phase
      → MayBeResumed meaning hosts (progress_of before) phase host request → w.main ≡ filter is_main (if_settled phase request) ++ main → w.control ≡ filter is_control (if_settled phase request) ++ control
      → Comes before w (waits main control) (Resumed host request)
  resumed_comes before w host request main control settled is may m c =
      ended before w (waits main control) (Resumed host request) is refl refl (taken_now w request main control m c) (subst (λ z. MayBeResumed meaning hosts (progress_of before) z host request) (sym is) may)
  resumed_comes before w host request main control (sealed asked_for to) is may m c = absurd may
  resumed_comes before w host request main control (arriving asked_for to) is may m c = let e = Resumed host request in record {
    event = adopt e;
    happens = (
      (to, ap (λ z. seat_in z (progress_of before).owner) is),
      ap (λ p. out_with p.owner) (sym (progress_more before e)),
      (let a : main ≡ w.main = sym m in let b : control ≡ w.control = sym c in ap₂ waits a b),
      tt,
      (subst (λ z. MayBeResumed meaning hosts (progress_of before) z host request) (sym is) may, refl),
    );
    admits_none = refl;
  }

  -- an entry that answers nothing leaves what waits
  waits_same : (w : Waiting) (main control : List Request) → w.main ≡ main → w.control ≡ control → w ≡ waits main control
  waits_same w main control m c = ap₂ waits m c

  comes : (before : List Entry) (w : Waiting) (e : Entry) (main control : List Request) → MayCome meaning hosts (progress_of before) e
      → w.main ≡ filter is_main (asked_by (progress_of before).phase e) ++ main → w.control ≡ filter is_control (asked_by (progress_of before).phase e) ++ control → Comes before w (waits main control) e
  comes before w (Opened host request channel) main control may m c = absurd may
  comes before w (Ran host request draws reply) main control may m c = ended before w (waits main control) (Ran host request draws reply) may.0 may.0 refl (taken_now w request main control m c) may
  comes before w (Died host request count cause) main control may m c = ended before w (waits main control) (Died host request count cause) may.0 may.0 refl (taken_now w request main control m c) may
  comes before w (Dead host request count) main control may m c = ended before w (waits main control) (Dead host request count) may.0 may.0 refl (taken_now w request main control m c) may
  comes before w (Sealed host request to) main control may m c = record {
    event = seal (Sealed host request to);
    happens = (((progress_of before).owner, ap (λ z. seat_in z (progress_of before).owner) may.0), (taken_now w request main control m c, refl), (may, refl));
    admits_none = refl;
  }
  comes before w (Moved to) main control may m c = subst (λ v. Comes before w v (Moved to)) (waits_same w main control m c) (moved_comes before w to (progress_of before).phase refl may)
  comes before w (Adopted from to request certified objects) main control may m c = subst (λ v. Comes before w v (Adopted from to request certified objects)) (waits_same w main control m c)
      (adopted_comes before w from to request certified objects (progress_of before).phase refl may)
  comes before w (Refused host request reason) main control may m c = ended before w (waits main control) (Refused host request reason) may.0 may.0 refl (taken_now w request main control m c) may
  comes before w (Resumed host request) main control may m c = resumed_comes before w host request main control (progress_of before).phase refl may m c

  -- ---- all entries

  record Leads (s : Session) (journal : List Entry) : Type 0 where
    events : List Event
    session : Session
    happens : Happen meaning hosts s events session
    journal_is : session.journal ≡ journal
    admits_none : admitted events ≡ []

  -- one event before the others
  admitted_first : (event : Event) (events : List Event) → admitted (event ∷ []) ≡ [] → admitted events ≡ [] → admitted (event ∷ events) ≡ []
  admitted_first event events one more = admitted_more (event ∷ []) events ∙ ap (λ l. l ++ admitted events) one ∙ more

  walk : (before es : List Entry) (w : Waiting) (main control : List Request) → AllMayCome meaning hosts (progress_of before) es
      → w.main ≡ filter is_main (asked_after (progress_of before) es) ++ main → w.control ≡ filter is_control (asked_after (progress_of before) es) ++ control
      → Leads (sits w before (seat_in (progress_of before).phase (progress_of before).owner)) (before ++ es)
  walk before [] w main control all m c = record {
    events = [];
    session = sits w before (seat_in (progress_of before).phase (progress_of before).owner);
    happens = refl;
    journal_is = sym (append-nil before);
    admits_none = refl;
  }
  walk before (e ∷ es) w main control all m c =
      let p = progress_of before in
      let q = after p e in
      let next = before ++ e ∷ [] in
      let now : progress_of next ≡ q = progress_more before e in
      let main_then = filter is_main (asked_after q es) ++ main in
      let control_then = filter is_control (asked_after q es) ++ control in
      let one = comes before w e main_then control_then all.0
      (m ∙ ap (λ l. l ++ main) (filter-append is_main (asked_by p.phase e) (asked_after q es)) ∙ append_assoc (filter is_main (asked_by p.phase e)) (filter is_main (asked_after q es)) main)
      (c ∙ ap (λ l. l ++ control) (filter-append is_control (asked_by p.phase e) (asked_after q es)) ∙ append_assoc (filter is_control (asked_by p.phase e)) (filter is_control (asked_after q es)) control) in
      let rest = walk next es (waits main_then control_then) main control (subst (λ z. AllMayCome meaning hosts z es) (sym now) all.1)
      (ap (λ z. filter is_main (asked_after z es) ++ main) (sym now)) (ap (λ z. filter is_control (asked_after z es) ++ control) (sym now)) in record {
        events = one.event ∷ rest.events;
        session = rest.session;
        happens = (
          sits (waits main_then control_then) next (seat_in (progress_of next).phase (progress_of next).owner),
          subst (λ z. Happens meaning hosts (sits w before (seat_in p.phase p.owner)) one.event (sits (waits main_then control_then) next (seat_in z.phase z.owner))) (sym now) one.happens,
          rest.happens,
        );
        journal_is = rest.journal_is ∙ append_assoc before (e ∷ []) es;
        admits_none = admitted_first one.event rest.events one.admits_none rest.admits_none;
      }

  main_of : (main control : List Request) (es : List Event) → AreAll is_main main → AreAll is_control control → admitted es ≡ []
      → main_admitted (admits main ++ (admits control ++ claim ∷ es)) ≡ main
  main_of main control es m c none =
      ap (filter is_main) (admitted_more (admits main) (admits control ++ claim ∷ es) ∙ ap₂ (λ x y. x ++ y) (admitted_all main) (admitted_more (admits control) (claim ∷ es) ∙ ap₂ (λ x y. x ++ y) (admitted_all control) none))
      ∙ filter-append is_main main (control ++ []) ∙ ap (λ l. filter is_main main ++ filter is_main l) (append-nil control)
      ∙ ap₂ (λ x y. x ++ y) (all_kept is_main main m) (none_kept is_control is_main control control_no_main c) ∙ append-nil main

  control_of : (main control : List Request) (es : List Event) → AreAll is_main main → AreAll is_control control → admitted es ≡ []
      → control_admitted (admits main ++ (admits control ++ claim ∷ es)) ≡ control
  control_of main control es m c none =
      ap (filter is_control) (admitted_more (admits main) (admits control ++ claim ∷ es) ∙ ap₂ (λ x y. x ++ y) (admitted_all main) (admitted_more (admits control) (claim ∷ es) ∙ ap₂ (λ x y. x ++ y) (admitted_all control) none))
      ∙ filter-append is_control main (control ++ []) ∙ ap (λ l. filter is_control main ++ filter is_control l) (append-nil control)
      ∙ ap₂ (λ x y. x ++ y) (none_kept is_main is_control main main_no_control m) (all_kept is_control control c)

  -- a legal journal after its opening
  reached_from : (host : ℕ) (request : Header) (channel : Channel) (es : List Entry) (main control : List Request) → AllMayCome meaning hosts (after before_all (Opened host request channel)) es
      → BeginsWith main (main_asked (Opened host request channel ∷ es)) → BeginsWith control (control_asked (Opened host request channel ∷ es)) → AreAll is_main main → AreAll is_control control
      → IsReached meaning hosts host request channel (Opened host request channel ∷ es) main control
  reached_from host request channel es main control all in_main in_control m c =
      let start = Opened host request channel ∷ [] in
      let w = waits main control in
      let led = walk start es w in_main.0 in_control.0 all in_main.1 in_control.1 in
      let in_first = sits (waits main []) start in_cell in
      let in_both = sits w start in_cell in record {
        events = admits main ++ (admits control ++ claim ∷ led.events);
        session = led.session;
        happens = happen_more (opened_session host request channel) in_first led.session (admits main) (admits control ++ claim ∷ led.events) (admits_main start in_cell [] [] main m)
            (happen_more in_first in_both led.session (admits control) (claim ∷ led.events) (admits_control start in_cell main [] control c)
            (sits w start (out_with host), (refl, refl), led.happens));
        journal_is = led.journal_is;
        main_is = main_of main control led.events m c led.admits_none;
        control_is = control_of main control led.events m c led.admits_none;
      }

  pub reached : (host : ℕ) (request : Header) (channel : Channel) (journal : List Entry) (main control : List Request) → IsLegal meaning hosts journal → Has journal [] (Opened host request channel)
      → BeginsWith main (main_asked journal) → BeginsWith control (control_asked journal) → AreAll is_main main → AreAll is_control control
      → IsReached meaning hosts host request channel journal main control
  reached host request channel journal main control legal (es, is) in_main in_control m c =
      subst (λ j. IsReached meaning hosts host request channel j main control) (sym is)
      (reached_from host request channel es main control (subst (IsLegal meaning hosts) is legal).1 (subst (λ j. BeginsWith main (main_asked j)) is in_main) (subst (λ j. BeginsWith control (control_asked j)) is in_control) m c)
