-- Which events the calls of a move are.
use Rattle.std.proofs.Common.{◌≡◌, ◌⊎◌, ℕ, Bool, true, false, not, inl, inr, List, [], ◌∷◌, ◌++◌, refl, sym, ap, ◌∙◌, subst, append_assoc, append-nil}
use Rattle.std.specs.Prelude.{filter}
use Rattle.std.proofs.lemmas.List.{append_cancel_left}
use Rattle.std.proofs.lemmas.List.Elements.{filter-append}
use Rattle.session_core.specs.declared.request.Request.{Request}
use Rattle.session_core.specs.declared.entry.Entry.{Entry}
use Rattle.session_core.specs.declared.entry.Entry.TheVariants.{Opened, Ran, Died, Dead, Sealed, Moved, Adopted, Refused, Resumed}
use Rattle.session_core.specs.Asks.{is_main, is_control}
use Rattle.session_core.specs.Entries.{IsEnd, IsArrival}
use Rattle.session_core.specs.Meanings.{Meaning}
use Rattle.session_core.specs.Legal.{Phase, settled, arriving, progress_of, MayCome, IsOpening, IsLegal, if_settled, asked_by, asked, main_asked, control_asked}
use Rattle.session_core.specs.Machine.{Seat, in_cell, out_with, parcel_for, carried_by, Waiting, Session, IsTaken, Event, claim, ends, give, seal, move, adopt, Happen}
use Rattle.session_core.proofs.Progressing.{asked_more}
use Rattle.session_core.proofs.Stepping.{noted_asks}
use Rattle.session_core.proofs.Happening.{filter_yes, filter_no}
use Rattle.session_core.proofs.Headline.{came_there}
use Rattle.session_core.specs.Reaching.{BeginsWith}
use Rattle.hand_off.specs.Doing.{IsAs, Does}

-- ---- what waits

-- the front of a list whose part that is answered grew by it
front_of : (all first waits rest : List Request) (r : Request) → all ≡ first ++ waits → all ≡ (first ++ r ∷ []) ++ rest → waits ≡ r ∷ rest
front_of all first waits rest r is also = append_cancel_left first waits (r ∷ rest) (sym is ∙ also ∙ append_assoc first (r ∷ []) rest)

asked_yes : (test : Request → Bool) (rs : List Request) (r : Request) → test r ≡ true → filter test (rs ++ r ∷ []) ≡ filter test rs ++ r ∷ []
asked_yes test rs r is = filter-append test rs (r ∷ []) ∙ ap (λ z. filter test rs ++ z) (filter_yes test r [] is)

asked_no : (test : Request → Bool) (rs : List Request) (r : Request) → test r ≡ false → filter test (rs ++ r ∷ []) ≡ filter test rs
asked_no test rs r is = filter-append test rs (r ∷ []) ∙ ap (λ z. filter test rs ++ z) (filter_no test r [] is) ∙ append-nil (filter test rs)

-- a session with one entry more, that answers this request, which is taken from its list
record IsTakenTo (main control : List Request) (new : List Entry) (s : Session) (r : Request) : Type 0 where
  waiting : Waiting
  taken : IsTaken s.waiting waiting r
  main_list : main ≡ main_asked new ++ waiting.main
  control_list : control ≡ control_asked new ++ waiting.control

taken_by : (main control : List Request) (seat : Seat) (old new : List Entry) (s : Session) (r : Request) (on_control : Bool) → is_control r ≡ on_control → asked new ≡ asked old ++ r ∷ []
    → BeginsWith main (main_asked new) → BeginsWith control (control_asked new) → IsAs main control seat old s → IsTakenTo main control new s r
taken_by main control seat old new s r true is asks in_main in_control h =
    let more : control_asked new ≡ control_asked old ++ r ∷ [] = ap (filter is_control) asks ∙ asked_yes is_control (asked old) r is in
    let same : main_asked new ≡ main_asked old = ap (filter is_main) asks ∙ asked_no is_main (asked old) r (ap not is) in record {
      waiting = record { main = s.waiting.main; control = in_control.0 };
      taken = inr (front_of control (control_asked old) s.waiting.control in_control.0 r h.control_list (in_control.1 ∙ ap (λ z. z ++ in_control.0) more), refl);
      main_list = h.main_list ∙ ap (λ z. z ++ s.waiting.main) (sym same);
      control_list = in_control.1;
    }
taken_by main control seat old new s r false is asks in_main in_control h =
    let more : main_asked new ≡ main_asked old ++ r ∷ [] = ap (filter is_main) asks ∙ asked_yes is_main (asked old) r (ap not is) in
    let same : control_asked new ≡ control_asked old = ap (filter is_control) asks ∙ asked_no is_control (asked old) r is in record {
      waiting = record { main = in_main.0; control = s.waiting.control };
      taken = inl (front_of main (main_asked old) s.waiting.main in_main.0 r h.main_list (in_main.1 ∙ ap (λ z. z ++ in_main.0) more), refl);
      main_list = in_main.1;
      control_list = h.control_list ∙ ap (λ z. z ++ s.waiting.control) (sym same);
    }

-- ---- an entry that came

end_more : (P Q : Request → Type 0) (e : Entry) → ((r : Request) → P r → Q r) → IsEnd P e → IsEnd Q e
end_more P Q (Opened host request channel) f h = absurd h
end_more P Q (Ran host request draws reply) f h = f request h
end_more P Q (Died host request count cause) f h = f request h
end_more P Q (Dead host request count) f h = f request h
end_more P Q (Sealed host request to) f h = absurd h
end_more P Q (Moved to) f h = absurd h
end_more P Q (Adopted from to request certified objects) f h = absurd h
end_more P Q (Refused host request reason) f h = f request h
end_more P Q (Resumed host request) f h = f request h

module _ (meaning : Meaning) (hosts : ℕ) where
  -- no entry of these is an opening
  end_no_opening : (P : Request → Type 0) (e : Entry) → IsEnd P e → ¬ IsOpening meaning hosts e
  end_no_opening P (Opened host request channel) h opens = h
  end_no_opening P (Ran host request draws reply) h opens = opens
  end_no_opening P (Died host request count cause) h opens = opens
  end_no_opening P (Dead host request count) h opens = opens
  end_no_opening P (Sealed host request to) h opens = opens
  end_no_opening P (Moved to) h opens = opens
  end_no_opening P (Adopted from to request certified objects) h opens = opens
  end_no_opening P (Refused host request reason) h opens = opens
  end_no_opening P (Resumed host request) h opens = opens

  arrival_no_opening : (e : Entry) → IsArrival e → ¬ IsOpening meaning hosts e
  arrival_no_opening (Opened host request channel) h opens = h
  arrival_no_opening (Ran host request draws reply) h opens = opens
  arrival_no_opening (Died host request count cause) h opens = opens
  arrival_no_opening (Dead host request count) h opens = opens
  arrival_no_opening (Sealed host request to) h opens = opens
  arrival_no_opening (Moved to) h opens = opens
  arrival_no_opening (Adopted from to request certified objects) h opens = opens
  arrival_no_opening (Refused host request reason) h opens = opens
  arrival_no_opening (Resumed host request) h opens = opens

  either_may : (old : List Entry) (e : Entry) → IsOpening meaning hosts e ⊎ MayCome meaning hosts (progress_of old) e → ¬ IsOpening meaning hosts e → MayCome meaning hosts (progress_of old) e
  either_may old e (inl opens) none = absurd (none opens)
  either_may old e (inr may) none = may

  -- the last entry of a legal journal may come there, but for an opening
  came_last : (old new : List Entry) (e : Entry) → new ≡ old ++ e ∷ [] → IsLegal meaning hosts new → ¬ IsOpening meaning hosts e → MayCome meaning hosts (progress_of old) e
  came_last old new e is legal none = either_may old e (came_there meaning hosts new old e legal ([], is)) none

  -- ---- what a call is

  pub ends_does : (old new : List Entry) (e : Entry) (r : Request) (from to : ℕ) → new ≡ old ++ e ∷ [] → IsLegal meaning hosts new → IsEnd (λ x. x ≡ r) e → (progress_of old).phase ≡ settled → to ≡ from
      → Does meaning hosts (out_with from) old (ends e ∷ []) (out_with to) new
  ends_does old new e r from to is legal ends_it phase same main control in_main in_control s h =
      let asks : asked new ≡ asked old ++ r ∷ [] = ap asked is ∙ asked_more old e ∙ ap (λ z. asked old ++ z) (noted_asks (progress_of old).phase e r phase ends_it) in
      let k = taken_by main control (out_with from) old new s r (is_control r) refl asks in_main in_control h in
      let t : Session = record { waiting = k.waiting; journal = new; seat = s.seat } in (
        t,
        (
          t,
          (
            (from, h.sits),
            refl,
            end_more (λ x. x ≡ r) (IsTaken s.waiting k.waiting) e (λ x x_is. subst (IsTaken s.waiting k.waiting) (sym x_is) k.taken) ends_it,
            (
              subst (λ es. MayCome meaning hosts (progress_of es) e) (sym h.journal) (came_last old new e is legal (end_no_opening (λ x. x ≡ r) e ends_it)),
              is ∙ ap (λ es. es ++ e ∷ []) (sym h.journal),
            ),
          ),
          refl,
        ),
        record { journal = refl; sits = h.sits ∙ ap out_with (sym same); main_list = k.main_list; control_list = k.control_list },
      )

  pub seal_does : (old new : List Entry) (host : ℕ) (r : Request) (from to : ℕ) → new ≡ old ++ Sealed host r to ∷ [] → IsLegal meaning hosts new
      → Does meaning hosts (out_with from) old (seal (Sealed host r to) ∷ []) (parcel_for to) new
  seal_does old new host r from to is legal main control in_main in_control s h =
      let e = Sealed host r to in
      let asks : asked new ≡ asked old ++ r ∷ [] = ap asked is ∙ asked_more old e in
      let k = taken_by main control (out_with from) old new s r (is_control r) refl asks in_main in_control h in
      let t : Session = record { waiting = k.waiting; journal = new; seat = parcel_for to } in (
        t,
        (
          t,
          (
            (from, h.sits),
            (k.taken, refl),
            (subst (λ es. MayCome meaning hosts (progress_of es) e) (sym h.journal) (came_last old new e is legal (λ opens. opens)), is ∙ ap (λ es. es ++ e ∷ []) (sym h.journal)),
          ),
          refl,
        ),
        record { journal = refl; sits = refl; main_list = k.main_list; control_list = k.control_list },
      )

  -- an entry that answers nothing leaves what waits
  still : (main control : List Request) (seat to : Seat) (old new : List Entry) (s t : Session) → asked new ≡ asked old → IsAs main control seat old s → t.journal ≡ new → t.seat ≡ to → t.waiting ≡ s.waiting → IsAs main control to new t
  still main control seat to old new s t same h journal sits waits = record {
    journal = journal;
    sits = sits;
    main_list = h.main_list ∙ ap (λ z. filter is_main z ++ s.waiting.main) (sym same) ∙ ap (λ (w : Waiting). main_asked new ++ w.main) (sym waits);
    control_list = h.control_list ∙ ap (λ z. filter is_control z ++ s.waiting.control) (sym same) ∙ ap (λ (w : Waiting). control_asked new ++ w.control) (sym waits);
  }

  asked_none : (old new : List Entry) (e : Entry) → new ≡ old ++ e ∷ [] → asked_by (progress_of old).phase e ≡ [] → asked new ≡ asked old
  asked_none old new e is none = ap asked is ∙ asked_more old e ∙ ap (λ z. asked old ++ z) none ∙ append-nil (asked old)

  pub move_does : (old new : List Entry) (to : ℕ) → new ≡ old ++ Moved to ∷ [] → IsLegal meaning hosts new → Does meaning hosts (parcel_for to) old (move ∷ []) (carried_by to) new
  move_does old new to is legal main control in_main in_control s h =
      let e = Moved to in
      let t : Session = record { waiting = s.waiting; journal = new; seat = carried_by to } in (
        t,
        (
          t,
          (
            to,
            h.sits,
            refl,
            refl,
            (subst (λ es. MayCome meaning hosts (progress_of es) e) (sym h.journal) (came_last old new e is legal (λ opens. opens)), is ∙ ap (λ es. es ++ e ∷ []) (sym h.journal)),
          ),
          refl,
        ),
        still main control (parcel_for to) (carried_by to) old new s t (asked_none old new e is refl) h refl refl refl,
      )

  arrival_asks : (phase : Phase) (again : Request) (to : ℕ) (e : Entry) → phase ≡ arriving again to → IsArrival e → asked_by phase e ≡ []
  arrival_asks phase again to (Opened host request channel) is h = absurd h
  arrival_asks phase again to (Ran host request draws reply) is h = absurd h
  arrival_asks phase again to (Died host request count cause) is h = absurd h
  arrival_asks phase again to (Dead host request count) is h = absurd h
  arrival_asks phase again to (Sealed host request there) is h = absurd h
  arrival_asks phase again to (Moved there) is h = absurd h
  arrival_asks phase again to (Adopted from there request certified objects) is h = refl
  arrival_asks phase again to (Refused host request reason) is h = absurd h
  arrival_asks phase again to (Resumed host request) is h = ap (λ z. if_settled z request) is

  pub adopt_does : (old new : List Entry) (e : Entry) (again : Request) (to : ℕ) → new ≡ old ++ e ∷ [] → IsLegal meaning hosts new → IsArrival e → (progress_of old).phase ≡ arriving again to
      → Does meaning hosts (carried_by to) old (adopt e ∷ []) (out_with (progress_of new).owner) new
  adopt_does old new e again to is legal arrives phase main control in_main in_control s h =
      let t : Session = record { waiting = s.waiting; journal = new; seat = out_with (progress_of new).owner } in (
        t,
        (
          t,
          (
            (to, h.sits),
            refl,
            refl,
            arrives,
            (subst (λ es. MayCome meaning hosts (progress_of es) e) (sym h.journal) (came_last old new e is legal (arrival_no_opening e arrives)), is ∙ ap (λ es. es ++ e ∷ []) (sym h.journal)),
          ),
          refl,
        ),
        still main control (carried_by to) (out_with (progress_of new).owner) old new s t (asked_none old new e is (arrival_asks (progress_of old).phase again to e phase arrives)) h refl refl refl,
      )

  pub claim_does : (entries : List Entry) → Does meaning hosts in_cell entries (claim ∷ []) (out_with (progress_of entries).owner) entries
  claim_does entries main control in_main in_control s h =
      let t : Session = record { waiting = s.waiting; journal = entries; seat = out_with (progress_of entries).owner } in
      let now : t ≡ record s { seat = out_with (progress_of s.journal).owner } = ap (λ es. record { waiting = s.waiting; journal = es; seat = out_with (progress_of es).owner }) (sym h.journal) in (
        t,
        (t, (h.sits, now), refl),
        still main control in_cell (out_with (progress_of entries).owner) entries entries s t refl h refl refl refl,
      )

  pub give_does : (entries : List Entry) (host : ℕ) → Does meaning hosts (out_with host) entries (give ∷ []) in_cell entries
  give_does entries host main control in_main in_control s h =
      let t : Session = record { waiting = s.waiting; journal = entries; seat = in_cell } in
      let now : t ≡ record s { seat = in_cell } = ap (λ es. record { waiting = s.waiting; journal = es; seat = in_cell }) (sym h.journal) in (
        t,
        (t, ((host, h.sits), now), refl),
        still main control (out_with host) in_cell entries entries s t refl h refl refl refl,
      )

  -- one list of events after another
  happen_more : (s t u : Session) (es fs : List Event) → Happen meaning hosts s es t → Happen meaning hosts t fs u → Happen meaning hosts s (es ++ fs) u
  happen_more s t u [] fs h k = subst (λ x. Happen meaning hosts x fs u) h k
  happen_more s t u (e ∷ es) fs (next, one, more) k = (next, one, happen_more next t u es fs more k)

  begins_before : (all first more : List Request) → BeginsWith all (first ++ more) → BeginsWith all first
  begins_before all first more (rest, is) = (more ++ rest, is ∙ append_assoc first more rest)

  asked_then : (test : Request → Bool) (all : List Request) (es fs : List Entry) (rs : List Request) → asked fs ≡ asked es ++ rs → BeginsWith all (filter test (asked fs)) → BeginsWith all (filter test (asked es))
  asked_then test all es fs rs is h = begins_before all (filter test (asked es)) (filter test rs) (subst (BeginsWith all) (ap (filter test) is ∙ filter-append test (asked es) rs) h)

  pub does_then : (a b c : Seat) (old mid new : List Entry) (es fs : List Event) (rs : List Request) → asked new ≡ asked mid ++ rs
      → Does meaning hosts a old es b mid → Does meaning hosts b mid fs c new → Does meaning hosts a old (es ++ fs) c new
  does_then a b c old mid new es fs rs is one two main control in_main in_control s h =
      let (t, first, k) = one main control (asked_then is_main main mid new rs is in_main) (asked_then is_control control mid new rs is in_control) s h in
      let (u, second, l) = two main control in_main in_control t k in (u, happen_more s t u es fs first second, l)
