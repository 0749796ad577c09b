-- What a pop, a join and an admission leave of a Resident.
use Rattle.std.proofs.Common.{◌≡◌, ◌≢◌, ℕ, Bool, true, false, not, inl, inr, List, [], ◌∷◌, ◌++◌, filter, map, append_assoc, append-nil, refl, sym, ap, ◌∙◌, subst, Option, Some, None, MatchOption, Result, Ok, Err, MatchResult, cond}
use Rattle.std.proofs.lemmas.List.Elements.{filter-append}
use Rattle.nb_outside.specs.Feeds.{Seen}
use Rattle.session_core.specs.declared.request.Request.{Request}
use Rattle.session_core.specs.declared.entry.Entry.{Entry}
use Rattle.session_core.specs.declared.entry.Entry.TheVariants.{Opened, Ran, Died, Dead, Sealed, Moved, Adopted, Refused, Resumed}
use Rattle.session_core.specs.Asks.{is_main, is_control}
use Rattle.session_core.specs.Meanings.{Served, Meaning}
use Rattle.session_core.specs.Legal.{IsOpening, IsLegal, asked}
use Rattle.session_queues.specs.declared.items.MainItem.{MainItem}
use Rattle.session_queues.specs.declared.items.MainItem.TheVariants.{Opening, Asked}
use Rattle.ruled_queue.specs.declared.rule.View.{View}
use Rattle.ruled_queue.proofs.Keeping.{cons_is_not_nil}
use Rattle.session_queues.specs.declared.shared.SharedQueues.{SharedQueues}
use Rattle.session_queues.specs.Ends.{Held, Outgoing, FoundNothing, looked_at_both, TookRequest, admitted_main, admitted_control}
use Rattle.session_gate.specs.Answered.{opening_by, opening_of, as_main, as_control, IsAnswered}
use Rattle.session_gate.specs.Facts.{IsResident}

-- a legal journal has an opening
opens : (meaning : Meaning) (hosts kernel : ℕ) (e : Entry) (rest : List MainItem) → IsOpening meaning hosts e → opening_by kernel e ++ rest ≢ []
opens meaning hosts kernel (Opened host request channel) rest h is = cons_is_not_nil (Opening kernel host request channel) rest is
opens meaning hosts kernel (Ran host request draws reply) rest h is = h
opens meaning hosts kernel (Died host request count cause) rest h is = h
opens meaning hosts kernel (Dead host request count) rest h is = h
opens meaning hosts kernel (Sealed host request to) rest h is = h
opens meaning hosts kernel (Moved to) rest h is = h
opens meaning hosts kernel (Adopted from to request certified objects) rest h is = h
opens meaning hosts kernel (Refused host request reason) rest h is = h
opens meaning hosts kernel (Resumed host request) rest h is = h

pub begun : (meaning : Meaning) (hosts kernel : ℕ) (es : List Entry) (ends : Held) (owed : List Request) → IsLegal meaning hosts es → IsAnswered kernel es ends owed → ends.main.popped ≢ []
begun meaning hosts kernel [] ends owed legal h is = legal
begun meaning hosts kernel (e ∷ es) ends owed legal h is =
    opens meaning hosts kernel e (opening_of kernel es ++ as_main (asked (e ∷ es) ++ owed)) legal.0
    (sym (append_assoc (opening_by kernel e) (opening_of kernel es) (as_main (asked (e ∷ es) ++ owed))) ∙ sym h.0 ∙ is)

-- ---- one request more

filter_one : (p : Request → Bool) (b : Bool) (rs : List Request) (r : Request) → p r ≡ b → filter p (rs ++ r ∷ []) ≡ filter p rs ++ cond b (r ∷ []) []
filter_one p b rs r is = filter-append p rs (r ∷ []) ∙ ap (λ c. filter p rs ++ cond c (r ∷ []) []) is

map_more : (rs ss : List Request) → map (λ r. Asked r) (rs ++ ss) ≡ map (λ r. Asked r) rs ++ map (λ r. Asked r) ss
map_more [] ss = refl
map_more (r ∷ rs) ss = ap (λ l. Asked r ∷ l) (map_more rs ss)

-- of the control list
pub as_main_control : (rs : List Request) (r : Request) → is_control r ≡ true → as_main (rs ++ r ∷ []) ≡ as_main rs
as_main_control rs r is = ap (λ l. map (λ x. Asked x) l) (filter_one is_main false rs r (ap not is) ∙ append-nil (filter is_main rs))

pub as_control_control : (rs : List Request) (r : Request) → is_control r ≡ true → as_control (rs ++ r ∷ []) ≡ as_control rs ++ r ∷ []
as_control_control rs r is = filter_one is_control true rs r is

-- of the main list
pub as_main_main : (rs : List Request) (r : Request) → is_control r ≡ false → as_main (rs ++ r ∷ []) ≡ as_main rs ++ Asked r ∷ []
as_main_main rs r is = ap (λ l. map (λ x. Asked x) l) (filter_one is_main true rs r (ap not is)) ∙ map_more (filter is_main rs) (r ∷ [])

pub as_control_main : (rs : List Request) (r : Request) → is_control r ≡ false → as_control (rs ++ r ∷ []) ≡ as_control rs
as_control_main rs r is = filter_one is_control false rs r is ∙ append-nil (filter is_control rs)

-- what was popped last is owed
pub popped_owes : (kernel : ℕ) (es : List Entry) (old new : Held) (r : Request) → IsAnswered kernel es old [] → TookRequest old r new → IsAnswered kernel es new (r ∷ [])
popped_owes kernel es old new r h (inl t) =
    let none = append-nil (asked es) in (
      ap (λ (e : Held). e.main.popped) t.2 ∙ h.0 ∙ ap (λ rs. opening_of kernel es ++ as_main rs) none ∙ ap (λ l. opening_of kernel es ++ l) (sym (as_main_control (asked es) r t.0)),
      ap (λ (v : View Request). v.popped) t.1.now ∙ ap (λ l. l ++ r ∷ []) (h.1 ∙ ap as_control none) ∙ sym (as_control_control (asked es) r t.0),
    )
popped_owes kernel es old new r h (inr t) =
    let none = append-nil (asked es) in (
      ap (λ (v : View MainItem). v.popped) t.1.now ∙ ap (λ l. l ++ Asked r ∷ []) (h.0 ∙ ap (λ rs. opening_of kernel es ++ as_main rs) none)
          ∙ append_assoc (opening_of kernel es) (as_main (asked es)) (Asked r ∷ []) ∙ ap (λ l. opening_of kernel es ++ l) (sym (as_main_main (asked es) r t.0)),
      ap (λ (e : Held). e.control.popped) t.3 ∙ h.1 ∙ ap as_control none ∙ sym (as_control_main (asked es) r t.0),
    )

-- looks that find nothing leave what was popped
pub looks_answered : (kernel : ℕ) (es : List Entry) (old new : Held) → IsAnswered kernel es old [] → new ≡ looked_at_both old → IsAnswered kernel es new []
looks_answered kernel es old new h is = (ap (λ (e : Held). e.main.popped) is ∙ h.0, ap (λ (e : Held). e.control.popped) is ∙ h.1)

-- what a pop tells, with what is owed then
pub popped_told : (kernel : ℕ) (es : List Entry) (old new : Held) (r : Option Request) → IsAnswered kernel es old [] → MatchOption r ((new ≡ looked_at_both old) × FoundNothing old) (λ x. TookRequest old x new)
    → MatchOption r ((new ≡ looked_at_both old) × FoundNothing old) (λ x. TookRequest old x new × IsAnswered kernel es new (x ∷ []))
popped_told kernel es old new None h is = is
popped_told kernel es old new (Some x) h is = (is, popped_owes kernel es old new x h is)

popped_queues : (old new : Held) (r : Request) → TookRequest old r new → new.queues ≡ old.queues
popped_queues old new r (inl t) = ap (λ (e : Held). e.queues) t.2
popped_queues old new r (inr t) = ap (λ (e : Held). e.queues) t.3

module _ (meaning : Meaning) (Stands : List Served → Type 0) (host : ℕ) (seen : Seen) (hosts : ℕ) (dead : Bool) (count kernel : ℕ) (es : List Entry) (out : Outgoing) where
  abbrev Is : Held → Type 0
  Is ends = IsResident meaning Stands host seen hosts dead count kernel es ends out

  with_ends : (ends new : Held) (owed : List Request) → Is ends → IsAnswered kernel es new owed → new.queues ≡ ends.queues → Is new
  with_ends ends new owed h answered queues = record {
    kept = h.kept;
    answered = (owed, answered);
    fed = h.fed;
    published = (h.published.0 ∙ ap (λ (q : SharedQueues). q.out) (sym queues), h.published.1);
  }

  pub resident_popped : (ends new : Held) (r : Option Request) → Is ends → IsAnswered kernel es ends [] → MatchOption r ((new ≡ looked_at_both ends) × FoundNothing ends) (λ x. TookRequest ends x new) → Is new
  resident_popped ends new None h answered is = with_ends ends new [] h (looks_answered kernel es ends new answered is.0) (ap (λ (e : Held). e.queues) is.0)
  resident_popped ends new (Some x) h answered is = with_ends ends new (x ∷ []) h (popped_owes kernel es ends new x answered is) (popped_queues ends new x is)

  -- steps that pop nothing
  pub resident_same : (ends new : Held) → Is ends → new.main.popped ≡ ends.main.popped → new.control.popped ≡ ends.control.popped → new.queues ≡ ends.queues → Is new
  resident_same ends new h main control queues = with_ends ends new h.answered.0 h (main ∙ h.answered.1.0, control ∙ h.answered.1.1) queues

  admitted_one : (ends : Held) (r : Request) (control : Bool) → Is ends → Is (cond control (admitted_control ends r) (admitted_main ends r))
  admitted_one ends r true h = resident_same ends (admitted_control ends r) h refl refl refl
  admitted_one ends r false h = resident_same ends (admitted_main ends r) h refl refl refl

  pub resident_admitted : (ends new : Held) (r : Request) (result : Result (Unit {0}) Request) → Is ends
      → MatchResult result (λ _. new ≡ cond (is_control r) (admitted_control ends r) (admitted_main ends r)) (λ x. (x ≡ r) × (new ≡ ends)) → Is new
  resident_admitted ends new r (Ok u) h is = subst Is (sym is) (admitted_one ends r (is_control r) h)
  resident_admitted ends new r (Err x) h is = subst Is (sym is.1) h
