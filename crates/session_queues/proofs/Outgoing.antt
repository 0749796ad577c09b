-- What steps leave of the owner's side of out.
use Rattle.std.proofs.Common.{◌≡◌, ℕ, ◌+◌, ◌<◌, Bool, true, false, true≢false, List, [], ◌∷◌, ◌++◌, length, take, drop, append_assoc, append-nil, length-append, refl, sym, ap, ◌∙◌, subst, inl, inr, arith}
use Rattle.std.proofs.lemmas.List.{take-append-drop}
use Rattle.std.specs.Prelude.{Some, MatchBool}
use Rattle.session_core.specs.declared.entry.Entry.{Entry}
use Rattle.ruled_queue.specs.declared.rule.View.{View}
use Rattle.ruled_queue.specs.Rule.{of, Keeps, joined, took, Took, MayPush, Waits}
use Rattle.session_queues.specs.Passes.{Counts}
use Rattle.session_queues.specs.Items.{number_of_entry, IsForOut, opens_out}
use Rattle.session_queues.specs.Ends.{Outgoing, pushed_by, publishes, pushed_while, IsOutlet, IsOpen, drains, takes, AreFirst, GoesOn, AreFirstPushed, KnowsPushed, IsDrainedOf, IsTakenOf}

-- while the reader isn't closed
pub open_is : (closed : Bool) (v : View Entry) (n : ℕ) → IsOpen (pushed_while closed v) → IsOutlet closed v n → (closed ≡ false) × (v ≡ publishes (pushed_by v)) × (n ≡ length (pushed_by v))
open_is true v n open_ h = absurd open_
open_is false v n open_ h = (refl, h.0, h.1)

pub may_push : (v : View Entry) (e : Entry) → v ≡ publishes (pushed_by v) → MayPush number_of_entry IsForOut opens_out v e
may_push v e h = record {
  keeps = (pushed_by v, subst (λ (u : View Entry). Keeps 0 (pushed_by v) u.lists) (sym h) (inl (refl, refl)));
  fit = tt;
  opening = inl refl;
}

-- once the reader's end is joined
pub draining : (closed : Bool) (reader v joins : View Entry) (taken : List Entry) (n : ℕ) → closed ≡ false → reader ≡ takes taken → IsOutlet closed v n → joins ≡ joined reader v → joins ≡ drains taken (pushed_by v)
draining true reader v joins taken n open_ r h is = absurd (true≢false open_)
draining false reader v joins taken n open_ r h is = is ∙ ap (λ u. joined u v) r ∙ ap (λ u. joined (takes taken) u) h.0

-- then it knows what the producer pushed
pub known_joined : (closed : Bool) (reader v joins : View Entry) (n : ℕ) → closed ≡ false → reader ≡ takes reader.popped → IsOutlet closed v n → joins ≡ joined reader v → KnowsPushed joins (pushed_by v)
known_joined closed reader v joins n open_ r h is =
    let all : joins ≡ drains reader.popped (pushed_by v) = draining closed reader v joins reader.popped n open_ r h is in
    record { known = all ∙ ap (λ (u : View Entry). drains u.popped (pushed_by v)) (sym all) }

pub counted : (closed : Bool) (v : View Entry) (n : ℕ) → closed ≡ false → IsOutlet closed v n → n ≡ length (pushed_by v)
counted true v n open_ h = absurd (true≢false open_)
counted false v n open_ h = h.1

pub producer : (closed : Bool) (v : View Entry) (n : ℕ) → closed ≡ false → IsOutlet closed v n → v.pops ≡ false
producer true v n open_ h = absurd (true≢false open_)
producer false v n open_ h = ap (λ (u : View Entry). u.pops) h.0

pub consumer : (closed : Bool) (v : View Entry) (n : ℕ) → closed ≡ true → IsOutlet closed v n → v.pops ≡ true
consumer true v n is h = ap (λ (u : View Entry). u.pops) h.1.drained
consumer false v n is h = absurd (true≢false (sym is))

pub taken_of : (closed : Bool) (v : View Entry) (taken left : List Entry) → closed ≡ false → pushed_by v ≡ taken ++ left → IsTakenOf (pushed_while closed v) taken
taken_of true v taken left open_ is = absurd (true≢false open_)
taken_of false v taken left open_ is = (left, is)

-- ---- closing

all_of_number : (es : List Entry) → of number_of_entry 0 es ≡ es
all_of_number [] = refl
all_of_number (e ∷ es) = ap (λ l. e ∷ l) (all_of_number es)

abbrev pub Popped : Bool → View Entry → View Entry → Type 0
Popped r v w = MatchBool r ((x : Entry) × Took number_of_entry IsForOut opens_out v x w) ((w ≡ v) × Waits number_of_entry v [])

pub pops_on : (r : Bool) (v w : View Entry) → Popped r v w → v.pops ≡ true → w.pops ≡ true
pops_on false v w h pops = ap (λ (u : View Entry). u.pops) h.0 ∙ pops
pops_on true v w h pops = ap (λ (u : View Entry). u.pops) h.1.now ∙ pops

-- what was popped are the first of those that were pushed
pub first_pushed : (r : Bool) (v w : View Entry) (pushed : List Entry) → Popped r v w → KnowsPushed v pushed → (rest : List Entry) × (pushed ≡ v.popped ++ rest)
first_pushed false v w pushed h is =
    ([], h.1.of_each 0 pushed (subst (λ (u : View Entry). Keeps 0 pushed u.lists) (sym is.known) (inl (refl, refl))) ∙ all_of_number (v.popped ++ []))
first_pushed true v w pushed h is =
    let next = h.1.next pushed (subst (λ (u : View Entry). Keeps 0 pushed u.lists) (sym is.known) (inl (refl, refl))) in
    (h.0 ∷ next.0, next.1 ∙ ap (λ l. l ++ h.0 ∷ next.0) (all_of_number v.popped))

-- what was pushed stays known
pub known_on : (r : Bool) (v w : View Entry) (pushed : List Entry) → Popped r v w → KnowsPushed v pushed → KnowsPushed w pushed
known_on false v w pushed h is = record { known = h.0 ∙ is.known ∙ ap (λ (u : View Entry). drains u.popped pushed) (sym h.0) }
known_on true v w pushed h is =
    let popped : v.popped ++ h.0 ∷ [] ≡ w.popped = ap (λ (u : View Entry). u.popped) (sym h.1.now) in
    record { known = h.1.now ∙ ap (λ u. took u h.0) is.known ∙ ap (λ p. drains p pushed) popped }

-- a queue that is found empty is drained
pub drained_at_none : (r : Bool) (v w : View Entry) (pushed : List Entry) → r ≡ false → Popped r v w → KnowsPushed v pushed → IsDrainedOf w pushed
drained_at_none true v w pushed none h is = absurd (true≢false none)
drained_at_none false v w pushed none h is =
    let all : pushed ≡ v.popped =
    h.1.of_each 0 pushed (subst (λ (u : View Entry). Keeps 0 pushed u.lists) (sym is.known) (inl (refl, refl))) ∙ all_of_number (v.popped ++ []) ∙ append-nil v.popped in
    record { drained = h.0 ∙ is.known ∙ ap (λ p. drains p pushed) (sym all) }

-- below 2^32 the count is the length
pub counted_taken : (n : ℕ) (taken pushed rest : List Entry) (count : ℕ) → Counts n (length taken) → pushed ≡ taken ++ rest → count ≡ length pushed → count < 4294967296 → n ≡ length taken
counted_taken n taken pushed rest count (inl is) more same less = is
counted_taken n taken pushed rest count (inr big) more same less =
    let long : length pushed ≡ length taken + length rest = ap length more ∙ length-append taken rest in absurd (omega arith)

-- what the reader took are the first of those that were pushed
pub first_taken : (closed : Bool) (reader v joins : View Entry) (n : ℕ) → closed ≡ false → reader ≡ takes reader.popped → IsOutlet closed v n → joins ≡ joined reader v → AreFirstPushed joins
    → (rest : List Entry) × (pushed_by v ≡ reader.popped ++ rest)
first_taken closed reader v joins n open_ r h is first =
    let all : joins ≡ drains reader.popped (pushed_by v) = draining closed reader v joins reader.popped n open_ r h is in
    let popped : joins.popped ≡ reader.popped = ap (λ (u : View Entry). u.popped) all in
    let rest = first (pushed_by v) (known_joined closed reader v joins n open_ r h is) in
    (rest.0, rest.1 ∙ ap (λ p. p ++ rest.0) popped)

-- ---- publishing what wasn't pushed yet

-- what was pushed before, and the first `index` of those that were left
pub record IsUnderWay (old new : Outgoing) (entries left : List Entry) (index : ℕ) : Type 0 where
  pub pushed : List Entry
  pub was : old.pushed ≡ Some pushed
  pub whole : entries ≡ pushed ++ left
  pub now : new ≡ record old { pushed = Some (pushed ++ take index left) }

pub still_first : (old new : Outgoing) (entries left : List Entry) (index : ℕ) → IsUnderWay old new entries left index → AreFirst new.pushed entries
still_first old new entries left index h = subst (λ (o : Outgoing). AreFirst o.pushed entries) (sym h.now)
    (drop index left, h.whole ∙ ap (λ l. h.pushed ++ l) (sym (take-append-drop index left)) ∙ sym (append_assoc h.pushed (take index left) (drop index left)))

pub gone_on : (old new : Outgoing) (entries left : List Entry) (index : ℕ) → IsUnderWay old new entries left index → GoesOn old.pushed new.pushed
gone_on old new entries left index h = subst (λ (o : Outgoing). GoesOn old.pushed o.pushed) (sym h.now)
    (subst (λ p. GoesOn p (Some (h.pushed ++ take index left))) (sym h.was) (take index left, refl))
