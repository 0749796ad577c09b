-- What functions ensure, from what they put; and what comes after a text.
use Rattle.std.proofs.Common.{◌≡◌, ℕ, zero, suc, ◌+◌, ◌<◌, true, false, List, [], length, drop, Some, None, Result, Ok, Err, refl, sym, ap, subst, ◌∙◌, arith}
use Rattle.std.specs.Prelude.{nat_le, slice_get, codes}
use Rattle.std.proofs.lemmas.Bool.Decides.{nat_tests}
use Rattle.nb_outside.specs.declared.feed.Drawn.{Drawn}
use Rattle.py_heap.specs.declared.state.State.{State}
use Rattle.py_heap.specs.Dicts.{Pairs}
use Rattle.py_machine.specs.declared.error.Fault.{Fault}
use Rattle.py_machine.specs.declared.error.Fault.TheVariants.{OutOfMemory, DrawFailed, Raised}
use Rattle.py_machine.specs.declared.machine.Machine.{Machine}
use Rattle.py_machine.specs.Errors.{memory_error, recursion_error}
use Rattle.py_value.specs.declared.key.Key.{Key}
use Rattle.py_value.specs.declared.value.Value.{Value}
use Rattle.py_value.specs.declared.value.Value.TheVariants as value
use Rattle.py_meaning.specs.Meaning.{level}
use Rattle.py_meaning.specs.Meaning as kernel
use Rattle.py_meaning.specs.Operators.{made_text}
use Rattle.py_meaning.specs.Shown.{shown, written}
use Rattle.py_machine.specs.Runs.{Outcome, Stop, raised, raise, tells, told}
use Rattle.py_machine.specs.Runs as runs
use Rattle.py_meaning.specs.Acts.{Act, run}
use Rattle.py_show.specs.Limits.{Limit, limited, pushed}
use Rattle.py_show.specs.OnState.{Puts, Ending}
use Rattle.py_show.specs.OnState as on
use Rattle.py_show.specs.Uses.{put_told, limited_after, done, Gives, PutsRun}
use Rattle.py_show.proofs.Limiting.{is_long}
use Rattle.py_show.proofs.Deeper.{level-left, next_pair}
use Rattle.py_show.proofs.Alike.{Written, on_machine, line}

-- a function that puts what a run gives
pub puts_run : {state : State} {p : Act (List ℕ)} {s : Puts} (text : Limit) (steps : ℕ) (result : Result (Unit {0}) Fault) (new : Limit) (now : ℕ)
    → Written state p s → Gives s text steps result new now → PutsRun (run p) state text steps result new now
puts_run {s = s} text steps result new now w h = λ before draws m is_state is_steps is_text t.
    w.on before draws m is_state
    ∙ ap (λ z. on_machine m (s z m.steps)) is_text
    ∙ ap (λ k. on_machine m (s text k)) is_steps
    ∙ ap (λ z. on_machine m z) (h t)

pub empty_limited : limited [] ≡ Some []
unfolding limited
empty_limited = refl

-- an end of a function that puts is the end of one that gives a text
pub text_err : (e : Fault) (r : Result Limit Fault) (text : Limit) (o : Outcome Limit) (n : Machine) → r ≡ Err e → tells r ≡ true
    → (tells {A = Unit {0}} (Err e) ≡ true → o ≡ (put_told (Err e) text, n)) → o ≡ (told r, n)
text_err OutOfMemory r text o n is t h = let none = rw is at t in absurd (let no : ⊥ = cc none in no)
text_err DrawFailed r text o n is t h = rw is (h refl)
text_err (Raised e) r text o n is t h = rw is (h refl)

-- an end of what is put first is the end of all
pub gives_err : (e : Fault) (r : Result (Unit {0}) Fault) (o : Ending Limit) (text : Limit) (k : ℕ) (next : Puts) → r ≡ Err e → tells r ≡ true
    → (tells {A = Unit {0}} (Err e) ≡ true → o ≡ (put_told (Err e) text, k)) → on.after o.0 o.1 next ≡ (put_told r text, k)
gives_err OutOfMemory r o text k next is t h = let none = rw is at t in absurd (let no : ⊥ = cc none in no)
gives_err DrawFailed r o text k next is t h = let f = h refl in rw (is, f) refl
gives_err (Raised e) r o text k next is t h = let f = h refl in rw (is, f) refl

-- a pair of a dict that ends early
pub pair_err : (state : State) (s : List ℕ → Value → Puts) (path : List ℕ) (pairs : Pairs) (i : ℕ) (pair : Key × Value) (text : Limit) (steps : ℕ) (e : Fault) (r : Result (Unit {0}) Fault) (new : Limit) (now : ℕ)
    → slice_get pairs i ≡ Some pair → r ≡ Err e → tells r ≡ true
    → (tells {A = Unit {0}} (Err e) ≡ true → on.pair_shown state s path pair (pushed text (codes ", ")) steps ≡ (put_told (Err e) new, now))
    → on.more_pairs state s path (drop i pairs) text steps ≡ (put_told r new, now)
pair_err state s path pairs i pair text steps e r new now at is t h =
    next_pair state s path pairs i pair text steps at
    ∙ gives_err e r (on.pair_shown state s path pair (pushed text (codes ", ")) steps) new now (on.more_pairs state s path (drop (i + 1) pairs)) is t h

-- goes on after a text that is kept as far as the limit
ended_by : {B : Type 0} (r : Result (List ℕ) Stop) (n : Machine) (text : Limit) (m : Machine) (next : List ℕ → Machine → Outcome B) (x : Outcome B)
    → limited_after [] (r, n) ≡ (Ok text, m) → ((bytes : List ℕ) → limited bytes ≡ text → next bytes m ≡ x) → runs.after r n next ≡ x
ended_by (Ok a) n text m next x h g =
    let first : ◌≡◌ {A = Result Limit Stop} (Ok (limited a)) (Ok text) = ap (λ (z : Outcome Limit). z.0) h in
    let same : limited a ≡ text = cc first in
    let machine : n ≡ m = ap (λ (z : Outcome Limit). z.1) h in
    subst (λ u. next a u ≡ x) (sym machine) (g a same)
ended_by (Err e) n text m next x h g =
    let first : ◌≡◌ {A = Result Limit Stop} (Err e) (Ok text) = ap (λ (z : Outcome Limit). z.0) h in
    absurd (let no : ⊥ = cc first in no)

pub ended : {B : Type 0} (o : Outcome (List ℕ)) (text : Limit) (m : Machine) (next : List ℕ → Machine → Outcome B) (x : Outcome B)
    → limited_after [] o ≡ (Ok text, m) → ((bytes : List ℕ) → limited bytes ≡ text → next bytes m ≡ x) → runs.after o.0 o.1 next ≡ x
ended o text m next x h g = ended_by o.0 o.1 text m next x h g

-- or doesn't go on, if it is an end
stopped_by : {B : Type 0} (r : Result (List ℕ) Stop) (n : Machine) (e : Stop) (m : Machine) (next : List ℕ → Machine → Outcome B)
    → limited_after [] (r, n) ≡ (Err e, m) → runs.after r n next ≡ (Err e, m)
stopped_by (Ok a) n e m next h =
    let first : ◌≡◌ {A = Result Limit Stop} (Ok (limited a)) (Err e) = ap (λ (z : Outcome Limit). z.0) h in
    absurd (let no : ⊥ = cc first in no)
stopped_by (Err f) n e m next h =
    let first : ◌≡◌ {A = Result Limit Stop} (Err f) (Err e) = ap (λ (z : Outcome Limit). z.0) h in
    let same : f ≡ e = cc first in
    let machine : n ≡ m = ap (λ (z : Outcome Limit). z.1) h in
    rw (same, machine) refl

pub stopped : {B : Type 0} (e : Fault) (r : Result B Fault) (o : Outcome (List ℕ)) (m : Machine) (next : List ℕ → Machine → Outcome B) → r ≡ Err e → tells r ≡ true
    → (tells {A = Limit} (Err e) ≡ true → limited_after [] o ≡ (told {A = Limit} (Err e), m)) → runs.after o.0 o.1 next ≡ (told r, m)
stopped OutOfMemory r o m next is t h = let none = rw is at t in absurd (let no : ⊥ = cc none in no)
stopped DrawFailed r o m next is t h = rw is (stopped_by o.0 o.1 runs.draw_failed m next (h refl))
stopped (Raised x) r o m next is t h = rw is (stopped_by o.0 o.1 (raised x) m next (h refl))

-- an end of a charge
pub uncharged : (A : Type 0) {B : Type 0} (e : Fault) (r : Result B Fault) (o : Outcome (Unit {0})) (m : Machine) (next : Unit {0} → Machine → Outcome B) → r ≡ Err e → tells r ≡ true
    → (tells {A = A} (Err e) ≡ true → o ≡ (done {A = A} (Err e), m)) → runs.after o.0 o.1 next ≡ (told r, m)
uncharged A OutOfMemory r o m next is t h = let none = rw is at t in absurd (let no : ⊥ = cc none in no)
uncharged A DrawFailed r o m next is t h = let f = h refl in rw (is, f) refl
uncharged A (Raised x) r o m next is t h = let f = h refl in rw (is, f) refl

-- an end of one call is the end of the next
pub after_err : {A B : Type 0} (e : Fault) (r : Result B Fault) (o : Outcome A) (m : Machine) (next : A → Machine → Outcome B) → r ≡ Err e → tells r ≡ true
    → (tells {A = A} (Err e) ≡ true → o ≡ (told {A = A} (Err e), m)) → runs.after o.0 o.1 next ≡ (told r, m)
after_err OutOfMemory r o m next is t h = let none = rw is at t in absurd (let no : ⊥ = cc none in no)
after_err DrawFailed r o m next is t h = let f = h refl in rw (is, f) refl
after_err (Raised x) r o m next is t h = let f = h refl in rw (is, f) refl

pub charge_err : (e : Fault) (r : Result (List ℕ) Fault) (o : Outcome (Unit {0})) (m : Machine) → r ≡ Err e → tells r ≡ true
    → (tells {A = Unit {0}} (Err e) ≡ true → o ≡ (told {A = Unit {0}} (Err e), m)) → o ≡ (done r, m)
charge_err OutOfMemory r o m is t h = let none = rw is at t in absurd (let no : ⊥ = cc none in no)
charge_err DrawFailed r o m is t h = rw is (h refl)
charge_err (Raised x) r o m is t h = rw is (h refl)

past_limit : (meter n : ℕ) → 16777216 < n → nat_le (meter + n) 16777216 ≡ false
past_limit meter n h = grind (arith, nat_tests)

-- the charge of a text that isn't kept is refused
pub refused : (bytes : List ℕ) (m : Machine) → limited bytes ≡ None → runs.charge (length bytes) m ≡ raise memory_error m
unfolding runs.charge
refused bytes m h = let past = past_limit m.state.meter (length bytes) (is_long bytes h) in rw past refl

-- ---- the `str` of a text

given : (r : Result (Unit {0}) Stop) (n : Machine) (text : List ℕ) (between : Outcome (List ℕ)) → between ≡ runs.after r n (λ _. runs.give text)
    → runs.after between.0 between.1 (λ t. runs.give (value.Text t)) ≡ runs.after r n (λ _. runs.give (value.Text text))
given (Ok u) n text between e = rw e refl
given (Err x) n text between e = rw e refl

pub text_steps : (n : ℕ) (text : List ℕ) (draws : List Drawn) (m : Machine) → 0 < n
    → run (kernel.str (level n) (value.Text text)) draws m ≡ runs.after (runs.step m).0 (runs.step m).1 (λ _. runs.give (value.Text text))
unfolding kernel.str written level
text_steps zero text draws m some = absurd (let no : ⊥ = omega arith in no)
text_steps (suc n) text draws m some = given (runs.step m).0 (runs.step m).1 text _ refl

pub text_at_last : (n : ℕ) (text : List ℕ) (draws : List Drawn) (m : Machine) → n ≡ 0
    → run (kernel.str (level n) (value.Text text)) draws m ≡ raise recursion_error m
unfolding kernel.str written level
text_at_last zero text draws m none = refl
text_at_last (suc n) text draws m none = absurd (let no : ⊥ = omega arith in no)

-- ---- the calls that show, at a level

pub line_at : (state : State) (n : ℕ) (values : List Value) → Written state (kernel.line (level n) values) (on.line state n values)
line_at state n values = subst (λ k. Written state (kernel.line (level n) values) (on.line state k values)) (level-left n) (line state (level n) values)

-- a text is made of what a run gives
abbrev made_after : Outcome (List ℕ) → List Drawn → Outcome Value
made_after outcome draws = runs.after outcome.0 outcome.1 (λ bytes. run (made_text bytes) draws)

pub repr_at : (n : ℕ) (v : Value) (draws : List Drawn) (m : Machine) → run (kernel.repr (level n) v) draws m ≡ made_after (run (shown n [] [] v) draws m) draws
unfolding kernel.repr
repr_at n v draws m = ap (λ k. made_after (run (shown k [] [] v) draws m) draws) (level-left n)

pub str_at : (n : ℕ) (v : Value) (draws : List Drawn) (m : Machine) → ((text : List ℕ) → v ≡ value.Text text → ⊥)
    → run (kernel.str (level n) v) draws m ≡ made_after (run (written n v) draws m) draws
unfolding kernel.str
str_at n (value.Text text) draws m h = absurd (h text refl)
str_at n value.Nothing draws m h = ap (λ k. made_after (run (written k value.Nothing) draws m) draws) (level-left n)
str_at n (value.Bool truth) draws m h = ap (λ k. made_after (run (written k (value.Bool truth)) draws m) draws) (level-left n)
str_at n (value.Number number) draws m h = ap (λ k. made_after (run (written k (value.Number number)) draws m) draws) (level-left n)
str_at n (value.Ref at) draws m h = ap (λ k. made_after (run (written k (value.Ref at)) draws m) draws) (level-left n)
str_at n (value.Builtin builtin) draws m h = ap (λ k. made_after (run (written k (value.Builtin builtin)) draws m) draws) (level-left n)
