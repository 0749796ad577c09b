-- The failing token of a text that is to be one function alone, and that there is no other.
use Rattle.std.proofs.Common.{◌≡◌, ◌+◌, ◌<◌, ◌≤◌, ℕ, zero, suc, List, [], ◌∷◌, ◌++◌, length, take, slice_get, Option, Some, None, refl, ap, ◌∙◌, sym, subst, append_assoc, arith, take_at, take-take, take-append-drop, drop}
use Rattle.py_token.specs.declared.kinds.Kind.{Kind}
use Rattle.py_grammar.specs.declared.constructs.Construct.{Construct}
use Rattle.py_grammar.specs.Statements.{IsCell}
use Rattle.py_grammar.specs.States.{State, start, StandsAt}
use Rattle.py_grammar.specs.Outside.{outside}
use Rattle.py_grammar.proofs.Failing.{stands_at, stands_where, one_state}
use Rattle.py_grammar.proofs.Refused.{outside-refused}
use Rattle.py_grammar.specs.Alone.{alone, BeginsDefinition, IsFailingAlone, FailsAlone}
use Rattle.py_grammar.specs.AloneMachine.{step_alone, run_alone}
use Rattle.py_grammar.proofs.AloneKept.{step-read}
use Rattle.py_grammar.proofs.AloneRead.{then_alone, alone-append, alone-read, begins_is_read, read_begins}

-- ---- lists

plus_one : (n : ℕ) → n + 1 ≡ suc n
plus_one n = omega arith

take-next : (tokens : List Kind) (place : ℕ) (k : Kind) → slice_get tokens place ≡ Some k → take (suc place) tokens ≡ take place tokens ++ k ∷ []
take-next [] place k h = cc
take-next (x ∷ xs) zero k h = let e : x ≡ k = cc in ap (λ y. y ∷ []) e
take-next (x ∷ xs) (suc place) k h = ap (◌∷◌ x) (take-next xs place k h)

take-past : (tokens : List Kind) (place : ℕ) → slice_get tokens place ≡ None → take (suc place) tokens ≡ take place tokens
take-past [] zero h = refl
take-past [] (suc place) h = refl
take-past (x ∷ xs) zero h = cc
take-past (x ∷ xs) (suc place) h = ap (◌∷◌ x) (take-past xs place h)

slice_get-joined : (before : List Kind) (k : Kind) (ts : List Kind) → slice_get (before ++ k ∷ ts) (length before) ≡ Some k
slice_get-joined [] k ts = refl
slice_get-joined (x ∷ xs) k ts = slice_get-joined xs k ts

-- the tokens up to an index and the one there
with-next : (tokens : List Kind) (place : ℕ) (k : Kind) → slice_get tokens place ≡ Some k → take (place + 1) tokens ≡ take place tokens ++ k ∷ []
with-next tokens place k h = ap (λ n. take n tokens) (plus_one place) ∙ take-next tokens place k h

with-none : (tokens : List Kind) (place : ℕ) → slice_get tokens place ≡ None → take (place + 1) tokens ≡ take place tokens
with-none tokens place h = ap (λ n. take n tokens) (plus_one place) ∙ take-past tokens place h

-- ---- the failing token

refused_at : (ts : List Kind) (k : Kind) (s u : State) → run_alone start ts ≡ Some s → step_alone s k ≡ None → run_alone start (ts ++ k ∷ []) ≡ Some u → ⊥
refused_at ts k s u e bad h = let stuck : run_alone start (ts ++ k ∷ []) ≡ None = alone-append ts (k ∷ []) start s e ∙ ap (then_alone []) bad in cc

-- the first token that is refused is the failing one
pub is_failing : (tokens : List Kind) (place : ℕ) (s : State) (k : Kind) → run_alone start (take place tokens) ≡ Some s → slice_get tokens place ≡ Some k → step_alone s k ≡ None → IsFailingAlone tokens place
is_failing tokens place s k e g bad =
    record {
      before = read_begins (take place tokens) s e;
      with = λ b. let r = begins_is_read (take place tokens ++ k ∷ []) (subst BeginsDefinition (with-next tokens place k g) b) in refused_at (take place tokens) k s r.0 e bad r.1;
    }

begins_shorter : (xs ys : List Kind) → BeginsDefinition (xs ++ ys) → BeginsDefinition xs
begins_shorter xs ys (more, called, takes, block, is) = (ys ++ more, called, takes, block, subst (λ ks. IsCell ks (alone called takes block)) (append_assoc xs ys more) is)

begins_before : (tokens : List Kind) (m n : ℕ) → m ≤ n → BeginsDefinition (take n tokens) → BeginsDefinition (take m tokens)
begins_before tokens m n le b =
    let parts : take m tokens ++ drop m (take n tokens) ≡ take n tokens = ap (λ ks. ks ++ drop m (take n tokens)) (sym (take-take m n tokens le)) ∙ take-append-drop m (take n tokens) in
    begins_shorter (take m tokens) (drop m (take n tokens)) (subst BeginsDefinition (sym parts) b)

-- there is no other failing token
pub one_failing : (tokens : List Kind) (a b : ℕ) → IsFailingAlone tokens a → IsFailingAlone tokens b → a ≡ b
one_failing tokens a b h k =
    let p : ¬ (a < b) = λ l. h.with (begins_before tokens (a + 1) b (omega arith) k.before) in
    let q : ¬ (b < a) = λ l. k.with (begins_before tokens (b + 1) a (omega arith) h.before) in
    omega arith

-- the failing token and its construct are the only ones
pub one_failure : (tokens : List Kind) (a b : ℕ) (c d : Option Construct) → FailsAlone tokens a c → FailsAlone tokens b d → (a ≡ b) × (c ≡ d)
one_failure tokens a b c d h k =
    let e = one_failing tokens a b h.failing k.failing in
    let same : Some h.token ≡ Some k.token = sym h.is_token ∙ ap (slice_get tokens) e ∙ k.is_token in
    let same_token : h.token ≡ k.token = cc in
    let same_state = one_state (take a tokens) h.open_forms k.open_forms h.stand k.stand h.before_it (subst (λ n. StandsAt (take n tokens) k.open_forms) (sym e) k.before_it) in
    (e, sym h.begins_construct ∙ ap (λ s. outside s h.token) same_state ∙ ap (outside k.open_forms) same_token ∙ k.begins_construct)

-- ---- some token fails

fails_at : (tokens before : List Kind) (k : Kind) (ts : List Kind) (s : State) → tokens ≡ before ++ k ∷ ts → run_alone start before ≡ Some s → step_alone s k ≡ None → FailsAlone tokens (length before) (outside s k)
fails_at tokens before k ts s e r bad =
    let first : take (length before) tokens ≡ before = ap (take (length before)) e ∙ take_at before (k ∷ ts) (length before) refl in
    let here : slice_get tokens (length before) ≡ Some k = ap (λ ks. slice_get ks (length before)) e ∙ slice_get-joined before k ts in
    let leads : run_alone start (take (length before) tokens) ≡ Some s = ap (run_alone start) first ∙ r in
    let read = alone-read (take (length before) tokens) start s leads in
    record {
      failing = is_failing tokens (length before) s k leads here bad;
      open_forms = s;
      stand = stands_where (take (length before) tokens) s read;
      before_it = stands_at (take (length before) tokens) s read;
      token = k;
      is_token = here;
      begins_construct = refl;
    }

abbrev pub SomeFailure : List Kind → Type 0
SomeFailure tokens = (place : ℕ) × (construct : Option Construct) × FailsAlone tokens place construct

find_on : (tokens before : List Kind) (k : Kind) (ts : List Kind) (s : State) (o : Option State) → step_alone s k ≡ o → tokens ≡ before ++ k ∷ ts → run_alone start before ≡ Some s → then_alone ts o ≡ None
    → ((v : State) → run_alone start (before ++ k ∷ []) ≡ Some v → run_alone v ts ≡ None → SomeFailure tokens) → SomeFailure tokens
find_on tokens before k ts s None g e r bad f = (length before, outside s k, fails_at tokens before k ts s e r g)
find_on tokens before k ts s (Some v) g e r bad f = f v (alone-append before (k ∷ []) start s r ∙ ap (then_alone []) g) bad

find : (ts tokens before : List Kind) (s : State) → tokens ≡ before ++ ts → run_alone start before ≡ Some s → run_alone s ts ≡ None → SomeFailure tokens
find [] tokens before s e r bad = let no : ⊥ = cc in absurd no
find (k ∷ ts) tokens before s e r bad =
    find_on tokens before k ts s (step_alone s k) refl e r bad (λ v g. find ts tokens (before ++ k ∷ []) v (e ∙ sym (append_assoc before (k ∷ []) ts)) g)

fails_on : (tokens : List Kind) (o : Option State) → run_alone start tokens ≡ o → (BeginsDefinition tokens → ⊥) → SomeFailure tokens
fails_on tokens None e n = find tokens tokens [] start refl refl e
fails_on tokens (Some s) e n = absurd (n (read_begins tokens s e))

-- if no function alone begins with the tokens, one of them fails
pub some_fails : (tokens : List Kind) → (BeginsDefinition tokens → ⊥) → SomeFailure tokens
some_fails tokens n = fails_on tokens (run_alone start tokens) refl n

-- ---- the machine stops there

-- the machine reads the tokens before an index and refuses the one there
abbrev StopsAt : List Kind → ℕ → Type 0
StopsAt tokens place = (s : State) × (k : Kind) × (run_alone start (take place tokens) ≡ Some s) × (slice_get tokens place ≡ Some k) × (step_alone s k ≡ None)

stops_on : (tokens : List Kind) (place : ℕ) (s : State) (k : Kind) (o : Option State) → IsFailingAlone tokens place → run_alone start (take place tokens) ≡ Some s → slice_get tokens place ≡ Some k → step_alone s k ≡ o → StopsAt tokens place
stops_on tokens place s k None h r g e = (s, k, r, g, e)
stops_on tokens place s k (Some v) h r g e =
    absurd (h.with (subst BeginsDefinition (sym (with-next tokens place k g)) (read_begins (take place tokens ++ k ∷ []) v (alone-append (take place tokens) (k ∷ []) start s r ∙ ap (then_alone []) e))))

stops_read : (tokens : List Kind) (place : ℕ) (o : Option Kind) → IsFailingAlone tokens place → slice_get tokens place ≡ o → StopsAt tokens place
stops_read tokens place None h g = absurd (h.with (subst BeginsDefinition (sym (with-none tokens place g)) h.before))
stops_read tokens place (Some k) h g = let r = begins_is_read (take place tokens) h.before in stops_on tokens place r.0 k (step_alone r.0 k) h r.1 g refl

pub failing_stops : (tokens : List Kind) (place : ℕ) → IsFailingAlone tokens place → StopsAt tokens place
failing_stops tokens place h = stops_read tokens place (slice_get tokens place) h refl

-- ---- what is outside the grammar

refused_on : (s : State) (k : Kind) (c : Construct) (o : Option State) → outside s k ≡ Some c → step_alone s k ≡ o → step_alone s k ≡ None
refused_on s k c None h e = e
refused_on s k c (Some u) h e =
    let read = step-read s k u e in
    let bad = outside-refused s k c h in
    let no : ⊥ = cc in
    absurd no

-- a token that begins a construct outside the grammar is refused
pub outside_is_refused : (s : State) (k : Kind) (c : Construct) → outside s k ≡ Some c → step_alone s k ≡ None
outside_is_refused s k c h = refused_on s k c (step_alone s k) h refl
