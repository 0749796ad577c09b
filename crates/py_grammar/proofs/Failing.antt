-- The failing token, the tree, and that there is no other.
use Rattle.std.proofs.Common.{◌≡◌, ◌+◌, ◌<◌, ◌≤◌, ℕ, zero, suc, List, [], ◌∷◌, ◌++◌, length, take, slice_get, Option, Some, None, refl, ap, ◌∙◌, sym, subst, append_assoc, arith, take_at, take-take, take-append-drop, append-nil, drop}
use Rattle.py_token.specs.declared.kinds.Kind.{Kind}
use Rattle.std.specs.Prelude.{◌↔◌}
use Rattle.py_tree.specs.declared.statements.Stmt.{Stmt}
use Rattle.py_grammar.specs.declared.constructs.Construct.{Construct}
use Rattle.py_grammar.specs.Statements.{Params, compound, define, Block, statements_one, spell_statement, Cell, IsCell, BeginsCell, IsFailing}
use Rattle.py_grammar.specs.States.{State, done, start, step, run, StandsAt, state_stands}
use Rattle.py_grammar.specs.Trees.{tree_statement, Source, tree_cell, Reads, ReadsDefinition}
use Rattle.py_grammar.specs.Outside.{outside, Fails}
use Rattle.py_grammar.proofs.Whole.{then_run, led, run-append, is_where, read_is, is_read, one_cell, viable, refused, begun_is_read}

take-next : (tokens : List Kind) (place : ℕ) (t : Kind) → slice_get tokens place ≡ Some t → take (suc place) tokens ≡ take place tokens ++ t ∷ []
take-next [] place t h = cc
take-next (x ∷ xs) zero t h = let e : x ≡ t = cc in ap (λ y. y ∷ []) e
take-next (x ∷ xs) (suc place) t h = ap (◌∷◌ x) (take-next xs place t h)

-- the first token that is refused is the failing one
pub is_failing : (tokens : List Kind) (place : ℕ) (s : State) (t : Kind) → run start (take place tokens) ≡ Some s → slice_get tokens place ≡ Some t → step s t ≡ None → IsFailing tokens place
is_failing tokens place s t e g bad =
    let next : take (place + 1) tokens ≡ take place tokens ++ t ∷ [] = ap (λ n. take n tokens) (plus_one place) ∙ take-next tokens place t g in
    record { before = viable (take place tokens) s e; with = λ b. refused (take place tokens) t s e bad (subst BeginsCell next b) }
  where
    plus_one : (n : ℕ) → n + 1 ≡ suc n
    plus_one n = omega arith

begins_shorter : (xs ys : List Kind) → BeginsCell (xs ++ ys) → BeginsCell xs
begins_shorter xs ys (more, c, is) = (ys ++ more, c, subst (λ ks. IsCell ks c) (append_assoc xs ys more) is)

begins_before : (tokens : List Kind) (m n : ℕ) → m ≤ n → BeginsCell (take n tokens) → BeginsCell (take m tokens)
begins_before tokens m n le b =
    let parts : take m tokens ++ drop m (take n tokens) ≡ take n tokens = ap (λ ks. ks ++ drop m (take n tokens)) (sym (take-take m n tokens le)) ∙ take-append-drop m (take n tokens) in
    begins_shorter (take m tokens) (drop m (take n tokens)) (subst BeginsCell (sym parts) b)

-- there is no other failing token
pub one_failing : (tokens : List Kind) (a b : ℕ) → IsFailing tokens a → IsFailing tokens b → a ≡ b
one_failing tokens a b h k =
    let p : ¬ (a < b) = λ l. h.with (begins_before tokens (a + 1) b (omega arith) k.before) in
    let q : ¬ (b < a) = λ l. k.with (begins_before tokens (b + 1) a (omega arith) h.before) in
    omega arith

slice_get-joined : (before : List Kind) (t : Kind) (ts : List Kind) → slice_get (before ++ t ∷ ts) (length before) ≡ Some t
slice_get-joined [] t ts = refl
slice_get-joined (x ∷ xs) t ts = slice_get-joined xs t ts

-- these tokens have been read in the state that they lead to
pub stands_at : (ts : List Kind) (s : State) → run start ts ≡ Some s → StandsAt ts s
stands_at ts s e = let l = led ts start s (tt, tt) e in l.spelled

pub stands_where : (ts : List Kind) (s : State) → run start ts ≡ Some s → state_stands s
stands_where ts s e = let l = led ts start s (tt, tt) e in l.stands

fails_at : (tokens before : List Kind) (t : Kind) (ts : List Kind) (s : State) → tokens ≡ before ++ t ∷ ts → run start before ≡ Some s → step s t ≡ None → Fails tokens (length before) (outside s t)
fails_at tokens before t ts s e r bad =
    let first : take (length before) tokens ≡ before = ap (take (length before)) e ∙ take_at before (t ∷ ts) (length before) refl in
    let here : slice_get tokens (length before) ≡ Some t = ap (λ ks. slice_get ks (length before)) e ∙ slice_get-joined before t ts in
    let leads : run start (take (length before) tokens) ≡ Some s = ap (run start) first ∙ r in
    record {
      failing = is_failing tokens (length before) s t leads here bad;
      open_forms = s;
      stand = stands_where before s r;
      before_it = stands_at (take (length before) tokens) s leads;
      token = t;
      is_token = here;
      begins_construct = refl;
    }

abbrev pub SomeFailure : List Kind → Type 0
SomeFailure tokens = (place : ℕ) × (construct : Option Construct) × Fails tokens place construct

find_on : (tokens before : List Kind) (t : Kind) (ts : List Kind) (s : State) (o : Option State) → step s t ≡ o → tokens ≡ before ++ t ∷ ts → run start before ≡ Some s → then_run ts o ≡ None
    → ((v : State) → run start (before ++ t ∷ []) ≡ Some v → run v ts ≡ None → SomeFailure tokens) → SomeFailure tokens
find_on tokens before t ts s None g e r bad f = (length before, outside s t, fails_at tokens before t ts s e r g)
find_on tokens before t ts s (Some v) g e r bad f = f v (run-append before (t ∷ []) start s r ∙ ap (then_run []) g) bad

find : (ts tokens before : List Kind) (s : State) → tokens ≡ before ++ ts → run start before ≡ Some s → run s ts ≡ None → SomeFailure tokens
find [] tokens before s e r bad = cc
find (t ∷ ts) tokens before s e r bad =
    find_on tokens before t ts s (step s t) refl e r bad (λ v g. find ts tokens (before ++ t ∷ []) v (e ∙ sym (append_assoc before (t ∷ []) ts)) g)

begins_on : (tokens : List Kind) (o : Option State) → run start tokens ≡ o → BeginsCell tokens → (s : State) × (run start tokens ≡ Some s)
begins_on tokens None e b = absurd (begun_is_read tokens b e)
begins_on tokens (Some s) e b = (s, e)

-- what begins a cell is read
pub begins_is_read : (tokens : List Kind) → BeginsCell tokens → (s : State) × (run start tokens ≡ Some s)
begins_is_read tokens b = begins_on tokens (run start tokens) refl b

fails_on : (tokens : List Kind) (o : Option State) → run start tokens ≡ o → (BeginsCell tokens → ⊥) → SomeFailure tokens
fails_on tokens None e n = find tokens tokens [] start refl refl e
fails_on tokens (Some s) e n = absurd (n (viable tokens s e))

-- if no cell begins with the tokens, one of them fails
pub some_fails : (tokens : List Kind) → (BeginsCell tokens → ⊥) → SomeFailure tokens
some_fails tokens n = fails_on tokens (run start tokens) refl n

-- no two open forms spell the same
pub one_state : (ts : List Kind) (s u : State) → state_stands s → state_stands u → StandsAt ts s → StandsAt ts u → s ≡ u
one_state ts s u h k a b =
    let e = is_where ts s h (a [] ∙ append-nil ts) in
    let f = is_where ts u k (b [] ∙ append-nil ts) in
    let g : Some s ≡ Some u = sym e ∙ f in
    cc

-- the failing token and its construct are the only ones
pub one_failure : (tokens : List Kind) (a b : ℕ) (c d : Option Construct) → Fails tokens a c → Fails tokens b d → (a ≡ b) × (c ≡ d)
one_failure tokens a b c d h k =
    let e = one_failing tokens a b h.failing k.failing in
    let t : Some h.token ≡ Some k.token = sym h.is_token ∙ ap (slice_get tokens) e ∙ k.is_token in
    let same_token : h.token ≡ k.token = cc in
    let same_state = one_state (take a tokens) h.open_forms k.open_forms h.stand k.stand h.before_it (subst (λ n. StandsAt (take n tokens) k.open_forms) (sym e) k.before_it) in
    (e, sym h.begins_construct ∙ ap (λ s. outside s h.token) same_state ∙ ap (outside k.open_forms) same_token ∙ k.begins_construct)

-- ---- trees

pub one_tree : (source : Source) (tokens : List Kind) (a b : List Stmt) → Reads source tokens a → Reads source tokens b → a ≡ b
one_tree source tokens a b (c, h, e) (d, k, f) = sym e ∙ ap (tree_cell source) (one_cell tokens c d h k) ∙ f

pub has_tree : (source : Source) (tokens : List Kind) (c : Cell) → run start tokens ≡ Some (done c) → Reads source tokens (tree_cell source c)
has_tree source tokens c e = (c, read_is tokens c e, refl)

pub is_in_grammar : (source : Source) (tokens : List Kind) (tree : List Stmt) → Reads source tokens tree → (c : Cell) × (run start tokens ≡ Some (done c)) × (tree_cell source c ≡ tree)
is_in_grammar source tokens tree (c, h, e) = (c, is_read tokens c h, e)

-- a function alone is a cell of that function
pub definition_reads : (source : Source) (tokens : List Kind) (tree : Stmt) → ReadsDefinition source tokens tree → Reads source tokens (tree ∷ [])
definition_reads source tokens tree h = (Some (statements_one (compound (define h.called h.takes) h.block)), h.is_cell, ap (λ s. s ∷ []) h.is_tree)

pub one_definition : (source : Source) (tokens : List Kind) (a b : Stmt) → ReadsDefinition source tokens a → ReadsDefinition source tokens b → a ≡ b
one_definition source tokens a b h k =
    let e = one_tree source tokens (a ∷ []) (b ∷ []) (definition_reads source tokens a h) (definition_reads source tokens b k) in
    cc

-- what is read as one function alone
pub read_as_definition : (source : Source) (tokens : List Kind) (called : List ℕ) (takes : Params) (block : Block) → run start tokens ≡ Some (done (Some (statements_one (compound (define called takes) block))))
    → ReadsDefinition source tokens (tree_statement (source 0 (length (spell_statement (compound (define called takes) block) []))) (compound (define called takes) block))
read_as_definition source tokens called takes block e =
    let is = read_is tokens (Some (statements_one (compound (define called takes) block))) e in
    record {
      called = called;
      takes = takes;
      block = block;
      is_cell = is;
      is_tree = refl;
    }

pub begins_iff_read : (tokens : List Kind) → BeginsCell tokens ↔ ((s : State) × (run start tokens ≡ Some s))
begins_iff_read tokens = (begins_is_read tokens, λ r. viable tokens r.0 r.1)

pub read_iff_stands : (tokens : List Kind) (s : State) → (run start tokens ≡ Some s) ↔ (state_stands s × StandsAt tokens s)
read_iff_stands tokens s = (λ e. (stands_where tokens s e, stands_at tokens s e), λ h. is_where tokens s h.0 (h.1 [] ∙ append-nil tokens))

pub only_definition : (source : Source) (tokens : List Kind) (a b : Stmt) → ReadsDefinition source tokens a → Reads source tokens (a ∷ []) × (ReadsDefinition source tokens b → a ≡ b)
only_definition source tokens a b h = (definition_reads source tokens a h, λ k. one_definition source tokens a b h k)

pub some_definition : (source : Source) (tokens : List Kind) (called : List ℕ) (takes : Params) (block : Block) → run start tokens ≡ Some (done (Some (statements_one (compound (define called takes) block)))) → (tree : Stmt) × ReadsDefinition source tokens tree
some_definition source tokens called takes block e = (_, read_as_definition source tokens called takes block e)

take_past : (tokens : List Kind) (place : ℕ) → slice_get tokens place ≡ None → take (suc place) tokens ≡ take place tokens
take_past [] zero h = refl
take_past [] (suc place) h = refl
take_past (x ∷ xs) zero h = cc
take_past (x ∷ xs) (suc place) h = ap (◌∷◌ x) (take_past xs place h)

-- the machine is at a token, and it refuses it
pub record StopsAt (tokens : List Kind) (place : ℕ) : Type 0 where
  pub open_forms : State
  pub token : Kind
  pub leads : run start (take place tokens) ≡ Some open_forms
  pub is_token : slice_get tokens place ≡ Some token
  pub is_refused : step open_forms token ≡ None

stops_on : (tokens : List Kind) (place : ℕ) (s : State) (t : Kind) (o : Option State) → IsFailing tokens place → run start (take place tokens) ≡ Some s → slice_get tokens place ≡ Some t → step s t ≡ o → StopsAt tokens place
stops_on tokens place s t None h r g e = record { open_forms = s; token = t; leads = r; is_token = g; is_refused = e }
stops_on tokens place s t (Some v) h r g e =
    let n : place + 1 ≡ suc place = omega arith in
    let next : take (place + 1) tokens ≡ take place tokens ++ t ∷ [] = ap (λ n. take n tokens) n ∙ take-next tokens place t g in
    absurd (h.with (subst BeginsCell (sym next) (viable (take place tokens ++ t ∷ []) v (run-append (take place tokens) (t ∷ []) start s r ∙ ap (then_run []) e))))

stops_read : (tokens : List Kind) (place : ℕ) (o : Option Kind) → IsFailing tokens place → slice_get tokens place ≡ o → StopsAt tokens place
stops_read tokens place None h g =
    let n : place + 1 ≡ suc place = omega arith in
    absurd (h.with (subst BeginsCell (sym (ap (λ n. take n tokens) n ∙ take_past tokens place g)) h.before))
stops_read tokens place (Some t) h g = let r = begins_is_read (take place tokens) h.before in stops_on tokens place r.0 t (step r.0 t) h r.1 g refl

-- the machine stops at the failing token
pub failing_stops : (tokens : List Kind) (place : ℕ) → IsFailing tokens place
    → (s : State) × (t : Kind) × (run start (take place tokens) ≡ Some s) × (slice_get tokens place ≡ Some t) × (step s t ≡ None)
failing_stops tokens place h =
    let r = stops_read tokens place (slice_get tokens place) h refl in
    (r.open_forms, r.token, r.leads, r.is_token, r.is_refused)
