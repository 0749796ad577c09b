-- What is read of a function alone is the grammar of it: functions, and their beginnings.
use Rattle.std.proofs.Common.{◌≡◌, ℕ, true, false, List, [], ◌∷◌, ◌++◌, Option, Some, None, inl, inr, refl, ap, ◌∙◌, sym, subst}
use Rattle.std.specs.Prelude.{◌↔◌}
use Rattle.py_token.specs.declared.kinds.Kind.{Kind}
use Rattle.py_token.specs.declared.kinds.Kind.TheVariants as t
use Rattle.std.proofs.lemmas.Bool.{false≢true}
use Rattle.py_grammar.specs.Words.{pass_word, def_word, open_parenthesis, close_parenthesis, colon}
use Rattle.py_grammar.specs.Statements.{Params, compound, define, Block, statements_one, Cell, IsCell}
use Rattle.py_grammar.specs.States.{State, line, done, start, step, run}
use Rattle.py_grammar.proofs.Whole.{then_run, run-append, read_is, is_read, viable}
use Rattle.py_grammar.specs.Alone.{alone, BeginsDefinition}
use Rattle.py_grammar.specs.AloneMachine.{step_alone, run_alone}
use Rattle.py_grammar.proofs.AloneKept.{is_alone, ends_alone, Same, alone-kept, stray-kept, Agrees, agrees, step-read}

abbrev pub then_alone : List Kind → Option State → Option State
then_alone ts o = elim o [ None ↦ None | Some u ↦ run_alone u ts ]

-- a run over two lists
append_on : (ts us : List Kind) (u : State) (o : Option State) → ((v : State) → run_alone v ts ≡ Some u → run_alone v (ts ++ us) ≡ run_alone u us) → then_alone ts o ≡ Some u → then_alone (ts ++ us) o ≡ run_alone u us
append_on ts us u None f e = cc
append_on ts us u (Some v) f e = f v e

pub alone-append : (ts us : List Kind) (s u : State) → run_alone s ts ≡ Some u → run_alone s (ts ++ us) ≡ run_alone u us
alone-append [] us s u e = let same : s ≡ u = cc in sym (ap (λ x. run_alone x us) (sym same))
alone-append (k ∷ ts) us s u e = append_on ts us u (step_alone s k) (λ v. alone-append ts us v u) e

abbrev Leads : State → List Kind → Type 0
Leads s ts = (v : State) × (run_alone s ts ≡ Some v)

front_on : (ts us : List Kind) (u : State) (o : Option State) → ((v : State) → run_alone v (ts ++ us) ≡ Some u → Leads v ts) → then_alone (ts ++ us) o ≡ Some u → (v : State) × (then_alone ts o ≡ Some v)
front_on ts us u None f e = let no : ⊥ = cc in absurd no
front_on ts us u (Some v) f e = f v e

pub alone-front : (ts us : List Kind) (s u : State) → run_alone s (ts ++ us) ≡ Some u → Leads s ts
alone-front [] us s u e = (s, refl)
alone-front (k ∷ ts) us s u e = front_on ts us u (step_alone s k) (λ v. alone-front ts us v u) e

-- ---- what is read alone is read

read_on : (ts : List Kind) (s : State) (k : Kind) (u : State) (o : Option State) → step_alone s k ≡ o → ((v : State) → run_alone v ts ≡ Some u → run v ts ≡ Some u) → then_alone ts o ≡ Some u → run s (k ∷ ts) ≡ Some u
read_on ts s k u None g f e = cc
read_on ts s k u (Some v) g f e = ap (then_run ts) (step-read s k v g) ∙ f v e

pub alone-read : (ts : List Kind) (s u : State) → run_alone s ts ≡ Some u → run s ts ≡ Some u
alone-read [] s u e = e
alone-read (k ∷ ts) s u e = read_on ts s k u (step_alone s k) refl (λ v. alone-read ts v u) e

-- and may end alone
kept_on : (ts : List Kind) (u : State) (o : Option State) → Same true o → ((v : State) → ends_alone v ≡ true → run_alone v ts ≡ Some u → ends_alone u ≡ true) → then_alone ts o ≡ Some u → ends_alone u ≡ true
kept_on ts u None h f e = let no : ⊥ = cc in absurd no
kept_on ts u (Some v) h f e = f v h e

run-kept : (ts : List Kind) (s u : State) → ends_alone s ≡ true → run_alone s ts ≡ Some u → ends_alone u ≡ true
run-kept [] s u h e = let same : s ≡ u = cc in subst (λ x. ends_alone x ≡ true) same h
run-kept (k ∷ ts) s u h e = kept_on ts u (step_alone s k) (alone-kept s k h) (λ v. run-kept ts v u) e

-- ---- what is read and may end alone is read alone

stray_on : (ts : List Kind) (u : State) (o : Option State) → Same false o → ((v : State) → ends_alone v ≡ false → run v ts ≡ Some u → ends_alone u ≡ false) → then_run ts o ≡ Some u → ends_alone u ≡ false
stray_on ts u None h f e = let no : ⊥ = cc in absurd no
stray_on ts u (Some v) h f e = f v h e

run-stray : (ts : List Kind) (s u : State) → ends_alone s ≡ false → run s ts ≡ Some u → ends_alone u ≡ false
run-stray [] s u h e = let same : s ≡ u = cc in subst (λ x. ends_alone x ≡ false) same h
run-stray (k ∷ ts) s u h e = stray_on ts u (step s k) (stray-kept s k h) (λ v. run-stray ts v u) e

same_on : (ts : List Kind) (u : State) (o : Option State) → ((v : State) → run v ts ≡ Some u → run_alone v ts ≡ Some u) → then_run ts o ≡ Some u → then_alone ts o ≡ Some u
same_on ts u None f e = cc
same_on ts u (Some v) f e = f v e

agreed : (ts : List Kind) (s : State) (k : Kind) (u : State) → ends_alone u ≡ true → Agrees s k → ((v : State) → run v ts ≡ Some u → run_alone v ts ≡ Some u) → run s (k ∷ ts) ≡ Some u → run_alone s (k ∷ ts) ≡ Some u
agreed ts s k u h (inl g) f e = ap (then_alone ts) g ∙ same_on ts u (step s k) f e
agreed ts s k u h (inr g) f e = absurd (false≢true (sym (stray_on ts u (step s k) g (λ v. run-stray ts v u) e) ∙ h))

run-agrees : (ts : List Kind) (s u : State) → ends_alone u ≡ true → run s ts ≡ Some u → run_alone s ts ≡ Some u
run-agrees [] s u h e = e
run-agrees (k ∷ ts) s u h e = agreed ts s k u h (agrees s k) (λ v. run-agrees ts v u h) e

-- ---- what may end alone does

-- such tokens end it
abbrev Ends : State → Type 0
Ends s = (more : List Kind) × (c : Cell) × (run_alone s more ≡ Some (done c))

ends_on : (s : State) (k : Kind) (ts : List Kind) (c : Cell) (o : Option State) → step_alone s k ≡ o → Same true o → ((v : State) → ends_alone v ≡ true → run v ts ≡ Some (done c) → Ends v) → then_run ts o ≡ Some (done c) → Ends s
ends_on s k ts c None g h f e = let no : ⊥ = cc in absurd no
ends_on s k ts c (Some v) g h f e = let r = f v h e in (k ∷ r.0, r.1, ap (then_alone r.0) g ∙ r.2)

-- as a cell ends, but at its first function
run-ends : (ts : List Kind) (s : State) (c : Cell) → ends_alone s ≡ true → run s ts ≡ Some (done c) → Ends s
run-ends [] s c h e = ([], c, e)
run-ends (k ∷ ts) (line [] None) c h e = (def_word ∷ t.Name (95 ∷ []) ∷ open_parenthesis ∷ close_parenthesis ∷ colon ∷ pass_word ∷ t.Newline ∷ t.End ∷ [], _, refl)
run-ends (k ∷ ts) (line [] (Some ss)) c h e = (t.End ∷ [], Some ss, refl)
run-ends (k ∷ ts) s c h e = ends_on s k ts c (step s k) refl (alone-kept s k h) (λ v. run-ends ts v c) e

-- ---- functions

-- the cell of one function
abbrev IsOne : Cell → Type 0
IsOne c = (called : List ℕ) × (takes : Params) × (block : Block) × (c ≡ alone called takes block)

one : (c : Cell) → is_alone c ≡ true → IsOne c
one (Some (statements_one (compound (define n ps) b))) h = (n, ps, b, refl)
one _ h = absurd (false≢true h)

abbrev OneIn : List Kind → Cell → Type 0
OneIn ts c = (called : List ℕ) × (takes : Params) × (block : Block) × (c ≡ alone called takes block) × IsCell ts c

-- what is read to its end is one function
pub read_is_one : (ts : List Kind) (c : Cell) → run_alone start ts ≡ Some (done c) → OneIn ts c
read_is_one ts c e =
    let r = one c (run-kept ts start (done c) refl e) in
    (r.0, r.1, r.2, r.3, read_is ts c (alone-read ts start (done c) e))

-- and one function is read
pub one_is_read : (ts : List Kind) (c : Cell) → OneIn ts c → run_alone start ts ≡ Some (done c)
one_is_read ts c r = run-agrees ts start (done c) (ap is_alone r.3) (is_read ts c r.4)

pub read_iff_one : (ts : List Kind) (c : Cell) → (run_alone start ts ≡ Some (done c)) ↔ OneIn ts c
read_iff_one ts c = (read_is_one ts c, one_is_read ts c)

-- what begins a function is read
pub begins_is_read : (ts : List Kind) → BeginsDefinition ts → Leads start ts
begins_is_read ts (more, called, takes, block, is) =
    alone-front ts more start (done (alone called takes block)) (one_is_read (ts ++ more) (alone called takes block) (called, takes, block, refl, is))

-- what has been read goes on to its end
goes_on : (ts : List Kind) (s : State) → run_alone start ts ≡ Some s → Ends s
goes_on ts s e =
    let read = alone-read ts start s e in
    let b = viable ts s read in
    run-ends b.0 s b.1 (run-kept ts start s refl e) (sym (run-append ts b.0 start s read) ∙ is_read (ts ++ b.0) b.1 b.2)

-- what has been read begins a function
pub read_begins : (ts : List Kind) (s : State) → run_alone start ts ≡ Some s → BeginsDefinition ts
read_begins ts s e =
    let m = goes_on ts s e in
    let r = read_is_one (ts ++ m.0) m.1 (alone-append ts m.0 start s e ∙ m.2) in
    (m.0, r.0, r.1, r.2, subst (IsCell (ts ++ m.0)) r.3 r.4)

pub begins_iff_read : (ts : List Kind) → BeginsDefinition ts ↔ ((s : State) × (run_alone start ts ≡ Some s))
begins_iff_read ts = (begins_is_read ts, λ r. read_begins ts r.0 r.1)
