-- What the machine reads is the grammar: cells, their beginnings, and the failing token.
use Rattle.std.proofs.Common.{◌≡◌, ◌+◌, ◌≤◌, ℕ, zero, suc, List, [], ◌∷◌, ◌++◌, length, Option, Some, None, refl, ap, ◌∙◌, sym, subst, append_assoc, arith}
use Rattle.py_token.specs.declared.kinds.Kind.{Kind}
use Rattle.std.proofs.lemmas.List.{append-nil}
use Rattle.py_grammar.specs.Statements.{Cell, IsCell, BeginsCell}
use Rattle.py_grammar.specs.States.{State, done, start, step, run, spell_state, state_stands}
use Rattle.py_grammar.proofs.Stepped.{AddsToCell, step-added}
use Rattle.py_grammar.proofs.Places.{state-tokens}
use Rattle.py_grammar.proofs.Keeps.{Keeps, step-keeps}
use Rattle.py_grammar.proofs.Completed.{state-ends}
use Rattle.py_grammar.proofs.Prior.{Prior, at_first, from, state-prior}

-- what a run has read is spelled by where it leads
pub record Led (s : State) (ts : List Kind) (u : State) : Type 0 where
  pub spelled : (rest : List Kind) → spell_state u rest ≡ spell_state s (ts ++ rest)
  pub stands : state_stands u

abbrev pub then_run : List Kind → Option State → Option State
then_run ts o = elim o [ None ↦ None | Some u ↦ run u ts ]

led_on : (ts : List Kind) (s : State) (t : Kind) (u : State) (o : Option State) → ((v : State) → state_stands v → run v ts ≡ Some u → Led v ts u) → AddsToCell (spell_state s) t o → Keeps o → then_run ts o ≡ Some u → Led s (t ∷ ts) u
led_on ts s t u None f a k e = cc
led_on ts s t u (Some v) f a k e = let l = f v k e in record { spelled = λ rest. l.spelled rest ∙ a (ts ++ rest); stands = l.stands }

pub led : (ts : List Kind) (s u : State) → state_stands s → run s ts ≡ Some u → Led s ts u
led [] s u h e = let same : s ≡ u = cc in record { spelled = λ rest. sym (ap (λ x. spell_state x rest) same); stands = subst state_stands same h }
led (t ∷ ts) s u h e = led_on ts s t u (step s t) (λ v. led ts v u) (step-added s t) (step-keeps s t h) e

-- a run over two lists of tokens
append_on : (ts us : List Kind) (u : State) (o : Option State) → ((v : State) → run v ts ≡ Some u → run v (ts ++ us) ≡ run u us) → then_run ts o ≡ Some u → then_run (ts ++ us) o ≡ run u us
append_on ts us u None f e = cc
append_on ts us u (Some v) f e = f v e

pub run-append : (ts us : List Kind) (s u : State) → run s ts ≡ Some u → run s (ts ++ us) ≡ run u us
run-append [] us s u e = let same : s ≡ u = cc in sym (ap (λ x. run x us) (sym same))
run-append (t ∷ ts) us s u e = append_on ts us u (step s t) (λ v. run-append ts us v u) e

-- ---- each state is where its tokens lead

length-joined : (xs ys : List Kind) → length (xs ++ ys) ≡ length xs + length ys
length-joined [] ys = omega arith
length-joined (x ∷ xs) ys = let h = length-joined xs ys in omega arith

lengths_on : (q : State) (t : Kind) (s : State) (o : Option State) → AddsToCell (spell_state q) t o → o ≡ Some s → length (state-tokens s).tokens ≡ suc (length (state-tokens q).tokens)
lengths_on q t s None a h = cc
lengths_on q t s (Some u) a h =
    let same : u ≡ s = cc in
    let k = state-tokens s in
    let m = state-tokens q in
    let e : k.tokens ++ [] ≡ m.tokens ++ t ∷ [] = sym (k.spelled []) ∙ ap (λ x. spell_state x []) (sym same) ∙ a [] ∙ m.spelled (t ∷ []) in
    let f = ap length e in
    let g = length-joined k.tokens [] in
    let i = length-joined m.tokens (t ∷ []) in
    omega arith

lengths : (q : State) (t : Kind) (s : State) → step q t ≡ Some s → length (state-tokens s).tokens ≡ suc (length (state-tokens q).tokens)
lengths q t s h = lengths_on q t s (step q t) (step-added q t) h

-- some tokens lead there
abbrev Reached : State → Type 0
Reached s = (ts : List Kind) × (run start ts ≡ Some s)

reached-from : (n : ℕ) (s : State) → length (state-tokens s).tokens ≤ suc n → ((q : State) → state_stands q → length (state-tokens q).tokens ≤ n → Reached q) → Prior s → Reached s
reached-from n s l f (at_first e) = ([], ap Some (sym e))
reached-from n s l f (from q t h k) =
    let m = lengths q t s h in
    let r = f q k (omega arith) in
    (r.0 ++ t ∷ [], run-append r.0 (t ∷ []) start q r.1 ∙ ap (then_run []) h)

reached-first : (s : State) → length (state-tokens s).tokens ≤ zero → Prior s → Reached s
reached-first s l (at_first e) = ([], ap Some (sym e))
reached-first s l (from q t h k) = let m = lengths q t s h in absurd (omega arith)

reached : (n : ℕ) (s : State) → state_stands s → length (state-tokens s).tokens ≤ n → Reached s
reached zero s h l = reached-first s l (state-prior s h)
reached (suc n) s h l = reached-from n s l (reached n) (state-prior s h)

-- what these forms spell is read as them: no two open forms spell the same
pub is_where : (ts : List Kind) (s : State) → state_stands s → spell_state s [] ≡ ts → run start ts ≡ Some s
is_where ts s h e =
    let r = reached (length (state-tokens s).tokens) s h (omega arith) in
    let l = led r.0 start s (tt, tt) r.1 in
    ap (run start) (sym e ∙ l.spelled [] ∙ append-nil r.0) ∙ r.1

-- ---- cells

-- what is read to its end is the one cell
pub read_is : (ts : List Kind) (c : Cell) → run start ts ≡ Some (done c) → IsCell ts c
read_is ts c e = let l = led ts start (done c) (tt, tt) e in record { spelled = sym (append-nil ts) ∙ sym (l.spelled []); stands = l.stands }

-- and a cell is read
pub is_read : (ts : List Kind) (c : Cell) → IsCell ts c → run start ts ≡ Some (done c)
is_read ts c is = is_where ts (done c) is.stands (sym is.spelled)

pub one_cell : (ts : List Kind) (c d : Cell) → IsCell ts c → IsCell ts d → c ≡ d
one_cell ts c d h k = let e = is_read ts c h in let f = is_read ts d k in let g : Some (done c) ≡ Some (done d) = sym e ∙ f in cc

-- what has been read begins a cell
pub viable : (ts : List Kind) (u : State) → run start ts ≡ Some u → BeginsCell ts
viable ts u e =
    let l = led ts start u (tt, tt) e in
    let x = state-ends u l.stands in
    (x.more, x.cell, record { spelled = sym (l.spelled x.more) ∙ x.spelled; stands = x.stands })

-- and a token that is refused doesn't
pub refused : (ts : List Kind) (t : Kind) (u : State) → run start ts ≡ Some u → step u t ≡ None → BeginsCell (ts ++ t ∷ []) → ⊥
refused ts t u e bad (more, c, is) =
    let stuck : run start ((ts ++ t ∷ []) ++ more) ≡ None = ap (run start) (append_assoc ts (t ∷ []) more) ∙ run-append ts (t ∷ more) start u e ∙ ap (then_run more) bad in
    let read : run start ((ts ++ t ∷ []) ++ more) ≡ Some (done c) = is_read _ c is in
    cc

-- all that begins a cell is read
pub begun_is_read : (ts : List Kind) → BeginsCell ts → run start ts ≡ None → ⊥
begun_is_read ts (more, c, is) bad =
    let read : run start (ts ++ more) ≡ Some (done c) = is_read _ c is in
    let stuck = stays ts start more bad in
    cc
  where
    stays_on : (ts more : List Kind) (o : Option State) → ((v : State) → run v ts ≡ None → run v (ts ++ more) ≡ None) → then_run ts o ≡ None → then_run (ts ++ more) o ≡ None
    stays_on ts more None f e = refl
    stays_on ts more (Some v) f e = f v e

    stays : (ts : List Kind) (s : State) (more : List Kind) → run s ts ≡ None → run s (ts ++ more) ≡ None
    stays [] s more e = cc
    stays (t ∷ ts) s more e = stays_on ts more (step s t) (λ v. stays ts v more) e
