-- The end of the text is read only after a whole cell.
use Rattle.std.proofs.Common.{◌≡◌, ℕ, Bool, true, false, List, [], ◌∷◌, ◌++◌, Option, Some, None, Ok, refl, ap, ◌∙◌, sym}
use Rattle.std.proofs.lemmas.List.{map-append}
use Rattle.py_token.specs.declared.kinds.Kind.{Kind}
use Rattle.py_token.specs.declared.kinds.Kind.TheVariants as t
use Rattle.py_token.specs.declared.kinds.Token.{Token}
use Rattle.py_token.specs.Cuts.{kinds}
use Rattle.py_token.specs.Laws.{EndsWell}
use Rattle.py_token.specs.Lines.{tokens_of}
use Rattle.py_token.proofs.Ends.{ends_well}
use Rattle.py_grammar.specs.Readings.{Reading, wants, has, has_none, has_not_none, after_is, after_is_not, after_not, after_dot, after_method, read, whole}
use Rattle.py_grammar.specs.Statements.{Cell, Statements, Head}
use Rattle.py_grammar.specs.States.{Outer, State, line, in_simple, in_test, after_colon, done, start, head_of, then_simple, then_test, tested, step, run}
use Rattle.py_grammar.proofs.Whole.{then_run}
use Rattle.py_grammar.proofs.AloneRead.{alone-read}
use Rattle.py_blocks.specs.Follows.{forms_run}

read-end : (r : Reading) → read r t.End ≡ None
read-end (wants os u w) = refl
read-end (has os u w p) = refl
read-end (has_none os u c) = refl
read-end (has_not_none os u c) = refl
read-end (after_is os u c) = refl
read-end (after_is_not os u c) = refl
read-end (after_not os u c) = refl
read-end (after_dot os u w p) = refl
read-end (after_method os u w p n) = refl

-- the state is that of a whole cell
abbrev pub IsDone : State → Type 0
IsDone u = (c : Cell) × (u ≡ done c)

none-done : {u : State} {o : Option State} → o ≡ None → o ≡ Some u → IsDone u
none-done {u} {o} n e = cc

tested-end : (os : List Outer) (before : Option Statements) (h : Option Head) → tested os before h t.End ≡ None
tested-end os before None = refl
tested-end os before (Some h) = refl

ended : (s u : State) → step s t.End ≡ Some u → IsDone u
ended (line [] before) u e = (before, cc)
ended (in_simple os at v r) u e = none-done (ap (then_simple os at v) (read-end r)) e
ended (in_test os before l r) u e = none-done (ap (then_test os before l r t.End) (read-end r) ∙ tested-end os before (head_of l (whole r))) e
ended (after_colon os o) u e = none-done refl e
ended _ u e = cc

last_on : (ts : List Kind) (v : State) (o : Option State) → ((w : State) → run w (ts ++ t.End ∷ []) ≡ Some v → IsDone v) → then_run (ts ++ t.End ∷ []) o ≡ Some v → IsDone v
last_on ts v None f e = cc
last_on ts v (Some w) f e = f w e

last_done : (ts : List Kind) (s v : State) → run s (ts ++ t.End ∷ []) ≡ Some v → IsDone v
last_done [] s v e = one (step s t.End) refl e
  where
    one : (o : Option State) → step s t.End ≡ o → then_run [] o ≡ Some v → IsDone v
    one None h e = cc
    one (Some w) h e = ended s v (h ∙ e)
last_done (x ∷ ts) s v e = last_on ts v (step s x) (λ w. last_done ts w v) e

plain : (alone : Bool) (ts : List Kind) (u : State) → forms_run alone start ts ≡ Some u → run start ts ≡ Some u
plain false ts u e = e
plain true ts u e = alone-read ts start u e

pub ends_so : (code : List ℕ) (tokens : List Token) → (w : EndsWell code tokens) → kinds tokens ≡ kinds w.front ++ t.End ∷ []
ends_so code tokens w = ap kinds w.last ∙ map-append (λ token. token.kind) w.front _

-- so after all tokens of a text a cell is whole
pub all_done : (alone : Bool) (code : List ℕ) (tokens : List Token) (u : State) → tokens_of code ≡ Ok tokens → forms_run alone start (kinds tokens) ≡ Some u → IsDone u
all_done alone code tokens u e r =
    let w = ends_well code tokens e in
    last_done (kinds w.front) start u (ap (run start) (sym (ends_so code tokens w)) ∙ plain alone (kinds tokens) u r)
