-- Whatever has been read goes on to some cell.
use Rattle.std.proofs.Common.{◌≡◌, ◌+◌, ◌<◌, ℕ, zero, suc, Bool, true, false, IsTrue, List, [], ◌∷◌, ◌++◌, length, Option, Some, None, not, nat_eq, ◌&&◌, refl, ap, ◌∙◌, sym, arith}
use Rattle.py_token.specs.declared.kinds.Kind.{Kind}
use Rattle.py_token.specs.declared.kinds.Kind.TheVariants as t
use Rattle.std.specs.Prelude.{pos}
use Rattle.std.specs.Cmp.Lexicographic.{pointwise}
use Rattle.py_grammar.specs.Words.{for_word, in_word, return_word, global_word, del_word, def_word, open_parenthesis, close_parenthesis, open_bracket, close_bracket, colon}
use Rattle.py_grammar.specs.Expressions.{single}
use Rattle.py_grammar.specs.Readings.{Reading, begun, reading_stands}
use Rattle.py_grammar.specs.Open.{spell_reading}
use Rattle.py_grammar.specs.Statements.{to_item, variables, Head, choose, if_true, else_if, while_true, for_each, Around, head_stands, spell_head, Names, Simple, word, give, declare, delete, assign, augment, show, spell_names, spell_simple, Params, params, simple, compound, otherwise, define, inline, indented, Statements, statements_one, is_new, simple_stands, Cell, spell_front, front_stands, spelling, cell_stands}
use Rattle.py_grammar.specs.States.{Outer, outer, Spot, own, behind_head, Purpose, showing, giving, deleting, assigning, augmenting, Lead, lead_if, lead_elif, lead_while, lead_for, State, line, in_simple, after_word, in_global, has_global, in_test, in_variables, has_variables, after_else, after_def, after_def_name, in_params, has_params, after_params, after_colon, after_newline, done, around, heard, spot_around, spot_heard, add_statement, add_name, close, ended, fits, is_new_name, params_of, spell_outers, spell_spot, spell_purpose, spell_lead, spell_state, outers_stand, spot_stands, purpose_stands, lead_stands, state_stands}
use Rattle.py_grammar.proofs.Ends.{nought, reading-ends, undivided-ends, narrow-ends}
use Rattle.py_grammar.proofs.Stepped.{close-spelled, ended-spelled, add_name-spelled, params_of-spelled}
use Rattle.py_grammar.proofs.Keeps.{add_statement-stands, ended-stands, add_name-stands, params_of-stands}

-- ---- a name that is new

abbrev pub underscores : ℕ → List ℕ
underscores zero = []
underscores (suc n) = 95 ∷ underscores n

underscores-length : (n : ℕ) → length (underscores n) ≡ n
underscores-length zero = refl
underscores-length (suc n) = ap suc (underscores-length n)

-- more than the length of each name among these
abbrev pub bound : List Kind → ℕ
bound [] = zero
bound (t.Name n ∷ ks) = suc (length n) + bound ks
bound (_ ∷ ks) = bound ks

shorter-differs : (a b : List ℕ) → length a < length b → IsTrue (not (pointwise nat_eq a b))
shorter-differs [] [] h = absurd (omega arith)
shorter-differs [] (y ∷ b) h = refl
shorter-differs (x ∷ a) [] h = absurd (omega arith)
shorter-differs (x ∷ a) (y ∷ b) h = and_not (nat_eq x y) (pointwise nat_eq a b) (shorter-differs a b (omega arith))
  where
    and_not : (p q : Bool) → IsTrue (not q) → IsTrue (not (p && q))
    and_not true q h = h
    and_not false q h = refl

both : (p q : Bool) → IsTrue p → IsTrue q → IsTrue (p && q)
both true q h k = k
both false q h k = h

longer-new : (ks : List Kind) (n : List ℕ) → bound ks < length n → IsTrue (is_new n ks)
longer-new [] n h = refl
longer-new (t.Name m ∷ ks) n h = both _ _ (shorter-differs m n (omega arith)) (longer-new ks n (omega arith))
longer-new (_ ∷ ks) n h = longer-new ks n h

abbrev pub fresh : List Kind → List ℕ
fresh ks = underscores (suc (bound ks))

fresh-new : (ks : List Kind) → IsTrue (is_new (fresh ks) ks)
fresh-new ks = longer-new ks (fresh ks) (let e = underscores-length (suc (bound ks)) in omega arith)

abbrev pub fresh_name : Option Names → (List Kind → List Kind) → List ℕ
fresh_name None earlier = fresh (earlier [])
fresh_name (Some ns) earlier = fresh (earlier (spell_names ns []))

pub fresh_name-new : (ns : Option Names) (earlier : List Kind → List Kind) → IsTrue (is_new_name ns (fresh_name ns earlier) earlier)
fresh_name-new None earlier = fresh-new (earlier [])
fresh_name-new (Some ns) earlier = fresh-new (earlier (spell_names ns []))

-- ---- how a cell ends

pub record CellEnds (s : State) : Type 0 where
  pub more : List Kind
  pub cell : Cell
  pub spelled : spell_state s more ≡ spelling cell
  pub stands : cell_stands cell

line-ends : (os : List Outer) (before : Option Statements) → outers_stand os → front_stands before (around os) (heard os) → CellEnds (line os before)
line-ends [] before h k = record { more = t.End ∷ []; cell = before; spelled = refl; stands = k }
line-ends (outer b hd ∷ os) (Some ss) h k =
    let e = line-ends os (close (outer b hd) (indented ss)) h.0 (add_statement-stands b (compound hd (indented ss)) (around os) (heard os) h.1 (h.2, k)) in
    record { more = t.Dedent ∷ e.more; cell = e.cell; spelled = sym (ap (spell_outers os) (close-spelled (outer b hd) (indented ss) e.more)) ∙ e.spelled; stands = e.stands }
line-ends (outer b hd ∷ os) None h k =
    let ss = statements_one (simple (show (single nought))) in
    let e = line-ends os (close (outer b hd) (indented ss)) h.0 (add_statement-stands b (compound hd (indented ss)) (around os) (heard os) h.1 (h.2, tt)) in
    record { more = t.Number (pos 0) ∷ t.Newline ∷ t.Dedent ∷ e.more; cell = e.cell; spelled = sym (ap (spell_outers os) (close-spelled (outer b hd) (indented ss) e.more)) ∙ e.spelled; stands = e.stands }

state_line-ends : (os : List Outer) (at : Spot) (s : Simple) → state_stands (ended os at s) → CellEnds (ended os at s)
state_line-ends os (own before) s h = line-ends os (add_statement before (simple s)) h.0 h.1
state_line-ends os (behind_head o) s h = line-ends os (close o (inline s)) h.0 h.1

-- after a whole simple statement
ended-ends : (os : List Outer) (at : Spot) (s : Simple) → outers_stand os → spot_stands os at → simple_stands s (spot_around os at) (spot_heard os at) → (q : State) (more : List Kind → List Kind) → ((rest : List Kind) → spell_state q (more rest) ≡ spell_outers os (spell_spot at (spell_simple s rest))) → CellEnds q
ended-ends os at s h k m q more f =
    let e = state_line-ends os at s (ended-stands os at s h k m) in
    record { more = more (t.Newline ∷ e.more); cell = e.cell; spelled = f (t.Newline ∷ e.more) ∙ sym (ended-spelled os at s e.more) ∙ e.spelled; stands = e.stands }

simple-ends : (os : List Outer) (at : Spot) (u : Purpose) (r : Reading) → outers_stand os → spot_stands os at → purpose_stands u r (spot_around os at) → reading_stands r → CellEnds (in_simple os at u r)
simple-ends os at showing r h k m l =
    let x = reading-ends r l in
    ended-ends os at (show x.made) h k tt _ x.more (λ rest. ap (λ y. spell_outers os (spell_spot at y)) (x.spelled rest))
simple-ends os at giving r h k m l =
    let x = reading-ends r l in
    ended-ends os at (give x.made) h k m _ x.more (λ rest. ap (λ y. spell_outers os (spell_spot at (return_word ∷ y))) (x.spelled rest))
simple-ends os at deleting r h k m l =
    let x = narrow-ends r l m in
    ended-ends os at (delete (to_item x.made nought)) h k tt _ (λ rest. x.more (open_bracket ∷ t.Number (pos 0) ∷ close_bracket ∷ rest)) (λ rest. ap (λ y. spell_outers os (spell_spot at (del_word ∷ y))) (x.spelled (open_bracket ∷ t.Number (pos 0) ∷ close_bracket ∷ rest)))
simple-ends os at (assigning ts) r h k m l =
    let x = reading-ends r l in
    ended-ends os at (assign ts x.made) h k tt _ x.more (λ rest. ap (λ y. spell_outers os (spell_spot at (spell_purpose (assigning ts) y))) (x.spelled rest))
simple-ends os at (augmenting to by) r h k m l =
    let x = reading-ends r l in
    ended-ends os at (augment to by x.made) h k tt _ x.more (λ rest. ap (λ y. spell_outers os (spell_spot at (spell_purpose (augmenting to by) y))) (x.spelled rest))

-- such tokens may come before
led : (q s : State) (first : List Kind) → ((rest : List Kind) → spell_state q (first ++ rest) ≡ spell_state s rest) → CellEnds s → CellEnds q
led q s first f e = record { more = first ++ e.more; cell = e.cell; spelled = f e.more ∙ e.spelled; stands = e.stands }

colon-ends : (os : List Outer) (o : Outer) → state_stands (after_colon os o) → CellEnds (after_colon os o)
colon-ends os (outer b hd) h = ended-ends os (behind_head (outer b hd)) (show (single nought)) h.0 (h.1, h.2) tt _ (λ rest. t.Number (pos 0) ∷ rest) (λ rest. refl)

newline-ends : (os : List Outer) (o : Outer) → state_stands (after_newline os o) → CellEnds (after_newline os o)
newline-ends os (outer b hd) h = led _ (line (outer b hd ∷ os) None) (t.Indent ∷ []) (λ rest. refl) (line-ends (outer b hd ∷ os) None h tt)

-- a head ends, up to its `:`
record HeadEnds (lead : Lead) (r : Reading) : Type 0 where
  pub more : List Kind → List Kind
  pub head : Head
  pub spelled : (rest : List Kind) → spell_lead lead (spell_reading r (more (colon ∷ rest))) ≡ spell_head head rest
  pub stands : (a : Around) (e : List Kind → List Kind) → lead_stands lead a e → head_stands head a e

head-ends : (lead : Lead) (r : Reading) → IsTrue (fits lead r) → reading_stands r → HeadEnds lead r
head-ends lead_if r f l = let x = undivided-ends r l f in record { more = x.more; head = choose (if_true x.made); spelled = λ rest. ap (spell_lead lead_if) (x.spelled (colon ∷ rest)); stands = λ a e h. tt }
head-ends (lead_elif bs) r f l = let x = undivided-ends r l f in record { more = x.more; head = choose (else_if bs x.made); spelled = λ rest. ap (spell_lead (lead_elif bs)) (x.spelled (colon ∷ rest)); stands = λ a e h. h }
head-ends lead_while r f l = let x = undivided-ends r l f in record { more = x.more; head = while_true x.made; spelled = λ rest. ap (spell_lead lead_while) (x.spelled (colon ∷ rest)); stands = λ a e h. tt }
head-ends (lead_for vs) r f l = let x = reading-ends r l in record { more = x.more; head = for_each vs x.made; spelled = λ rest. ap (spell_lead (lead_for vs)) (x.spelled (colon ∷ rest)); stands = λ a e h. tt }

test-ends : (os : List Outer) (before : Option Statements) (lead : Lead) (r : Reading) → state_stands (in_test os before lead r) → CellEnds (in_test os before lead r)
test-ends os before lead r h =
    let x = head-ends lead r h.3 h.4 in
    let e = colon-ends os (outer before x.head) (h.0, h.1, x.stands (around os) (λ rest. heard os (spell_front before rest)) h.2) in
    record {
      more = x.more (colon ∷ e.more);
      cell = e.cell;
      spelled = ap (λ y. spell_outers os (spell_front before y)) (x.spelled e.more) ∙ e.spelled;
      stands = e.stands;
    }

global-ends : (os : List Outer) (at : Spot) (ns : Option Names) → state_stands (in_global os at ns) → CellEnds (in_global os at ns)
global-ends os at ns h =
    let n = fresh_name ns (spot_heard os at) in
    ended-ends os at (declare (add_name ns n)) h.0 h.1 (h.2, add_name-stands ns n (spot_heard os at) h.3 (fresh_name-new ns (spot_heard os at))) _ (λ rest. t.Name n ∷ rest) (λ rest. ap (λ y. spell_outers os (spell_spot at (global_word ∷ y))) (sym (add_name-spelled ns n rest)))

params_end-ends : (before : Option Statements) (n : List ℕ) (ps : Params) → state_stands (after_params before n ps) → CellEnds (after_params before n ps)
params_end-ends before n ps h = led _ (after_colon [] (outer before (define n ps))) (colon ∷ []) (λ rest. refl) (colon-ends [] (outer before (define n ps)) (tt, h.0, (refl, h.1)))

params-ends : (before : Option Statements) (n : List ℕ) (ns : Option Names) → state_stands (in_params before n ns) → CellEnds (in_params before n ns)
params-ends before n ns h = led _ (after_params before n (params_of ns)) (close_parenthesis ∷ []) (λ rest. ap (λ y. spell_front before (def_word ∷ t.Name n ∷ open_parenthesis ∷ y)) (sym (params_of-spelled ns (close_parenthesis ∷ rest)))) (params_end-ends before n (params_of ns) (h.0, params_of-stands ns h.1))

-- each state goes on to a cell
pub state-ends : (s : State) → state_stands s → CellEnds s
state-ends (line os before) h = line-ends os before h.0 h.1
state-ends (in_simple os at u r) h = simple-ends os at u r h.0 h.1 h.2 h.3
state-ends (after_word os at w) h = ended-ends os at (word w) h.0 h.1 h.2 _ (λ rest. rest) (λ rest. refl)
state-ends (in_global os at ns) h = global-ends os at ns h
state-ends (has_global os at ns) h = ended-ends os at (declare ns) h.0 h.1 (h.2, h.3) _ (λ rest. rest) (λ rest. refl)
state-ends (in_test os before lead r) h = test-ends os before lead r h
state-ends (in_variables os before ns) h =
    led _ (in_test os before (lead_for (variables (add_name ns (95 ∷ [])))) begun) (t.Name (95 ∷ []) ∷ in_word ∷ []) (λ rest. ap (λ y. spell_outers os (spell_front before (for_word ∷ y))) (sym (add_name-spelled ns (95 ∷ []) (in_word ∷ rest))))
    (test-ends os before (lead_for (variables (add_name ns (95 ∷ [])))) begun (h.0, h.1, tt, refl, tt))
state-ends (has_variables os before ns) h = led _ (in_test os before (lead_for (variables ns)) begun) (in_word ∷ []) (λ rest. refl) (test-ends os before (lead_for (variables ns)) begun (h.0, h.1, tt, refl, tt))
state-ends (after_else os before bs) h = led _ (after_colon os (outer before (otherwise bs))) (colon ∷ []) (λ rest. refl) (colon-ends os (outer before (otherwise bs)) h)
state-ends (after_def before) h = led _ (in_params before (95 ∷ []) None) (t.Name (95 ∷ []) ∷ open_parenthesis ∷ []) (λ rest. refl) (params-ends before (95 ∷ []) None (h, tt))
state-ends (after_def_name before n) h = led _ (in_params before n None) (open_parenthesis ∷ []) (λ rest. refl) (params-ends before n None (h, tt))
state-ends (in_params before n ns) h = params-ends before n ns h
state-ends (has_params before n ns) h = led _ (after_params before n (params ns)) (close_parenthesis ∷ []) (λ rest. refl) (params_end-ends before n (params ns) h)
state-ends (after_params before n ps) h = params_end-ends before n ps h
state-ends (after_colon os o) h = colon-ends os o h
state-ends (after_newline os o) h = newline-ends os o h
state-ends (done c) h = record { more = []; cell = c; spelled = refl; stands = h }
