-- What the program finds of the tokens of a code is the verdict on it.
use Rattle.std.proofs.Common.{◌≡◌, ℕ, zero, suc, ◌-◌, ◌<◌, ◌≤◌, Bool, true, false, nat_lt, if◌then◌else◌, List, [], ◌∷◌, ◌++◌, length, take, drop, slice_get, Option, Some, Result, Ok, Err, refl, ap, ◌∙◌, sym, subst, append-nil, arith}
use Rattle.std.proofs.lemmas.Bool.{lt-ltb, le-ltb}
use Rattle.std.proofs.lemmas.List.{take_all}
use Rattle.std.proofs.lemmas.Result.{err_from_is_err_and}
use Rattle.std.specs.Prelude.{IsErrAnd}
use Rattle.py_token.specs.declared.kinds.Kind.{Kind}
use Rattle.py_token.specs.declared.kinds.Token.{Token}
use Rattle.py_token.specs.declared.faults.TokenError.{TokenError}
use Rattle.py_token.specs.declared.faults.TokenFault.{TokenFault}
use Rattle.py_token.specs.declared.faults.TokenError.TheVariants as token
use Rattle.py_token.specs.Cuts.{kinds}
use Rattle.py_token.specs.Gives as token_gives
use Rattle.py_token.specs.Lines.{tokens_of}
use Rattle.py_tree.specs.declared.statements.Stmt.{Stmt}
use Rattle.py_tree.specs.declared.statements.Def.{Def}
use Rattle.py_grammar.specs.declared.constructs.Construct.{Construct}
use Rattle.py_grammar.specs.Outside as forms
use Rattle.py_grammar.specs.States as m
use Rattle.py_grammar.specs.States.{done}
use Rattle.py_grammar.specs.Statements.{Cell, IsCell, spelling}
use Rattle.py_grammar.specs.Depth.{in_cell}
use Rattle.py_grammar.specs.Trees.{tree_cell}
use Rattle.py_grammar.specs.Alone.{alone}
use Rattle.py_grammar.proofs.AloneRead.{alone-read, read_is_one, one_is_read}
use Rattle.py_grammar.proofs.Whole.{read_is, is_read}
use Rattle.py_frames.specs.Forced.{reach}
use Rattle.py_frames.specs.Under.{first}
use Rattle.py_blocks.specs.declared.state.Done.{Done}
use Rattle.py_blocks.specs.declared.state.Reader.{Reader}
use Rattle.py_blocks.specs.declared.state.State as held_of
use Rattle.py_blocks.specs.declared.state.State.TheVariants as h
use Rattle.py_blocks.specs.Follows.{forms_run, from_start}
use Rattle.py_blocks.specs.Forced.{forced_now}
use Rattle.py_blocks.specs.Held.{held_state}
use Rattle.py_blocks.specs.Outside.{outside}
use Rattle.py_blocks.specs.Source.{most, left_of, source_of}
use Rattle.py_blocks.specs.Telling.{deepest}
use Rattle.py_blocks.proofs.Beyond.{outside-same}
use Rattle.py_blocks.proofs.Cells.{reads-cells}
use Rattle.py_reader.specs.declared.fault.SyntaxFault.{SyntaxFault}
use Rattle.py_reader.specs.declared.fault.SyntaxFault.TheVariants.{TooLong, TooDeep}
use Rattle.py_reader.specs.declared.fault.ReadError.{ReadError}
use Rattle.py_reader.specs.declared.fault.ReadError.TheVariants.{OutOfMemory, Fault}
use Rattle.py_reader.specs.Gives.{of_token, Refuses, Answers}
use Rattle.py_reader.specs.Scans.{read_first, StopsAt, IsRefusal, GivesStatements, AreFunction, GivesFunction}
use Rattle.py_reader.specs.Verdicts.{start_of, refusal}
use Rattle.py_reader.specs.Verdict.{with_tokens, tokens_within, deepest_of, deep_fault, nested, unless_deep, stopped, of_end, of_tokens, of_cell, verdict}
use Rattle.py_reader.specs.DefinitionVerdict.{of_alone, verdict_alone}
use Rattle.py_reader.proofs.Deep.{agrees, cell-agrees, placed-at, positive, short}
use Rattle.py_reader.proofs.Ended.{all_done}
use Rattle.py_reader.proofs.Judged.{reads_all, stops_at, within_long, within_short}
use Rattle.py_reader.proofs.Scanned.{kinds-length, Holds, holds, forms-refuse}

-- ---- its length and its tokens

pub good_tokens : (code : List ℕ) (tokens : List Token) → length code ≤ 262144 → tokens_of code ≡ Ok tokens → tokens_within code ≡ Ok tokens
good_tokens code tokens l e = within_short code l ∙ ap with_tokens e

pub bad_tokens : (code : List ℕ) (error : TokenError) → length code ≤ 262144 → token_gives.Fails error (tokens_of code) → Refuses (of_token error) (tokens_within code)
bad_tokens code token.OutOfMemory l f = tt
bad_tokens code (token.Fault fault) l f = within_short code l ∙ ap with_tokens f

-- what `?` hands on
pub handed_on : {A : Type 0} (result : Result A ReadError) (error : ReadError) → IsErrAnd result (λ e. e ≡ error) → Err error ≡ result
handed_on result error h = let p = err_from_is_err_and result h in sym (p.1 ∙ ap Err p.2)

-- a fault of them is the verdict
pub early_refuses : {A : Type 0} (alone : Bool) (whole : List Token → m.State → Result A SyntaxFault) (error : ReadError) (o : Result (List Token) SyntaxFault) → Refuses error o → Refuses error (of_tokens alone whole o)
early_refuses alone whole OutOfMemory o r = tt
early_refuses alone whole (Fault fault) o r = ap (of_tokens alone whole) r

pub early_cell : (code : List ℕ) (error : ReadError) → Refuses error (tokens_within code) → Refuses error (verdict code)
unfolding verdict
early_cell code error r = early_refuses false (of_cell code) error (tokens_within code) r

pub early_alone : (code : List ℕ) (error : ReadError) → Refuses error (tokens_within code) → Refuses error (verdict_alone code)
unfolding verdict_alone
early_alone code error r = early_refuses true (of_alone code) error (tokens_within code) r

-- and tokens that are within are those of the code
pub are_tokens : (code : List ℕ) (tokens : List Token) → tokens_within code ≡ Ok tokens → tokens_of code ≡ Ok tokens
unfolding tokens_within
are_tokens code tokens e = on (nat_lt 262144 (length code)) (tokens_of code) e
  where
    on : (b : Bool) (o : Result (List Token) TokenFault) → (if b then Err TooLong else with_tokens o) ≡ Ok tokens → o ≡ Ok tokens
    on true o e = cc
    on false (Ok found) e = let same : found ≡ tokens = cc in ap Ok same
    on false (Err fault) e = cc

-- ---- what comes before the rest

pub nested-deep : {A : Type 0} (tokens : List Token) (deep : ℕ) (judged : Result A SyntaxFault) → 0 < deep → nested tokens deep judged ≡ Err (deep_fault tokens deep)
nested-deep tokens deep judged l = ap (λ b. if b then Err (deep_fault tokens deep) else judged) (lt-ltb 0 deep l)

pub nested-shallow : {A : Type 0} (tokens : List Token) (deep : ℕ) (judged : Result A SyntaxFault) → deep ≤ 0 → nested tokens deep judged ≡ judged
nested-shallow tokens deep judged l = ap (λ b. if b then Err (deep_fault tokens deep) else judged) (le-ltb 0 deep l)

unless-deep : (tokens : List Token) (place deep : ℕ) (fault : SyntaxFault) → suc (length tokens) - place < deep → unless_deep tokens place deep fault ≡ deep_fault tokens deep
unless-deep tokens place deep fault l = ap (λ b. if b then deep_fault tokens deep else fault) (lt-ltb (suc (length tokens) - place) deep l)

unless-shallow : (tokens : List Token) (place deep : ℕ) (fault : SyntaxFault) → deep ≤ suc (length tokens) - place → unless_deep tokens place deep fault ≡ fault
unless-shallow tokens place deep fault l = ap (λ b. if b then deep_fault tokens deep else fault) (le-ltb (suc (length tokens) - place) deep l)

-- ---- a token that is refused

same-state : {a b : m.State} → Some a ≡ Some b → a ≡ b
same-state {a} {b} e = cc

same-kind : {a b : Kind} → Some a ≡ Some b → a ≡ b
same-kind {a} {b} e = cc

pub refusal_deep : (alone : Bool) (code : List ℕ) (tokens : List Token) (place : ℕ) (reader : Reader) (found number at : ℕ) → place < length tokens → length tokens ≤ most → read_first alone code tokens place ≡ Some reader
    → found ≡ deepest reader → most - place < found → number ≡ most - found → at ≡ start_of tokens number → IsRefusal alone tokens place (TooDeep at)
refusal_deep alone code tokens place reader found number at l long r is deep n a s t e here =
    let w = (agrees alone (left_of code tokens) tokens place reader s (omega (arith, l)) long r e).0 (omega (arith, is, deep)) in
    unless-deep tokens place (deepest_of tokens s (drop place (kinds tokens))) (refusal (start_of tokens place) t (forms.outside s t)) w.0
    ∙ ap (λ i. TooDeep (start_of tokens i)) (sym w.1 ∙ ap (λ d. most - d) (sym is) ∙ sym n) ∙ ap TooDeep (sym a)

-- what the token begins, on what is held, is what it begins on the forms
begins : (alone : Bool) (code : List ℕ) (tokens : List Token) (place : ℕ) (reader : Reader) (s : m.State) (token : Kind) → read_first alone code tokens place ≡ Some reader → forms_run alone m.start (take place (kinds tokens)) ≡ Some s
    → outside reader.state token ≡ forms.outside s token
begins alone code tokens place reader s token r e =
    let x = holds alone (left_of code tokens) most (take place (kinds tokens)) reader r in
    let k = x.held [] in
    let same : x.forms ≡ s = same-state (sym x.runs ∙ e) in
    ap (λ q. outside q.state token) k.1 ∙ outside-same (from_start most (length (take place (kinds tokens) ++ []))) (left_of code tokens) x.forms token [] ∙ ap (λ q. forms.outside q token) same

pub refusal_shallow : (alone : Bool) (code : List ℕ) (tokens : List Token) (place : ℕ) (reader other : Reader) (found at : ℕ) (token : Kind) (construct : Option Construct) (fault : SyntaxFault) → place < length tokens → length tokens ≤ most
    → read_first alone code tokens place ≡ Some reader → found ≡ deepest reader → found ≤ most - place → read_first alone code tokens place ≡ Some other → construct ≡ outside other.state token → slice_get (kinds tokens) place ≡ Some token
    → at ≡ start_of tokens place → fault ≡ refusal at token construct → IsRefusal alone tokens place fault
refusal_shallow alone code tokens place reader other found at token construct fault l long r is shallow o begun here a f s t e at_place =
    let w = (agrees alone (left_of code tokens) tokens place reader s (omega (arith, l)) long r e).1 (omega (arith, is, shallow)) in
    let same : t ≡ token = same-kind (sym at_place ∙ here) in
    unless-shallow tokens place (deepest_of tokens s (drop place (kinds tokens))) (refusal (start_of tokens place) t (forms.outside s t)) w
    ∙ ap (λ k. refusal (start_of tokens place) k (forms.outside s k)) same ∙ ap (refusal (start_of tokens place) token) (sym (begins alone code tokens place other s token o e) ∙ sym begun)
    ∙ ap (λ n. refusal n token construct) (sym a) ∙ sym f

token_at : (tokens : List Token) (place : ℕ) → place < length tokens → (token : Kind) × (slice_get (kinds tokens) place ≡ Some token)
token_at [] place l = absurd (omega (arith, l))
token_at (t ∷ ts) zero l = (t.kind, refl)
token_at (t ∷ ts) (suc k) l = token_at ts k (omega (arith, l))

-- that fault is the verdict
gives_refused : {A : Type 0} (alone : Bool) (whole : List Token → m.State → Result A SyntaxFault) (code : List ℕ) (tokens : List Token) (place : ℕ) (fault : SyntaxFault) → tokens_within code ≡ Ok tokens
    → (place < length tokens) × StopsAt alone code tokens place → IsRefusal alone tokens place fault → of_tokens alone whole (tokens_within code) ≡ Err fault
gives_refused alone whole code tokens place fault e s f =
    let here = token_at tokens place s.0 in
    let x = holds alone (left_of code tokens) most (take place (kinds tokens)) s.1.0.0 s.1.0.1 in
    ap (of_tokens alone whole) e
    ∙ ap (of_end whole tokens) (stops_at alone (kinds tokens) 0 place m.start x.forms here.0 x.runs here.1 (forms-refuse alone code tokens place here.0 x.forms s.1 x.runs here.1) ∙ ap (λ n. stopped n x.forms here.0) (omega arith))
    ∙ ap Err (f x.forms here.0 x.runs here.1)

pub refused_cell : (code : List ℕ) (tokens : List Token) (place : ℕ) (fault : SyntaxFault) → tokens_within code ≡ Ok tokens → (place < length tokens) × StopsAt false code tokens place → IsRefusal false tokens place fault → verdict code ≡ Err fault
unfolding verdict
refused_cell code tokens place fault e s f = gives_refused false (of_cell code) code tokens place fault e s f

pub refused_alone : (code : List ℕ) (tokens : List Token) (place : ℕ) (fault : SyntaxFault) → tokens_within code ≡ Ok tokens → (place < length tokens) × StopsAt true code tokens place → IsRefusal true tokens place fault → verdict_alone code ≡ Err fault
unfolding verdict_alone
refused_alone code tokens place fault e s f = gives_refused true (of_alone code) code tokens place fault e s f

-- ---- all tokens

all_of : (alone : Bool) (code : List ℕ) (tokens : List Token) (reader : Reader) → read_first alone code tokens (length tokens) ≡ Some reader → Holds alone (left_of code tokens) most (kinds tokens) reader
all_of alone code tokens reader r =
    let k = kinds-length tokens in
    let all : take (length tokens) (kinds tokens) ≡ kinds tokens = take_all (length tokens) (kinds tokens) (omega (arith, k)) in
    subst (λ ts. Holds alone (left_of code tokens) most ts reader) all (holds alone (left_of code tokens) most (take (length tokens) (kinds tokens)) reader r)

-- the state of a whole cell
pub is_end : (alone : Bool) (code : List ℕ) (tokens : List Token) (reader : Reader) (c : Cell) → read_first alone code tokens (length tokens) ≡ Some reader → forms_run alone m.start (kinds tokens) ≡ Some (done c)
    → reader.state ≡ held_state (from_start most (length tokens)) (left_of code tokens) (done c) []
is_end alone code tokens reader c r e =
    let x = all_of alone code tokens reader r in
    let k = x.held [] in
    let n : length (kinds tokens ++ []) ≡ length tokens = ap length (append-nil (kinds tokens)) ∙ kinds-length tokens in
    ap (λ q. q.state) k.1 ∙ ap (λ i. held_state (from_start most i) (left_of code tokens) x.forms []) n ∙ ap (λ s. held_state (from_start most (length tokens)) (left_of code tokens) s []) (same-state (sym x.runs ∙ e))

plain : (alone : Bool) (ts : List Kind) (s : m.State) → forms_run alone m.start ts ≡ Some s → forms_run false m.start ts ≡ Some s
plain false ts s e = e
plain true ts s e = alone-read ts m.start s e

-- ---- its statements

same-done : {a b : Done} → h.End a ≡ h.End b → a ≡ b
same-done {a} {b} e = cc

-- what is held of a whole cell that isn't too deep is its tree
has-tree : (code : List ℕ) (tokens : List Token) (c : Cell) (held : Done) → length tokens < most → IsCell (kinds tokens) c → h.End held ≡ held_state (from_start most (length tokens)) (left_of code tokens) (done c) [] → reach held.under 64 ≤ 0
    → held.statements ≡ tree_cell (source_of code tokens) c
has-tree code tokens c held l is e shallow =
    let k = kinds-length tokens in
    let n : length (kinds tokens) ≡ length (spelling c) = ap length is.spelled in
    let x = reads-cells (source_of code tokens) most (kinds tokens) c is (omega (arith, k, l)) in
    let z = holds false (left_of code tokens) most (kinds tokens) _ x.2 in
    let w = z.held [] in
    let i : length (kinds tokens ++ []) ≡ length tokens = ap length (append-nil (kinds tokens)) ∙ k in
    let same : x.0 ≡ held = same-done (ap (λ q. q.state) w.1 ∙ ap (λ j. held_state (from_start most j) (left_of code tokens) z.forms []) i ∙ ap (λ s. held_state (from_start most (length tokens)) (left_of code tokens) s []) (same-state (sym z.runs ∙ is_read (kinds tokens) c is)) ∙ sym e) in
    let low : reach x.0.under 64 ≤ 0 = subst (λ d. reach d.under 64 ≤ 0) (sym same) shallow in
    ap (λ d. d.statements) (sym same) ∙ x.3.tree (short x.0.under 64 (λ d y f. let p = placed-at (from_start most (length (spelling c))) (first (in_cell c d)) y (x.3.places d ∙ f) in positive most (length (spelling c)) p.0 y (omega (arith, n, k, l)) p.1) low)

pub statements_deep : (alone : Bool) (code : List ℕ) (tokens : List Token) (reader : Reader) (held : Done) (found number at : ℕ) → length tokens < most → read_first alone code tokens (length tokens) ≡ Some reader → reader.state ≡ h.End held
    → found ≡ reach held.under 64 → 0 < found → number ≡ most - found → at ≡ start_of tokens number → GivesStatements alone code tokens (Err (Fault (TooDeep at)))
statements_deep alone code tokens reader held found number at l r e f deep n a c runs =
    let is = read_is (kinds tokens) c (plain alone (kinds tokens) (done c) runs) in
    let s = sym e ∙ is_end alone code tokens reader c r runs in
    let w = (cell-agrees (left_of code tokens) tokens c found l is (f ∙ ap (λ q. reach (forced_now q) 64) s)).0 deep in
    nested-deep tokens (deepest_of tokens (done c) []) (Ok (tree_cell (source_of code tokens) c)) w.0 ∙ ap (λ i. Err (TooDeep (start_of tokens i))) (sym w.1 ∙ sym n) ∙ ap (λ i. Err (TooDeep i)) (sym a)

pub statements_shallow : (alone : Bool) (code : List ℕ) (tokens : List Token) (reader : Reader) (held : Done) (found : ℕ) → length tokens < most → read_first alone code tokens (length tokens) ≡ Some reader → reader.state ≡ h.End held
    → found ≡ reach held.under 64 → found ≤ 0 → GivesStatements alone code tokens (Ok held.statements)
statements_shallow alone code tokens reader held found l r e f shallow c runs =
    let is = read_is (kinds tokens) c (plain alone (kinds tokens) (done c) runs) in
    let s = sym e ∙ is_end alone code tokens reader c r runs in
    let w = (cell-agrees (left_of code tokens) tokens c found l is (f ∙ ap (λ q. reach (forced_now q) 64) s)).1 shallow in
    nested-shallow tokens (deepest_of tokens (done c) []) (Ok (tree_cell (source_of code tokens) c)) w ∙ ap Ok (sym (has-tree code tokens c held l is s (omega (arith, f, shallow))))

-- a cell that is whole is at its end
pub statements_none : (alone : Bool) (code : List ℕ) (tokens : List Token) (reader : Reader) (state : held_of.State) → read_first alone code tokens (length tokens) ≡ Some reader → reader.state ≡ state → ((held : Done) → state ≡ h.End held → ⊥)
    → GivesStatements alone code tokens (Ok [])
statements_none alone code tokens reader state r e not_end c runs = absurd (not_end _ (sym e ∙ is_end alone code tokens reader c r runs))

-- ---- a cell

pub too_long : (code : List ℕ) → 262144 < length code → verdict code ≡ Err TooLong
unfolding verdict
too_long code l = ap (of_tokens false (of_cell code)) (within_long code l)

whole_cell : (code : List ℕ) (tokens : List Token) (c : Cell) → tokens_within code ≡ Ok tokens → forms_run false m.start (kinds tokens) ≡ Some (done c)
    → of_tokens false (of_cell code) (tokens_within code) ≡ nested tokens (deepest_of tokens (done c) []) (Ok (tree_cell (source_of code tokens) c))
whole_cell code tokens c e r = ap (of_tokens false (of_cell code)) e ∙ ap (of_end (of_cell code) tokens) (reads_all false (kinds tokens) 0 m.start (done c) r)

cell_of : (alone : Bool) (code : List ℕ) (tokens : List Token) (reader : Reader) → tokens_of code ≡ Ok tokens → read_first alone code tokens (length tokens) ≡ Some reader → (c : Cell) × (forms_run alone m.start (kinds tokens) ≡ Some (done c))
cell_of alone code tokens reader e r =
    let x = all_of alone code tokens reader r in
    let d = all_done alone code tokens x.forms e x.runs in
    (d.0, x.runs ∙ ap Some d.1)

pub gives_whole : (code : List ℕ) (tokens : List Token) (reader : Reader) (result : Result (List Stmt) ReadError) → tokens_within code ≡ Ok tokens → read_first false code tokens (length tokens) ≡ Some reader
    → GivesStatements false code tokens result → Answers result (verdict code)
unfolding verdict
gives_whole code tokens reader result e r g =
    let c = cell_of false code tokens reader (are_tokens code tokens e) r in
    subst (Answers result) (sym (whole_cell code tokens c.0 e c.1)) (g c.0 c.1)

-- ---- a function alone

pub are_function : (code : List ℕ) (tokens : List Token) (reader : Reader) → tokens_within code ≡ Ok tokens → read_first true code tokens (length tokens) ≡ Some reader → AreFunction code tokens
are_function code tokens reader e r =
    let of = are_tokens code tokens e in
    let c = cell_of true code tokens reader of r in
    let one = read_is_one (kinds tokens) c.0 c.1 in
    record { of_text = of; called = one.0; takes = one.1; block = one.2; is_definition = subst (IsCell (kinds tokens)) one.3 one.4 }

pub function_runs : (code : List ℕ) (tokens : List Token) (f : AreFunction code tokens) → forms_run true m.start (kinds tokens) ≡ Some (done (alone f.called f.takes f.block))
function_runs code tokens f = one_is_read (kinds tokens) (alone f.called f.takes f.block) (f.called, f.takes, f.block, refl, f.is_definition)

pub gives_function : (code : List ℕ) (tokens : List Token) (result : Result Def ReadError) → tokens_within code ≡ Ok tokens → AreFunction code tokens → GivesFunction code tokens result → Answers result (verdict_alone code)
unfolding verdict_alone
gives_function code tokens result e f g =
    subst (Answers result) (sym (ap (of_tokens true (of_alone code)) e ∙ ap (of_end (of_alone code) tokens) (reads_all true (kinds tokens) 0 m.start (done (alone f.called f.takes f.block)) (function_runs code tokens f)))) (g f)
