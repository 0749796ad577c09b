-- Reading tokens one after the other, beside the machine on forms.
use Rattle.std.proofs.Common.{◌≡◌, ℕ, suc, ◌+◌, ◌-◌, ◌<◌, ◌≤◌, Bool, true, false, List, [], ◌∷◌, ◌++◌, length, take, drop, slice_get, slice_index_or, Option, Some, None, refl, ap, ◌∙◌, sym, subst, take-append-drop, take-take, arith}
use Rattle.std.specs.Option.{option_map}
use Rattle.std.proofs.lemmas.List.{take_more, length-take}
use Rattle.std.proofs.lemmas.Option.{slice_get_within, get_or_from_slice_get, slice_get-map, slice_get-get_or}
use Rattle.py_token.specs.declared.kinds.Kind.{Kind}
use Rattle.py_token.specs.declared.kinds.Token.{Token}
use Rattle.py_token.specs.Cuts.{kinds}
use Rattle.py_grammar.specs.States as m
use Rattle.py_grammar.proofs.Whole as cell
use Rattle.py_grammar.proofs.AloneRead as function
use Rattle.py_frames.specs.declared.stop.Stop.{Stop}
use Rattle.py_frames.specs.declared.stop.Stop.TheVariants as stop_of
use Rattle.py_frames.specs.Gives as gives
use Rattle.py_blocks.specs.declared.state.Reader.{Reader}
use Rattle.py_blocks.specs.Blocks.{Texts}
use Rattle.py_blocks.specs.Follows.{forms_step, forms_run, run, from_start, reader_at, Follows}
use Rattle.py_blocks.specs.Source.{most, left_of}
use Rattle.py_blocks.specs.Steps.{Names, step, start}
use Rattle.py_blocks.proofs.Following.{run-follows}
use Rattle.py_reader.specs.declared.scan.Scan.{Scan}
use Rattle.py_reader.specs.declared.scan.Scan.TheVariants.{Whole, Refused}
use Rattle.py_reader.specs.Scans.{read_first, Scans, StopsAt}

-- ---- tokens and what they are

pub kinds-length : (tokens : List Token) → length (kinds tokens) ≡ length tokens
kinds-length [] = refl
kinds-length (t ∷ ts) = ap suc (kinds-length ts)

pub kind_is : (tokens : List Token) (index : ℕ) (d : Token) → index < length tokens → slice_get (kinds tokens) index ≡ Some (slice_index_or tokens index d).kind
kind_is tokens index d l = slice_get-map (λ t. t.kind) tokens index ∙ ap (option_map (λ t. t.kind)) (slice_get-get_or tokens index d l)

pub front_at : (tokens : List Kind) (index : ℕ) (token : Kind) → slice_get tokens index ≡ Some token → take (index + 1) tokens ≡ take index tokens ++ token ∷ []
front_at tokens index token is = take_more tokens index token (slice_get_within tokens index token is) ∙ ap (λ x. take index tokens ++ x ∷ []) (get_or_from_slice_get tokens index token token is)

-- ---- two lists of tokens

abbrev then_held : Bool → Texts → ℕ → List Kind → Option Reader → Option Reader
then_held alone texts at ts o = elim o [ None ↦ None | Some r ↦ run alone texts at r ts ]

run-joined : (alone : Bool) (texts : Texts) (at : ℕ) (r : Reader) (xs ys : List Kind) → run alone texts at r (xs ++ ys) ≡ then_held alone texts (at - length xs) ys (run alone texts at r xs)
run-joined alone texts at r [] ys = ap (λ n. run alone texts n r ys) (omega arith)
run-joined alone texts at r (x ∷ xs) ys = on (step alone texts at (at - 1) r x) (λ q. run-joined alone texts (at - 1) q xs ys)
  where
    on : (o : Option Reader) → ((q : Reader) → run alone texts (at - 1) q (xs ++ ys) ≡ then_held alone texts (at - 1 - length xs) ys (run alone texts (at - 1) q xs)) → (elim o [ None ↦ None | Some q ↦ run alone texts (at - 1) q (xs ++ ys) ]) ≡ then_held alone texts (at - suc (length xs)) ys (elim o [ None ↦ None | Some q ↦ run alone texts (at - 1) q xs ])
    on None f = refl
    on (Some q) f = f q ∙ ap (λ n. then_held alone texts n ys (run alone texts (at - 1) q xs)) (omega arith)

abbrev pub then_forms : Bool → List Kind → Option m.State → Option m.State
then_forms alone ts o = elim o [ None ↦ None | Some u ↦ forms_run alone u ts ]

pub forms-step : (alone : Bool) (s : m.State) (t : Kind) (ts : List Kind) → forms_run alone s (t ∷ ts) ≡ then_forms alone ts (forms_step alone s t)
forms-step false s t ts = refl
forms-step true s t ts = refl

pub forms-none : (alone : Bool) (s : m.State) → forms_run alone s [] ≡ Some s
forms-none false s = refl
forms-none true s = refl

pub forms-joined : (alone : Bool) (xs ys : List Kind) (s u : m.State) → forms_run alone s xs ≡ Some u → forms_run alone s (xs ++ ys) ≡ forms_run alone u ys
forms-joined false xs ys s u e = cell.run-append xs ys s u e
forms-joined true xs ys s u e = function.alone-append xs ys s u e

one-step : (alone : Bool) (s : m.State) (t : Kind) → forms_run alone s (t ∷ []) ≡ forms_step alone s t
one-step alone s t = forms-step alone s t [] ∙ whole (forms_step alone s t)
  where
    whole : (o : Option m.State) → then_forms alone [] o ≡ o
    whole None = refl
    whole (Some u) = forms-none alone u

-- ---- one more token

one-held : (alone : Bool) (texts : Texts) (at : ℕ) (r : Reader) (t : Kind) → run alone texts at r (t ∷ []) ≡ step alone texts at (at - 1) r t
one-held alone texts at r t = whole (step alone texts at (at - 1) r t)
  where
    whole : (o : Option Reader) → then_held alone texts (at - 1) [] o ≡ o
    whole None = refl
    whole (Some q) = refl

pub one_more : (alone : Bool) (code : List ℕ) (tokens : List Token) (index : ℕ) (token : Kind) (reader : Reader) → read_first alone code tokens index ≡ Some reader → slice_get (kinds tokens) index ≡ Some token
    → read_first alone code tokens (index + 1) ≡ step alone (left_of code tokens) (most - index) (most - index - 1) reader token
one_more alone code tokens index token reader r is =
    let n : length (take index (kinds tokens)) ≡ index = (let l = length-take index (kinds tokens) in let w = slice_get_within (kinds tokens) index token is in omega arith) in
    ap (run alone (left_of code tokens) most start) (front_at (kinds tokens) index token is)
    ∙ run-joined alone (left_of code tokens) most start (take index (kinds tokens)) (token ∷ [])
    ∙ ap (then_held alone (left_of code tokens) (most - length (take index (kinds tokens))) (token ∷ [])) r
    ∙ ap (λ k. run alone (left_of code tokens) (most - k) reader (token ∷ [])) n
    ∙ one-held alone (left_of code tokens) (most - index) reader token

pub stops : (alone : Bool) (code : List ℕ) (tokens : List Token) (index : ℕ) (token : Kind) (reader : Reader) → read_first alone code tokens index ≡ Some reader → slice_get (kinds tokens) index ≡ Some token
    → step alone (left_of code tokens) (most - index) (most - index - 1) reader token ≡ None → StopsAt alone code tokens index
stops alone code tokens index token reader r is e = ((reader, r), one_more alone code tokens index token reader r is ∙ e)

-- as the program finds it
pub none_is_read : (alone : Bool) (code : List ℕ) (tokens : List Token) (reader : Reader) → reader ≡ start → read_first alone code tokens 0 ≡ Some reader
none_is_read alone code tokens reader e = ap Some (sym e)

pub all_read : (alone : Bool) (code : List ℕ) (tokens : List Token) (index count : ℕ) (reader : Reader) → index ≡ count → read_first alone code tokens index ≡ Some reader → read_first alone code tokens count ≡ Some reader
all_read alone code tokens index count reader e r = subst (λ n. read_first alone code tokens n ≡ Some reader) e r

pub refused_is : {A : Type 0} (stop : Stop) (expected : Option A) → stop ≡ stop_of.Refused → gives.Refuses stop expected → expected ≡ None
refused_is stop expected e h = subst (λ s. gives.Refuses s expected) e h

pub whole_scan : (alone : Bool) (code : List ℕ) (tokens : List Token) (count : ℕ) (scan : Scan) (reader : Reader) → Scans alone code tokens count scan → scan ≡ Whole reader → read_first alone code tokens count ≡ Some reader
whole_scan alone code tokens count scan reader h e = subst (Scans alone code tokens count) e h

pub refused_scan : (alone : Bool) (code : List ℕ) (tokens : List Token) (count place : ℕ) (scan : Scan) → Scans alone code tokens count scan → scan ≡ Refused place → (place < count) × StopsAt alone code tokens place
refused_scan alone code tokens count place scan h e = subst (Scans alone code tokens count) e h

-- ---- two readings of the same tokens

-- what isn't read goes on to nothing
stuck : (alone : Bool) (texts : Texts) (xs ys : List Kind) → run alone texts most start xs ≡ None → run alone texts most start (xs ++ ys) ≡ None
stuck alone texts xs ys e = run-joined alone texts most start xs ys ∙ ap (then_held alone texts (most - length xs) ys) e

-- no token is refused before one that is reached
pub no_refusal : (alone : Bool) (code : List ℕ) (tokens : List Token) (earlier place : ℕ) (scan : Scan) → Scans alone code tokens place scan → scan ≡ Refused earlier → StopsAt alone code tokens place → ⊥
no_refusal alone code tokens earlier place scan h e s =
    let k = subst (Scans alone code tokens place) e h in
    let parts : take (earlier + 1) (kinds tokens) ++ drop (earlier + 1) (take place (kinds tokens)) ≡ take place (kinds tokens) = first_of (kinds tokens) (earlier + 1) place (let l = k.0 in omega arith) in
    let none : read_first alone code tokens place ≡ None = ap (run alone (left_of code tokens) most start) (sym parts) ∙ stuck alone (left_of code tokens) (take (earlier + 1) (kinds tokens)) _ k.1.1 in
    clash (sym none ∙ s.0.1)
  where
    first_of : (xs : List Kind) (m n : ℕ) → m ≤ n → take m xs ++ drop m (take n xs) ≡ take n xs
    first_of xs m n l = ap (λ ys. ys ++ drop m (take n xs)) (sym (take-take m n xs l)) ∙ take-append-drop m (take n xs)

    clash : {r : Reader} → ◌≡◌ {A = Option Reader} None (Some r) → ⊥
    clash {r} e = cc

-- ---- the forms of what is held

-- what is held of tokens that are read, before any others
pub record Holds (alone : Bool) (texts : Texts) (top : ℕ) (tokens : List Kind) (reader : Reader) : Type 0 where
  pub forms : m.State
  pub runs : forms_run alone m.start tokens ≡ Some forms
  pub held : (rest : List Kind) → (names : Names) × (reader ≡ reader_at (from_start top (length (tokens ++ rest))) texts forms rest names)

pub holds : (alone : Bool) (texts : Texts) (top : ℕ) (tokens : List Kind) (reader : Reader) → run alone texts top start tokens ≡ Some reader → Holds alone texts top tokens reader
holds alone texts top tokens reader e = on (forms_run alone m.start tokens) refl
  where
    follows : (rest : List Kind) (o : Option m.State) → forms_run alone m.start tokens ≡ o → Follows (from_start top (length (tokens ++ rest))) texts rest (Some reader) o
    follows rest o f = subst (λ p. Follows (from_start top (length (tokens ++ rest))) texts rest p o) e (subst (Follows (from_start top (length (tokens ++ rest))) texts rest (run alone texts top start tokens)) f (run-follows alone texts top tokens rest))

    same : {a b : Reader} → Some a ≡ Some b → a ≡ b
    same {a} {b} e = cc

    none : {A : Type 0} → ◌≡◌ {A = Option Reader} (Some reader) None → A
    none {A} e = cc

    on : (o : Option m.State) → forms_run alone m.start tokens ≡ o → Holds alone texts top tokens reader
    on None f = none (follows [] None f)
    on (Some s) f = record { forms = s; runs = f; held = λ rest. let g = follows rest (Some s) f in (g.0, same g.1) }

-- tokens whose forms are open are read
pub reads : (alone : Bool) (texts : Texts) (top : ℕ) (tokens rest : List Kind) (s : m.State) → forms_run alone m.start tokens ≡ Some s
    → (names : Names) × (run alone texts top start tokens ≡ Some (reader_at (from_start top (length (tokens ++ rest))) texts s rest names))
reads alone texts top tokens rest s e =
    let f = subst (Follows (from_start top (length (tokens ++ rest))) texts rest (run alone texts top start tokens)) e (run-follows alone texts top tokens rest) in
    (f.0, f.1)

-- and tokens that aren't read have none
pub refused : (alone : Bool) (texts : Texts) (tokens : List Kind) → run alone texts most start tokens ≡ None → forms_run alone m.start tokens ≡ None
refused alone texts tokens e = on (forms_run alone m.start tokens) refl
  where
    clash : {A : Type 0} {r : Reader} → ◌≡◌ {A = Option Reader} None (Some r) → A
    clash {A} {r} e = cc

    on : (o : Option m.State) → forms_run alone m.start tokens ≡ o → o ≡ None
    on None f = refl
    on (Some s) f = let r = reads alone texts most tokens [] s f in clash (sym e ∙ r.1)

-- the token that is refused is refused by the forms
pub forms-refuse : (alone : Bool) (code : List ℕ) (tokens : List Token) (place : ℕ) (token : Kind) (s : m.State) → StopsAt alone code tokens place → forms_run alone m.start (take place (kinds tokens)) ≡ Some s
    → slice_get (kinds tokens) place ≡ Some token → forms_step alone s token ≡ None
forms-refuse alone code tokens place token s h e is =
    sym (one-step alone s token) ∙ sym (forms-joined alone (take place (kinds tokens)) (token ∷ []) m.start s e) ∙ ap (forms_run alone m.start) (sym (front_at (kinds tokens) place token is))
    ∙ refused alone (left_of code tokens) (take (place + 1) (kinds tokens)) h.1
