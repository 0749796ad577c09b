-- The verdict says what it says in the words of the grammar.
use Rattle.std.proofs.Common.{◌≡◌, ℕ, suc, ◌-◌, ◌≤◌, Bool, true, false, nat_lt, if◌then◌else◌, List, [], length, take, drop, slice_get, Some, None, Result, Ok, Err, refl, ap, ◌∙◌, sym, subst, arith}
use Rattle.std.proofs.lemmas.Bool.{ltb-true, ltb-false}
use Rattle.std.proofs.lemmas.Option.{slice_get_within}
use Rattle.py_token.specs.declared.kinds.Kind.{Kind}
use Rattle.py_token.specs.declared.kinds.Token.{Token}
use Rattle.py_token.specs.Cuts.{kinds}
use Rattle.py_token.specs.Lines.{tokens_of}
use Rattle.py_tree.specs.declared.statements.Tree.{Tree}
use Rattle.py_grammar.specs.States as m
use Rattle.py_grammar.specs.States.{done}
use Rattle.py_grammar.specs.Statements.{Cell, IsCell}
use Rattle.py_grammar.specs.Depth.{IsTooDeep, AreTooDeep}
use Rattle.py_grammar.specs.Outside.{Fails, outside}
use Rattle.py_grammar.proofs.Failing.{is_failing, stands_at, stands_where}
use Rattle.py_grammar.proofs.Whole.{read_is}
use Rattle.py_blocks.specs.Follows.{forms_run}
use Rattle.py_blocks.specs.Telling.{IsOf}
use Rattle.py_reader.specs.declared.fault.SyntaxFault.{SyntaxFault}
use Rattle.py_reader.specs.declared.fault.SyntaxFault.TheVariants.{TooDeep}
use Rattle.py_reader.specs.declared.fault.ReadError.{ReadError}
use Rattle.py_reader.specs.declared.fault.ReadError.TheVariants.{OutOfMemory, Fault}
use Rattle.py_reader.specs.Verdicts.{start_of, refusal, of_cell as cell_deep, of_open, Verdict, too_long, bad_token, too_deep, refused, whole}
use Rattle.py_reader.specs.Verdict.{deepest_of, deep_fault, nested, stop_fault, of_cell, verdict}
use Rattle.py_reader.specs.Gives as gives
use Rattle.py_reader.proofs.Deep.{tells, cell-tells}
use Rattle.py_reader.proofs.Ended.{all_done}
use Rattle.py_reader.proofs.Judged.{means-with}
use Rattle.py_reader.proofs.Scanned.{kinds-length}

-- ---- nesting

pub no-more : (n : ℕ) → n ≤ 0 → n ≡ 0
no-more n l = omega (arith, l)

-- of a whole cell
pub nested-means : {A : Type 0} (P : Result A SyntaxFault → Type 0) (tokens : List Token) (c : Cell) (judged : Result A SyntaxFault) → IsCell (kinds tokens) c → ((place : ℕ) → IsTooDeep c place → P (Err (TooDeep (start_of tokens place))))
    → (((other : ℕ) → IsTooDeep c other → ⊥) → P judged) → P (nested tokens (deepest_of tokens (done c) []) judged)
nested-means {A} P tokens c judged is deep shallow = on (nat_lt 0 (deepest_of tokens (done c) [])) refl
  where
    on : (b : Bool) → nat_lt 0 (deepest_of tokens (done c) []) ≡ b → P (if b then Err (deep_fault tokens (deepest_of tokens (done c) [])) else judged)
    on true q = deep (suc (length tokens) - deepest_of tokens (done c) []) ((cell-tells tokens c is).0 (ltb-true 0 (deepest_of tokens (done c) []) q))
    on false q = shallow ((cell-tells tokens c is).1 (no-more (deepest_of tokens (done c) []) (ltb-false 0 (deepest_of tokens (done c) []) q)))

-- before a failing token
pub stop-means : (P : SyntaxFault → Type 0) (alone : Bool) (tokens : List Token) (place : ℕ) (s : m.State) (t : Kind) → forms_run alone m.start (take place (kinds tokens)) ≡ Some s → slice_get (kinds tokens) place ≡ Some t
    → ((at : ℕ) → AreTooDeep (IsOf alone) (take place (kinds tokens)) at → P (TooDeep (start_of tokens at)))
    → (((at : ℕ) → AreTooDeep (IsOf alone) (take place (kinds tokens)) at → ⊥) → P (refusal (start_of tokens place) t (outside s t))) → P (stop_fault tokens place s t)
stop-means P alone tokens place s t r g deep shallow = on (nat_lt (suc (length tokens) - place) (deepest_of tokens s (drop place (kinds tokens)))) refl
  where
    within : place ≤ length tokens
    within = let w = slice_get_within (kinds tokens) place t g in let k = kinds-length tokens in omega (arith, w, k)

    on : (b : Bool) → nat_lt (suc (length tokens) - place) (deepest_of tokens s (drop place (kinds tokens))) ≡ b
        → P (if b then deep_fault tokens (deepest_of tokens s (drop place (kinds tokens))) else refusal (start_of tokens place) t (outside s t))
    on true q = deep (suc (length tokens) - deepest_of tokens s (drop place (kinds tokens))) ((tells alone tokens place s within r).deep (ltb-true (suc (length tokens) - place) (deepest_of tokens s (drop place (kinds tokens))) q))
    on false q = shallow ((tells alone tokens place s within r).shallow (ltb-false (suc (length tokens) - place) (deepest_of tokens s (drop place (kinds tokens))) q))

-- ---- the failing token

abbrev fails_of : (tokens : List Kind) (place : ℕ) (s : m.State) (t : Kind) → m.run m.start (take place tokens) ≡ Some s → slice_get tokens place ≡ Some t → m.step s t ≡ None → Fails tokens place (outside s t)
fails_of tokens place s t e g b =
    record { failing = is_failing tokens place s t e g b; open_forms = s; stand = stands_where (take place tokens) s e; before_it = stands_at (take place tokens) s e; token = t; is_token = g; begins_construct = refl }

-- ---- the verdict

end-means : (code : List ℕ) (tokens : List Token) (s : m.State) → length code ≤ 262144 → tokens_of code ≡ Ok tokens → m.run m.start (kinds tokens) ≡ Some s → Verdict code (of_cell code tokens s)
end-means code tokens s l e r =
    let d = all_done false code tokens s e r in
    let is = read_is (kinds tokens) d.0 (r ∙ ap Some d.1) in
    subst (λ u. Verdict code (of_cell code tokens u)) (sym d.1)
    (nested-means (Verdict code) tokens d.0 _ is (λ place deep. too_deep l e (cell_deep d.0 is deep)) (λ shallow. whole l e is shallow))

stopped-means : (code : List ℕ) (tokens : List Token) (place : ℕ) (s : m.State) (t : Kind) → length code ≤ 262144 → tokens_of code ≡ Ok tokens → m.run m.start (take place (kinds tokens)) ≡ Some s → slice_get (kinds tokens) place ≡ Some t
    → m.step s t ≡ None → Verdict code (Err (stop_fault tokens place s t))
stopped-means code tokens place s t l e r g b =
    let f = fails_of (kinds tokens) place s t r g b in
    stop-means (λ fault. Verdict code (Err fault)) false tokens place s t r g (λ at deep. too_deep l e (of_open f deep)) (λ shallow. refused l e f shallow)

pub means : (code : List ℕ) → Verdict code (verdict code)
unfolding verdict
means code = means-with false (of_cell code) code (Verdict code) too_long (λ fault l e. bad_token l e) (λ tokens s l e r. end-means code tokens s l e r) (λ tokens place s t l e r g b. stopped-means code tokens place s t l e r g b)

pub told : (code : List ℕ) (result : Result Tree ReadError) → gives.Gives result (verdict code) → gives.Means code result
told code (Ok tree) e = subst (Verdict code) e (means code)
told code (Err OutOfMemory) e = tt
told code (Err (Fault fault)) e = subst (Verdict code) e (means code)
