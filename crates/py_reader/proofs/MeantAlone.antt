-- The verdict on a text that is to be one function alone says what it says in the words of the grammar.
use Rattle.std.proofs.Common.{◌≡◌, ℕ, ◌≤◌, Bool, true, false, nat_lt, if◌then◌else◌, List, [], length, take, slice_get, Some, None, Result, Ok, Err, refl, ap, ◌∙◌, sym, subst, arith}
use Rattle.std.proofs.lemmas.Bool.{ltb-true, ltb-false}
use Rattle.py_token.specs.declared.kinds.Kind.{Kind}
use Rattle.py_token.specs.declared.kinds.Token.{Token}
use Rattle.py_token.specs.Cuts.{kinds}
use Rattle.py_token.specs.Lines.{tokens_of}
use Rattle.py_token.proofs.Covers.{covers}
use Rattle.py_tree.specs.declared.statements.Def.{Def}
use Rattle.py_grammar.specs.Statements.{Params, Block, IsCell}
use Rattle.py_grammar.specs.States as m
use Rattle.py_grammar.specs.States.{done}
use Rattle.py_grammar.specs.Outside.{outside}
use Rattle.py_grammar.specs.Depth.{IsTooDeep}
use Rattle.py_grammar.specs.Alone.{alone, IsDefinition, FailsAlone}
use Rattle.py_grammar.specs.AloneMachine.{step_alone, run_alone}
use Rattle.py_grammar.proofs.AloneRead.{alone-read, read_is_one}
use Rattle.py_grammar.proofs.AloneFailing.{is_failing}
use Rattle.py_grammar.proofs.Failing.{stands_at, stands_where}
use Rattle.py_reader.specs.declared.fault.SyntaxFault.TheVariants.{NoParse}
use Rattle.py_reader.specs.declared.fault.ReadError.{ReadError}
use Rattle.py_reader.specs.declared.fault.ReadError.TheVariants.{OutOfMemory, Fault}
use Rattle.py_reader.specs.Verdicts.{start_of}
use Rattle.py_reader.specs.Verdict.{deepest_of, nested, stop_fault}
use Rattle.py_reader.specs.Definitions.{end_of_words, definition, DefinitionVerdict, too_long, bad_token, stands_later, whole_too_deep, goes_on, whole, too_deep_before, refused}
use Rattle.py_reader.specs.DefinitionVerdict.{unless_more, of_function, of_alone, verdict_alone}
use Rattle.py_reader.specs.Gives as gives
use Rattle.py_reader.proofs.Ended.{all_done}
use Rattle.py_reader.proofs.Judged.{means-with}
use Rattle.py_reader.proofs.Meant.{no-more, nested-means, stop-means}
use Rattle.py_reader.proofs.Spanned.{words_within}

abbrev fails_of : (tokens : List Kind) (place : ℕ) (s : m.State) (t : Kind) → run_alone m.start (take place tokens) ≡ Some s → slice_get tokens place ≡ Some t → step_alone s t ≡ None → FailsAlone tokens place (outside s t)
fails_of tokens place s t e g b =
    let r = alone-read (take place tokens) m.start s e in
    record { failing = is_failing tokens place s t e g b; open_forms = s; stand = stands_where (take place tokens) s r; before_it = stands_at (take place tokens) s r; token = t; is_token = g; begins_construct = refl }

-- ---- a function

meet : (a b : ℕ) → a ≤ b → b ≤ a → a ≡ b
meet a b h k = omega (arith, h, k)

module _ (code : List ℕ) (tokens : List Token) (called : List ℕ) (takes : Params) (block : Block) (l : length code ≤ 262144) (e : tokens_of code ≡ Ok tokens) (is : IsDefinition (kinds tokens) called takes block) where
  abbrev the_function : Def
  the_function = definition code called takes block

  more_means : start_of tokens 0 ≡ 0 → ((at : ℕ) → IsTooDeep (alone called takes block) at → ⊥) → (b : Bool) → nat_lt (end_of_words tokens) (length code) ≡ b
      → DefinitionVerdict code (if b then Err (NoParse (end_of_words tokens) false) else Ok the_function)
  more_means first shallow true q = goes_on l e is first shallow (ltb-true (end_of_words tokens) (length code) q)
  more_means first shallow false q = whole l e is first shallow (meet (end_of_words tokens) (length code) (words_within code tokens (covers code tokens e)) (ltb-false (end_of_words tokens) (length code) q))

  later_means : (b : Bool) → nat_lt 0 (start_of tokens 0) ≡ b
      → DefinitionVerdict code (if b then Err (NoParse 0 false) else nested tokens (deepest_of tokens (done (alone called takes block)) []) (unless_more code tokens (Ok the_function)))
  later_means true q = stands_later l e is (ltb-true 0 (start_of tokens 0) q)
  later_means false q =
      let first = no-more (start_of tokens 0) (ltb-false 0 (start_of tokens 0) q) in
      nested-means (DefinitionVerdict code) tokens (alone called takes block) _ is (λ place deep. whole_too_deep l e is first deep) (λ shallow. more_means first shallow (nat_lt (end_of_words tokens) (length code)) refl)

  function_means : DefinitionVerdict code (of_function code tokens (deepest_of tokens (done (alone called takes block)) []) the_function)
  function_means = later_means (nat_lt 0 (start_of tokens 0)) refl

-- ---- the verdict

end-means : (code : List ℕ) (tokens : List Token) (s : m.State) → length code ≤ 262144 → tokens_of code ≡ Ok tokens → run_alone m.start (kinds tokens) ≡ Some s → DefinitionVerdict code (of_alone code tokens s)
end-means code tokens s l e r =
    let d = all_done true code tokens s e r in
    let one = read_is_one (kinds tokens) d.0 (r ∙ ap Some d.1) in
    subst (λ u. DefinitionVerdict code (of_alone code tokens u)) (sym (d.1 ∙ ap m.done one.3))
    (function_means code tokens one.0 one.1 one.2 l e (subst (IsCell (kinds tokens)) one.3 one.4))

stopped-means : (code : List ℕ) (tokens : List Token) (place : ℕ) (s : m.State) (t : Kind) → length code ≤ 262144 → tokens_of code ≡ Ok tokens → run_alone m.start (take place (kinds tokens)) ≡ Some s → slice_get (kinds tokens) place ≡ Some t
    → step_alone s t ≡ None → DefinitionVerdict code (Err (stop_fault tokens place s t))
stopped-means code tokens place s t l e r g b =
    let f = fails_of (kinds tokens) place s t r g b in
    stop-means (λ fault. DefinitionVerdict code (Err fault)) true tokens place s t r g (λ at deep. too_deep_before l e f deep) (λ shallow. refused l e f shallow)

pub means : (code : List ℕ) → DefinitionVerdict code (verdict_alone code)
unfolding verdict_alone
means code = means-with true (of_alone code) code (DefinitionVerdict code) too_long (λ fault l e. bad_token l e) (λ tokens s l e r. end-means code tokens s l e r) (λ tokens place s t l e r g b. stopped-means code tokens place s t l e r g b)

pub told : (code : List ℕ) (result : Result Def ReadError) → gives.Answers result (verdict_alone code) → gives.MeansDefinition code result
told code (Ok def) e = subst (DefinitionVerdict code) e (means code)
told code (Err OutOfMemory) e = tt
told code (Err (Fault fault)) e = subst (DefinitionVerdict code) e (means code)
