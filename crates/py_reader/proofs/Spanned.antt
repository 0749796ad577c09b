-- What the words of a text that is one function span.
use Rattle.std.proofs.Common.{◌≡◌, ℕ, ◌-◌, ◌≤◌, Bool, true, false, List, [], ◌∷◌, ◌++◌, length, Option, Some, None, Ok, refl, ap, ◌∙◌, sym, subst, arith, length-append, take_all, take_at}
use Rattle.std.proofs.lemmas.List.{reverse-append}
use Rattle.std.specs.Prelude.{reverse, find, not, slice_range, IsUtf8, if◌then◌else◌}
use Rattle.py_token.specs.declared.kinds.Kind.{Kind}
use Rattle.py_token.specs.declared.kinds.Kind.TheVariants as t
use Rattle.py_token.specs.declared.kinds.Token.{Token}
use Rattle.py_token.specs.Lines.{tokens_of, token}
use Rattle.py_token.specs.Laws.{Cover}
use Rattle.py_token.proofs.Ends.{ends_well}
use Rattle.py_grammar.specs.Words.{def_word}
use Rattle.py_grammar.specs.Statements.{Params, Block, Statement, compound, define, spell_statement}
use Rattle.py_grammar.proofs.Places.{statement-tokens}
use Rattle.py_grammar.specs.Alone.{IsDefinition}
use Rattle.py_blocks.specs.Source.{is_layout, last_word, text_of, text_up_to, text_from, source_of}
use Rattle.py_token.specs.Cuts.{kinds}
use Rattle.py_blocks.proofs.Texts.{text_of-utf8}
use Rattle.py_reader.specs.Verdicts.{start_of}
use Rattle.py_reader.specs.Definitions.{end_if, end_of_words}
use Rattle.py_reader.proofs.Scanned.{kinds-length}
use Rattle.py_reader.proofs.Ended.{ends_so}

-- ---- where they end

-- no token ends past this place
abbrev AllEnd : ℕ → List Token → Type 0
AllEnd n [] = Unit {0}
AllEnd n (x ∷ xs) = (x.end ≤ n) × AllEnd n xs

all_end : (code : List ℕ) (at : ℕ) (ts : List Token) → Cover code at ts → AllEnd (length code) ts
all_end code at [] c = tt
all_end code at (x ∷ xs) c = (c.0.within, all_end code x.end xs c.1)

end_append : (n : ℕ) (xs ys : List Token) → AllEnd n xs → AllEnd n ys → AllEnd n (xs ++ ys)
end_append n [] ys h k = k
end_append n (x ∷ xs) ys h k = (h.0, end_append n xs ys h.1 k)

end_reverse : (n : ℕ) (xs : List Token) → AllEnd n xs → AllEnd n (reverse xs)
end_reverse n [] h = tt
end_reverse n (x ∷ xs) h = subst (AllEnd n) (sym (reverse-append (x ∷ []) xs)) (end_append n (reverse xs) (x ∷ []) (end_reverse n xs h.1) (h.0, tt))

end_found : (n : ℕ) (test : Token → Bool) (xs : List Token) → AllEnd n xs → end_if (find test xs) ≤ n
end_found n test [] h = omega arith
end_found n test (x ∷ xs) h = on (test x) (end_found n test xs h.1)
  where
    on : (b : Bool) → end_if (find test xs) ≤ n → end_if (if b then Some x else find test xs) ≤ n
    on true k = h.0
    on false k = k

-- the words of a text end in it
pub words_within : (code : List ℕ) (tokens : List Token) → Cover code 0 tokens → end_of_words tokens ≤ length code
words_within code tokens c = end_found (length code) _ (reverse tokens) (end_reverse (length code) tokens (all_end code 0 tokens c))

-- ---- what they span

-- from the first byte to the last
from_first : (code : List ℕ) (o : Option Token) → IsUtf8 code → length code ≤ end_if o → text_up_to code 0 o ≡ code
from_first [] None utf8 l = refl
from_first (c ∷ cs) None utf8 l = absurd (omega arith)
from_first code (Some last) utf8 l = ap text_of (take_all (last.end - 0) code (omega arith)) ∙ text_of-utf8 code utf8

-- the end is no word
last-end : (front : List Token) (end : Token) → end.kind ≡ t.End → last_word (front ++ end ∷ []) ≡ last_word front
last-end front end is = ap (find (λ x. not (is_layout x.kind))) (reverse-append front (end ∷ [])) ∙ passed (is_layout end.kind) (ap is_layout is)
  where
    passed : (b : Bool) → b ≡ true → (if not b then Some end else find (λ (x : Token). not (is_layout x.kind)) (reverse front)) ≡ last_word front
    passed true e = refl
    passed false e = cc

-- all tokens but the end
spanned_by : (code : List ℕ) (front : List Token) (end : Token) (more : List Kind) → IsUtf8 code → end.kind ≡ t.End → kinds front ++ t.End ∷ [] ≡ def_word ∷ more → start_of (front ++ end ∷ []) 0 ≡ 0
    → length code ≤ end_of_words (front ++ end ∷ []) → text_from code front ≡ code
spanned_by code [] end more utf8 is spells start l = cc
spanned_by code (x ∷ xs) end more utf8 is spells start l =
    ap (λ n. text_up_to code n (last_word (x ∷ xs))) start ∙ from_first code (last_word (x ∷ xs)) utf8 (subst (λ o. length code ≤ end_if o) (last-end (x ∷ xs) end is) l)

-- how many tokens of the text are before the end
front_length : (front : List Token) (x : Statement) (more : List Kind) → kinds front ++ more ≡ spell_statement x more → length (spell_statement x []) ≡ length front
front_length front x more e =
    let s = statement-tokens x in
    omega (arith, ap length e, ap length (s.spelled more), ap length (s.spelled []), length-append (kinds front) more, length-append s.tokens more, length-append s.tokens [], kinds-length front)

-- the text of a function from the first byte to the last is all of it
pub whole_text : (code : List ℕ) (tokens : List Token) (called : List ℕ) (takes : Params) (block : Block) → IsUtf8 code → tokens_of code ≡ Ok tokens → IsDefinition (kinds tokens) called takes block → start_of tokens 0 ≡ 0
    → length code ≤ end_of_words tokens → source_of code tokens 0 (length (spell_statement (compound (define called takes) block) [])) ≡ code
whole_text code tokens called takes block utf8 e is start l =
    let w = ends_well code tokens e in
    let end = token t.End (length code) 0 in
    let function : Statement = compound (define called takes) block in
    let spells : kinds w.front ++ t.End ∷ [] ≡ spell_statement function (t.End ∷ []) = sym (ends_so code tokens w) ∙ is.spelled in
    let n : length (spell_statement function []) ≡ length w.front = front_length w.front function (t.End ∷ []) spells in
    ap (λ ts. text_from code ts) (ap (λ ts. slice_range ts 0 (length (spell_statement function []))) w.last ∙ take_at w.front (end ∷ []) (length (spell_statement function []) - 0) (omega arith))
    ∙ spanned_by code w.front end _ utf8 refl spells (subst (λ ts. start_of ts 0 ≡ 0) w.last start) (subst (λ ts. length code ≤ end_of_words ts) w.last l)
