-- A function of a cell is what its text alone is read as.
use Rattle.std.proofs.Common.{◌≡◌, ℕ, ◌+◌, ◌-◌, ◌≤◌, true, false, List, [], ◌∷◌, ◌++◌, length, drop, Ok, Err, sym, ap, ◌∙◌, subst, arith, append_assoc, length-take, length-drop, IsUtf8}
use Rattle.std.specs.Prelude.{slice_range, nat_lt, if◌then◌else◌}
use Rattle.std.proofs.lemmas.Bool.Decides.{nat_tests}
use Rattle.py_token.specs.declared.kinds.Kind.{Kind}
use Rattle.py_token.specs.declared.kinds.Kind.TheVariants as t
use Rattle.py_token.specs.declared.kinds.Token.{Token}
use Rattle.py_token.specs.Lines.{tokens_of}
use Rattle.py_token.proofs.Covers.{covers}
use Rattle.py_grammar.specs.Words.{def_word}
use Rattle.py_grammar.specs.Statements.{Params, Block, Statement, compound, define, spell_statement, outside_all, statement_stands}
use Rattle.py_grammar.proofs.Whole.{one_cell}
use Rattle.py_grammar.specs.Alone.{alone, IsDefinition}
use Rattle.py_grammar.specs.Depth.{IsTooDeep}
use Rattle.py_grammar.specs.States.{done}
use Rattle.py_blocks.specs.Source.{source_of}
use Rattle.py_reader.specs.declared.fault.SyntaxFault.TheVariants.{NoParse}
use Rattle.py_reader.specs.Sources.{bytes_up_to, bytes_from}
use Rattle.py_reader.specs.Scans.{AreFunction}
use Rattle.py_reader.specs.Verdicts.{start_of}
use Rattle.py_reader.specs.Verdict.{deepest_of, nested}
use Rattle.py_reader.specs.Definitions.{end_if, end_of_words, definition}
use Rattle.py_reader.specs.DefinitionVerdict.{unless_more, of_alone, verdict_alone}
use Rattle.py_reader.proofs.Boundaries.{whole_text}
use Rattle.py_reader.proofs.Deep.{is-shallow}
use Rattle.py_reader.proofs.Final.{good_tokens, nested-shallow, gives_function}
use Rattle.py_token.specs.Cuts.{kinds, is_word, level, begins_line, dedents, AreCut}
use Rattle.py_token.proofs.Cutting.{cuts}
use Rattle.py_token.proofs.CutBlocks.{kinds-append}
use Rattle.reader_laws.proofs.Parts.{split_kinds, first_kind, kinds_long, middle_part, last_word_is, no_word_kinds}
use Rattle.reader_laws.proofs.Tails.{Ending, ending_steady, ending_tokens, statement-ends, dedents-append}

-- ---- a text whose tokens are one function from its first byte to its last

not_less : (m n : ℕ) → m ≡ n → nat_lt m n ≡ false
not_less m n e = grind (arith, nat_tests)

whole_function : (src : List ℕ) (tokens : List Token) (called : List ℕ) (takes : Params) (block : Block) → tokens_of src ≡ Ok tokens → IsDefinition (kinds tokens) called takes block → start_of tokens 0 ≡ 0
    → ((at : ℕ) → IsTooDeep (alone called takes block) at → ⊥) → end_of_words tokens ≡ length src → of_alone src tokens (done (alone called takes block)) ≡ Ok (definition src called takes block)
whole_function src tokens called takes block e is start shallow end =
    let deep = deepest_of tokens (done (alone called takes block)) [] in
    let def = definition src called takes block in
    ap (λ b. if b then Err (NoParse 0 false) else nested tokens deep (unless_more src tokens (Ok def))) (not_less 0 (start_of tokens 0) (sym start))
    ∙ nested-shallow tokens deep (unless_more src tokens (Ok def)) (is-shallow tokens (alone called takes block) is shallow)
    ∙ ap (λ b. if b then Err (NoParse (end_of_words tokens) false) else Ok def) (not_less (end_of_words tokens) (length src) end)

pub read_alone : (src : List ℕ) (tokens : List Token) (called : List ℕ) (takes : Params) (block : Block) → length src ≤ 262144 → tokens_of src ≡ Ok tokens → IsDefinition (kinds tokens) called takes block → start_of tokens 0 ≡ 0
    → ((at : ℕ) → IsTooDeep (alone called takes block) at → ⊥) → end_of_words tokens ≡ length src → verdict_alone src ≡ Ok (definition src called takes block)
read_alone src tokens called takes block short e is start shallow end =
    let f : AreFunction src tokens = record { of_text = e; called = called; takes = takes; block = block; is_definition = is } in
    let judged = whole_function src tokens called takes block e is start shallow end in
    gives_function src tokens (Ok (definition src called takes block)) (good_tokens src tokens short e) f
    (λ g. subst (λ c. of_alone src tokens (done c) ≡ Ok (definition src called takes block)) (one_cell (kinds tokens) (alone called takes block) (alone g.called g.takes g.block) is g.is_definition) judged)

-- ---- a function of a code

first_of : (ks : List Kind) (last : Kind) (rest : List Kind) (called : List ℕ) (more : List Kind) → def_word ∷ t.Name called ∷ more ≡ ks ++ last ∷ t.Newline ∷ rest → (others : List Kind) × (ks ≡ def_word ∷ others)
first_of [] last rest called more e = cc
first_of (k ∷ ks) last rest called more e = let head : k ≡ def_word = cc in (ks, ap (λ x. x ∷ ks) head)

part_short : (code : List ℕ) (from to : ℕ) → length code ≤ 262144 → length (slice_range code from to) ≤ 262144
part_short code from to h =
    let one = length-take (to - from) (drop from code) in
    let two = length-drop from code in
    omega (arith, one, two, h)

module _ (code : List ℕ) (utf8 : IsUtf8 code) (short : length code ≤ 262144) (tokens : List Token) (are_tokens : tokens_of code ≡ Ok tokens) (before here : List Token) (split : tokens ≡ before ++ here)
    (called : List ℕ) (takes : Params) (block : Block) (rest : List Kind) (spelled : kinds here ≡ spell_statement (compound (define called takes) block) rest)
    (begins : begins_line true (kinds before) ≡ true) (top : level 0 (kinds before) ≡ 0)
    (stands : statement_stands (compound (define called takes) block) outside_all (λ more. more))
    (shallow : (at : ℕ) → IsTooDeep (alone called takes block) at → ⊥) where
  abbrev pub function : Statement
  function = compound (define called takes) block

  abbrev pub ends : Ending (spell_statement function)
  ends = statement-ends function

  pub front : (others : List Kind) × (ends.front ≡ def_word ∷ others)
  front = first_of ends.front ends.last (dedents ends.deep rest) called _ (ends.spelled rest)

  -- its first tokens, and its last word with what follows
  pub halves : (a : List Token) × (b : List Token) × (here ≡ a ++ b) × (kinds a ≡ ends.front) × (kinds b ≡ ends.last ∷ t.Newline ∷ dedents ends.deep rest)
  halves = split_kinds here ends.front (ends.last ∷ t.Newline ∷ dedents ends.deep rest) (spelled ∙ ends.spelled rest)

  pub opening : (x : Token) × (xs : List Token) × (halves.0 ≡ x ∷ xs) × (x.kind ≡ def_word) × (kinds xs ≡ front.0)
  opening = first_kind halves.0 def_word front.0 (halves.3 ∙ front.1)

  pub word : (x : Token) × (xs : List Token) × (halves.1 ≡ x ∷ xs) × (x.kind ≡ ends.last) × (kinds xs ≡ t.Newline ∷ dedents ends.deep rest)
  word = first_kind halves.1 ends.last (t.Newline ∷ dedents ends.deep rest) halves.4

  newline : (x : Token) × (xs : List Token) × (word.1 ≡ x ∷ xs) × (x.kind ≡ t.Newline) × (kinds xs ≡ dedents ends.deep rest)
  newline = first_kind word.1 t.Newline (dedents ends.deep rest) word.4

  layout : (a : List Token) × (b : List Token) × (newline.1 ≡ a ++ b) × (kinds a ≡ dedents ends.deep []) × (kinds b ≡ rest)
  layout = split_kinds newline.1 (dedents ends.deep []) rest (newline.4 ∙ dedents-append ends.deep [] rest)

  abbrev pub first : Token
  first = opening.0

  abbrev pub middle : List Token
  middle = opening.1

  abbrev pub last : Token
  last = word.0

  abbrev spelling : List Kind
  spelling = kinds (first ∷ (middle ++ last ∷ []))

  here_is : here ≡ first ∷ (middle ++ last ∷ (newline.0 ∷ newline.1))
  here_is = halves.2 ∙ ap (λ ts. ts ++ halves.1) opening.2 ∙ ap (λ ts. first ∷ (middle ++ ts)) (word.2 ∙ ap (◌∷◌ last) newline.2)

  all_tokens : tokens_of code ≡ Ok (before ++ first ∷ (middle ++ last ∷ (newline.0 ∷ newline.1)))
  all_tokens = are_tokens ∙ ap Ok (split ∙ ap (λ ts. before ++ ts) here_is)

  c : AreCut (slice_range code first.start last.end) spelling
  c = cuts code before middle newline.1 first last newline.0 all_tokens (ap is_word opening.3) (ap is_word word.3 ∙ ends.is_last) newline.3 begins top

  spelling_is : spelling ≡ ends.front ++ ends.last ∷ []
  spelling_is =
      kinds-append (first ∷ middle) (last ∷ []) ∙ ap (λ ks. ks ++ last.kind ∷ []) (ap kinds (sym opening.2) ∙ halves.3) ∙ ap (λ k. ends.front ++ k ∷ []) word.3

  deep : level 0 spelling ≡ ends.deep
  deep = ap (level 0) spelling_is ∙ ends.level 0 [] ∙ omega arith

  kinds_are : kinds c.tokens ≡ spell_statement function (t.End ∷ [])
  kinds_are =
      c.are_kinds ∙ ap (λ n. spelling ++ t.Newline ∷ dedents n (t.End ∷ [])) deep ∙ ap (λ ks. ks ++ t.Newline ∷ dedents ends.deep (t.End ∷ [])) spelling_is
      ∙ append_assoc ends.front (ends.last ∷ []) _ ∙ sym (ends.spelled (t.End ∷ []))

  at_start : start_of c.tokens 0 ≡ 0
  at_start = ap (λ ts. start_of ts 0) c.begins ∙ c.at_start

  at_end : end_of_words c.tokens ≡ length (slice_range code first.start last.end)
  at_end = ap end_of_words c.ends ∙ ap end_if (last_word_is c.words c.layout c.last c.is_last c.none_after) ∙ c.at_end

  read_slice : verdict_alone (slice_range code first.start last.end) ≡ Ok (definition (slice_range code first.start last.end) called takes block)
  read_slice = read_alone _ c.tokens called takes block (part_short code first.start last.end short) c.are_tokens (record { spelled = kinds_are; stands = stands }) at_start shallow at_end

  abbrev own : List Token
  own = (first ∷ middle) ++ last ∷ (newline.0 ∷ layout.0)

  own_split : tokens ≡ before ++ (own ++ layout.1)
  own_split = split ∙ ap (λ ts. before ++ ts) (here_is ∙ ap (λ ts. first ∷ (middle ++ last ∷ (newline.0 ∷ ts))) layout.2 ∙ sym (append_assoc (first ∷ middle) (last ∷ (newline.0 ∷ layout.0)) layout.1))

  own_long : length own ≡ length (ending_steady ends).tokens
  own_long =
      let same : kinds own ≡ (ending_steady ends).tokens
      = kinds-append (first ∷ middle) (last ∷ (newline.0 ∷ layout.0)) ∙ ap (λ ks. ks ++ kinds (last ∷ (newline.0 ∷ layout.0))) (ap kinds (sym opening.2) ∙ halves.3) ∙ ap (λ ks. ends.front ++ ks) own_tail ∙ sym (ending_tokens ends) in
      sym (kinds_long own) ∙ ap length same
    where
      own_tail : kinds (word.0 ∷ (newline.0 ∷ layout.0)) ≡ ends.last ∷ t.Newline ∷ dedents ends.deep []
      own_tail = ap (λ k. k ∷ newline.0.kind ∷ kinds layout.0) word.3 ∙ ap (λ k. ends.last ∷ k ∷ kinds layout.0) newline.3 ∙ ap (λ ks. ends.last ∷ t.Newline ∷ ks) layout.3

  -- the text of the function is those bytes
  pub is_source : (i j : ℕ) → i ≡ length before → j ≡ i + length (ending_steady ends).tokens → source_of code tokens i j ≡ slice_range code first.start last.end
  is_source i j from to =
      whole_text code tokens i j utf8 (covers code tokens are_tokens)
      ∙ ap (bytes_from code) (ap (λ ts. slice_range ts i j) own_split ∙ middle_part before own layout.1 i j from (to ∙ ap (λ n. i + n) (sym own_long)))
      ∙ ap (bytes_up_to code first.start) (last_word_is (first ∷ middle) (newline.0 ∷ layout.0) last (ap is_word word.3 ∙ ends.is_last) (ap is_word newline.3, no_word_kinds layout.0 ends.deep layout.3))

  pub read_source : (i j : ℕ) → i ≡ length before → j ≡ i + length (ending_steady ends).tokens → verdict_alone (source_of code tokens i j) ≡ Ok (definition (source_of code tokens i j) called takes block)
  read_source i j from to = subst (λ src. verdict_alone src ≡ Ok (definition src called takes block)) (sym (is_source i j from to)) read_slice
