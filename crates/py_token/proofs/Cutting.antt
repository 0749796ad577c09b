-- The bytes from one word to another, as a text alone, have the same tokens.
use Rattle.std.proofs.Common.{◌≡◌, ℕ, zero, suc, pred, ◌+◌, ◌-◌, ◌<◌, ◌≤◌, true, List, [], ◌∷◌, ◌++◌, length, take, drop, Ok, None, refl, sym, ap, ◌∙◌, subst, arith, append_assoc}
use Rattle.std.specs.List.{slice_range}
use Rattle.std.proofs.lemmas.List.{drop_at}
use Rattle.std.proofs.Math.Seq.{take-append_seam}
use Rattle.py_token.specs.declared.kinds.Kind.{Kind}
use Rattle.py_token.specs.declared.kinds.Kind.TheVariants.{Newline, End}
use Rattle.py_token.specs.declared.kinds.Token.{Token}
use Rattle.py_token.specs.declared.lines.Line.{Line}
use Rattle.py_token.specs.declared.lines.Spot.TheVariants.{Start, Inside}
use Rattle.py_token.specs.Lexemes.{lexeme_at}
use Rattle.py_token.specs.Lines.{token, brackets_after, shallower, indented, begun, closing, last_newline, ended, turn, read, start, tokens_of}
use Rattle.py_token.proofs.Bounds.{lexeme_bounds}
use Rattle.py_token.specs.Cuts.{kinds, is_word, level, begins_line, dedents, AreCut}
use Rattle.py_token.proofs.CutLexemes.{lexeme_cut}
use Rattle.py_token.proofs.CutBlocks.{opened, none_open, steps_of, closing_kinds, level-append, begins-append, kinds-append}
use Rattle.py_token.proofs.CutTurning.{IsLine, AreSame, IsFirstByte, after_word, turn_word, first_byte_cut, level_word}
use Rattle.py_token.proofs.CutReading.{ended_layout, next_read, IsCut, cut_read}
use Rattle.py_token.proofs.CutReaching.{IsReached, reached, free_line}

start_line : IsLine start
start_line = record { stack = refl; free = λ h. refl }

-- at a text's start no block begins or ends
begun_at_start : begun 0 (Start 0 None) (0 ∷ []) ≡ Ok (record { given = []; depths = 0 ∷ [] })
unfolding begun indented shallower
begun_at_start = refl

-- the tokens at the end of a text, after a word with no bracket open
ended_kinds : (at : ℕ) (line : Line) → line.spot ≡ Inside → line.brackets ≡ 0 → kinds (ended at line) ≡ Newline ∷ dedents (opened line.depths) (End ∷ [])
ended_kinds at line s b =
    ap (λ spot. kinds (last_newline at spot line.brackets ++ (closing at line.depths ++ token End at 0 ∷ []))) s
    ∙ ap (λ n. kinds (last_newline at Inside n ++ (closing at line.depths ++ token End at 0 ∷ []))) b
    ∙ ap (λ ks. Newline ∷ ks) (closing_kinds at line.depths (token End at 0 ∷ []))

level_first : (n : ℕ) (k : Kind) (ks : List Kind) → is_word k ≡ true → level n (k ∷ ks) ≡ level n ks
level_first n k ks h = level-append n (k ∷ []) ks ∙ ap (λ m. level m ks) (level_word n k h)

-- the bytes between the places
slice_is : (code front cut rest : List ℕ) (from to : ℕ) → code ≡ front ++ (cut ++ rest) → from ≡ length front → to ≡ from + length cut → slice_range code from to ≡ cut
slice_is code front cut rest from to is begin end =
    let there : drop from code ≡ cut ++ rest = ap (drop from) is ∙ drop_at front (cut ++ rest) from (sym begin) in
    let wide : to - from ≡ length cut = omega (arith, end) in
    ap (λ n. take n (drop from code)) wide ∙ ap (take (length cut)) there ∙ take-append_seam cut rest

module _ (code : List ℕ) (before middle after : List Token) (first last end : Token) (read_so : tokens_of code ≡ Ok (before ++ first ∷ (middle ++ last ∷ (end ∷ after))))
    (first_word : is_word first.kind ≡ true) (last_word : is_word last.kind ≡ true) (newline : end.kind ≡ Newline) (line : begins_line true (kinds before) ≡ true) (top : level 0 (kinds before) ≡ 0) where
  abbrev spelled : List Kind
  spelled = kinds (first ∷ (middle ++ last ∷ []))

  all_reads : read 0 0 start code ≡ Ok (before ++ first ∷ (middle ++ last ∷ (end ∷ after)))
  unfolding tokens_of
  all_reads = read_so

  r : IsReached 0 start code before first (middle ++ last ∷ (end ∷ after))
  r = reached 0 0 start code before first _ first_word start_line (omega arith) all_reads

  split_level : level 0 (kinds before) ≡ level (opened r.here.depths) (kinds r.depths.given)
  split_level = ap (λ ts. level 0 (kinds ts)) r.is_before ∙ ap (level 0) (kinds-append r.given r.depths.given) ∙ level-append 0 (kinds r.given) (kinds r.depths.given) ∙ ap (λ n. level n (kinds r.depths.given)) r.level

  at_top : r.depths.depths ≡ 0 ∷ []
  at_top =
      let s = steps_of r.place r.here.spot r.here.depths r.depths r.is.stack r.begins in
      none_open r.depths.depths s.stack (sym s.level ∙ sym split_level ∙ top)

  no_bracket : r.here.brackets ≡ 0
  no_bracket =
      let s = steps_of r.place r.here.spot r.here.depths r.depths r.is.stack r.begins in
      let split : begins_line true (kinds before) ≡ begins_line (begins_line true (kinds r.given)) (kinds r.depths.given)
      = ap (λ ts. begins_line true (kinds ts)) r.is_before ∙ ap (begins_line true) (kinds-append r.given r.depths.given) ∙ begins-append true (kinds r.given) (kinds r.depths.given) in
      r.is.free (sym r.line_begins ∙ sym (s.line (begins_line true (kinds r.given))) ∙ sym split ∙ line)

  after_first : IsLine (after_word r.here r.depths r.lexeme)
  after_first = let s = steps_of r.place r.here.spot r.here.depths r.depths r.is.stack r.begins in record { stack = s.stack; free = λ h. cc h }

  k : IsCut (pred r.lexeme.width) (suc r.place) (after_word r.here r.depths r.lexeme) r.rest middle last (end ∷ after)
  k =
      let bounds = lexeme_bounds r.place (r.first ∷ r.rest) r.lexeme r.reads in
      cut_read (pred r.lexeme.width) (suc r.place) (after_word r.here r.depths r.lexeme) r.rest middle last (end ∷ after) last_word after_first (few r.lexeme.width (length r.rest) bounds.within) r.goes_on
    where
      few : (w n : ℕ) → w ≤ suc n → pred w ≤ n
      few zero n h = omega arith
      few (suc w) n h = omega (arith, h)

  abbrev bytes : List ℕ
  bytes = r.first ∷ k.cut

  is_slice : slice_range code first.start last.end ≡ bytes
  is_slice =
      let whole : code ≡ r.front ++ (bytes ++ k.rest) = r.parts ∙ ap (λ b. r.front ++ r.first ∷ b) k.parts in
      let begin : first.start ≡ r.place = sym (ap (λ (t : Token). t.start) r.is_token) in
      let place : r.place ≡ length r.front = r.is_place ∙ omega arith in
      slice_is code r.front bytes k.rest first.start last.end whole (begin ∙ place) (omega (arith, k.place, begin))

  abbrev alone : Line
  alone = after_word start (record { given = []; depths = 0 ∷ [] }) r.lexeme

  first_turn : turn 0 start bytes ≡ Ok (record { tokens = token r.lexeme.kind 0 r.lexeme.width ∷ []; width = r.lexeme.width; line = alone })
  first_turn =
      let small : r.lexeme.width ≤ suc (length k.cut) = fits r.lexeme.width (length k.cut) k.inside in
      turn_word 0 start r.first k.cut (record { given = []; depths = 0 ∷ [] }) r.lexeme (first_byte_cut r.first k.cut k.rest (subst (IsFirstByte r.first) k.parts r.byte)) begun_at_start
      (lexeme_cut r.place 0 r.first k.cut k.rest r.lexeme (subst (λ b. lexeme_at r.place (r.first ∷ b) ≡ Ok r.lexeme) k.parts r.reads) small)
    where
      fits : (w n : ℕ) → pred w < n → w ≤ suc n
      fits zero n h = omega arith
      fits (suc w) n h = omega (arith, h)

  same_line : AreSame (suc r.place + pred r.lexeme.width) (1 + pred r.lexeme.width) (after_word r.here r.depths r.lexeme) alone
  same_line = record { spot = tt; depths = sym at_top; brackets = ap (λ n. brackets_after r.lexeme.kind n) (sym no_bracket) }

  abbrev far : ℕ
  far = 1 + length k.cut

  v : (front : List Token) × (w : Token) × (read (pred r.lexeme.width) 1 alone k.cut ≡ Ok (front ++ w ∷ ended far k.last)) × (kinds front ≡ kinds middle) × (w.kind ≡ last.kind) × (w.end ≡ far)
  v = k.again 1 alone same_line

  abbrev begin : Token
  begin = token r.lexeme.kind 0 r.lexeme.width

  bytes_read : tokens_of bytes ≡ Ok (begin ∷ (v.0 ++ v.1 ∷ ended far k.last))
  unfolding tokens_of
  bytes_read = next_read 0 start r.first k.cut _ _ first_turn v.2

  same_kind : r.lexeme.kind ≡ first.kind
  same_kind = ap (λ (t : Token). t.kind) r.is_token

  deep : opened k.last.depths ≡ level 0 spelled
  deep =
      sym k.level ∙ ap (λ ds. level (opened ds) (kinds (middle ++ last ∷ []))) at_top ∙ sym (level_first 0 first.kind (kinds (middle ++ last ∷ [])) first_word)

  kinds_are : kinds (begin ∷ (v.0 ++ v.1 ∷ ended far k.last)) ≡ spelled ++ Newline ∷ dedents (level 0 spelled) (End ∷ [])
  kinds_are =
      let free : k.last.brackets ≡ 0 = free_line 0 (suc r.place + length k.cut) k.last k.rest end after k.spot k.goes_on newline in
      let ends : kinds (ended far k.last) ≡ Newline ∷ dedents (level 0 spelled) (End ∷ []) = ended_kinds far k.last k.spot free ∙ ap (λ n. Newline ∷ dedents n (End ∷ [])) deep in
      let rest : kinds (v.0 ++ v.1 ∷ ended far k.last) ≡ kinds (middle ++ last ∷ []) ++ Newline ∷ dedents (level 0 spelled) (End ∷ [])
      = kinds-append v.0 (v.1 ∷ ended far k.last) ∙ ap (λ ks. ks ++ v.1.kind ∷ kinds (ended far k.last)) v.3 ∙ ap (λ x. kinds middle ++ x ∷ kinds (ended far k.last)) v.4
      ∙ ap (λ ks. kinds middle ++ last.kind ∷ ks) ends ∙ sym (append_assoc (kinds middle) (last.kind ∷ []) _) ∙ ap (λ ks. ks ++ Newline ∷ dedents (level 0 spelled) (End ∷ [])) (sym (kinds-append middle (last ∷ []))) in
      ap (λ x. x ∷ kinds (v.0 ++ v.1 ∷ ended far k.last)) same_kind ∙ ap (λ ks. first.kind ∷ ks) rest

  pub cuts : AreCut (slice_range code first.start last.end) spelled
  cuts = subst (λ b. AreCut b spelled) (sym is_slice) (record {
    tokens = begin ∷ (v.0 ++ v.1 ∷ ended far k.last);
    are_tokens = bytes_read;
    are_kinds = kinds_are;
    first = begin;
    others = v.0 ++ v.1 ∷ ended far k.last;
    begins = refl;
    at_start = refl;
    words = begin ∷ v.0;
    last = v.1;
    layout = ended far k.last;
    ends = refl;
    is_last = ap is_word v.4 ∙ last_word;
    none_after = ended_layout far k.last;
    at_end = v.5 ∙ omega arith;
  })
