-- Reading on between the quotes of a text.
use Rattle.std.proofs.Common.{◌≡◌, ℕ, zero, suc, ◌+◌, ◌-◌, ◌<◌, ◌≤◌, true, List, [], ◌∷◌, ◌++◌, length, take, drop, get_or, Option, Some, None, IsUtf8, refl, sym, ap, ◌∙◌, subst, append_assoc, arith, length-append}
use Rattle.std.specs.Prelude.{encode_utf8, unwrap_or}
use Rattle.std.proofs.lemmas.Bool.Decides.{nat_tests}
use Rattle.std.proofs.lemmas.List.{append-nil, drop-drop, drop_all, take_rest}
use Rattle.std.proofs.Math.Numerals.{add-one}
use Rattle.std.proofs.Math.Seq.{drop-cons, take-append_seam, drop-append_seam, get_or-append_seam}
use Rattle.py_token.specs.declared.pieces.Escape.{Escape}
use Rattle.py_token.specs.declared.pieces.Piece.{Piece}
use Rattle.py_token.specs.declared.pieces.Piece.TheVariants.{Quote, LineEnd, Bad, Plain, Escaped}
use Rattle.py_token.specs.declared.pieces.Body.{Body}
use Rattle.py_token.specs.declared.pieces.Body.TheVariants.{Closed, Unclosed, Spoiled}
use Rattle.py_token.specs.Spellings.{is_quote}
use Rattle.py_token.specs.Lexemes.{piece, after, spoil, follow, body}
use Rattle.py_token.specs.Bodies.{closed, read_on, IsWithin, EndsText}
use Rattle.py_token.proofs.Escapes.{Ascii, piece_escaped, piece_plain, piece_quote}
use Rattle.std.proofs.lemmas.Str.{IsUtf8-append, IsUtf8-encode, IsUtf8-take, IsUtf8-drop, IsCharBoundary-before_ascii, IsCharBoundary-after_ascii}
use Rattle.std.specs.Char.{IsScalar}

-- that many bytes more in front, which write nothing
abbrev pub skipped : ℕ → Body → Body
skipped n Unclosed = Unclosed
skipped n (Closed value width) = Closed value (n + width)
skipped n (Spoiled place) = Spoiled (n + place)

skipped-zero : (b : Body) → skipped 0 b ≡ b
skipped-zero Unclosed = refl
skipped-zero (Closed value width) = ap (Closed value) (omega arith)
skipped-zero (Spoiled place) = ap Spoiled (omega arith)

after_skipped : (n : ℕ) (b : Body) → after [] (skipped n b) ≡ skipped (suc n) b
after_skipped n Unclosed = refl
after_skipped n (Closed value width) = ap (Closed value) (omega arith)
after_skipped n (Spoiled place) = ap Spoiled (omega arith)

pub body-skip : (quote n : ℕ) (bytes : List ℕ) → body quote n bytes ≡ skipped n (body quote zero (drop n bytes))
unfolding body
body-skip quote zero bytes = sym (skipped-zero _)
body-skip quote (suc n) [] = refl
body-skip quote (suc n) (c ∷ rest) = ap (after []) (body-skip quote n rest) ∙ after_skipped n _

-- what has been read, with one more piece that writes those bytes and takes `n` bytes after its first
read_on-after : (written more : List ℕ) (bad : Option ℕ) (at n : ℕ) (b : Body) → read_on written bad at (after more (skipped n b)) ≡ read_on (written ++ more) bad (at + (1 + n)) b
read_on-after written more bad at n Unclosed = refl
read_on-after written more None at n (Closed value width) =
    let sum : at + suc (n + width) ≡ (at + (1 + n)) + width = omega arith in
    ap (λ v. Closed v (at + suc (n + width))) (sym (append_assoc written more value)) ∙ ap (Closed ((written ++ more) ++ value)) sum
read_on-after written more (Some p) at n (Closed value width) = refl
read_on-after written more None at n (Spoiled place) = ap Spoiled (omega arith)
read_on-after written more (Some p) at n (Spoiled place) = refl

read_on-spoil : (written : List ℕ) (bad : Option ℕ) (at : ℕ) (b : Body) → read_on written bad at (spoil b) ≡ read_on written (Some (unwrap_or bad at)) (at + 1) b
read_on-spoil written bad at Unclosed = refl
read_on-spoil written None at (Closed value width) = ap Spoiled (omega arith)
read_on-spoil written (Some p) at (Closed value width) = refl
read_on-spoil written None at (Spoiled place) = ap Spoiled (omega arith)
read_on-spoil written (Some p) at (Spoiled place) = refl

-- the piece at a place
pub body-at : (quote : ℕ) (bytes : List ℕ) (at : ℕ) → at < length bytes
    → body quote zero (drop at bytes) ≡ follow (piece quote (get_or bytes at 0) (drop (at + 1) bytes)) (λ n. body quote n (drop (at + 1) bytes))
unfolding body
body-at quote bytes at within = ap (body quote zero) (drop-cons bytes at 0 within) ∙ ap (λ rest. follow (piece quote (get_or bytes at 0) rest) (λ n. body quote n rest)) (ap (λ k. drop k bytes) (sym (add-one at)))

module _ (quote : ℕ) (bytes written : List ℕ) (bad : Option ℕ) (at : ℕ) (within : at < length bytes) (before : read_on written bad at (body quote zero (drop at bytes)) ≡ body quote zero bytes) where
  -- by what is there
  by_piece : (p : Piece) → p ≡ piece quote (get_or bytes at 0) (drop (at + 1) bytes) → read_on written bad at (follow p (λ n. body quote n (drop (at + 1) bytes))) ≡ body quote zero bytes
  by_piece p is = ap (λ q. read_on written bad at (follow q (λ n. body quote n (drop (at + 1) bytes)))) is ∙ sym (ap (read_on written bad at) (body-at quote bytes at within)) ∙ before

  pub ends_closed : Quote ≡ piece quote (get_or bytes at 0) (drop (at + 1) bytes) → closed written bad (at + 1) ≡ body quote zero bytes
  ends_closed is = ap (λ w. closed w bad (at + 1)) (sym (append-nil written)) ∙ by_piece Quote is

  pub ends_open : LineEnd ≡ piece quote (get_or bytes at 0) (drop (at + 1) bytes) → Unclosed ≡ body quote zero bytes
  ends_open is = by_piece LineEnd is

  pub goes_bad : Bad ≡ piece quote (get_or bytes at 0) (drop (at + 1) bytes) → read_on written (Some (unwrap_or bad at)) (at + 1) (body quote zero (drop (at + 1) bytes)) ≡ body quote zero bytes
  goes_bad is = sym (read_on-spoil written bad at _) ∙ by_piece Bad is

  pub goes_plain : (c : ℕ) → Plain c ≡ piece quote (get_or bytes at 0) (drop (at + 1) bytes) → read_on (written ++ c ∷ []) bad (at + 1) (body quote zero (drop (at + 1) bytes)) ≡ body quote zero bytes
  goes_plain c is = sym (read_on-after written (c ∷ []) bad at 0 _) ∙ ap (λ b. read_on written bad at (after (c ∷ []) b)) (skipped-zero _) ∙ by_piece (Plain c) is

  pub goes_escaped : (e : Escape) → Escaped e ≡ piece quote (get_or bytes at 0) (drop (at + 1) bytes)
      → read_on (written ++ encode_utf8 e.character) bad (at + (1 + e.width)) (body quote zero (drop (at + (1 + e.width)) bytes)) ≡ body quote zero bytes
  goes_escaped e is =
      let sum : (at + 1) + e.width ≡ at + (1 + e.width) = omega arith in
      let there : drop e.width (drop (at + 1) bytes) ≡ drop (at + (1 + e.width)) bytes = drop-drop e.width (at + 1) bytes ∙ ap (λ k. drop k bytes) sum in
      let skip : skipped e.width (body quote zero (drop (at + (1 + e.width)) bytes)) ≡ body quote e.width (drop (at + 1) bytes)
      = ap (λ r. skipped e.width (body quote zero r)) (sym there) ∙ sym (body-skip quote e.width (drop (at + 1) bytes)) in
      sym (read_on-after written (encode_utf8 e.character) bad at e.width _) ∙ ap (λ b. read_on written bad at (after (encode_utf8 e.character) b)) skip ∙ by_piece (Escaped e) is

-- at the end no quote has come
pub ends_text : (quote : ℕ) (bytes written : List ℕ) (bad : Option ℕ) (at : ℕ) → length bytes ≤ at → read_on written bad at (body quote zero (drop at bytes)) ≡ body quote zero bytes → Unclosed ≡ body quote zero bytes
unfolding body
ends_text quote bytes written bad at past before = ap (λ r. read_on written bad at (body quote zero r)) (sym (drop_all at bytes past)) ∙ before

-- an escape lies within the bytes
pub escape_within : (quote c : ℕ) (rest : List ℕ) (e : Escape) → Escaped e ≡ piece quote c rest → e.width ≤ length rest
escape_within quote c rest e h =
    let is = (piece_escaped quote c rest e h).1 in
    omega (arith, is.width, ap length is.parts, length-append is.front is.back)

-- the byte or the width that is named is within the bytes, with one more in front
within_after : (written : List ℕ) (b : Body) (n : ℕ) → IsWithin b n → IsWithin (after written b) (suc n)
within_after written Unclosed n h = tt
within_after written (Closed value width) n h = (omega arith, omega arith)
within_after written (Spoiled place) n h = omega arith

within_spoil : (b : Body) (n : ℕ) → IsWithin b n → IsWithin (spoil b) (suc n)
within_spoil Unclosed n h = tt
within_spoil (Closed value width) n h = omega arith
within_spoil (Spoiled place) n h = omega arith

within_follow : (p : Piece) (next : ℕ → Body) (n : ℕ) → ((skip : ℕ) → IsWithin (next skip) n) → IsWithin (follow p next) (suc n)
within_follow Quote next n h = (omega arith, omega arith)
within_follow LineEnd next n h = tt
within_follow Bad next n h = within_spoil (next zero) n (h zero)
within_follow (Plain c) next n h = within_after (c ∷ []) (next zero) n (h zero)
within_follow (Escaped e) next n h = within_after (encode_utf8 e.character) (next e.width) n (h e.width)

pub body_within : (quote skip : ℕ) (bytes : List ℕ) → IsWithin (body quote skip bytes) (length bytes)
unfolding body
body_within quote skip [] = tt
body_within quote (suc n) (c ∷ rest) = within_after [] _ _ (body_within quote n rest)
body_within quote zero (c ∷ rest) = within_follow (piece quote c rest) _ _ (λ n. body_within quote n rest)

-- ---- what is written is a text

abbrev IfClosed : Body → (List ℕ → Type 0) → Type 0
IfClosed (Closed value width) P = P value
IfClosed Unclosed P = Unit {0}
IfClosed (Spoiled place) P = Unit {0}

closed_after : (front written : List ℕ) (b : Body) → IfClosed b (λ v. IsUtf8 ((front ++ written) ++ v)) → IfClosed (after written b) (λ v. IsUtf8 (front ++ v))
closed_after front written (Closed value width) h = rw (← append_assoc) h
closed_after front written Unclosed h = tt
closed_after front written (Spoiled place) h = tt

closed_spoil : (b : Body) (P : List ℕ → Type 0) → IfClosed (spoil b) P
closed_spoil (Closed value width) P = tt
closed_spoil Unclosed P = tt
closed_spoil (Spoiled place) P = tt

small_scalar : (c : ℕ) → c < 256 → IsScalar c
small_scalar c h = grind (arith, nat_tests)

-- a text is cut at an ASCII byte
cut_front : (front rest : List ℕ) (c : ℕ) → c < 128 → IsUtf8 (front ++ c ∷ rest) → IsUtf8 front
cut_front front rest c ascii text =
    let here : get_or (front ++ c ∷ rest) (length front) 0 ≡ c = get_or-append_seam front c rest 0 in
    let longer : length (front ++ c ∷ rest) ≡ length front + suc (length rest) = length-append front (c ∷ rest) in
    subst IsUtf8 (take-append_seam front (c ∷ rest))
    (IsUtf8-take (front ++ c ∷ rest) (length front) text (IsCharBoundary-before_ascii (front ++ c ∷ rest) (length front) (omega arith) (omega arith)))

cut_rest : (front rest : List ℕ) (c : ℕ) → c < 128 → IsUtf8 (front ++ c ∷ rest) → IsUtf8 rest
cut_rest front rest c ascii text =
    let here : get_or (front ++ c ∷ rest) (length front) 0 ≡ c = get_or-append_seam front c rest 0 in
    let longer : length (front ++ c ∷ rest) ≡ length front + suc (length rest) = length-append front (c ∷ rest) in
    let after_it : drop (length front + 1) (front ++ c ∷ rest) ≡ rest = sym (drop-drop 1 (length front) (front ++ c ∷ rest)) ∙ ap (drop 1) (drop-append_seam front (c ∷ rest)) in
    subst IsUtf8 after_it
    (IsUtf8-drop (front ++ c ∷ rest) (length front + 1) text (IsCharBoundary-after_ascii (front ++ c ∷ rest) (length front) text (omega arith) (omega arith)))

-- the bytes before, and the next ones once an escape is passed over, are texts
abbrev IsReady : ℕ → List ℕ → List ℕ → Type 0
IsReady zero front bytes = IsUtf8 (front ++ bytes)
IsReady (suc n) front bytes = IsUtf8 front × IsUtf8 bytes × Ascii (take (suc n) bytes)

ready : (n : ℕ) (front bytes : List ℕ) → IsUtf8 front → IsUtf8 bytes → Ascii (take n bytes) → IsReady n front bytes
ready zero front bytes a b c = IsUtf8-append front bytes a b
ready (suc n) front bytes a b c = (a, b, c)

by_follow : (quote c : ℕ) (front rest : List ℕ) (p : Piece) → p ≡ piece quote c rest → quote < 128 → IsUtf8 (front ++ c ∷ rest)
    → ((n : ℕ) (front : List ℕ) → IsReady n front rest → IfClosed (body quote n rest) (λ v. IsUtf8 (front ++ v)))
    → IfClosed (follow p (λ n. body quote n rest)) (λ v. IsUtf8 (front ++ v))
by_follow quote c front rest Quote is ascii text inner = rw append-nil (cut_front front rest c (let q = piece_quote quote c rest is in omega arith) text)
by_follow quote c front rest LineEnd is ascii text inner = tt
by_follow quote c front rest Bad is ascii text inner = closed_spoil (body quote zero rest) _
by_follow quote c front rest (Plain d) is ascii text inner =
    closed_after front (d ∷ []) (body quote zero rest) (inner zero (front ++ d ∷ []) (subst IsUtf8 (sym (append_assoc front (d ∷ []) rest)) (subst (λ x. IsUtf8 (front ++ x ∷ rest)) (sym (piece_plain quote c d rest is).0) text)))
by_follow quote c front rest (Escaped e) is ascii text inner =
    let w = piece_escaped quote c rest e is in
    let low : c < 128 = omega (arith, w.0) in
    let scalar : IsUtf8 (encode_utf8 e.character) = IsUtf8-encode e.character (small_scalar e.character w.1.small) in
    let bytes : Ascii (take e.width rest) = subst Ascii (sym (ap (λ k. take k rest) w.1.width ∙ ap (take (length w.1.front)) w.1.parts ∙ take-append_seam w.1.front w.1.back)) w.1.ascii in
    closed_after front (encode_utf8 e.character) (body quote e.width rest)
    (inner e.width (front ++ encode_utf8 e.character) (ready e.width _ rest (IsUtf8-append front _ (cut_front front rest c low text) scalar) (cut_rest front rest c low text) bytes))

pub body_utf8 : (quote n : ℕ) (front bytes : List ℕ) → quote < 128 → IsReady n front bytes → IfClosed (body quote n bytes) (λ v. IsUtf8 (front ++ v))
unfolding body
body_utf8 quote n front [] ascii h = tt
body_utf8 quote (suc n) front (c ∷ rest) ascii h =
    closed_after front [] (body quote n rest)
    (body_utf8 quote n (front ++ []) rest ascii (ready n (front ++ []) rest (rw append-nil h.0) (cut_rest [] rest c h.2.0 h.1) h.2.1))
body_utf8 quote zero front (c ∷ rest) ascii h = by_follow quote c front rest (piece quote c rest) refl ascii h (λ n front r. body_utf8 quote n front rest ascii r)

pub written_utf8 : (quote : ℕ) (bytes value : List ℕ) (width : ℕ) → quote < 128 → IsUtf8 bytes → Closed value width ≡ body quote zero bytes → IsUtf8 value
written_utf8 quote bytes value width ascii text is = subst (λ b. IfClosed b IsUtf8) (sym is) (body_utf8 quote zero [] bytes ascii text)

-- what is after an ASCII byte at the end of a text
pub text_after : (c : ℕ) (rest : List ℕ) → c < 128 → EndsText (c ∷ rest) → IsUtf8 rest
text_after c rest ascii ends = cut_rest ends.0 rest c ascii ends.1

-- the piece that is read of what is left is the one of the bytes
pub same_piece : (p : Piece) (quote : ℕ) (bytes : List ℕ) (at : ℕ) → p ≡ piece quote (get_or bytes at 0) (take (length bytes - (at + 1)) (drop (at + 1) bytes))
    → p ≡ piece quote (get_or bytes at 0) (drop (at + 1) bytes)
same_piece p quote bytes at is = is ∙ ap (piece quote (get_or bytes at 0)) (take_rest bytes (at + 1))

-- what is after a quote at the end of a text
pub after_quote : (bytes : List ℕ) → 1 ≤ length bytes → is_quote (get_or bytes 0 0) ≡ true → EndsText bytes → IsUtf8 (take (length bytes - 1) (drop 1 bytes))
after_quote [] long quote ends = absurd (omega arith)
after_quote (c ∷ rest) long quote ends = subst IsUtf8 (sym (take_rest (c ∷ rest) 1)) (text_after c rest (grind (arith, nat_tests)) ends)
