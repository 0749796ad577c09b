-- Reading up to a word, and the same reading of the bytes up to its end alone, at another place.
use Rattle.std.proofs.Common.{◌≡◌, ℕ, zero, suc, pred, ◌+◌, ◌<◌, ◌≤◌, Bool, true, false, cond, eqb, List, [], ◌∷◌, ◌++◌, length, take, drop, Result, Ok, refl, sym, ap, ◌∙◌, subst, arith, append_assoc, take-append-drop, length-take-le}
use Rattle.std.proofs.lemmas.List.{append-nil}
use Rattle.py_token.specs.declared.kinds.Kind.TheVariants.{Newline, Dedent, End}
use Rattle.py_token.specs.declared.kinds.Token.{Token}
use Rattle.py_token.specs.declared.faults.TokenFault.{TokenFault}
use Rattle.py_token.specs.declared.lines.Depths.{Depths}
use Rattle.py_token.specs.declared.lines.Lexeme.{Lexeme}
use Rattle.py_token.specs.declared.lines.Line.{Line}
use Rattle.py_token.specs.declared.lines.Spot.{Spot}
use Rattle.py_token.specs.declared.lines.Spot.TheVariants.{Start, Inside}
use Rattle.py_token.specs.declared.lines.Turn.{Turn}
use Rattle.py_token.specs.Lexemes.{lexeme_at}
use Rattle.py_token.specs.Lines.{token, brackets_after, begun, closing, last_newline, ended, before, followed, turn, read}
use Rattle.py_token.proofs.Bounds.{lexeme_bounds}
use Rattle.py_token.proofs.Ends.{followed_ok}
use Rattle.py_token.proofs.Reading.{turn_is as turn_bounds}
use Rattle.py_token.specs.Cuts.{kinds, is_word, level}
use Rattle.py_token.proofs.CutLexemes.{lexeme_cut}
use Rattle.py_token.proofs.CutBlocks.{opened, steps_of, same_begun, level-append, kinds-append}
use Rattle.py_token.proofs.CutTurning.{IsLayout, AreLayout, IsLine, AreSame, after_word, IsFirstByte, Turns, blank, tabbed, comment, feed, return, word, turned, turn_word, first_byte_cut, Tells, tells, fed, Feeds, passes, ends, within, level_word, lexeme_word, same_turn}

-- ---- a word among tokens

no_word : (x y : Token) → IsLayout x → is_word y.kind ≡ true → x ≡ y → ⊥
no_word x y h k e = let no : true ≡ false = sym k ∙ ap (λ (t : Token). is_word t.kind) (sym e) ∙ h in cc no

-- no token of layout is the word
pub split_layout : (given more mid post : List Token) (w : Token) → AreLayout given → is_word w.kind ≡ true → given ++ more ≡ mid ++ w ∷ post
    → (left : List Token) × (mid ≡ given ++ left) × (more ≡ left ++ w ∷ post)
split_layout [] more mid post w h k e = (mid, refl, e)
split_layout (g ∷ given) more [] post w h k e = let same : g ≡ w = cc in absurd (no_word g w h.0 k same)
split_layout (g ∷ given) more (m ∷ mid) post w h k e =
    let head : g ≡ m = cc in
    let tail : given ++ more ≡ mid ++ w ∷ post = cc in
    let s = split_layout given more mid post w h.1 k tail in
    (s.0, ap (λ x. x ∷ mid) (sym head) ∙ ap (◌∷◌ g) s.1, s.2)

pub all_layout : (ts mid post : List Token) (w : Token) → AreLayout ts → is_word w.kind ≡ true → ts ≡ mid ++ w ∷ post → ⊥
all_layout [] [] post w h k e = cc
all_layout [] (m ∷ mid) post w h k e = cc
all_layout (t ∷ ts) [] post w h k e = let same : t ≡ w = cc in no_word t w h.0 k same
all_layout (t ∷ ts) (m ∷ mid) post w h k e = let tail : ts ≡ mid ++ w ∷ post = cc in all_layout ts mid post w h.1 k tail

closing_layout : (at : ℕ) (ds : List ℕ) (more : List Token) → AreLayout more → AreLayout (closing at ds ++ more)
closing_layout at [] more h = h
closing_layout at (d ∷ ds) more h = on (eqb d 0) (closing_layout at ds more h)
  where
    on : (b : Bool) → AreLayout (closing at ds ++ more) → AreLayout (cond b (closing at ds) (token Dedent at 0 ∷ closing at ds) ++ more)
    on true k = k
    on false k = (refl, k)

newline_layout : (at : ℕ) (spot : Spot) (brackets : ℕ) (more : List Token) → AreLayout more → AreLayout (last_newline at spot brackets ++ more)
newline_layout at (Start from tab) brackets more h = h
newline_layout at Inside brackets more h = on (eqb brackets 0)
  where
    on : (b : Bool) → AreLayout (cond b (token Newline at 0 ∷ []) [] ++ more)
    on true = (refl, h)
    on false = h

pub ended_layout : (at : ℕ) (line : Line) → AreLayout (ended at line)
ended_layout at line = newline_layout at line.spot line.brackets _ (closing_layout at line.depths (token End at 0 ∷ []) (refl, tt))

pub same_list : (xs ys : List Token) → ◌≡◌ {A = Result (List Token) TokenFault} (Ok xs) (Ok ys) → xs ≡ ys
same_list xs ys h = cc

-- ---- one turn more

pub after_turn : (at n : ℕ) → 0 < n → suc at + pred n ≡ at + n
after_turn at zero h = absurd (omega arith)
after_turn at (suc n) h = omega arith

pub same_after : (at to n : ℕ) (line other : Line) → 0 < n → AreSame (at + n) (to + n) line other → AreSame (suc at + pred n) (suc to + pred n) line other
same_after at to n line other p h = subst (λ k. AreSame k (suc to + pred n) line other) (sym (after_turn at n p)) (subst (λ k. AreSame (at + n) k line other) (sym (after_turn to n p)) h)

pub next_read : (at : ℕ) (line : Line) (c : ℕ) (rest : List ℕ) (t : Turn) (ts : List Token) → turn at line (c ∷ rest) ≡ Ok t → read (pred t.width) (suc at) t.line rest ≡ Ok ts
    → read zero at line (c ∷ rest) ≡ Ok (t.tokens ++ ts)
unfolding read
next_read at line c rest t ts h k = ap (λ r. followed r (λ n next. read n (suc at) next rest)) h ∙ ap (before t.tokens) k

-- bytes that were read with their lexeme
pub skip_all : (n at : ℕ) (line : Line) (bytes : List ℕ) → length bytes ≡ n → read n at line bytes ≡ Ok (ended (at + n) line)
unfolding read
skip_all zero at line [] h = let same : at ≡ at + 0 = omega arith in ap (λ k. Ok (ended k line)) same
skip_all zero at line (c ∷ rest) h = absurd (omega (arith, h))
skip_all (suc n) at line [] h = absurd (omega (arith, h))
skip_all (suc n) at line (c ∷ rest) h =
    let sum : suc at + n ≡ at + suc n = omega arith in
    skip_all n (suc at) line rest (omega (arith, h)) ∙ ap (λ k. Ok (ended k line)) sum

pub skip_some : (n at : ℕ) (line : Line) (bytes : List ℕ) → n ≤ length bytes → read n at line bytes ≡ read zero (at + n) line (drop n bytes)
unfolding read
skip_some zero at line bytes h = let same : at ≡ at + 0 = omega arith in ap (λ k. read zero k line bytes) same
skip_some (suc n) at line [] h = absurd (omega (arith, h))
skip_some (suc n) at line (c ∷ rest) h =
    let sum : suc at + n ≡ at + suc n = omega arith in
    skip_some n (suc at) line rest (omega (arith, h)) ∙ ap (λ k. read zero k line (drop n rest)) sum

-- ---- the bytes up to the end of a word

pub record IsCut (skip at : ℕ) (line : Line) (bytes : List ℕ) (mid : List Token) (w : Token) (post : List Token) : Type 0 where
  pub cut : List ℕ
  pub rest : List ℕ
  pub last : Line
  pub parts : bytes ≡ cut ++ rest
  pub inside : skip < length cut
  pub place : w.end ≡ at + length cut
  pub spot : last.spot ≡ Inside
  pub goes_on : read zero (at + length cut) last rest ≡ Ok post
  pub is : IsLine last
  pub level : level (opened line.depths) (kinds (mid ++ w ∷ [])) ≡ opened last.depths
  pub again : (to : ℕ) (other : Line) → AreSame (at + skip) (to + skip) line other
      → (front : List Token) × (v : Token) × (read skip to other cut ≡ Ok (front ++ v ∷ ended (to + length cut) last)) × (kinds front ≡ kinds mid) × (v.kind ≡ w.kind) × (v.end ≡ to + length cut)

-- after a turn whose tokens aren't the word
onward : (at : ℕ) (line : Line) (c : ℕ) (bytes : List ℕ) (t : Turn) (mid left : List Token) (w : Token) (post : List Token) → Turns at line c bytes t → Tells line t → mid ≡ t.tokens ++ left
    → IsCut (pred t.width) (suc at) t.line bytes left w post → IsCut zero at line (c ∷ bytes) mid w post
onward at line c bytes t mid left w post by told is k =
    let long : suc at + length k.cut ≡ at + suc (length k.cut) = omega arith in
    let here : at + 0 ≡ at = omega arith in
    record {
      cut = c ∷ k.cut;
      rest = k.rest;
      last = k.last;
      parts = ap (◌∷◌ c) k.parts;
      inside = omega arith;
      place = k.place ∙ long;
      spot = k.spot;
      goes_on = subst (λ n. read zero n k.last k.rest ≡ Ok post) long k.goes_on;
      is = k.is;
      level = ap (λ ts. level (opened line.depths) (kinds (ts ++ w ∷ []))) is ∙ ap (λ ts. level (opened line.depths) (kinds ts)) (append_assoc t.tokens left (w ∷ []))
          ∙ ap (level (opened line.depths)) (kinds-append t.tokens (left ++ w ∷ [])) ∙ level-append (opened line.depths) (kinds t.tokens) (kinds (left ++ w ∷ []))
          ∙ ap (λ n. level n (kinds (left ++ w ∷ []))) told.level ∙ k.level;
      again = λ to other same.
          let to_here : to + 0 ≡ to = omega arith in
          let near : AreSame at to line other = subst (λ n. AreSame at n line other) to_here (subst (λ n. AreSame n (to + 0) line other) here same) in
          let u = same_turn at to line other c k.cut k.rest t near k.inside (subst (λ b. Turns at line c b t) k.parts by) in
          let lines : AreSame (at + t.width) (to + t.width) t.line u.turn.line = u.lines in
          let v = k.again (suc to) u.turn.line (same_after at to t.width t.line u.turn.line told.positive lines) in
          let there : suc to + length k.cut ≡ to + suc (length k.cut) = omega arith in
          let reads : read (pred u.turn.width) (suc to) u.turn.line k.cut ≡ Ok (v.0 ++ v.1 ∷ ended (suc to + length k.cut) k.last)
          = ap (λ n. read (pred n) (suc to) u.turn.line k.cut) u.width ∙ v.2 in (
            u.turn.tokens ++ v.0,
            v.1,
            next_read to other c k.cut u.turn _ u.is reads ∙ ap Ok (sym (append_assoc u.turn.tokens v.0 _))
                ∙ ap (λ n. Ok ((u.turn.tokens ++ v.0) ++ v.1 ∷ ended n k.last)) there,
            kinds-append u.turn.tokens v.0 ∙ ap (λ ks. ks ++ kinds v.0) u.kinds ∙ ap (λ ks. kinds t.tokens ++ ks) v.3 ∙ sym (kinds-append t.tokens left) ∙ ap kinds (sym is),
            v.4,
            v.5 ∙ there,
          );
    }

level_one : (n : ℕ) (mid : List Token) (w : Token) → is_word w.kind ≡ true → level n (kinds (mid ++ w ∷ [])) ≡ level n (kinds mid)
level_one n mid w h = ap (level n) (kinds-append mid (w ∷ [])) ∙ level-append n (kinds mid) (w.kind ∷ []) ∙ level_word (level n (kinds mid)) w.kind h

ended_same : (at : ℕ) (a b : Line) → a.spot ≡ b.spot → a.depths ≡ b.depths → a.brackets ≡ b.brackets → ended at a ≡ ended at b
ended_same at a b e f g =
    ap (λ (s : Spot). last_newline at s a.brackets ++ (closing at a.depths ++ token End at 0 ∷ [])) e
    ∙ ap (λ (ds : List ℕ). last_newline at b.spot a.brackets ++ (closing at ds ++ token End at 0 ∷ [])) f
    ∙ ap (λ n. last_newline at b.spot n ++ (closing at b.depths ++ token End at 0 ∷ [])) g

-- if the word is the one of the turn
at_word : (at : ℕ) (line : Line) (c : ℕ) (bytes : List ℕ) (d : Depths) (l : Lexeme) (mid post : List Token) (w : Token) → IsLine line → IsFirstByte c bytes → begun at line.spot line.depths ≡ Ok d
    → lexeme_at at (c ∷ bytes) ≡ Ok l → mid ≡ d.given → token l.kind at l.width ≡ w → read (pred l.width) (suc at) (after_word line d l) bytes ≡ Ok post → IsCut zero at line (c ∷ bytes) mid w post
at_word at line c bytes d l mid post w i b e f is_mid is_w h =
    let bounds = lexeme_bounds at (c ∷ bytes) l f in
    let n : ℕ = pred l.width in
    let wide : l.width ≡ suc n = omega (arith, bounds.positive) in
    let few : n ≤ length bytes = omega (arith, bounds.within, wide) in
    let long : length (take n bytes) ≡ n = length-take-le n bytes few in
    let split : bytes ≡ take n bytes ++ drop n bytes = sym (take-append-drop n bytes) in
    let here : at + 0 ≡ at = omega arith in
    let s = steps_of at line.spot line.depths d i.stack e in
    record {
      cut = c ∷ take n bytes;
      rest = drop n bytes;
      last = after_word line d l;
      parts = ap (◌∷◌ c) split;
      inside = omega arith;
      place = ap (λ (t : Token). t.end) (sym is_w) ∙ (omega (arith, wide, long));
      spot = refl;
      goes_on =
          let sum : suc at + n ≡ at + suc (length (take n bytes)) = omega (arith, long) in
          subst (λ k. read zero k (after_word line d l) (drop n bytes) ≡ Ok post) sum (sym (skip_some n (suc at) (after_word line d l) bytes few) ∙ h);
      is = record { stack = s.stack; free = λ k. cc k };
      level = level_one (opened line.depths) mid w (ap (λ (t : Token). is_word t.kind) (sym is_w) ∙ lexeme_word at c bytes l f) ∙ ap (λ ts. level (opened line.depths) (kinds ts)) is_mid ∙ s.level;
      again = λ to other same.
          let to_here : to + 0 ≡ to = omega arith in
          let near : AreSame at to line other = subst (λ n. AreSame at n line other) to_here (subst (λ n. AreSame n (to + 0) line other) here same) in
          let g = same_begun at to line.spot other.spot line.depths d near.spot e in
          let first = first_byte_cut c (take n bytes) (drop n bytes) (subst (IsFirstByte c) split b) in
          let lexeme : lexeme_at to (c ∷ take n bytes) ≡ Ok l = lexeme_cut at to c (take n bytes) (drop n bytes) l (subst (λ x. lexeme_at at (c ∷ x) ≡ Ok l) split f) (omega (arith, wide, long)) in
          let turns = turn_word to other c (take n bytes) g.0 l first (ap (begun to other.spot) near.depths ∙ g.1) lexeme in
          let there : suc to + n ≡ to + suc (length (take n bytes)) = omega (arith, long) in
          let final : ended (suc to + n) (after_word other g.0 l) ≡ ended (to + suc (length (take n bytes))) (after_word line d l)
          = ap (λ k. ended k (after_word other g.0 l)) there ∙ ended_same (to + suc (length (take n bytes))) (after_word other g.0 l) (after_word line d l) refl g.3 (ap (λ k. brackets_after l.kind k) near.brackets) in
          let reads = skip_all n (suc to) (after_word other g.0 l) (take n bytes) long in (
            g.0.given,
            token l.kind to l.width,
            next_read to other c (take n bytes) _ _ turns reads ∙ ap Ok (append_assoc g.0.given (token l.kind to l.width ∷ []) _) ∙ ap (λ ts. Ok (g.0.given ++ token l.kind to l.width ∷ ts)) final,
            g.2 ∙ ap kinds (sym is_mid),
            ap (λ (t : Token). t.kind) is_w,
            omega (arith, wide, long),
          );
    }

-- ---- the turns up to the word

-- a turn gives layout alone, or a word after it
pub data Gives (at : ℕ) (line : Line) (c : ℕ) (bytes : List ℕ) (t : Turn) : Type 0 where
  layout : AreLayout t.tokens → Gives at line c bytes t
  one_word : (d : Depths) (l : Lexeme) → IsFirstByte c bytes → begun at line.spot line.depths ≡ Ok d → lexeme_at at (c ∷ bytes) ≡ Ok l
      → t ≡ record { tokens = d.given ++ token l.kind at l.width ∷ []; width = l.width; line = after_word line d l } → Gives at line c bytes t

empty_layout : (t u : Turn) → t ≡ u → AreLayout u.tokens → AreLayout t.tokens
empty_layout t u e h = subst (λ (x : Turn). AreLayout x.tokens) (sym e) h

feed_layout : (at : ℕ) (line : Line) (t : Turn) → Feeds at line t → AreLayout t.tokens
feed_layout at line t (passes s e) = empty_layout t _ e tt
feed_layout at line t (ends s b e) = empty_layout t _ e (refl, tt)
feed_layout at line t (within s b e) = empty_layout t _ e tt

pub gives : (at : ℕ) (line : Line) (c : ℕ) (bytes : List ℕ) (t : Turn) → Turns at line c bytes t → Gives at line c bytes t
gives at line c bytes t (blank e is) = layout (empty_layout t _ is tt)
gives at line c bytes t (tabbed e is) = layout (empty_layout t _ is tt)
gives at line c bytes t (comment e is) = layout (empty_layout t _ is tt)
gives at line c bytes t (feed e h) = layout (feed_layout at line t (fed at line t h))
gives at line c bytes t (return e f is) = layout (empty_layout t _ is tt)
gives at line c bytes t (word d l b e f is) = one_word d l b e f is

-- the word of a turn and what follows it, among tokens
pub data Splits (given more mid post : List Token) (x w : Token) : Type 0 where
  is_this : mid ≡ given → x ≡ w → more ≡ post → Splits given more mid post x w
  is_later : (left : List Token) → mid ≡ (given ++ x ∷ []) ++ left → more ≡ left ++ w ∷ post → Splits given more mid post x w

pub splits : (given more mid post : List Token) (x w : Token) → AreLayout given → is_word w.kind ≡ true → (given ++ x ∷ []) ++ more ≡ mid ++ w ∷ post → Splits given more mid post x w
splits given more mid post x w h k e =
    let s = split_layout given (x ∷ more) mid post w h k (sym (append_assoc given (x ∷ []) more) ∙ e) in
    on s.0 s.1 s.2
  where
    on : (left : List Token) → mid ≡ given ++ left → ◌≡◌ {A = List Token} (x ∷ more) (left ++ w ∷ post) → Splits given more mid post x w
    on [] f g = let head : x ≡ w = cc in let tail : more ≡ post = cc in is_this (f ∙ append-nil given) head tail
    on (y ∷ left) f g =
        let head : x ≡ y = cc in
        let tail : more ≡ left ++ w ∷ post = cc in
        is_later left (f ∙ ap (λ z. given ++ z ∷ left) (sym head) ∙ sym (append_assoc given (x ∷ []) left)) tail

few_bytes : (w n : ℕ) → w ≤ suc n → pred w ≤ n
few_bytes zero n h = omega arith
few_bytes (suc w) n h = omega (arith, h)

pub turn_fits : (at : ℕ) (line : Line) (c : ℕ) (bytes : List ℕ) (t : Turn) → turn at line (c ∷ bytes) ≡ Ok t → pred t.width ≤ length bytes
turn_fits at line c bytes t h = few_bytes t.width (length bytes) (turn_bounds at line (c ∷ bytes) t (omega arith) h).within

cut_word : (at : ℕ) (line : Line) (c : ℕ) (bytes : List ℕ) (d : Depths) (l : Lexeme) (more mid post : List Token) (w : Token) → IsLine line → IsFirstByte c bytes → begun at line.spot line.depths ≡ Ok d
    → lexeme_at at (c ∷ bytes) ≡ Ok l → Splits d.given more mid post (token l.kind at l.width) w → read (pred l.width) (suc at) (after_word line d l) bytes ≡ Ok more
    → ((left : List Token) → more ≡ left ++ w ∷ post → IsCut (pred l.width) (suc at) (after_word line d l) bytes left w post) → IsCut zero at line (c ∷ bytes) mid w post
cut_word at line c bytes d l more mid post w i b e f (is_this a x q) h inner = at_word at line c bytes d l mid post w i b e f a x (h ∙ ap Ok q)
cut_word at line c bytes d l more mid post w i b e f (is_later left a q) h inner =
    let by : Turns at line c bytes (record { tokens = d.given ++ token l.kind at l.width ∷ []; width = l.width; line = after_word line d l }) = word d l b e f refl in
    onward at line c bytes (record { tokens = d.given ++ token l.kind at l.width ∷ []; width = l.width; line = after_word line d l }) mid left w post by (tells at line c bytes _ i by) a (inner left q)

cut_turn : (at : ℕ) (line : Line) (c : ℕ) (bytes : List ℕ) (t : Turn) (more mid post : List Token) (w : Token) → is_word w.kind ≡ true → IsLine line → Turns at line c bytes t → Gives at line c bytes t
    → t.tokens ++ more ≡ mid ++ w ∷ post → read (pred t.width) (suc at) t.line bytes ≡ Ok more
    → ((left : List Token) → more ≡ left ++ w ∷ post → IsCut (pred t.width) (suc at) t.line bytes left w post) → IsCut zero at line (c ∷ bytes) mid w post
cut_turn at line c bytes t more mid post w k i by (layout a) e h inner =
    let s = split_layout t.tokens more mid post w a k e in
    onward at line c bytes t mid s.0 w post by (tells at line c bytes t i by) s.1 (inner s.0 s.2)
cut_turn at line c bytes t more mid post w k i by (one_word d l b x f is) e h inner =
    subst (λ (u : Turn). u.tokens ++ more ≡ mid ++ w ∷ post → read (pred u.width) (suc at) u.line bytes ≡ Ok more
    → ((left : List Token) → more ≡ left ++ w ∷ post → IsCut (pred u.width) (suc at) u.line bytes left w post) → IsCut zero at line (c ∷ bytes) mid w post) (sym is)
    (λ e h inner. cut_word at line c bytes d l more mid post w i b x f (splits d.given more mid post (token l.kind at l.width) w (steps_of at line.spot line.depths d i.stack x).layout k e) h inner)
    e h inner

skip_cut : (n at : ℕ) (line : Line) (c : ℕ) (bytes : List ℕ) (mid : List Token) (w : Token) (post : List Token) → IsCut n (suc at) line bytes mid w post → IsCut (suc n) at line (c ∷ bytes) mid w post
unfolding read
skip_cut n at line c bytes mid w post k =
    let long : suc at + length k.cut ≡ at + suc (length k.cut) = omega arith in
    record {
      cut = c ∷ k.cut;
      rest = k.rest;
      last = k.last;
      parts = ap (◌∷◌ c) k.parts;
      inside = omega (arith, k.inside);
      place = k.place ∙ long;
      spot = k.spot;
      goes_on = subst (λ m. read zero m k.last k.rest ≡ Ok post) long k.goes_on;
      is = k.is;
      level = k.level;
      again = λ to other same.
          let here : at + suc n ≡ suc at + n = omega arith in
          let there : to + suc n ≡ suc to + n = omega arith in
          let v = k.again (suc to) other (subst (λ m. AreSame (suc at + n) m line other) there (subst (λ m. AreSame m (to + suc n) line other) here same)) in
          let far : suc to + length k.cut ≡ to + suc (length k.cut) = omega arith in
          (v.0, v.1, v.2 ∙ ap (λ m. Ok (v.0 ++ v.1 ∷ ended m k.last)) far, v.3, v.4, v.5 ∙ far);
    }

pub cut_read : (skip at : ℕ) (line : Line) (bytes : List ℕ) (mid : List Token) (w : Token) (post : List Token) → is_word w.kind ≡ true → IsLine line → skip ≤ length bytes
    → read skip at line bytes ≡ Ok (mid ++ w ∷ post) → IsCut skip at line bytes mid w post
unfolding read
cut_read skip at line [] mid w post k i few h = absurd (all_layout (ended at line) mid post w (ended_layout at line) k (same_list _ _ h))
cut_read (suc n) at line (c ∷ bytes) mid w post k i few h = skip_cut n at line c bytes mid w post (cut_read n (suc at) line bytes mid w post k i (omega (arith, few)) h)
cut_read zero at line (c ∷ bytes) mid w post k i few h =
    let f = followed_ok (turn at line (c ∷ bytes)) (λ n next. read n (suc at) next bytes) (mid ++ w ∷ post) h in
    let t : Turn = f.0 in
    let by = turned at line c bytes t f.2 in
    let told = tells at line c bytes t i by in
    cut_turn at line c bytes t f.1 mid post w k i by (gives at line c bytes t by) f.4 f.3
    (λ left e. cut_read (pred t.width) (suc at) t.line bytes left w post k told.is (turn_fits at line c bytes t f.2) (f.3 ∙ ap Ok e))
