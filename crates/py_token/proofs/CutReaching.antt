-- Reading up to the turn of a word, and up to the end of a line.
use Rattle.std.proofs.Common.{◌≡◌, ℕ, zero, suc, pred, ◌+◌, ◌≤◌, Bool, true, false, cond, eqb, List, [], ◌∷◌, ◌++◌, length, Result, Ok, refl, sym, ap, ◌∙◌, subst, arith, append_assoc}
use Rattle.py_token.specs.declared.kinds.Kind.TheVariants.{Newline, Dedent, End}
use Rattle.py_token.specs.declared.kinds.Token.{Token}
use Rattle.py_token.specs.declared.faults.TokenFault.{TokenFault}
use Rattle.py_token.specs.declared.lines.Depths.{Depths}
use Rattle.py_token.specs.declared.lines.Lexeme.{Lexeme}
use Rattle.py_token.specs.declared.lines.Line.{Line}
use Rattle.py_token.specs.declared.lines.Spot.TheVariants.{Inside}
use Rattle.py_token.specs.declared.lines.Turn.{Turn}
use Rattle.py_token.specs.Lexemes.{lexeme_at}
use Rattle.py_token.specs.Lines.{token, begun, at_spot, with_tab, without_tab, closing, last_newline, ended, turn, read}
use Rattle.py_token.proofs.Ends.{followed_ok}
use Rattle.py_token.proofs.Escapes.{eqb_is}
use Rattle.py_token.specs.Cuts.{kinds, is_word, level, begins_line}
use Rattle.py_token.proofs.CutBlocks.{opened, steps_of, level-append, begins-append, kinds-append}
use Rattle.py_token.proofs.CutTurning.{is_start, IsLine, after_word, IsFirstByte, Turns, blank, tabbed, comment, feed, return, word, turned, tells, fed, Feeds, passes, ends, within, lexeme_word}
use Rattle.py_token.proofs.CutReading.{split_layout, all_layout, ended_layout, same_list, Gives, layout, one_word, gives, Splits, is_this, is_later, splits, turn_fits}

-- where a word's turn begins, and what is known there
pub record IsReached (at : ℕ) (line : Line) (bytes : List ℕ) (before : List Token) (w : Token) (post : List Token) : Type 0 where
  pub front : List ℕ
  pub first : ℕ
  pub rest : List ℕ
  pub parts : bytes ≡ front ++ first ∷ rest
  pub place : ℕ
  pub is_place : place ≡ at + length front
  pub here : Line
  pub is : IsLine here
  pub given : List Token
  pub depths : Depths
  pub lexeme : Lexeme
  pub is_before : before ≡ given ++ depths.given
  pub is_token : token lexeme.kind place lexeme.width ≡ w
  pub byte : IsFirstByte first rest
  pub begins : begun place here.spot here.depths ≡ Ok depths
  pub reads : lexeme_at place (first ∷ rest) ≡ Ok lexeme
  pub goes_on : read (pred lexeme.width) (suc place) (after_word here depths lexeme) rest ≡ Ok post
  pub level : level (opened line.depths) (kinds given) ≡ opened here.depths
  pub line_begins : begins_line (is_start line.spot) (kinds given) ≡ is_start here.spot

further : (at n : ℕ) (line from : Line) (c : ℕ) (bytes : List ℕ) (given before left : List Token) (w : Token) (post : List Token) → before ≡ given ++ left
    → level (opened line.depths) (kinds given) ≡ opened from.depths → begins_line (is_start line.spot) (kinds given) ≡ is_start from.spot
    → IsReached (suc at) from bytes left w post → IsReached at line (c ∷ bytes) before w post
further at n line from c bytes given before left w post is deep begins k = record {
  front = c ∷ k.front;
  first = k.first;
  rest = k.rest;
  parts = ap (◌∷◌ c) k.parts;
  place = k.place;
  is_place = k.is_place ∙ omega arith;
  here = k.here;
  is = k.is;
  given = given ++ k.given;
  depths = k.depths;
  lexeme = k.lexeme;
  is_before = is ∙ ap (λ ts. given ++ ts) k.is_before ∙ sym (append_assoc given k.given k.depths.given);
  is_token = k.is_token;
  byte = k.byte;
  begins = k.begins;
  reads = k.reads;
  goes_on = k.goes_on;
  level = ap (level (opened line.depths)) (kinds-append given k.given) ∙ level-append (opened line.depths) (kinds given) (kinds k.given) ∙ ap (λ m. level m (kinds k.given)) deep ∙ k.level;
  line_begins = ap (begins_line (is_start line.spot)) (kinds-append given k.given) ∙ begins-append (is_start line.spot) (kinds given) (kinds k.given) ∙ ap (λ b. begins_line b (kinds k.given)) begins ∙ k.line_begins;
}

reach_word : (at : ℕ) (line : Line) (c : ℕ) (bytes : List ℕ) (d : Depths) (l : Lexeme) (more before post : List Token) (w : Token) → IsLine line → IsFirstByte c bytes → begun at line.spot line.depths ≡ Ok d
    → lexeme_at at (c ∷ bytes) ≡ Ok l → Splits d.given more before post (token l.kind at l.width) w → read (pred l.width) (suc at) (after_word line d l) bytes ≡ Ok more
    → ((left : List Token) → more ≡ left ++ w ∷ post → IsReached (suc at) (after_word line d l) bytes left w post) → IsReached at line (c ∷ bytes) before w post
reach_word at line c bytes d l more before post w i b e f (is_this a x q) h inner = record {
  front = [];
  first = c;
  rest = bytes;
  parts = refl;
  place = at;
  is_place = omega arith;
  here = line;
  is = i;
  given = [];
  depths = d;
  lexeme = l;
  is_before = a;
  is_token = x;
  byte = b;
  begins = e;
  reads = f;
  goes_on = h ∙ ap Ok q;
  level = refl;
  line_begins = refl;
}
reach_word at line c bytes d l more before post w i b e f (is_later left a q) h inner =
    let by : Turns at line c bytes (record { tokens = d.given ++ token l.kind at l.width ∷ []; width = l.width; line = after_word line d l }) = word d l b e f refl in
    let told = tells at line c bytes _ i by in
    further at 0 line (after_word line d l) c bytes (d.given ++ token l.kind at l.width ∷ []) before left w post a told.level told.begins (inner left q)

reach_turn : (at : ℕ) (line : Line) (c : ℕ) (bytes : List ℕ) (t : Turn) (more before post : List Token) (w : Token) → is_word w.kind ≡ true → IsLine line → Turns at line c bytes t → Gives at line c bytes t
    → t.tokens ++ more ≡ before ++ w ∷ post → read (pred t.width) (suc at) t.line bytes ≡ Ok more
    → ((left : List Token) → more ≡ left ++ w ∷ post → IsReached (suc at) t.line bytes left w post) → IsReached at line (c ∷ bytes) before w post
reach_turn at line c bytes t more before post w k i by (layout a) e h inner =
    let s = split_layout t.tokens more before post w a k e in
    let told = tells at line c bytes t i by in
    further at 0 line t.line c bytes t.tokens before s.0 w post s.1 told.level told.begins (inner s.0 s.2)
reach_turn at line c bytes t more before post w k i by (one_word d l b x f is) e h inner =
    subst (λ (u : Turn). u.tokens ++ more ≡ before ++ w ∷ post → read (pred u.width) (suc at) u.line bytes ≡ Ok more
    → ((left : List Token) → more ≡ left ++ w ∷ post → IsReached (suc at) u.line bytes left w post) → IsReached at line (c ∷ bytes) before w post) (sym is)
    (λ e h inner. reach_word at line c bytes d l more before post w i b x f (splits d.given more before post (token l.kind at l.width) w (steps_of at line.spot line.depths d i.stack x).layout k e) h inner)
    e h inner

pub reached : (skip at : ℕ) (line : Line) (bytes : List ℕ) (before : List Token) (w : Token) (post : List Token) → is_word w.kind ≡ true → IsLine line → skip ≤ length bytes
    → read skip at line bytes ≡ Ok (before ++ w ∷ post) → IsReached at line bytes before w post
unfolding read
reached skip at line [] before w post k i few h = absurd (all_layout (ended at line) before post w (ended_layout at line) k (same_list _ _ h))
reached (suc n) at line (c ∷ bytes) before w post k i few h =
    further at 0 line line c bytes [] before before w post refl refl refl (reached n (suc at) line bytes before w post k i (omega (arith, few)) h)
reached zero at line (c ∷ bytes) before w post k i few h =
    let f = followed_ok (turn at line (c ∷ bytes)) (λ n next. read n (suc at) next bytes) (before ++ w ∷ post) h in
    let t : Turn = f.0 in
    let by = turned at line c bytes t f.2 in
    let told = tells at line c bytes t i by in
    reach_turn at line c bytes t f.1 before post w k i by (gives at line c bytes t by) f.4 f.3
    (λ left e. reached (pred t.width) (suc at) t.line bytes left w post k told.is (turn_fits at line c bytes t f.2) (f.3 ∙ ap Ok e))

-- ---- where a line ends, no bracket is open

no_newline : (at : ℕ) (ds : List ℕ) (x : Token) (more : List Token) → closing at ds ++ token End at 0 ∷ [] ≡ x ∷ more → x.kind ≡ Newline → ⊥
no_newline at [] x more e k = let same : token End at 0 ≡ x = cc in let no : End ≡ Newline = ap (λ (t : Token). t.kind) same ∙ k in cc no
no_newline at (d ∷ ds) x more e k = on (eqb d 0) e (λ f. no_newline at ds x more f k)
  where
    on : (b : Bool) → cond b (closing at ds) (token Dedent at 0 ∷ closing at ds) ++ token End at 0 ∷ [] ≡ x ∷ more → (closing at ds ++ token End at 0 ∷ [] ≡ x ∷ more → ⊥) → ⊥
    on true f inner = inner f
    on false f inner = let same : token Dedent at 0 ≡ x = cc in let no : Dedent ≡ Newline = ap (λ (t : Token). t.kind) same ∙ k in cc no

ended_newline : (at : ℕ) (line : Line) (x : Token) (more : List Token) → line.spot ≡ Inside → ended at line ≡ x ∷ more → x.kind ≡ Newline → line.brackets ≡ 0
ended_newline at line x more s e k = on (eqb line.brackets 0) refl (sym (ap (λ spot. last_newline at spot line.brackets ++ (closing at line.depths ++ token End at 0 ∷ [])) s) ∙ e)
  where
    on : (b : Bool) → eqb line.brackets 0 ≡ b → cond b (token Newline at 0 ∷ []) [] ++ (closing at line.depths ++ token End at 0 ∷ []) ≡ x ∷ more → line.brackets ≡ 0
    on true f h = eqb_is line.brackets 0 f
    on false f h = absurd (no_newline at line.depths x more h k)

word_first : (at : ℕ) (line : Line) (c : ℕ) (bytes : List ℕ) (d : Depths) (l : Lexeme) (more rest : List Token) (x : Token) → line.spot ≡ Inside → begun at line.spot line.depths ≡ Ok d → lexeme_at at (c ∷ bytes) ≡ Ok l
    → (d.given ++ token l.kind at l.width ∷ []) ++ more ≡ x ∷ rest → x.kind ≡ Newline → ⊥
unfolding begun
word_first at line c bytes d l more rest x s e f h k =
    let inside : begun at Inside line.depths ≡ Ok d = sym (ap (λ spot. begun at spot line.depths) s) ∙ e in
    let none : d.given ≡ [] = given_none inside in
    let same : token l.kind at l.width ≡ x = head (sym (ap (λ ts. (ts ++ token l.kind at l.width ∷ []) ++ more) none) ∙ h) in
    let no : true ≡ false = sym (lexeme_word at c bytes l f) ∙ ap (λ (t : Token). is_word t.kind) same ∙ ap is_word k in
    cc no
  where
    same_depths : (a : Depths) → ◌≡◌ {A = Result Depths TokenFault} (Ok a) (Ok d) → a ≡ d
    same_depths a i = cc

    given_none : ◌≡◌ {A = Result Depths TokenFault} (begun at Inside line.depths) (Ok d) → d.given ≡ []
    given_none i = ap (λ (x : Depths). x.given) (sym (same_depths (record { given = []; depths = line.depths }) i))

    head : ◌≡◌ {A = List Token} (token l.kind at l.width ∷ more) (x ∷ rest) → token l.kind at l.width ≡ x
    head i = cc

pub free_line : (skip at : ℕ) (line : Line) (bytes : List ℕ) (x : Token) (more : List Token) → line.spot ≡ Inside → read skip at line bytes ≡ Ok (x ∷ more) → x.kind ≡ Newline → line.brackets ≡ 0
unfolding read
free_line skip at line [] x more s h k = ended_newline at line x more s (same_list _ _ h) k
free_line (suc n) at line (c ∷ bytes) x more s h k = free_line n (suc at) line bytes x more s h k
free_line zero at line (c ∷ bytes) x more s h k =
    let f = followed_ok (turn at line (c ∷ bytes)) (λ n next. read n (suc at) next bytes) (x ∷ more) h in
    on f.0 f.1 (turned at line c bytes f.0 f.2) f.4 f.3 (λ n next inside e. free_line n (suc at) next bytes x more inside e k)
  where
    quiet : (t : Turn) (ys : List Token) (n : ℕ) (next : Line) → t ≡ record { tokens = []; width = n; line = next } → next.spot ≡ Inside → next.brackets ≡ line.brackets → t.tokens ++ ys ≡ x ∷ more
        → read (pred t.width) (suc at) t.line bytes ≡ Ok ys → ((n : ℕ) (next : Line) → next.spot ≡ Inside → read n (suc at) next bytes ≡ Ok (x ∷ more) → next.brackets ≡ 0) → line.brackets ≡ 0
    quiet t ys n next is inside same e r inner =
        let reads : read (pred n) (suc at) next bytes ≡ Ok ys = subst (λ (u : Turn). read (pred u.width) (suc at) u.line bytes ≡ Ok ys) is r in
        let list : ys ≡ x ∷ more = subst (λ (u : Turn). u.tokens ++ ys ≡ x ∷ more) is e in
        sym same ∙ inner (pred n) next inside (reads ∙ ap Ok list)

    on_feed : (t : Turn) (ys : List Token) → Feeds at line t → t.tokens ++ ys ≡ x ∷ more → read (pred t.width) (suc at) t.line bytes ≡ Ok ys
        → ((n : ℕ) (next : Line) → next.spot ≡ Inside → read n (suc at) next bytes ≡ Ok (x ∷ more) → next.brackets ≡ 0) → line.brackets ≡ 0
    on_feed t ys (passes begins is) e r inner = let no : false ≡ true = sym (ap is_start s) ∙ begins in absurd (cc no)
    on_feed t ys (ends i b is) e r inner = b
    on_feed t ys (within i b is) e r inner = quiet t ys 1 line is s refl e r inner

    on : (t : Turn) (ys : List Token) → Turns at line c bytes t → t.tokens ++ ys ≡ x ∷ more → read (pred t.width) (suc at) t.line bytes ≡ Ok ys
        → ((n : ℕ) (next : Line) → next.spot ≡ Inside → read n (suc at) next bytes ≡ Ok (x ∷ more) → next.brackets ≡ 0) → line.brackets ≡ 0
    on t ys (blank q is) e r inner = quiet t ys 1 line is s refl e r inner
    on t ys (tabbed q is) e r inner = quiet t ys 1 (at_spot (with_tab at line.spot) line) is (ap (λ spot. with_tab at spot) s) refl e r inner
    on t ys (comment q is) e r inner = quiet t ys _ (at_spot (without_tab line.spot) line) is (ap (λ spot. without_tab spot) s) refl e r inner
    on t ys (feed q g) e r inner = on_feed t ys (fed at line t g) e r inner
    on t ys (return q g is) e r inner = quiet t ys 1 line is s refl e r inner
    on t ys (word d l b g f is) e r inner = absurd (word_first at line c bytes d l ys more x s g f (subst (λ (u : Turn). u.tokens ++ ys ≡ x ∷ more) is e) k)
