-- A lexeme is read the same of bytes that end after it, at any place.
use Rattle.std.proofs.Common.{◌≡◌, ℕ, zero, suc, ◌+◌, ◌<◌, ◌≤◌, ◌^◌, pos, min, Bool, true, false, cond, eqb, ltb, leb, ◌&&◌, ◌||◌, List, [], ◌∷◌, ◌++◌, length, take, drop, Option, Some, None, Result, Ok, Err, refl, sym, ap, ◌∙◌, subst, arith, length-take}
use Rattle.std.specs.Prelude.{nat_eq, find, encode_utf8}
use Rattle.std.specs.List.{prefix_len, starts_with}
use Rattle.std.specs.Char.{is_ascii_digit}
use Rattle.std.specs.Cmp.Lexicographic.{pointwise}
use Rattle.py_names.specs.Names.{begins_name, continues_name}
use Rattle.py_token.specs.declared.faults.TokenFault.{TokenFault}
use Rattle.py_token.specs.declared.faults.TokenFault.TheVariants.{BadChar}
use Rattle.py_token.specs.declared.kinds.Kind.TheVariants.{Number, Text}
use Rattle.py_token.specs.declared.kinds.Symbol as operator
use Rattle.py_token.specs.declared.lines.Lexeme.{Lexeme}
use Rattle.py_token.specs.declared.pieces.Body.{Body}
use Rattle.py_token.specs.declared.pieces.Body.TheVariants.{Closed, Unclosed, Spoiled}
use Rattle.py_token.specs.declared.pieces.Escape.{Escape}
use Rattle.py_token.specs.declared.pieces.Piece.{Piece}
use Rattle.py_token.specs.declared.pieces.Piece.TheVariants.{Quote, LineEnd, Bad, Plain, Escaped}
use Rattle.py_token.specs.Spellings.{sign, operators, decimal, is_quote, hexadecimal, escape}
use Rattle.py_token.specs.Lexemes.{next_is, keyword_of, named, name_at, belongs, digits_after, follows_no_number, number_width, number_at, ends_line, escaped, piece, after, spoil, follow, body, text_lexeme, text_at, operator_lexeme, operator_at, lexeme_at}
use Rattle.py_token.specs.Bodies.{IsWithin}
use Rattle.py_token.proofs.Bounds.{same_bytes}
use Rattle.py_token.proofs.Escapes.{escape_is}
use Rattle.py_token.proofs.Quoted.{body_within}

-- ---- fronts of lists

pub take_cut : {A : Type 0} (n : ℕ) (xs ys : List A) → n ≤ length xs → take n (xs ++ ys) ≡ take n xs
take_cut zero xs ys h = refl
take_cut (suc n) [] ys h = absurd (omega arith)
take_cut (suc n) (x ∷ xs) ys h = ap (◌∷◌ x) (take_cut n xs ys (omega arith))

pub prefix_cut : (p : ℕ → Bool) (xs ys : List ℕ) → prefix_len p (xs ++ ys) ≤ length xs → prefix_len p xs ≡ prefix_len p (xs ++ ys)
prefix_cut p [] ys h = omega arith
prefix_cut p (x ∷ xs) ys h = on (p x) h (prefix_cut p xs ys)
  where
    on : (b : Bool) → cond b (1 + prefix_len p (xs ++ ys)) 0 ≤ suc (length xs) → (prefix_len p (xs ++ ys) ≤ length xs → prefix_len p xs ≡ prefix_len p (xs ++ ys))
        → cond b (1 + prefix_len p xs) 0 ≡ cond b (1 + prefix_len p (xs ++ ys)) 0
    on true k f = ap (λ n. 1 + n) (f (omega (arith, k)))
    on false k f = refl

pub next_cut : (bad : ℕ → Bool) (n : ℕ) (xs ys : List ℕ) → next_is bad (drop n (xs ++ ys)) ≡ false → next_is bad (drop n xs) ≡ false
next_cut bad zero [] ys h = refl
next_cut bad zero (x ∷ xs) ys h = h
next_cut bad (suc n) [] ys h = refl
next_cut bad (suc n) (x ∷ xs) ys h = next_cut bad n xs ys h

-- ---- what is tested twice

ok_same : (d e : Lexeme) → ◌≡◌ {A = Result Lexeme TokenFault} (Ok d) (Ok e) → d ≡ e
ok_same d e h = cc

passed_both : (b d : Bool) (f g : TokenFault) (m l : Lexeme) → cond b (Err f) (cond d (Err g) (Ok m)) ≡ Ok l → (b ≡ false) × (d ≡ false) × (m ≡ l)
passed_both true d f g m l h = cc
passed_both false true f g m l h = cc
passed_both false false f g m l h = (refl, refl, ok_same m l h)

pass_both : (b d : Bool) (f g : TokenFault) (m l : Lexeme) → b ≡ false → d ≡ false → m ≡ l → cond b (Err f) (cond d (Err g) (Ok m)) ≡ Ok l
pass_both true d f g m l h k e = cc
pass_both false true f g m l h k e = cc
pass_both false false f g m l h k e = ap Ok e

-- ---- names

abbrev name_of_width : ℕ → List ℕ → Lexeme
name_of_width n bytes = record { kind = named (keyword_of (take n bytes)) (take n bytes); width = n }

name_cut : (at to : ℕ) (xs ys : List ℕ) (l : Lexeme) → name_at at (xs ++ ys) ≡ Ok l → l.width ≤ length xs → name_at to xs ≡ Ok l
unfolding name_at
name_cut at to xs ys l h fits =
    let n : ℕ = prefix_len continues_name (xs ++ ys) in
    let w = passed_both (ltb 255 n) (next_is is_quote (drop n (xs ++ ys))) _ _ (name_of_width n (xs ++ ys)) l h in
    let width : n ≡ l.width = ap (λ (k : Lexeme). k.width) w.2 in
    let small : n ≤ length xs = omega (arith, width, fits) in
    let same : prefix_len continues_name xs ≡ n = prefix_cut continues_name xs ys small in
    let front : name_of_width (prefix_len continues_name xs) xs ≡ l
    = ap (λ k. name_of_width k xs) same ∙ ap (λ (name : List ℕ). record { kind = named (keyword_of name) name; width = n }) (sym (take_cut n xs ys small)) ∙ w.2 in
    pass_both (ltb 255 (prefix_len continues_name xs)) (next_is is_quote (drop (prefix_len continues_name xs) xs)) _ _ (name_of_width (prefix_len continues_name xs) xs) l
    (ap (λ k. ltb 255 k) same ∙ w.0) (ap (λ k. next_is is_quote (drop k xs)) same ∙ next_cut is_quote n xs ys w.1) front

-- ---- numbers

digits_one : (b d : Bool) (more rest : ℕ) → cond b (suc more) (cond d (suc (suc rest)) 0) ≤ 1 → cond b 1 0 ≡ cond b (suc more) (cond d (suc (suc rest)) 0)
digits_one true d more rest h = omega (arith, h)
digits_one false true more rest h = let no : ⊥ = omega (arith, h) in absurd no
digits_one false false more rest h = refl

digits_two : (b d : Bool) (more less rest few : ℕ) (n : ℕ) → cond b (suc more) (cond d (suc (suc rest)) 0) ≤ suc (suc n) → (more ≤ suc n → less ≡ more) → (rest ≤ n → few ≡ rest)
    → cond b (suc less) (cond d (suc (suc few)) 0) ≡ cond b (suc more) (cond d (suc (suc rest)) 0)
digits_two true d more less rest few n h k l = ap suc (k (omega (arith, h)))
digits_two false true more less rest few n h k l = ap (λ m. suc (suc m)) (l (omega (arith, h)))
digits_two false false more less rest few n h k l = refl

digits_cut : (first : ℕ) (xs ys : List ℕ) → digits_after first (xs ++ ys) ≤ length xs → digits_after first xs ≡ digits_after first (xs ++ ys)
digits_cut first [] ys h = omega arith
digits_cut first (c ∷ []) [] h = refl
digits_cut first (c ∷ []) (d ∷ ys) h = digits_one (belongs first c) (eqb c 95 && belongs first d) (digits_after first (d ∷ ys)) (digits_after first ys) h
digits_cut first (c ∷ d ∷ xs) ys h =
    digits_two (belongs first c) (eqb c 95 && belongs first d) (digits_after first (d ∷ (xs ++ ys))) (digits_after first (d ∷ xs)) (digits_after first (xs ++ ys)) (digits_after first xs) (length xs) h
    (digits_cut first (d ∷ xs) ys) (digits_cut first xs ys)

abbrev number_of_width : ℕ → List ℕ → Lexeme
number_of_width n bytes = record { kind = Number (pos (decimal (take n bytes))); width = n }

number_cut : (at to c : ℕ) (xs ys : List ℕ) (l : Lexeme) → number_at at (c ∷ (xs ++ ys)) ≡ Ok l → l.width ≤ suc (length xs) → number_at to (c ∷ xs) ≡ Ok l
unfolding number_at
number_cut at to c xs ys l h fits =
    let n : ℕ = number_width (c ∷ (xs ++ ys)) in
    let w = passed_both (leb (2 ^ 127) (decimal (take n (c ∷ (xs ++ ys))))) (next_is follows_no_number (drop n (c ∷ (xs ++ ys)))) _ _ (number_of_width n (c ∷ (xs ++ ys))) l h in
    let width : n ≡ l.width = ap (λ (k : Lexeme). k.width) w.2 in
    let small : n ≤ suc (length xs) = omega (arith, width, fits) in
    let same : number_width (c ∷ xs) ≡ n = ap suc (digits_cut c xs ys (omega (arith, small))) in
    let bytes : take n (c ∷ (xs ++ ys)) ≡ take n (c ∷ xs) = take_cut n (c ∷ xs) ys small in
    pass_both (leb (2 ^ 127) (decimal (take (number_width (c ∷ xs)) (c ∷ xs)))) (next_is follows_no_number (drop (number_width (c ∷ xs)) (c ∷ xs))) _ _ (number_of_width (number_width (c ∷ xs)) (c ∷ xs)) l
    (ap (λ k. leb (2 ^ 127) (decimal (take k (c ∷ xs)))) same ∙ ap (λ (b : List ℕ). leb (2 ^ 127) (decimal b)) (sym bytes) ∙ w.0)
    (ap (λ k. next_is follows_no_number (drop k (c ∷ xs))) same ∙ next_cut follows_no_number n (c ∷ xs) ys w.1)
    (ap (λ k. number_of_width k (c ∷ xs)) same ∙ ap (λ (b : List ℕ). record { kind = Number (pos (decimal b)); width = n }) (sym bytes) ∙ w.2)

-- ---- texts

hexadecimal_more : (front more : List ℕ) (e : Escape) → hexadecimal front ≡ Some e → hexadecimal (front ++ more) ≡ Some e
hexadecimal_more [] more e h = cc
hexadecimal_more (a ∷ []) more e h = cc
hexadecimal_more (a ∷ b ∷ front) more e h = h

escape_by : (q n r t x : Bool) (o1 o2 o3 o4 h k : Option Escape) (e : Escape) → (h ≡ Some e → k ≡ Some e)
    → cond q o1 (cond n o2 (cond r o3 (cond t o4 (cond x h None)))) ≡ Some e → cond q o1 (cond n o2 (cond r o3 (cond t o4 (cond x k None)))) ≡ Some e
escape_by true n r t x o1 o2 o3 o4 h k e f i = i
escape_by false true r t x o1 o2 o3 o4 h k e f i = i
escape_by false false true t x o1 o2 o3 o4 h k e f i = i
escape_by false false false true x o1 o2 o3 o4 h k e f i = i
escape_by false false false false true o1 o2 o3 o4 h k e f i = f i
escape_by false false false false false o1 o2 o3 o4 h k e f i = i

escape_more : (front more : List ℕ) (e : Escape) → escape front ≡ Some e → escape (front ++ more) ≡ Some e
escape_more [] more e h = cc
escape_more (c ∷ front) more e h = escape_by (eqb c 92 || is_quote c) (eqb c 110) (eqb c 114) (eqb c 116) (eqb c 120) _ _ _ _ (hexadecimal front) (hexadecimal (front ++ more)) e (hexadecimal_more front more e) h

-- a list that begins with a shorter one goes on after it
beyond : (xs ys front back : List ℕ) → xs ++ ys ≡ front ++ back → length front ≤ length xs → (more : List ℕ) × (xs ≡ front ++ more)
beyond xs ys [] back e h = (xs, refl)
beyond [] ys (f ∷ front) back e h = absurd (omega arith)
beyond (x ∷ xs) ys (f ∷ front) back e h =
    let head : x ≡ f = cc in
    let tail : xs ++ ys ≡ front ++ back = cc in
    let w = beyond xs ys front back tail (omega arith) in
    (w.0, ap (λ y. y ∷ xs) head ∙ ap (◌∷◌ f) w.1)

escape_cut : (xs ys : List ℕ) (e : Escape) → escape (xs ++ ys) ≡ Some e → e.width ≤ length xs → escape xs ≡ Some e
escape_cut xs ys e h fits =
    let i = escape_is (xs ++ ys) e h in
    let w = beyond xs ys i.front i.back i.parts (omega (arith, i.width, fits)) in
    subst (λ bytes. escape bytes ≡ Some e) (sym w.1) (escape_more i.front w.0 e i.spelled)

after_closed : (written : List ℕ) (b : Body) (v : List ℕ) (w : ℕ) → after written b ≡ Closed v w → (u : List ℕ) × (n : ℕ) × (b ≡ Closed u n) × (written ++ u ≡ v) × (suc n ≡ w)
after_closed written (Closed u n) v w h = (u, n, refl, cc, cc)
after_closed written Unclosed v w h = cc
after_closed written (Spoiled n) v w h = cc

closed_longer : (quote n : ℕ) (bytes v : List ℕ) (w : ℕ) → body quote n bytes ≡ Closed v w → n < w
unfolding body
closed_longer quote zero bytes v w h = (subst (λ b. IsWithin b (length bytes)) h (body_within quote zero bytes)).0
closed_longer quote (suc n) [] v w h = cc
closed_longer quote (suc n) (c ∷ rest) v w h =
    let a = after_closed [] (body quote n rest) v w h in
    let l = closed_longer quote n rest a.0 a.1 a.2 in
    omega (arith, l, a.4)

spoil_open : (b : Body) (v : List ℕ) (w : ℕ) → spoil b ≡ Closed v w → ⊥
spoil_open Unclosed v w h = cc
spoil_open (Closed u n) v w h = cc
spoil_open (Spoiled n) v w h = cc

-- the piece in the shorter bytes is the one in the longer
piece_by : (b1 b2 b3 b4 e e' : Bool) (c : ℕ) (o o' : Option Escape) (p : Piece) → cond b1 Quote (cond b2 LineEnd (cond b3 (cond e LineEnd Bad) (cond b4 (escaped o) (Plain c)))) ≡ p
    → (p ≡ LineEnd → ⊥) → (p ≡ Bad → ⊥) → ((x : Escape) → p ≡ Escaped x → o ≡ Some x → o' ≡ Some x)
    → cond b1 Quote (cond b2 LineEnd (cond b3 (cond e' LineEnd Bad) (cond b4 (escaped o') (Plain c)))) ≡ p
piece_by true b2 b3 b4 e e' c o o' p h k l m = h
piece_by false true b3 b4 e e' c o o' p h k l m = absurd (k (sym h))
piece_by false false true b4 true e' c o o' p h k l m = absurd (k (sym h))
piece_by false false true b4 false e' c o o' p h k l m = absurd (l (sym h))
piece_by false false false true e e' c (Some x) o' p h k l m = ap escaped (m x (sym h) refl) ∙ h
piece_by false false false true e e' c None o' p h k l m = absurd (l (sym h))
piece_by false false false false e e' c o o' p h k l m = h

piece_cut : (quote c : ℕ) (xs ys : List ℕ) (p : Piece) → piece quote c (xs ++ ys) ≡ p → (p ≡ LineEnd → ⊥) → (p ≡ Bad → ⊥) → ((x : Escape) → p ≡ Escaped x → x.width ≤ length xs) → piece quote c xs ≡ p
unfolding piece
piece_cut quote c xs ys p h k l m =
    piece_by (eqb c quote) (eqb c 10) (eqb c 13) (eqb c 92) (ends_line (xs ++ ys)) (ends_line xs) c (escape (xs ++ ys)) (escape xs) p h k l (λ x is e. escape_cut xs ys x e (m x is))

body_cut : (quote skip : ℕ) (xs ys v : List ℕ) (w : ℕ) → body quote skip (xs ++ ys) ≡ Closed v w → w ≤ length xs → body quote skip xs ≡ Closed v w
unfolding body
body_cut quote skip [] ys v w h fits = let l = closed_longer quote skip ys v w h in let no : ⊥ = omega (arith, l, fits) in absurd no
body_cut quote (suc n) (c ∷ xs) ys v w h fits =
    let a = after_closed [] (body quote n (xs ++ ys)) v w h in
    let inner = body_cut quote n xs ys a.0 a.1 a.2 (omega (arith, a.4, fits)) in
    ap (after []) inner ∙ closed_of a.3 a.4
  where
    closed_of : {u : List ℕ} {n : ℕ} → [] ++ u ≡ v → suc n ≡ w → ◌≡◌ {A = Body} (Closed ([] ++ u) (suc n)) (Closed v w)
    closed_of e f = cc
body_cut quote zero (c ∷ xs) ys v w h fits = on (piece quote c (xs ++ ys)) refl h (λ n u k e f. body_cut quote n xs ys u k e f)
  where
    there : (p : Piece) → piece quote c xs ≡ p → follow p (λ n. body quote n xs) ≡ Closed v w → follow (piece quote c xs) (λ n. body quote n xs) ≡ Closed v w
    there p e k = ap (λ q. follow q (λ n. body quote n xs)) e ∙ k

    same : ((n : ℕ) (u : List ℕ) (m : ℕ) → body quote n (xs ++ ys) ≡ Closed u m → m ≤ length xs → body quote n xs ≡ Closed u m)
        → (written : List ℕ) (n : ℕ) → after written (body quote n (xs ++ ys)) ≡ Closed v w → after written (body quote n xs) ≡ Closed v w
    same inner written n k =
        let a = after_closed written (body quote n (xs ++ ys)) v w k in
        ap (after written) (inner n a.0 a.1 a.2 (omega (arith, a.4, fits)) ∙ sym a.2) ∙ k

    fits_in : (written : List ℕ) (n : ℕ) → after written (body quote n (xs ++ ys)) ≡ Closed v w → n ≤ length xs
    fits_in written n k =
        let a = after_closed written (body quote n (xs ++ ys)) v w k in
        let l = closed_longer quote n (xs ++ ys) a.0 a.1 a.2 in
        omega (arith, l, a.4, fits)

    on : (p : Piece) → piece quote c (xs ++ ys) ≡ p → follow p (λ n. body quote n (xs ++ ys)) ≡ Closed v w
        → ((n : ℕ) (u : List ℕ) (m : ℕ) → body quote n (xs ++ ys) ≡ Closed u m → m ≤ length xs → body quote n xs ≡ Closed u m) → follow (piece quote c xs) (λ n. body quote n xs) ≡ Closed v w
    on Quote e k inner = there Quote (piece_cut quote c xs ys Quote e (λ f. cc f) (λ f. cc f) (λ x f. cc f)) k
    on LineEnd e k inner = cc
    on Bad e k inner = absurd (spoil_open (body quote zero (xs ++ ys)) v w k)
    on (Plain d) e k inner = there (Plain d) (piece_cut quote c xs ys (Plain d) e (λ f. cc f) (λ f. cc f) (λ x f. cc f)) (same inner (d ∷ []) zero k)
    on (Escaped x) e k inner =
        there (Escaped x) (piece_cut quote c xs ys (Escaped x) e (λ f. cc f) (λ f. cc f) (λ y f. let is : x ≡ y = cc in subst (λ z. z.width ≤ length xs) is (fits_in (encode_utf8 x.character) x.width k)))
        (same inner (encode_utf8 x.character) x.width k)

text_by : (at : ℕ) (bytes : List ℕ) (b : Body) (l : Lexeme) → text_lexeme at bytes b ≡ Ok l
    → (v : List ℕ) × (w : ℕ) × (b ≡ Closed v w) × (next_is is_quote (drop (suc w) bytes) ≡ false) × (record { kind = Text v; width = suc w } ≡ l)
text_by at bytes Unclosed l h = cc
text_by at bytes (Spoiled n) l h = cc
text_by at bytes (Closed v w) l h = on (next_is is_quote (drop (suc w) bytes)) _ refl h
  where
    on : (b : Bool) (f : TokenFault) → next_is is_quote (drop (suc w) bytes) ≡ b → cond b (Err f) (Ok (record { kind = Text v; width = suc w })) ≡ Ok l
        → (u : List ℕ) × (n : ℕ) × (◌≡◌ {A = Body} (Closed v w) (Closed u n)) × (next_is is_quote (drop (suc n) bytes) ≡ false) × (record { kind = Text u; width = suc n } ≡ l)
    on true f e k = cc
    on false f e k = (v, w, refl, e, ok_same _ l k)

text_closed : (at : ℕ) (bytes : List ℕ) (b : Body) (v : List ℕ) (w : ℕ) (l : Lexeme) → b ≡ Closed v w → next_is is_quote (drop (suc w) bytes) ≡ false → record { kind = Text v; width = suc w } ≡ l → text_lexeme at bytes b ≡ Ok l
text_closed at bytes b v w l e n is =
    ap (text_lexeme at bytes) e ∙ ap (λ t. cond t (Err (BadChar (at + suc w))) (Ok (record { kind = Text v; width = suc w }))) n ∙ ap Ok is

text_cut : (at to c : ℕ) (xs ys : List ℕ) (l : Lexeme) → text_at at c (xs ++ ys) ≡ Ok l → l.width ≤ suc (length xs) → text_at to c xs ≡ Ok l
unfolding text_at
text_cut at to c xs ys l h fits =
    let t = text_by at (c ∷ (xs ++ ys)) (body c zero (xs ++ ys)) l h in
    let width : suc t.1 ≡ l.width = ap (λ (k : Lexeme). k.width) t.4 in
    text_closed to (c ∷ xs) (body c zero xs) t.0 t.1 l (body_cut c zero xs ys t.0 t.1 t.2 (omega (arith, width, fits))) (next_cut is_quote (suc t.1) (c ∷ xs) ys t.3) t.4

-- ---- operators

cut_fits : (xs s : List ℕ) → starts_with nat_eq xs s ≡ true → length s ≤ length xs
cut_fits xs s h =
    let same : s ≡ take (length s) xs = same_bytes _ _ h in
    let long : length s ≡ min (length s) (length xs) = ap length same ∙ length-take (length s) xs in
    omega (arith, long)

starts_cut : (xs ys s : List ℕ) → length s ≤ length xs → starts_with nat_eq xs s ≡ starts_with nat_eq (xs ++ ys) s
starts_cut xs ys s h = ap (λ (bytes : List ℕ). pointwise nat_eq s bytes) (sym (take_cut (length s) xs ys h))

starts_not : (xs ys s : List ℕ) → starts_with nat_eq (xs ++ ys) s ≡ false → starts_with nat_eq xs s ≡ false
starts_not xs ys s h = on (starts_with nat_eq xs s) refl
  where
    on : (b : Bool) → starts_with nat_eq xs s ≡ b → starts_with nat_eq xs s ≡ false
    on false e = e
    on true e = let no : true ≡ false = sym e ∙ starts_cut xs ys s (cut_fits xs s e) ∙ h in cc no

find_cut : (xs ys : List ℕ) (os : List operator.Symbol) (p : operator.Symbol) → find (λ o. starts_with nat_eq (xs ++ ys) (sign o)) os ≡ Some p → length (sign p) ≤ length xs
    → find (λ o. starts_with nat_eq xs (sign o)) os ≡ Some p
find_cut xs ys [] p h fits = cc
find_cut xs ys (o ∷ os) p h fits = on (starts_with nat_eq (xs ++ ys) (sign o)) refl h (λ k. find_cut xs ys os p k fits)
  where
    take_this : (b : Bool) → starts_with nat_eq xs (sign o) ≡ b → b ≡ true → o ≡ p → cond (starts_with nat_eq xs (sign o)) (Some o) (find (λ o. starts_with nat_eq xs (sign o)) os) ≡ Some p
    take_this b e t is = ap (λ c. cond c (Some o) (find (λ o. starts_with nat_eq xs (sign o)) os)) (e ∙ t) ∙ ap Some is

    on : (b : Bool) → starts_with nat_eq (xs ++ ys) (sign o) ≡ b → cond b (Some o) (find (λ o. starts_with nat_eq (xs ++ ys) (sign o)) os) ≡ Some p
        → (find (λ o. starts_with nat_eq (xs ++ ys) (sign o)) os ≡ Some p → find (λ o. starts_with nat_eq xs (sign o)) os ≡ Some p)
        → cond (starts_with nat_eq xs (sign o)) (Some o) (find (λ o. starts_with nat_eq xs (sign o)) os) ≡ Some p
    on true e k inner =
        let is : o ≡ p = cc in
        let small : length (sign o) ≤ length xs = subst (λ q. length (sign q) ≤ length xs) (sym is) fits in
        take_this (starts_with nat_eq xs (sign o)) refl (starts_cut xs ys (sign o) small ∙ e) is
    on false e k inner = ap (λ c. cond c (Some o) (find (λ o. starts_with nat_eq xs (sign o)) os)) (starts_not xs ys (sign o) e) ∙ inner k

operator_by : (at : ℕ) (o : Option operator.Symbol) (l : Lexeme) → operator_lexeme at o ≡ Ok l → (p : operator.Symbol) × (o ≡ Some p) × (length (sign p) ≡ l.width)
operator_by at None l h = cc
operator_by at (Some p) l h = (p, refl, ap (λ (k : Lexeme). k.width) (ok_same _ l h))

operator_moved : (at to : ℕ) (o : Option operator.Symbol) (l : Lexeme) → operator_lexeme at o ≡ Ok l → operator_lexeme to o ≡ Ok l
operator_moved at to None l h = cc
operator_moved at to (Some p) l h = h

operator_cut : (at to : ℕ) (xs ys : List ℕ) (l : Lexeme) → operator_at at (xs ++ ys) ≡ Ok l → l.width ≤ length xs → operator_at to xs ≡ Ok l
unfolding operator_at
operator_cut at to xs ys l h fits =
    let w = operator_by at _ l h in
    let found = find_cut xs ys operators w.0 w.1 (omega (arith, w.2, fits)) in
    operator_moved at to _ l (ap (operator_lexeme at) (found ∙ sym w.1) ∙ h)

-- ---- any of them

by_first : (b d q : Bool) (n m t o n' m' t' o' : Result Lexeme TokenFault) (l : Lexeme) → (n ≡ Ok l → n' ≡ Ok l) → (m ≡ Ok l → m' ≡ Ok l) → (t ≡ Ok l → t' ≡ Ok l) → (o ≡ Ok l → o' ≡ Ok l)
    → cond b n (cond d m (cond q t o)) ≡ Ok l → cond b n' (cond d m' (cond q t' o')) ≡ Ok l
by_first true d q n m t o n' m' t' o' l f g h k i = f i
by_first false true q n m t o n' m' t' o' l f g h k i = g i
by_first false false true n m t o n' m' t' o' l f g h k i = h i
by_first false false false n m t o n' m' t' o' l f g h k i = k i

pub lexeme_cut : (at to c : ℕ) (xs ys : List ℕ) (l : Lexeme) → lexeme_at at (c ∷ (xs ++ ys)) ≡ Ok l → l.width ≤ suc (length xs) → lexeme_at to (c ∷ xs) ≡ Ok l
unfolding lexeme_at
lexeme_cut at to c xs ys l h fits =
    by_first (begins_name c) (is_ascii_digit c) (is_quote c) _ _ _ _ _ _ _ _ l
    (λ e. name_cut at to (c ∷ xs) ys l e fits) (λ e. number_cut at to c xs ys l e fits) (λ e. text_cut at to c xs ys l e fits) (λ e. operator_cut at to (c ∷ xs) ys l e fits) h
