-- What an escape and a piece of a text are made of.
use Rattle.std.proofs.Common.{◌≡◌, ℕ, ◌+◌, ◌*◌, ◌<◌, Bool, true, false, cond, ◌&&◌, ◌||◌, not, eqb, List, [], ◌∷◌, ◌++◌, length, Option, Some, None, refl, ap, ◌∙◌, subst, arith}
use Rattle.std.proofs.lemmas.Bool.Decides.{nat_tests}
use Rattle.std.specs.Char.{is_ascii_hexdigit, digit_value}
use Rattle.py_token.specs.declared.pieces.Escape.{Escape}
use Rattle.py_token.specs.declared.pieces.Piece.{Piece}
use Rattle.py_token.specs.declared.pieces.Piece.TheVariants.{Quote, LineEnd, Bad, Plain, Escaped}
use Rattle.py_token.specs.Spellings.{is_quote, hexadecimal, escape, is_plain}
use Rattle.py_token.specs.Lexemes.{ends_line, escaped, piece}

-- each byte is ASCII
abbrev pub Ascii : List ℕ → Type 0
Ascii [] = Unit {0}
Ascii (c ∷ cs) = (c < 128) × Ascii cs

-- the escape before those bytes is its own spelling, which is ASCII, and what is after it
pub record IsEscape (rest : List ℕ) (e : Escape) : Type 0 where
  pub front : List ℕ
  pub back : List ℕ
  pub parts : rest ≡ front ++ back
  pub width : e.width ≡ length front
  pub spelled : escape front ≡ Some e
  pub ascii : Ascii front
  pub small : e.character < 256

hex_small : (h : ℕ) → is_ascii_hexdigit h ≡ true → digit_value h < 16
hex_small h is = grind (arith, nat_tests)

hex_ascii : (h : ℕ) → is_ascii_hexdigit h ≡ true → h < 128
hex_ascii h is = grind (arith, nat_tests)

and_left : (a b : Bool) → (a && b) ≡ true → a ≡ true
and_left true b h = refl
and_left false b h = h

and_right : (a b : Bool) → (a && b) ≡ true → b ≡ true
and_right true b h = h
and_right false b h = cc

short_ascii : (c : ℕ) → (eqb c 92 || is_quote c) ≡ true → c < 128
short_ascii c h = grind (arith, nat_tests)

-- an escape of one byte
one_byte : (c : ℕ) (rest : List ℕ) (e : Escape) → e.width ≡ 1 → e.character < 256 → c < 128 → escape (c ∷ []) ≡ Some e → IsEscape (c ∷ rest) e
one_byte c rest e width small ascii spelled =
    record { front = c ∷ []; back = rest; parts = refl; width = width; spelled = spelled; ascii = (ascii, tt); small = small }

by_hex : (c h l : ℕ) (rest : List ℕ) (e : Escape) (b : Bool) → (is_ascii_hexdigit h && is_ascii_hexdigit l) ≡ b → c < 128 → ((bytes : List ℕ) → escape (c ∷ bytes) ≡ hexadecimal bytes)
    → cond b (Some (record { character = digit_value h * 16 + digit_value l; width = 3 })) None ≡ Some e → IsEscape (c ∷ h ∷ l ∷ rest) e
by_hex c h l rest e true both ascii is h' =
    let eh = and_left _ _ both in
    let el = and_right (is_ascii_hexdigit h) _ both in
    let small_h = hex_small h eh in
    let small_l = hex_small l el in
    let same : Escape = record { character = digit_value h * 16 + digit_value l; width = 3 } in
    let e_is : same ≡ e = cc in
    subst (IsEscape (c ∷ h ∷ l ∷ rest)) e_is (record {
      front = c ∷ h ∷ l ∷ [];
      back = rest;
      parts = refl;
      width = refl;
      spelled = is (h ∷ l ∷ []) ∙ ap (λ b. cond b (Some same) None) both;
      ascii = (ascii, (hex_ascii h eh, (hex_ascii l el, tt)));
      small = omega arith;
    })
by_hex c h l rest e false both ascii is h' = cc

hex_escape : (c : ℕ) (rest : List ℕ) (e : Escape) → c < 128 → ((bytes : List ℕ) → escape (c ∷ bytes) ≡ hexadecimal bytes) → hexadecimal rest ≡ Some e → IsEscape (c ∷ rest) e
hex_escape c [] e ascii is h = cc
hex_escape c (x ∷ []) e ascii is h = cc
hex_escape c (x ∷ l ∷ rest) e ascii is h = by_hex c x l rest e _ refl ascii is h

-- the tests in their order
abbrev chain : Bool → Bool → Bool → Bool → Bool → ℕ → Option Escape → Option Escape
chain b n r t x c hex =
    cond b (Some (record { character = c; width = 1 }))
    (cond n (Some (record { character = 10; width = 1 }))
    (cond r (Some (record { character = 13; width = 1 }))
    (cond t (Some (record { character = 9; width = 1 }))
    (cond x hex None))))

pub eqb_is : (c n : ℕ) → eqb c n ≡ true → c ≡ n
eqb_is c n h = grind (arith, nat_tests)

some_same : (d e : Escape) → Some d ≡ Some e → d ≡ e
some_same d e h = cc

-- an escape of one byte for that character
known : (c n : ℕ) (rest : List ℕ) (e : Escape) → c < 128 → n < 256 → escape (c ∷ []) ≡ Some (record { character = n; width = 1 })
    → ◌≡◌ {A = Option Escape} (Some (record { character = n; width = 1 })) (Some e) → IsEscape (c ∷ rest) e
known c n rest e ascii small spelled h = subst (IsEscape (c ∷ rest)) (some_same _ e h) (one_byte c rest _ refl small ascii spelled)

by_tests : (b n r t x : Bool) (c : ℕ) (rest : List ℕ) (e : Escape)
    → (eqb c 92 || is_quote c) ≡ b → eqb c 110 ≡ n → eqb c 114 ≡ r → eqb c 116 ≡ t → eqb c 120 ≡ x
    → ((bytes : List ℕ) → escape (c ∷ bytes) ≡ chain b n r t x c (hexadecimal bytes))
    → chain b n r t x c (hexadecimal rest) ≡ Some e → IsEscape (c ∷ rest) e
by_tests true n r t x c rest e hb hn hr ht hx is h = let ascii = short_ascii c hb in known c c rest e ascii (omega arith) (is []) h
by_tests false true r t x c rest e hb hn hr ht hx is h = let at = eqb_is c 110 hn in known c 10 rest e (omega arith) (omega arith) (is []) h
by_tests false false true t x c rest e hb hn hr ht hx is h = let at = eqb_is c 114 hr in known c 13 rest e (omega arith) (omega arith) (is []) h
by_tests false false false true x c rest e hb hn hr ht hx is h = let at = eqb_is c 116 ht in known c 9 rest e (omega arith) (omega arith) (is []) h
by_tests false false false false true c rest e hb hn hr ht hx is h = let at = eqb_is c 120 hx in hex_escape c rest e (omega arith) is h
by_tests false false false false false c rest e hb hn hr ht hx is h = cc

pub escape_is : (rest : List ℕ) (e : Escape) → escape rest ≡ Some e → IsEscape rest e
escape_is [] e h = cc
escape_is (c ∷ rest) e h = by_tests _ _ _ _ _ c rest e refl refl refl refl refl (λ bytes. refl) h

-- ---- pieces

abbrev pieces : Bool → Bool → Bool → Bool → Bool → Option Escape → ℕ → Piece
pieces q n r l b o c = cond q Quote (cond n LineEnd (cond r (cond l LineEnd Bad) (cond b (escaped o) (Plain c))))

piece_is : (quote c : ℕ) (rest : List ℕ) → piece quote c rest ≡ pieces (eqb c quote) (eqb c 10) (eqb c 13) (ends_line rest) (eqb c 92) (escape rest) c
unfolding piece
piece_is quote c rest = refl

is_escaped : (q n r l b : Bool) (o : Option Escape) (c : ℕ) (e : Escape) → Escaped e ≡ pieces q n r l b o c → (b ≡ true) × (o ≡ Some e)
is_escaped true n r l b o c e h = cc
is_escaped false true r l b o c e h = cc
is_escaped false false true true b o c e h = cc
is_escaped false false true false b o c e h = cc
is_escaped false false false l true None c e h = cc
is_escaped false false false l true (Some d) c e h = (refl, cc)
is_escaped false false false l false o c e h = cc

is_plain_byte : (q n r l b : Bool) (o : Option Escape) (c d : ℕ) → Plain d ≡ pieces q n r l b o c → (d ≡ c) × (q ≡ false) × (n ≡ false) × (r ≡ false) × (b ≡ false)
is_plain_byte true n r l b o c d h = cc
is_plain_byte false true r l b o c d h = cc
is_plain_byte false false true true b o c d h = cc
is_plain_byte false false true false b o c d h = cc
is_plain_byte false false false l true None c d h = cc
is_plain_byte false false false l true (Some e) c d h = cc
is_plain_byte false false false l false o c d h = (cc, refl, refl, refl, refl)

is_closing : (q n r l b : Bool) (o : Option Escape) (c : ℕ) → Quote ≡ pieces q n r l b o c → q ≡ true
is_closing true n r l b o c h = refl
is_closing false true r l b o c h = cc
is_closing false false true true b o c h = cc
is_closing false false true false b o c h = cc
is_closing false false false l true None c h = cc
is_closing false false false l true (Some e) c h = cc
is_closing false false false l false o c h = cc

none_of : (q b n r : Bool) → q ≡ false → b ≡ false → n ≡ false → r ≡ false → not (((q || b) || n) || r) ≡ true
none_of true b n r hq hb hn hr = cc
none_of false true n r hq hb hn hr = cc
none_of false false true r hq hb hn hr = cc
none_of false false false true hq hb hn hr = cc
none_of false false false false hq hb hn hr = refl

pub piece_escaped : (quote c : ℕ) (rest : List ℕ) (e : Escape) → Escaped e ≡ piece quote c rest → (c ≡ 92) × IsEscape rest e
piece_escaped quote c rest e h =
    let w = is_escaped (eqb c quote) (eqb c 10) (eqb c 13) (ends_line rest) (eqb c 92) (escape rest) c e (h ∙ piece_is quote c rest) in
    (eqb_is c 92 w.0, escape_is rest e w.1)

pub piece_plain : (quote c d : ℕ) (rest : List ℕ) → Plain d ≡ piece quote c rest → (d ≡ c) × (is_plain quote c ≡ true)
piece_plain quote c d rest h =
    let w = is_plain_byte (eqb c quote) (eqb c 10) (eqb c 13) (ends_line rest) (eqb c 92) (escape rest) c d (h ∙ piece_is quote c rest) in
    (w.0, none_of _ _ _ _ w.1 w.4 w.2 w.3)

pub piece_quote : (quote c : ℕ) (rest : List ℕ) → Quote ≡ piece quote c rest → c ≡ quote
piece_quote quote c rest h = eqb_is c quote (is_closing (eqb c quote) (eqb c 10) (eqb c 13) (ends_line rest) (eqb c 92) (escape rest) c (h ∙ piece_is quote c rest))
