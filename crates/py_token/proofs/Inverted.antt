-- What a lexeme that was read is.
use Rattle.std.proofs.Common.{◌≡◌, ◌⊎◌, inl, inr, ℕ, zero, suc, ◌^◌, pos, Bool, true, false, cond, ltb, leb, List, [], ◌∷◌, length, take, drop, Option, Some, None, Result, Ok, Err, refl}
use Rattle.std.specs.Prelude.{nat_eq, find}
use Rattle.std.specs.List.{starts_with, prefix_len}
use Rattle.std.specs.Char.{is_ascii_digit}
use Rattle.py_names.specs.Names.{begins_name, continues_name}
use Rattle.py_token.specs.declared.kinds.Kind.{Kind}
use Rattle.py_token.specs.declared.kinds.Kind.TheVariants.{Number, Text, Symbol}
use Rattle.py_token.specs.declared.kinds.Symbol as operator
use Rattle.py_token.specs.declared.faults.TokenFault.{TokenFault}
use Rattle.py_token.specs.declared.lines.Lexeme.{Lexeme}
use Rattle.py_token.specs.declared.pieces.Body.{Body}
use Rattle.py_token.specs.declared.pieces.Body.TheVariants.{Closed, Unclosed, Spoiled}
use Rattle.py_token.specs.Spellings.{sign, operators, decimal, is_quote}
use Rattle.py_token.specs.Lexemes.{next_is, unless_next, keyword_of, named, name_at, number_width, number_at, body, text_lexeme, text_at, operator_lexeme, operator_at, lexeme_at}

ok_same : (d e : Lexeme) → ◌≡◌ {A = Result Lexeme TokenFault} (Ok d) (Ok e) → d ≡ e
ok_same d e h = cc

refused : (b : Bool) (f : TokenFault) (d e : Lexeme) → ◌≡◌ {A = Result Lexeme TokenFault} (cond b (Err f) (Ok d)) (Ok e) → d ≡ e
refused true f d e h = cc
refused false f d e h = ok_same d e h

unless_ok : (bad : ℕ → Bool) (at width : ℕ) (bytes : List ℕ) (kind : Kind) (l : Lexeme) → unless_next bad at bytes width kind ≡ Ok l → record { kind = kind; width = width } ≡ l
unless_ok bad at width bytes kind l h = refused (next_is bad (drop width bytes)) _ _ l h

tested : (b : Bool) (f : TokenFault) (r : Result Lexeme TokenFault) (l : Lexeme) → cond b (Err f) r ≡ Ok l → (b ≡ false) × (r ≡ Ok l)
tested true f r l h = cc
tested false f r l h = (refl, h)

pub name_ok : (at : ℕ) (bytes : List ℕ) (l : Lexeme) → name_at at bytes ≡ Ok l
    → (ltb 255 (prefix_len continues_name bytes) ≡ false)
    × (record { kind = named (keyword_of (take (prefix_len continues_name bytes) bytes)) (take (prefix_len continues_name bytes) bytes); width = prefix_len continues_name bytes } ≡ l)
unfolding name_at
name_ok at bytes l h =
    let t = tested (ltb 255 (prefix_len continues_name bytes)) _ _ l h in
    (t.0, unless_ok is_quote at _ bytes _ l t.1)

pub number_ok : (at : ℕ) (bytes : List ℕ) (l : Lexeme) → number_at at bytes ≡ Ok l
    → (leb (2 ^ 127) (decimal (take (number_width bytes) bytes)) ≡ false)
    × (record { kind = Number (pos (decimal (take (number_width bytes) bytes))); width = number_width bytes } ≡ l)
unfolding number_at
number_ok at bytes l h =
    let t = tested (leb (2 ^ 127) (decimal (take (number_width bytes) bytes))) _ _ l h in
    (t.0, unless_ok _ at _ bytes _ l t.1)

text_by : (at : ℕ) (bytes : List ℕ) (b : Body) (l : Lexeme) → text_lexeme at bytes b ≡ Ok l
    → (value : List ℕ) × (width : ℕ) × (b ≡ Closed value width) × (record { kind = Text value; width = suc width } ≡ l)
text_by at bytes Unclosed l h = cc
text_by at bytes (Spoiled n) l h = cc
text_by at bytes (Closed value width) l h = (value, width, refl, unless_ok is_quote at (suc width) bytes (Text value) l h)

pub text_ok : (at quote : ℕ) (rest : List ℕ) (l : Lexeme) → text_at at quote rest ≡ Ok l
    → (value : List ℕ) × (width : ℕ) × (body quote zero rest ≡ Closed value width) × (record { kind = Text value; width = suc width } ≡ l)
unfolding text_at
text_ok at quote rest l h = text_by at (quote ∷ rest) (body quote zero rest) l h

operator_by : (at : ℕ) (o : Option operator.Symbol) (l : Lexeme) → operator_lexeme at o ≡ Ok l → (p : operator.Symbol) × (o ≡ Some p) × (record { kind = Symbol p; width = length (sign p) } ≡ l)
operator_by at None l h = cc
operator_by at (Some p) l h = (p, refl, ok_same _ l h)

pub operator_ok : (at : ℕ) (bytes : List ℕ) (l : Lexeme) → operator_at at bytes ≡ Ok l
    → (p : operator.Symbol) × (find (λ o. starts_with nat_eq bytes (sign o)) operators ≡ Some p) × (record { kind = Symbol p; width = length (sign p) } ≡ l)
unfolding operator_at
operator_ok at bytes l h = operator_by at _ l h

-- one of the four
by_first : (b d q : Bool) (n m t o : Result Lexeme TokenFault) (l : Lexeme) → cond b n (cond d m (cond q t o)) ≡ Ok l
    → ((b ≡ true) × (n ≡ Ok l)) ⊎ (((d ≡ true) × (m ≡ Ok l)) ⊎ (((q ≡ true) × (t ≡ Ok l)) ⊎ (o ≡ Ok l)))
by_first true d q n m t o l h = inl (refl, h)
by_first false true q n m t o l h = inr (inl (refl, h))
by_first false false true n m t o l h = inr (inr (inl (refl, h)))
by_first false false false n m t o l h = inr (inr (inr h))

pub lexeme_ok : (at c : ℕ) (rest : List ℕ) (l : Lexeme) → lexeme_at at (c ∷ rest) ≡ Ok l
    → ((begins_name c ≡ true) × (name_at at (c ∷ rest) ≡ Ok l)) ⊎ (((is_ascii_digit c ≡ true) × (number_at at (c ∷ rest) ≡ Ok l))
    ⊎ (((is_quote c ≡ true) × (text_at at c rest ≡ Ok l)) ⊎ (operator_at at (c ∷ rest) ≡ Ok l)))
unfolding lexeme_at
lexeme_ok at c rest l h = by_first (begins_name c) (is_ascii_digit c) (is_quote c) _ _ _ _ l h

pub no_lexeme : (at : ℕ) (l : Lexeme) → lexeme_at at [] ≡ Ok l → ⊥
unfolding lexeme_at
no_lexeme at l h = cc
