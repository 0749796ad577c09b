-- A character past 127 shows as its own bytes.
use Rattle.std.proofs.Common.{◌≡◌, ℕ, ◌+◌, ◌/◌, ◌%◌, ◌<◌, ◌≤◌, Bool, true, false, cond, ◌==◌, nat_lt, nat_le, not, ◌&&◌, List, [], ◌∷◌, ◌++◌, refl, ap, sym, ◌∙◌, append_assoc, arith}
use Rattle.std.proofs.lemmas.List.{append-nil}
use Rattle.std.proofs.lemmas.Str.{encodes-append}
use Rattle.std.specs.Str.{encode_utf8_all}
use Rattle.std.proofs.lemmas.Bool.{le-ltb, and_parts}
use Rattle.std.proofs.lemmas.Grind.{common_steps}
use Rattle.std.specs.List.{flat_map, list_all}
use Rattle.std.specs.Char.{encode_utf8}
use Rattle.py_value.specs.Reprs.{escaped, is_plain}

different : (a b : ℕ) → (a ≡ b → ⊥) → (a == b) ≡ false
different a b h = grind (arith, common_steps)

pub escaped-high : (quote c : ℕ) → quote < 128 → 128 ≤ c → escaped quote c ≡ c ∷ []
unfolding escaped
escaped-high quote c q h =
    let e1 : (c == 92) ≡ false = different c 92 (λ e. absurd (omega arith)) in
    let e2 : (c == quote) ≡ false = different c quote (λ e. absurd (omega arith)) in
    let e3 : (c == 10) ≡ false = different c 10 (λ e. absurd (omega arith)) in
    let e4 : (c == 13) ≡ false = different c 13 (λ e. absurd (omega arith)) in
    let e5 : (c == 9) ≡ false = different c 9 (λ e. absurd (omega arith)) in
    let e6 : nat_lt c 32 ≡ false = le-ltb c 32 (omega arith) in
    let e7 : (c == 127) ≡ false = different c 127 (λ e. absurd (omega arith)) in
    simp (e1, e2, e3, e4, e5, e6, e7)

one : (quote c : ℕ) (cs : List ℕ) → quote < 128 → 128 ≤ c → flat_map (escaped quote) cs ≡ cs → flat_map (escaped quote) (c ∷ cs) ≡ c ∷ cs
one quote c cs q h same = ap (λ xs. xs ++ flat_map (escaped quote) cs) (escaped-high quote c q h) ∙ ap (λ xs. c ∷ xs) same

-- a character of several bytes
pub escaped_character : (quote c : ℕ) → quote < 128 → 128 ≤ c → flat_map (escaped quote) (encode_utf8 c) ≡ encode_utf8 c
unfolding encode_utf8
escaped_character quote c q h =
    rw (le-ltb c 128 h)
    (by_size (nat_lt c 2048) (nat_lt c 65536))
  where
    by_size : (b d : Bool) → flat_map (escaped quote) (cond b ((192 + c / 64) ∷ (128 + c % 64) ∷ []) (cond d ((224 + c / 4096) ∷ (128 + c / 64 % 64) ∷ (128 + c % 64) ∷ []) ((240 + c / 262144) ∷ (128 + c / 4096 % 64) ∷ (128 + c / 64 % 64) ∷ (128 + c % 64) ∷ [])))
        ≡ cond b ((192 + c / 64) ∷ (128 + c % 64) ∷ []) (cond d ((224 + c / 4096) ∷ (128 + c / 64 % 64) ∷ (128 + c % 64) ∷ []) ((240 + c / 262144) ∷ (128 + c / 4096 % 64) ∷ (128 + c / 64 % 64) ∷ (128 + c % 64) ∷ []))
    by_size true d = one quote _ _ q (omega arith) (one quote _ _ q (omega arith) refl)
    by_size false true = one quote _ _ q (omega arith) (one quote _ _ q (omega arith) (one quote _ _ q (omega arith) refl))
    by_size false false = one quote _ _ q (omega arith) (one quote _ _ q (omega arith) (one quote _ _ q (omega arith) (one quote _ _ q (omega arith) refl)))

plain_byte : (quote c : ℕ) → is_plain quote c ≡ true → escaped quote c ≡ c ∷ []
unfolding escaped
plain_byte quote c plain =
    let low = and_parts (nat_le 32 c) _ plain in
    let high = and_parts (not (c == 127)) _ low.1 in
    let ends = and_parts (not (c == 92)) _ high.1 in
    let past : 32 ≤ c = grind (arith, common_steps) in
    let e1 : (c == 92) ≡ false = by_not _ ends.0 in
    let e2 : (c == quote) ≡ false = by_not _ ends.1 in
    let e3 : (c == 10) ≡ false = different c 10 (λ e. absurd (omega arith)) in
    let e4 : (c == 13) ≡ false = different c 13 (λ e. absurd (omega arith)) in
    let e5 : (c == 9) ≡ false = different c 9 (λ e. absurd (omega arith)) in
    let e6 : nat_lt c 32 ≡ false = le-ltb c 32 past in
    let e7 : (c == 127) ≡ false = by_not _ high.0 in
    simp (e1, e2, e3, e4, e5, e6, e7)
  where
    by_not : (b : Bool) → not b ≡ true → b ≡ false
    by_not false e = refl
    by_not true e = sym e

-- a text of such bytes shows as itself
pub shown_plain : (quote : ℕ) (cs : List ℕ) → list_all (is_plain quote) cs ≡ true → flat_map (escaped quote) cs ≡ cs
shown_plain quote [] e = refl
shown_plain quote (c ∷ cs) e =
    let both = and_parts _ _ e in
    ap (λ front. front ++ flat_map (escaped quote) cs) (plain_byte quote c both.0) ∙ ap (λ rest. c ∷ rest) (shown_plain quote cs both.1)

-- one character more shows after the others
pub shown_more : (quote : ℕ) (out : List ℕ) (cs : List ℕ) (c : ℕ) (before now : List ℕ)
    → before ≡ out ++ flat_map (escaped quote) (encode_utf8_all cs)
    → now ≡ before ++ flat_map (escaped quote) (encode_utf8 c)
    → now ≡ out ++ flat_map (escaped quote) (encode_utf8_all (cs ++ c ∷ []))
shown_more quote out cs c before now b n =
    n ∙ ap (λ xs. xs ++ flat_map (escaped quote) (encode_utf8 c)) b
    ∙ append_assoc out (flat_map (escaped quote) (encode_utf8_all cs)) (flat_map (escaped quote) (encode_utf8 c))
    ∙ ap (λ xs. out ++ xs) (sym (flat_map_append (escaped quote) (encode_utf8_all cs) (encode_utf8 c)))
    ∙ ap (λ xs. out ++ flat_map (escaped quote) xs) (sym (encodes-append cs (c ∷ []) ∙ ap (λ xs. encode_utf8_all cs ++ xs) (append-nil (encode_utf8 c))))
  where
    flat_map_append : (f : ℕ → List ℕ) (xs ys : List ℕ) → flat_map f (xs ++ ys) ≡ flat_map f xs ++ flat_map f ys
    flat_map_append f [] ys = refl
    flat_map_append f (x ∷ xs) ys = ap (λ zs. f x ++ zs) (flat_map_append f xs ys) ∙ sym (append_assoc (f x) (flat_map f xs) (flat_map f ys))
