-- A lexeme takes at least one byte, and no more than there are.
use Rattle.std.proofs.Common.{◌≡◌, ⊎_elim, ℕ, zero, ◌+◌, ◌<◌, ◌≤◌, min, Bool, true, false, cond, eqb, ltb, ◌&&◌, ◌||◌, List, [], ◌∷◌, length, take, Option, Some, Ok, refl, sym, ap, ◌∙◌, subst, arith, length-take}
use Rattle.std.specs.Prelude.{nat_eq, find}
use Rattle.std.specs.List.{starts_with, prefix_len, list_all}
use Rattle.std.specs.Char.{is_ascii_digit}
use borrow.Author.Tests.{ltb-true}
use Rattle.std.specs.Cmp.Lexicographic.{pointwise}
use Rattle.py_names.specs.Names.{begins_name, continues_name}
use Rattle.py_token.specs.declared.lines.Lexeme.{Lexeme}
use Rattle.py_token.specs.Spellings.{sign, operators}
use Rattle.py_token.specs.Lexemes.{belongs, digits_after, name_at, number_at, text_at, operator_at, lexeme_at}
use Rattle.py_token.specs.Bodies.{IsWithin}
use Rattle.py_token.proofs.Bytes.{prefix_len-le}
use Rattle.py_token.proofs.Escapes.{eqb_is}
use Rattle.py_token.proofs.Quoted.{body_within}
use Rattle.py_token.proofs.Inverted.{name_ok, number_ok, text_ok, operator_ok, lexeme_ok, no_lexeme}

-- two texts that are equal byte by byte
same_head : (b : Bool) (x y : ℕ) (xs ys : List ℕ) → eqb x y ≡ b → (b && pointwise nat_eq xs ys) ≡ true → (pointwise nat_eq xs ys ≡ true → xs ≡ ys)
    → ◌≡◌ {A = List ℕ} (x ∷ xs) (y ∷ ys)
same_head true x y xs ys e h inner = ap (λ c. c ∷ xs) (eqb_is x y e) ∙ ap (λ cs. y ∷ cs) (inner h)
same_head false x y xs ys e h inner = cc

pub same_bytes : (xs ys : List ℕ) → pointwise nat_eq xs ys ≡ true → xs ≡ ys
same_bytes [] [] h = refl
same_bytes [] (y ∷ ys) h = cc
same_bytes (x ∷ xs) [] h = cc
same_bytes (x ∷ xs) (y ∷ ys) h = same_head (eqb x y) x y xs ys refl h (same_bytes xs ys)

found_head : {X : Type 0} (p : X → Bool) (b : Bool) (y x : X) (o : Option X) → p y ≡ b → cond b (Some y) o ≡ Some x → (o ≡ Some x → p x ≡ true) → p x ≡ true
found_head p true y x o e h inner = let same : y ≡ x = cc in ap p (sym same) ∙ e
found_head p false y x o e h inner = inner h

pub found_passes : {X : Type 0} (p : X → Bool) (xs : List X) (x : X) → find p xs ≡ Some x → p x ≡ true
found_passes p [] x h = cc
found_passes p (y ∷ ys) x h = found_head p (p y) y x (find p ys) refl h (found_passes p ys x)

among_head : {X : Type 0} (q : X → Bool) (b d : Bool) (y x : X) (o : Option X) (rest : Bool) → q y ≡ d → cond b (Some y) o ≡ Some x → (d && rest) ≡ true
    → (o ≡ Some x → rest ≡ true → q x ≡ true) → q x ≡ true
among_head q true true y x o rest e h all inner = let same : y ≡ x = cc in ap q (sym same) ∙ e
among_head q true false y x o rest e h all inner = cc
among_head q false true y x o rest e h all inner = inner h all
among_head q false false y x o rest e h all inner = cc

-- what holds of all holds of the one that is found
pub found_among : {X : Type 0} (p q : X → Bool) (xs : List X) (x : X) → find p xs ≡ Some x → list_all q xs ≡ true → q x ≡ true
found_among p q [] x h all = cc
found_among p q (y ∷ ys) x h all = among_head q (p y) (q y) y x (find p ys) (list_all q ys) refl h all (found_among p q ys x)

signs_positive : list_all (λ o. ltb 0 (length (sign o))) operators ≡ true
unfolding operators
signs_positive = refl

cond_le : (b : Bool) (m n k : ℕ) → m ≤ k → n ≤ k → cond b m n ≤ k
cond_le true m n k hm hn = hm
cond_le false m n k hm hn = hn

digits_within : (first : ℕ) (bytes : List ℕ) → digits_after first bytes ≤ length bytes
digits_within first [] = omega arith
digits_within first (c ∷ []) = cond_le (belongs first c) 1 0 _ (omega arith) (omega arith)
digits_within first (c ∷ d ∷ rest) =
    let one = digits_within first (d ∷ rest) in
    let two = digits_within first rest in
    cond_le (belongs first c) _ _ _ (omega arith) (cond_le (eqb c 95 && belongs first d) _ _ _ (omega arith) (omega arith))

-- a lexeme takes at least one byte, and no more than there are
pub record Bounds (bytes : List ℕ) (l : Lexeme) : Type 0 where
  pub positive : 0 < l.width
  pub within : l.width ≤ length bytes

pub name_longer : (c : ℕ) (rest : List ℕ) → begins_name c ≡ true → prefix_len continues_name (c ∷ rest) ≡ 1 + prefix_len continues_name rest
name_longer c rest h = ap (λ b. cond (b || is_ascii_digit c) (1 + prefix_len continues_name rest) 0) h

name_bounds : (at c : ℕ) (rest : List ℕ) (l : Lexeme) → begins_name c ≡ true → name_at at (c ∷ rest) ≡ Ok l → Bounds (c ∷ rest) l
name_bounds at c rest l first h =
    let width = ap (λ (k : Lexeme). k.width) (name_ok at (c ∷ rest) l h).1 in
    let longer = name_longer c rest first in
    let fits = prefix_len-le continues_name (c ∷ rest) in
    record { positive = omega arith; within = omega arith }

number_bounds : (at c : ℕ) (rest : List ℕ) (l : Lexeme) → number_at at (c ∷ rest) ≡ Ok l → Bounds (c ∷ rest) l
number_bounds at c rest l h =
    let width = ap (λ (k : Lexeme). k.width) (number_ok at (c ∷ rest) l h).1 in
    let fits = digits_within c rest in
    record { positive = omega arith; within = omega arith }

text_bounds : (at c : ℕ) (rest : List ℕ) (l : Lexeme) → text_at at c rest ≡ Ok l → Bounds (c ∷ rest) l
text_bounds at c rest l h =
    let w = text_ok at c rest l h in
    let width = ap (λ (k : Lexeme). k.width) w.3 in
    let fits = subst (λ b. IsWithin b (length rest)) w.2 (body_within c zero rest) in
    record { positive = omega arith; within = omega (arith, fits.1) }

operator_bounds : (at : ℕ) (bytes : List ℕ) (l : Lexeme) → operator_at at bytes ≡ Ok l → Bounds bytes l
operator_bounds at bytes l h =
    let w = operator_ok at bytes l h in
    let width = ap (λ (k : Lexeme). k.width) w.2 in
    let same : sign w.0 ≡ take (length (sign w.0)) bytes = same_bytes _ _ (found_passes (λ o. starts_with nat_eq bytes (sign o)) operators w.0 w.1) in
    let long : length (sign w.0) ≡ min (length (sign w.0)) (length bytes) = ap length same ∙ length-take (length (sign w.0)) bytes in
    let positive : 0 < length (sign w.0) = ltb-true 0 _ (found_among (λ o. starts_with nat_eq bytes (sign o)) (λ o. ltb 0 (length (sign o))) operators w.0 w.1 signs_positive) in
    record { positive = omega arith; within = omega arith }

pub lexeme_bounds : (at : ℕ) (bytes : List ℕ) (l : Lexeme) → lexeme_at at bytes ≡ Ok l → Bounds bytes l
lexeme_bounds at [] l h = absurd (no_lexeme at l h)
lexeme_bounds at (c ∷ rest) l h =
    ⊎_elim (λ e. name_bounds at c rest l e.0 e.1)
    (⊎_elim (λ e. number_bounds at c rest l e.1) (⊎_elim (λ e. text_bounds at c rest l e.1) (operator_bounds at (c ∷ rest) l)))
    (lexeme_ok at c rest l h)
