-- Texts that begin with, end with or hold another.
use Rattle.std.proofs.Common.{◌≡◌, ℕ, ◌-◌, Bool, true, false, List, [], ◌∷◌, ◌++◌, ◌&&◌, ◌==◌, ◌↔◌, nat_eq, length, take, drop, refl, sym, ap, ◌∙◌, Decides, inl, inr}
use Rattle.std.specs.Prelude.{reverse}
use Rattle.std.specs.Cmp.Lexicographic.{pointwise}
use Rattle.std.specs.Str.Iter.{HasSubslice}
use Rattle.std.proofs.lemmas.Bool.{false≢true, and_parts, and_from, or_cases, or_left, or_right, eqb-true, eq-eqb}
use Rattle.std.proofs.lemmas.List.{reverse-append, reverse-reverse}
use Rattle.std.proofs.lemmas.Slice.Eq.{ends_is}
use Rattle.py_meaning.specs.Texts.{begins, ends, occurs}

pub begins_from : (piece rest : List ℕ) → begins piece (piece ++ rest) ≡ true
begins_from [] rest = refl
begins_from (x ∷ piece) rest = and_from (x == x) _ (eq-eqb x x refl) (begins_from piece rest)

pub begins_gives : (piece text : List ℕ) → begins piece text ≡ true → (rest : List ℕ) × (text ≡ piece ++ rest)
begins_gives [] text h = (text, refl)
begins_gives (x ∷ piece) [] h = absurd (false≢true h)
begins_gives (x ∷ piece) (y ∷ text) h =
    let p = and_parts (x == y) _ h in
    let q = begins_gives piece text p.1 in
    let e : x ≡ y = eqb-true x y p.0 in
    (q.0, ap (λ z. z ∷ text) (sym e) ∙ ap (λ t. x ∷ t) q.1)

pub begins_pointwise : (piece text : List ℕ) → begins piece text ≡ pointwise nat_eq piece (take (length piece) text)
begins_pointwise [] text = refl
begins_pointwise (x ∷ piece) [] = refl
begins_pointwise (x ∷ piece) (y ∷ text) = ap (λ b. (x == y) && b) (begins_pointwise piece text)

-- two tests that hold together
pub same_tests : (a b : Bool) → (a ≡ true → b ≡ true) → (b ≡ true → a ≡ true) → a ≡ b
same_tests true true f g = refl
same_tests false false f g = refl
same_tests true false f g = sym (f refl)
same_tests false true f g = g refl

nat_decides : (a b : ℕ) → Decides (nat_eq a b) (a ≡ b)
nat_decides a b = (eqb-true a b, eq-eqb a b)

pub ends_same : (piece text : List ℕ) (r : Bool) → r ≡ pointwise nat_eq piece (drop (length text - length piece) text) → r ≡ ends piece text
ends_same piece text r h =
    let e = ends_is nat_decides text piece r h in
    same_tests r (ends piece text)
    (λ t. rw (e.0 t) (rw (reverse-append (take (length text - length piece) text) piece) (begins_from (reverse piece) (reverse (take (length text - length piece) text)))))
    (λ t. let b = begins_gives (reverse piece) (reverse text) t in
    e.1 (reverse b.0) (sym (reverse-reverse text) ∙ ap reverse b.1 ∙ reverse-append (reverse piece) b.0 ∙ ap (λ p. reverse b.0 ++ p) (reverse-reverse piece)))

occurs_first : (piece text : List ℕ) → begins piece text ≡ true → occurs piece text ≡ true
occurs_first piece [] h = h
occurs_first piece (x ∷ text) h = or_left (begins piece (x ∷ text)) _ h

occurs_from : (piece before after : List ℕ) → occurs piece (before ++ (piece ++ after)) ≡ true
occurs_from piece [] after = occurs_first piece (piece ++ after) (begins_from piece after)
occurs_from piece (x ∷ before) after = or_right (begins piece (x ∷ (before ++ (piece ++ after)))) _ (occurs_from piece before after)

occurs_gives : (piece text : List ℕ) → occurs piece text ≡ true → HasSubslice text piece
occurs_gives piece [] h = let b = begins_gives piece [] h in ([], b.0, b.1)
occurs_gives piece (x ∷ text) h = elim (or_cases (begins piece (x ∷ text)) (occurs piece text) h) [
  | inl b ↦ let p = begins_gives piece (x ∷ text) b in ([], p.0, p.1)
  | inr o ↦ let p = occurs_gives piece text o in (x ∷ p.0, p.1, ap (λ t. x ∷ t) p.2)
]

pub occurs_same : (piece text : List ℕ) (r : Bool) → ((r ≡ true) ↔ HasSubslice text piece) → r ≡ occurs piece text
occurs_same piece text r h =
    same_tests r (occurs piece text)
    (λ t. let p = h.0 t in rw p.2 (occurs_from piece p.0 p.1))
    (λ t. h.1 (occurs_gives piece text t))
