-- Pieces of lists of tokens, and the last word among tokens.
use Rattle.std.proofs.Common.{◌≡◌, ℕ, zero, suc, ◌+◌, ◌-◌, true, false, not, List, [], ◌∷◌, ◌++◌, length, take, drop, Some, refl, sym, ap, ◌∙◌, subst, arith, append_assoc}
use Rattle.std.specs.Prelude.{reverse, find, slice_range, if◌then◌else◌}
use Rattle.std.specs.List.{AllByRecursion}
use Rattle.std.proofs.lemmas.List.{drop_at, reverse-append}
use Rattle.std.proofs.Math.Seq.{take-append_seam}
use Rattle.py_token.specs.declared.kinds.Kind.{Kind}
use Rattle.py_token.specs.declared.kinds.Kind.TheVariants as t
use Rattle.py_token.specs.declared.kinds.Token.{Token}
use Rattle.py_blocks.specs.Source.{is_layout, last_word}
use Rattle.py_token.specs.Cuts.{kinds, is_word, dedents}

-- ---- by kinds

pub split_kinds : (ts : List Token) (ks ls : List Kind) → kinds ts ≡ ks ++ ls → (a : List Token) × (b : List Token) × (ts ≡ a ++ b) × (kinds a ≡ ks) × (kinds b ≡ ls)
split_kinds ts [] ls e = ([], ts, refl, refl, e)
split_kinds [] (k ∷ ks) ls e = cc
split_kinds (x ∷ ts) (k ∷ ks) ls e =
    let head : x.kind ≡ k = cc in
    let tail : kinds ts ≡ ks ++ ls = cc in
    let w = split_kinds ts ks ls tail in
    (x ∷ w.0, w.1, ap (◌∷◌ x) w.2, ap (λ y. y ∷ kinds w.0) head ∙ ap (◌∷◌ k) w.3, w.4)

pub first_kind : (ts : List Token) (k : Kind) (ks : List Kind) → kinds ts ≡ k ∷ ks → (x : Token) × (rest : List Token) × (ts ≡ x ∷ rest) × (x.kind ≡ k) × (kinds rest ≡ ks)
first_kind [] k ks e = cc
first_kind (x ∷ ts) k ks e = let head : x.kind ≡ k = cc in let tail : kinds ts ≡ ks = cc in (x, ts, refl, head, tail)

pub kinds_long : (ts : List Token) → length (kinds ts) ≡ length ts
kinds_long [] = refl
kinds_long (x ∷ ts) = ap suc (kinds_long ts)

-- ---- a piece by its bounds

pub middle_part : {A : Type 0} (front mid back : List A) (i j : ℕ) → i ≡ length front → j ≡ i + length mid → slice_range (front ++ (mid ++ back)) i j ≡ mid
middle_part front mid back i j begin end =
    let wide : j - i ≡ length mid = omega (arith, end) in
    ap (λ n. take n (drop i (front ++ (mid ++ back)))) wide ∙ ap (take (length mid)) (drop_at front (mid ++ back) i (sym begin)) ∙ take-append_seam mid back

-- ---- the last word

layout_is : (k : Kind) → is_word k ≡ false → is_layout k ≡ true
layout_is t.Newline h = refl
layout_is t.Indent h = refl
layout_is t.Dedent h = refl
layout_is t.End h = refl
layout_is _ h = cc

word_is : (k : Kind) → is_word k ≡ true → is_layout k ≡ false
word_is t.Newline h = cc
word_is t.Indent h = cc
word_is t.Dedent h = cc
word_is t.End h = cc
word_is _ h = refl

abbrev pub NoWord : Token → Type 0
NoWord x = is_word x.kind ≡ false

no_word_append : (xs ys : List Token) → AllByRecursion NoWord xs → AllByRecursion NoWord ys → AllByRecursion NoWord (xs ++ ys)
no_word_append [] ys h k = k
no_word_append (x ∷ xs) ys h k = (h.0, no_word_append xs ys h.1 k)

no_word_reverse : (xs : List Token) → AllByRecursion NoWord xs → AllByRecursion NoWord (reverse xs)
no_word_reverse [] h = tt
no_word_reverse (x ∷ xs) h = subst (AllByRecursion NoWord) (sym (reverse-append (x ∷ []) xs)) (no_word_append (reverse xs) (x ∷ []) (no_word_reverse xs h.1) (h.0, tt))

passed : (xs ys : List Token) → AllByRecursion NoWord xs → find (λ x. not (is_layout x.kind)) (xs ++ ys) ≡ find (λ x. not (is_layout x.kind)) ys
passed [] ys h = refl
passed (x ∷ xs) ys h = ap (λ b. if not b then Some x else find (λ (x : Token). not (is_layout x.kind)) (xs ++ ys)) (layout_is x.kind h.0) ∙ passed xs ys h.1

pub last_word_is : (front layout : List Token) (w : Token) → is_word w.kind ≡ true → AllByRecursion NoWord layout → last_word (front ++ w ∷ layout) ≡ Some w
last_word_is front layout w h k =
    ap (find (λ x. not (is_layout x.kind))) (reverse-append front (w ∷ layout) ∙ ap (λ ts. ts ++ reverse front) (reverse-append (w ∷ []) layout) ∙ append_assoc (reverse layout) (w ∷ []) (reverse front))
    ∙ passed (reverse layout) (w ∷ reverse front) (no_word_reverse layout k)
    ∙ ap (λ b. if not b then Some w else find (λ (x : Token). not (is_layout x.kind)) (reverse front)) (word_is w.kind h)

pub no_word_kinds : (xs : List Token) (n : ℕ) → kinds xs ≡ dedents n [] → AllByRecursion NoWord xs
no_word_kinds [] n e = tt
no_word_kinds (x ∷ xs) zero e = cc
no_word_kinds (x ∷ xs) (suc n) e = let head : x.kind ≡ t.Dedent = cc in let tail : kinds xs ≡ dedents n [] = cc in (ap is_word head, no_word_kinds xs n tail)
