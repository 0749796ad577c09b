-- The pieces of a text between the occurrences of a separator.
use Rattle.std.proofs.Common.{◌≡◌, ◌≢◌, ◌≤◌, ◌<◌, ℕ, suc, ◌-◌, ◌+◌, false, List, [], ◌∷◌, ◌++◌, length, drop, None, refl, sym, ap, ◌∙◌, arith, append_assoc, append-nil, length-append}
use Rattle.std.specs.Str.Pattern.{FindsText, SplitsAroundMatch}
use Rattle.std.proofs.lemmas.Bool.{cond-true, cond-false, false_from_ne_true}
use Rattle.std.specs.Prelude.{sum_by}
use Rattle.std.specs.Str.{IsUtf8}
use Rattle.std.proofs.lemmas.List.Sums.{sum_by-cons}
use Rattle.py_value.specs.Values.{weight}
use Rattle.std.proofs.lemmas.List.{take-append-drop}
use Rattle.std.proofs.lemmas.Str.{IsUtf8-drop}
use Rattle.py_value.specs.declared.value.Value.{Value}
use Rattle.py_value.specs.declared.value.Value.TheVariants as value
use Rattle.py_meaning.specs.Texts.{begins, pieces, split_at}
use Rattle.py_meaning.specs.Methods.{as_texts}
use Rattle.py_ops.proofs.Substrings.{begins_from, begins_gives}

-- the bytes of `over` are passed over
skip : (separator piece over text : List ℕ) → pieces separator piece (length over) (over ++ text) ≡ pieces separator piece 0 text
skip separator piece [] text = refl
skip separator piece (x ∷ over) text = skip separator piece over text

lacks : (piece text : List ℕ) → ((rest : List ℕ) → text ≢ piece ++ rest) → begins piece text ≡ false
lacks piece text h = false_from_ne_true (begins piece text) (λ b. let g = begins_gives piece text b in h g.0 g.1)

found : (s : ℕ) (ss sofar piece more : List ℕ) → ((k : ℕ) → k < length piece → begins (s ∷ ss) (drop k (piece ++ ((s ∷ ss) ++ more))) ≡ false)
    → pieces (s ∷ ss) sofar 0 (piece ++ ((s ∷ ss) ++ more)) ≡ (sofar ++ piece) ∷ pieces (s ∷ ss) [] 0 more
found s ss sofar [] more h =
    let one : length (s ∷ ss) - 1 ≡ length ss = omega arith in
    cond-true (begins (s ∷ ss) (s ∷ (ss ++ more))) _ _ (begins_from (s ∷ ss) more)
    ∙ ap (λ k. sofar ∷ pieces (s ∷ ss) [] k (ss ++ more)) one
    ∙ ap (λ t. sofar ∷ t) (skip (s ∷ ss) [] ss more)
    ∙ ap (λ a. a ∷ pieces (s ∷ ss) [] 0 more) (sym (append-nil sofar))
found s ss sofar (x ∷ piece) more h =
    cond-false (begins (s ∷ ss) (x ∷ (piece ++ ((s ∷ ss) ++ more)))) _ _ (h 0 (omega arith))
    ∙ found s ss (sofar ++ x ∷ []) piece more (λ k l. h (suc k) (omega arith))
    ∙ ap (λ a. a ∷ pieces (s ∷ ss) [] 0 more) (append_assoc sofar (x ∷ []) piece)

none : (separator sofar text : List ℕ) → ((k : ℕ) → k ≤ length text → begins separator (drop k text) ≡ false) → pieces separator sofar 0 text ≡ (sofar ++ text) ∷ []
none separator sofar [] h = ap (λ a. a ∷ []) (sym (append-nil sofar))
none separator sofar (x ∷ text) h =
    cond-false (begins separator (x ∷ text)) _ _ (h 0 (omega arith))
    ∙ none separator (sofar ++ x ∷ []) text (λ k l. h (suc k) (omega arith))
    ∙ ap (λ a. a ∷ []) (append_assoc sofar (x ∷ []) text)

pub split_step : (separator text front back : List ℕ) → 0 < length separator → SplitsAroundMatch (FindsText separator) text front back → split_at separator text ≡ front ∷ split_at separator back
split_step [] text front back some p = absurd (omega arith)
split_step (s ∷ ss) text front back some p =
    let whole : text ≡ front ++ ((s ∷ ss) ++ back) = sym (take-append-drop p.0 text) ∙ ap (λ t. t ++ drop p.0 text) (sym p.3) ∙ ap (λ t. front ++ t) (p.2.1.split ∙ ap (λ t. (s ∷ ss) ++ t) (sym p.4)) in
    ap (λ t. pieces (s ∷ ss) [] 0 t) whole
    ∙ found s ss [] front back (λ k l. ap (λ t. begins (s ∷ ss) (drop k t)) (sym whole) ∙ lacks (s ∷ ss) (drop k text) (λ rest q. p.2.0 k (let e = p.6 in omega arith) rest q))

pub split_end : (separator text : List ℕ) → FindsText separator text None → split_at separator text ≡ text ∷ []
split_end separator text h = none separator [] text (λ k l. lacks separator (drop k text) (λ rest q. h k l rest q))

pub turn : (all : List Value) (separator text front back : List ℕ) → 0 < length separator → SplitsAroundMatch (FindsText separator) text front back
    → (all ++ value.Text front ∷ []) ++ as_texts (split_at separator back) ≡ all ++ as_texts (split_at separator text)
turn all separator text front back some p = append_assoc all (value.Text front ∷ []) (as_texts (split_at separator back)) ∙ ap (λ t. all ++ as_texts t) (sym (split_step separator text front back some p))

pub last_turn : (all : List Value) (separator text : List ℕ) → FindsText separator text None → all ++ value.Text text ∷ [] ≡ all ++ as_texts (split_at separator text)
last_turn all separator text h = ap (λ t. all ++ as_texts t) (sym (split_end separator text h))

pub shorter : (separator text front back : List ℕ) → 0 < length separator → SplitsAroundMatch (FindsText separator) text front back → length back < length text
shorter separator text front back some p = let e = p.2.1.ends in let f = p.7 in omega arith

pub still_text : (separator text front back : List ℕ) → IsUtf8 text → SplitsAroundMatch (FindsText separator) text front back → IsUtf8 back
still_text separator text front back u p = rw (p.4, p.2.1.ends) (IsUtf8-drop text (p.0 + length separator) u p.2.1.after)

pub one_unit_more : (separator text front back : List ℕ) → 0 < length separator → SplitsAroundMatch (FindsText separator) text front back
    → sum_by weight (as_texts (split_at separator text)) ≡ (1 + length front) + sum_by weight (as_texts (split_at separator back))
one_unit_more separator text front back some p = ap (λ t. sum_by weight (as_texts t)) (split_step separator text front back some p) ∙ sum_by-cons weight (value.Text front) (as_texts (split_at separator back))

pub last_units : (separator text : List ℕ) → FindsText separator text None → sum_by weight (as_texts (split_at separator text)) ≡ 1 + length text
last_units separator text h = ap (λ t. sum_by weight (as_texts t)) (split_end separator text h) ∙ sum_by-cons weight (value.Text text) [] ∙ zero_more (1 + length text)
  where
    zero_more : (n : ℕ) → n + 0 ≡ n
    zero_more n = omega arith

pub one_more : (separator text front back : List ℕ) → 0 < length separator → SplitsAroundMatch (FindsText separator) text front back → length (as_texts (split_at separator text)) ≡ length (as_texts (split_at separator back)) + 1
one_more separator text front back some p =
    let e : length (as_texts (split_at separator text)) ≡ suc (length (as_texts (split_at separator back))) = ap (λ t. length (as_texts t)) (split_step separator text front back some p) in
    omega arith

pub last_one : (separator text : List ℕ) → FindsText separator text None → length (as_texts (split_at separator text)) ≡ 1
last_one separator text h = ap (λ t. length (as_texts t)) (split_end separator text h)

-- pieces that are found, and at least one more, are more than so many
pub more_than : (most : ℕ) (all rest whole : List Value) → all ++ rest ≡ whole → most ≤ length all → 0 < length rest → most < length whole
more_than most all rest whole is many some =
    let e : length (all ++ rest) ≡ length whole = ap length is in
    let f : length (all ++ rest) ≡ length all + length rest = length-append all rest in
    omega arith
