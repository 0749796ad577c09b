-- Which words are numbers.
use Rattle.std.proofs.Common.{◌≡◌, ◌≢◌, ℕ, ◌<◌, ◌≤◌, ◌^◌, List, [], ◌∷◌, length, get_or, Result, Ok, Err, refl, sym, ap, ◌∙◌, ◌⊎◌, subst, inl, inr, arith}
use Rattle.std.specs.Fmt.{decimal}
use Rattle.std.specs.Result.{OkIff}
use Rattle.std.specs.Str.Parse.{ParsesUnsigned, AllDigits, digits_value}
use Rattle.std.proofs.lemmas.Bool.{cases_eq}
use Rattle.std.proofs.lemmas.Fmt.{parse-decimal, decimal_digit, decimal_nonempty, first_decimal, decimal-digits_value}
use Rattle.std.proofs.lemmas.Str.Parse.{IsNumeralModel, parse_plain}
use Rattle.command_words.specs.Beginning.{IsNone}

own : IsNumeralModel (AllDigits 10) (digits_value 10)
own = record { to = λ ds h. h; from = λ ds h. h; same = λ ds h. refl }

-- a number's digits begin with a digit, which is 0 for 0 alone
pub digits_begin : (n : ℕ) → n < 2 ^ 64 → ((n ≡ 0) × (decimal n ≡ 48 ∷ [])) ⊎ (48 < get_or (decimal n) 0 0)
digits_begin n l = elim (cases_eq n 0) [
  | inl e ↦ inl (e, ap decimal e ∙ decimal_digit 0 (omega arith))
  | inr other ↦ inr (first_decimal n (omega (arith, other)) l)
]

module _ (bs : List ℕ) (n : ℕ) (l : n < 2 ^ 64) (is : bs ≡ decimal n) where
  some : bs ≢ []
  some e =
      let long = decimal_nonempty n l in
      let size : length (decimal n) ≡ 0 = ap (λ (zs : List ℕ). length zs) (sym is ∙ e) in
      let no : ⊥ = omega (arith, long, size) in no

  first : ((get_or bs 0 0 ≡ 48) × (length bs ≡ 1)) ⊎ (48 < get_or bs 0 0)
  first = elim (digits_begin n l) [
    | inl e ↦ inl (ap (λ (zs : List ℕ). get_or zs 0 0) (is ∙ e.1), ap (λ (zs : List ℕ). length zs) (is ∙ e.1))
    | inr m ↦ inr (subst (λ (zs : List ℕ). 48 < get_or zs 0 0) (sym is) m)
  ]

-- an empty word, one that begins with a plus, and one with a zero before others are none
none_empty : (bs : List ℕ) → bs ≡ [] → (n : ℕ) → n < 2 ^ 64 → bs ≢ decimal n
none_empty bs e n l is = some bs n l is e

none_begins : (bs : List ℕ) → (get_or bs 0 0 ≡ 43) ⊎ ((get_or bs 0 0 ≡ 48) × (1 < length bs)) → (n : ℕ) → n < 2 ^ 64 → bs ≢ decimal n
none_begins bs (inl e) n l is = elim (first bs n l is) [
  | inl f ↦ let g = f.0 in let no : ⊥ = omega (arith, e, g) in no
  | inr m ↦ let no : ⊥ = omega (arith, e, m) in no
]
none_begins bs (inr e) n l is = elim (first bs n l is) [
  | inl f ↦ let g = f.1 in let h = e.1 in let no : ⊥ = omega (arith, g, h) in no
  | inr m ↦ let h = e.0 in let no : ⊥ = omega (arith, h, m) in no
]

pub none_of : (bs : List ℕ) → IsNone bs → (n : ℕ) → n < 2 ^ 64 → bs ≢ decimal n
none_of bs (inl e) n l is = none_empty bs e n l is
none_of bs (inr b) n l is = none_begins bs b n l is

module _ {E : Type 0} (bs : List ℕ) (r : Result ℕ E) (parses : ParsesUnsigned 64 10 bs r) where
  told : (n : ℕ) → n < 2 ^ 64 → bs ≡ decimal n → r ≡ Ok n
  told n l is = parse-decimal 64 n bs r l l is parses

  value_in : ℕ → Result ℕ E → ℕ
  value_in d (Ok m) = m
  value_in d (Err e) = d

  -- what isn't read is none, and what is read is no other
  pub none_read : (e : E) → r ≡ Err e → (n : ℕ) → n < 2 ^ 64 → bs ≢ decimal n
  none_read e failed n l is = let one = told n l is in let no : ⊥ = cc (one, failed) in no

  pub no_other : (m : ℕ) → r ≡ Ok m → (n : ℕ) → n < 2 ^ 64 → bs ≡ decimal n → n ≡ m
  unfolding value_in
  no_other m read n l is = ap (value_in 0) (sym (told n l is) ∙ read)

  pub some_read : (m : ℕ) → r ≡ Ok m → get_or bs 0 0 ≢ 43 → (get_or bs 0 0 ≡ 48 → length bs ≤ 1) → bs ≡ decimal m
  some_read m read plain zeros =
      let p = parse_plain own 64 bs r parses plain in
      let q = subst (λ (s : Result ℕ E). OkIff s (AllDigits 10 bs × (0 < length bs) × (digits_value 10 bs < 2 ^ 64)) (digits_value 10 bs)) read p in
      let long = q.0.1 in
      sym (decimal-digits_value own bs q.0.0 long (λ z. let short = zeros z in omega (arith, long, short)) q.0.2) ∙ ap decimal (sym q.1)
