-- A text was seen if its number is below how many were.
use Rattle.std.proofs.Common.{◌≡◌, ℕ, ◌<◌, Bool, true, false, List, length, sym, ap, ◌∙◌, inl, inr, arith}
use Rattle.std.specs.Prelude.{nat_lt}
use Rattle.std.specs.Str.{bytes_eq}
use Rattle.std.proofs.lemmas.Bool.{cases_Bool, ltb-true, ltb-false}
use Rattle.part_bytes.specs.Tables.{has_text, number_of}
use Rattle.part_bytes.proofs.Tables.{passes_within, none_within}

below_is_there : (table : List (List ℕ)) (text : List ℕ) → nat_lt (number_of table text) (length table) ≡ has_text table text
below_is_there table text = elim (cases_Bool (nat_lt (number_of table text) (length table))) [
  | inl e ↦ e ∙ sym (passes_within (bytes_eq text) table (ltb-true (number_of table text) (length table) e))
  | inr e ↦ e ∙ sym (none_within (bytes_eq text) table (ltb-false (number_of table text) (length table) e))
]

pub is_seen : (table : List (List ℕ)) (text : List ℕ) (count number : ℕ) → count ≡ length table → number ≡ number_of table text → nat_lt number count ≡ has_text table text
is_seen table text count number size is =
    ap (λ (n : ℕ). nat_lt n count) is ∙ (ap (λ (n : ℕ). nat_lt (number_of table text) n) size ∙ below_is_there table text)
