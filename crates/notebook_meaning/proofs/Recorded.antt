-- A code and what is recorded of it.
use Rattle.std.proofs.Common.{◌≡◌, ℕ, List, length, ap, sym, ◌∙◌, inl, inr, arith}
use Rattle.std.specs.Str.{IsUtf8}
use Rattle.std.proofs.lemmas.Bool.{cases_lt}
use Rattle.std.proofs.lemmas.Str.{IsUtf8-take, is_utf8-from_IsUtf8}
use Rattle.py_reader.specs.Verdict.{verdict}
use Rattle.py_reader.proofs.Final.{too_long}
use Rattle.plain_data.specs.Cuts.{cut_within}
use Rattle.plain_data.proofs.Near.{cut_at_boundary, cut_size, cut_whole, cut_near}
use Rattle.every_history.specs.Reading.{tree_in, read}
use Rattle.checkpoint_laws.specs.Spelled.{IsCode}
use Rattle.notebook_meaning.specs.Cells.{recorded}

pub is_code : (code : List ℕ) → IsUtf8 code → IsCode (recorded code)
is_code code u = (is_utf8-from_IsUtf8 (recorded code) (IsUtf8-take code (cut_within 262148 code) u (cut_at_boundary 262148 code u)), cut_size 262148 code)

pub judged_alike : (code : List ℕ) → IsUtf8 code → verdict (recorded code) ≡ verdict code
judged_alike code u = elim (cases_lt 262148 (length code)) [
  | inl long ↦
      let near = cut_near 262148 code u long in
      too_long (recorded code) (omega (arith, near)) ∙ sym (too_long code (omega (arith, long)))
  | inr short ↦ ap verdict (cut_whole 262148 code short)
]

pub reads_alike : (code : List ℕ) → IsUtf8 code → read (recorded code) ≡ read code
reads_alike code u = ap tree_in (judged_alike code u)
