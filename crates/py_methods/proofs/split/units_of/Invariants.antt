use Rattle.std.proofs.Common.{◌≡◌, ◌+◌, ◌≤◌, ◌^◌, length}
use Rattle.std.specs.Prelude.{sum_by}
use Rattle.std.specs.Str.{IsUtf8}
use Rattle.py_value.specs.Values.{weight}
use Rattle.py_meaning.specs.Operators.{sequence_units}
use Rattle.py_meaning.specs.Texts.{split_at}
use Rattle.py_meaning.specs.Methods.{as_texts}
use Rattle.py_methods.proofs.split.units_of.Given as goal

abbrev pub invariant-loop-piece : goal.invariant-loop-piece
invariant-loop-piece l = record {
  units : sequence_units (as_texts (split_at l.separator l.fn.text)) ≡ l.units + sum_by weight (as_texts (split_at l.separator l.rest));
  bound : l.units ≤ 2 ^ 65;
  utf8 : IsUtf8 l.rest;
}

abbrev pub decreases-loop-piece : goal.decreases-loop-piece
decreases-loop-piece l = length l.rest
