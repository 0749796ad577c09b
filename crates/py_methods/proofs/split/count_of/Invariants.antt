use Rattle.std.proofs.Common.{◌≡◌, ◌+◌, ◌≤◌, length}
use Rattle.std.specs.Str.{IsUtf8}
use Rattle.py_meaning.specs.Texts.{split_at}
use Rattle.py_meaning.specs.Methods.{as_texts}
use Rattle.py_methods.proofs.split.count_of.Given as goal

abbrev pub invariant-loop-more : goal.invariant-loop-more
invariant-loop-more l = record {
  count : length (as_texts (split_at l.separator l.fn.text)) + 1 ≡ l.count + length (as_texts (split_at l.separator l.rest));
  bound : l.count + length l.rest ≤ length l.fn.text + 1;
  utf8 : IsUtf8 l.rest;
}

abbrev pub decreases-loop-more : goal.decreases-loop-more
decreases-loop-more l = length l.rest
