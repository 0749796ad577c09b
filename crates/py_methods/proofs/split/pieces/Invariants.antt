use Rattle.std.proofs.Common.{◌≡◌, ◌++◌, length}
use Rattle.std.specs.Str.{IsUtf8}
use Rattle.py_meaning.specs.Texts.{split_at}
use Rattle.py_meaning.specs.Methods.{as_texts}
use Rattle.py_methods.proofs.split.pieces.Given as goal

abbrev pub invariant-loop-piece : goal.invariant-loop-piece
invariant-loop-piece l = record {
  list : l.all ++ as_texts (split_at l.separator l.rest) ≡ as_texts (split_at l.separator l.fn.text);
  utf8 : IsUtf8 l.rest;
}

abbrev pub decreases-loop-piece : goal.decreases-loop-piece
decreases-loop-piece l = length l.rest
