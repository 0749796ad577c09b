use Rattle.std.proofs.Common.{◌≡◌, ◌++◌, take}
use Rattle.py_token.proofs.texts.push_character.Given as goal

abbrev pub invariant-loop-byte : goal.invariant-loop-byte
invariant-loop-byte l = l.written ≡ l.initial.written ++ take l.byte-index l.byte-items
