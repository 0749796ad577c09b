use Rattle.std.proofs.lemmas.Str.Pattern.{contains_text}
use Rattle.py_ops.proofs.Substrings.{occurs_same}
use Rattle.py_ops.proofs.affixes.occurs.Goals as goal

pub returns : goal.returns
returns c = occurs_same c.args.piece.now c.args.text.now _ (contains_text _ c.args.piece.now c.args.text.now c.contains.ensures.cases)
