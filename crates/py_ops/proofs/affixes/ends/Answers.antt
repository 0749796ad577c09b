use Rattle.py_ops.proofs.Substrings.{ends_same}
use Rattle.py_ops.proofs.affixes.ends.Goals as goal

pub returns : goal.returns
returns c =
    let e = rw (c.as_bytes.ensures.value, c.as_bytes-2.ensures.value) at c.ends_with.ensures.value in
    ends_same c.args.piece.now c.args.text.now _ e
