use Rattle.std.proofs.Common.{sym, ◌∙◌}
use Rattle.py_ops.proofs.Substrings.{begins_pointwise}
use Rattle.py_ops.proofs.affixes.begins.Goals as goal

pub returns : goal.returns
returns c =
    let e = rw (c.as_bytes.ensures.value, c.as_bytes-2.ensures.value) at c.starts_with.ensures.value in
    e ∙ sym (begins_pointwise c.args.piece.now c.args.text.now)
