use Rattle.std.proofs.Common.{◌∙◌, ◌+◌, ◌<◌, ap, sym, drop, get_or, length, arith}
use Rattle.std.proofs.lemmas.List.{drop_more}
use Rattle.py_value.specs.Numbers.{decimal_from, up_to_limit}
use Rattle.py_value.proofs.Decimal.{too_large}
use Rattle.py_value.proofs.number.decimal.Goals as goal

pub returns-in-None : goal.returns-in-None
returns-in-None c =
    let bytes = c.args.bytes.now in
    let i = c.loop-byte.byte-index in
    let within : i < length bytes = omega arith in
    sym (ap up_to_limit (c.loop-byte.invariant.1 ∙ ap (decimal_from c.loop-byte.number) (drop_more bytes i 0 within))
    ∙ too_large c.loop-byte.number (get_or bytes i 0) (drop (i + 1) bytes) c.in-None.ensures)
