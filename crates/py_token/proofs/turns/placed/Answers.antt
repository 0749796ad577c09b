use Rattle.std.proofs.Common.{arith}
use Rattle.py_token.proofs.Bounds.{lexeme_bounds}
use Rattle.py_token.proofs.turns.placed.Goals as goal

pub token-requires : goal.token-requires
token-requires c =
    let bounds = lexeme_bounds c.args.at c.args.bytes.now c.in_ok-kind.field-0 c.in_ok-kind.ensures in
    omega arith
