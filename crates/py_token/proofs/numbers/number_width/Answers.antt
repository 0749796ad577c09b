use Rattle.std.proofs.Common.{◌≡◌, subst, arith, get_or}
use Rattle.std.proofs.lemmas.List.{take_rest}
use Rattle.py_token.specs.Lexemes.{digits_after}
use Rattle.py_token.proofs.numbers.number_width.Goals as goal

pub returns-then-more-eq0-clause-value : goal.returns-then-more-eq0-clause-value
returns-then-more-eq0-clause-value c =
    let bytes = c.args.bytes.now in
    let none = subst (λ rest. digits_after (get_or bytes 0 0) rest ≡ 0) (take_rest bytes c.loop-width.width) (c.next_digit-more.ensures.none c.if-more-eq0.true) in
    omega (arith, none, c.loop-width.invariant.rest)
