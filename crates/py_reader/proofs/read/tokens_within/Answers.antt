use Rattle.std.proofs.Common.{sym, subst}
use Rattle.py_reader.specs.Gives.{Refuses}
use Rattle.py_reader.specs.Verdict.{tokens_within}
use Rattle.py_reader.proofs.Final.{good_tokens, bad_tokens}
use Rattle.py_reader.proofs.Judged.{within_long}
use Rattle.py_reader.proofs.read.tokens_within.Goals as goal

pub returns-then-code-gt-MAX_CODE : goal.returns-then-code-gt-MAX_CODE
returns-then-code-gt-MAX_CODE c = within_long _ c.if-code-gt-MAX_CODE.true

pub returns-in-Ok : goal.returns-in-Ok
returns-in-Ok c = good_tokens _ _ c.if-code-gt-MAX_CODE.false c.in-Ok.ensures.exact

pub returns-in-Err : goal.returns-in-Err
returns-in-Err c = subst (λ e. Refuses e (tokens_within c.args.code.now)) (sym c.token_error.ensures) (bad_tokens _ c.in-Err.error c.if-code-gt-MAX_CODE.false c.in-Err.ensures.exact)
