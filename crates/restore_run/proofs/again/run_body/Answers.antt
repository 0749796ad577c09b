use Rattle.std.proofs.lemmas.Bool.{false≢true}
use Rattle.restore_run.proofs.Undrawn.{drew_asks}
use Rattle.restore_run.proofs.again.run_body.Goals as goal

pub returns-clause-drew : goal.returns-clause-drew
returns-clause-drew c = λ _. drew_asks c.args.body.now c.args.kernel.now.state c.in_ok-end.end.draws c.in_ok-end.ensures.used (λ none. absurd (false≢true (c.if-is_empty.ensures.1 none)))
