use Rattle.std.proofs.Common.{arith}
use Rattle.session_show.proofs.Stuck.{packs_stuck}
use Rattle.session_show.proofs.counter.CounterEngine.pack.Goals as goal

pub returns-then-self-eq2 : goal.returns-then-self-eq2
returns-then-self-eq2 c = λ served h whole.
    let two = c.if-self-eq2.true in
    let total = h.0 in
    packs_stuck served c.args.weights.now c.held.result (omega (arith, two, total)) c.in_default.ensures c.held.ensures
